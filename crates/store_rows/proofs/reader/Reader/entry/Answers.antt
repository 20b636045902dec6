use Rattle.std.proofs.Common.{refl, subst, Some}
use Rattle.std.specs.Prelude.{OnOk}
use Rattle.std.proofs.lemmas.Result.{IfErr-weaker}
use Rattle.store_tables.specs.Records.{shown_as}
use Rattle.store_tables.specs.Typed.{owned_entry}
use Rattle.store_rows.specs.Given.{OnDamage}
use Rattle.store_rows.specs.Taken.{IsInHand}
use Rattle.store_rows.specs.declared.fault.RowsFault.{RowsFault}
use Rattle.store_rows.specs.declared.fault.RowsFault.TheVariants.{Damaged, Memory}
use Rattle.store_rows.proofs.EntryLemmas.{entry_taken, entry_refused}
use Rattle.store_rows.proofs.reader.Reader.entry.Goals as goal

-- two facts of one outcome
both_ok : {T E P Q R : Type 0} (r : Rattle.std.specs.Prelude.Result T E) → OnOk r P → OnOk r Q → (P → Q → R) → OnOk r R
both_ok (Rattle.std.specs.Prelude.Ok x) p q f = f p q
both_ok (Rattle.std.specs.Prelude.Err e) p q f = tt

on_damage : (fault : RowsFault) {P Q : Type 0} → (P → Q) → OnDamage fault P → OnDamage fault Q
on_damage Damaged f h = f h
on_damage Memory f h = tt

pub returns-clause-taken : goal.returns-clause-taken
returns-clause-taken c = both_ok c.add_entry.result c.add_entry.ensures.is c.add_entry.ensures.added (λ is added version taken h.
    let last : IsInHand (Some c.in-Some.hand) taken = subst (λ x. IsInHand x taken) c.in-Some.is h.hand in
    entry_taken version c.args.self.now _ taken (shown_as (owned_entry c.args.row.now) c.args.shown.now) c.in-Some.hand c.add_entry.new.hand last refl refl refl refl refl c.add_entry.ensures.same.0 c.add_entry.ensures.same.1 added
    is.0 is.1 h)

pub returns-clause-damaged : goal.returns-clause-damaged
returns-clause-damaged c = IfErr-weaker c.add_entry.result _ _ (λ fault why. on_damage fault (λ no version taken h of.
    let last : IsInHand (Some c.in-Some.hand) taken = subst (λ x. IsInHand x taken) c.in-Some.is h.hand in
    entry_refused version c.args.self.now taken (shown_as (owned_entry c.args.row.now) c.args.shown.now) c.in-Some.hand last h of no) why) c.add_entry.ensures.damaged
