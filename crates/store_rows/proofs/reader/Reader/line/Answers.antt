use Rattle.std.proofs.Common.{refl, subst, Some}
use Rattle.std.specs.Prelude.{OnOk}
use Rattle.std.proofs.lemmas.Result.{IfErr-weaker}
use Rattle.store_rows.specs.Given.{OnDamage, line_with}
use Rattle.store_rows.specs.Taken.{IsInHand, next_entry}
use Rattle.store_rows.specs.declared.fault.RowsFault.{RowsFault}
use Rattle.store_rows.specs.declared.fault.RowsFault.TheVariants.{Damaged, Memory}
use Rattle.store_rows.proofs.EntryLemmas.{entry_taken, entry_refused, line_is, line_is_none}
use Rattle.store_rows.proofs.reader.Reader.line.Goals as goal

-- two facts of one outcome
both_ok : {T E P Q R : Type 0} (r : Rattle.std.specs.Prelude.Result T E) → OnOk r P → OnOk r Q → (P → Q → R) → OnOk r R
both_ok (Rattle.std.specs.Prelude.Ok x) p q f = f p q
both_ok (Rattle.std.specs.Prelude.Err e) p q f = tt

on_damage : (fault : RowsFault) {P Q : Type 0} → (P → Q) → OnDamage fault P → OnDamage fault Q
on_damage Damaged f h = f h
on_damage Memory f h = tt

pub returns-clause-taken : goal.returns-clause-taken
returns-clause-taken c = both_ok c.add_line.result c.add_line.ensures.is c.add_line.ensures.added (λ is added version taken number h of.
    let line = line_with c.args.headword.now c.args.offset c.args.size c.args.shown.now in
    let last : IsInHand (Some c.in-Some.hand) taken = subst (λ x. IsInHand x taken) c.in-Some.is h.hand in
    entry_taken version c.args.self.now _ taken (next_entry taken number line) c.in-Some.hand c.add_line.new.hand last refl refl refl refl refl c.add_line.ensures.same.0 c.add_line.ensures.same.1 added
    (line_is taken number line c.in-Some.hand last of is.0) is.1 h)

pub returns-clause-damaged : goal.returns-clause-damaged
returns-clause-damaged c = IfErr-weaker c.add_line.result _ _ (λ fault why. on_damage fault (λ no version taken number h of.
    let line = line_with c.args.headword.now c.args.offset c.args.size c.args.shown.now in
    let last : IsInHand (Some c.in-Some.hand) taken = subst (λ x. IsInHand x taken) c.in-Some.is h.hand in
    entry_refused version c.args.self.now taken (next_entry taken number line) c.in-Some.hand last h of (line_is_none taken number line c.in-Some.hand last of no)) why) c.add_line.ensures.damaged
