use Rattle.std.proofs.Common.{◌≡◌, ℕ, List, [], get_or, sym, subst, arith}
use Rattle.std.specs.Prelude.{Option, OnOk, Vec}
use Rattle.std.specs.Map.{lookup}
use Rattle.std.specs.declared.alloc.Global.{Global}
use Rattle.sqlite.specs.Held.{state}
use Rattle.sqlite.specs.State.{IsUnchanged}
use Rattle.store_rows.specs.Parts.{parts_of}
use Rattle.store_holdings.specs.HeldTexts.{HoldsText}
use Rattle.store_holdings.specs.KeptTexts.{same_key}
use Rattle.store_holdings.specs.Taken.{more_taken, rows_read_for}
use Rattle.store_holdings.proofs.AskLemmas.{part_kept, reads_most}
use Rattle.store_holdings.proofs.StateLemmas.{each_ok_with}
use Rattle.store_holdings.proofs.TakenLemmas.{none_kept, none_more}
use Rattle.store_holdings.proofs.parts.take_part.Goals as goal

-- ---- a part that is kept

pub returns-in-Some-clause-value : goal.returns-in-Some-clause-value
returns-in-Some-clause-value g c clean text has = part_kept c.args.number c.args.part c.in-Some.octets.items c.args.texts.now (sym c.in-Some.ensures.text) text has.kept

pub returns-in-Some-clause-taken : goal.returns-in-Some-clause-taken
returns-in-Some-clause-taken g c clean text holds below =
    subst (λ (kept : Option (List ℕ)). c.args.rows_taken.now ≡ more_taken c.args.rows_taken.now (rows_read_for kept)) c.in-Some.ensures.text (none_more c.args.rows_taken.now (omega arith))

pub returns-in-Some-clause-counted : goal.returns-in-Some-clause-counted
returns-in-Some-clause-counted g c = (0, none_more c.args.rows_taken.now (omega arith))

-- ---- one that is read

pub returns-clause-value : goal.returns-clause-value
returns-clause-value g c clean text has =
    let old = state g.S.Store c.args.conn.now in
    each_ok_with c.read_part.result (IsUnchanged old (state g.S.Store c.read_part.new.conn)) (λ (octets : Vec ℕ Global). (t : List ℕ) → HoldsText old.now c.args.number t → octets.items ≡ get_or (parts_of t) c.args.part [])
    (λ (octets : Vec ℕ Global). octets.items ≡ get_or (parts_of text) c.args.part []) (c.read_part.ensures.reads.same clean) (λ same octets h. h text (has.held same.0.was_open)) (c.read_part.ensures.value clean)

pub returns-clause-taken : goal.returns-clause-taken
returns-clause-taken g c clean text holds below =
    let kept = lookup (same_key (c.args.number, c.args.part)) c.args.texts.now in
    subst (λ (kept : Option (List ℕ)). OnOk c.read_part.result (c.read_part.new.rows_taken ≡ more_taken c.args.rows_taken.now (rows_read_for kept)))
    (sym (none_kept c.take.result kept c.in_default.not-Some c.take.ensures.text)) (c.read_part.ensures.taken clean text holds below)

pub returns-clause-reads : goal.returns-clause-reads
returns-clause-reads g c = reads_most c.read_part.ensures.reads (λ fault h. h)
