use Rattle.std.proofs.Common.{inl, inr, ap, arith}
use Rattle.std.specs.Prelude.{Ok, Err}
use Rattle.dict_text.specs.Number.{Spells}
use Rattle.dict_text.proofs.NumberLemmas.{all_digits, one_number, spelled_text, spelled_small}
use Rattle.dict_text.proofs.FaultLemmas.{one_fault, spelled_no_fault}
use Rattle.dict_text.specs.declared.number_reading.NumberFault.TheVariants.{Leading}
use Rattle.dict_text.proofs.number_reading.read_number.Goals as goal
use Rattle.dict_text.proofs.number_reading.read_number.Goals.{else-text-gt1-via-then-text-gt1+else-text-eq65, else-text-gt1-via-else-text-gt1}

pub returns-in_default-clause-only : goal.returns-in_default-clause-only
returns-in_default-clause-only c n h = absurd (c.in_default.ensures (all_digits _ h.values h.digits))

pub returns-then-text-eq65-clause-fault : goal.returns-then-text-eq65-clause-fault
returns-then-text-eq65-clause-fault c =
    let (values, digits, number) = c.in-Some.ensures in
    (omega arith, omega arith, all_digits _ values digits, c.if-text-eq65.true)

pub returns-then-text-eq65-clause-first : goal.returns-then-text-eq65-clause-first
returns-then-text-eq65-clause-first c fault h =
    let (values, digits, number) = c.in-Some.ensures in
    ap Err (one_fault c.args.text.now Leading fault (omega arith, omega arith, all_digits _ values digits, c.if-text-eq65.true) h)

-- the digits that were read spell the number
spelled : (c : goal.Joined-else-text-gt1) → Spells c.args.text.now c.in-Some.number
spelled c =
    let (values, digits, number) = c.in-Some.ensures in
    spelled_text c.args.text.now values c.in-Some.number c.if-is_empty.ensures c.if-text-gt-MAX_DIGITS.false digits number (elim c.else-text-gt1.branch [
      | else-text-gt1-via-then-text-gt1+else-text-eq65 w ↦ inr w.if-text-eq65.false
      | else-text-gt1-via-else-text-gt1 w ↦ inl w.if-text-gt1.false
    ])

pub returns-clause-only : goal.returns-clause-only
returns-clause-only c n h = ap Ok (one_number c.args.text.now c.in-Some.number n (spelled c) h)

pub returns-clause-first : goal.returns-clause-first
returns-clause-first c fault h = absurd (spelled_no_fault c.args.text.now c.in-Some.number fault (spelled c) h)

pub returns-clause-small : goal.returns-clause-small
returns-clause-small c = spelled_small c.args.text.now c.in-Some.number (spelled c)
