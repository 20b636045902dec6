use Rattle.std.proofs.Common.{sym, subst}
use Rattle.dict_index.specs.Refused.{IsIndexFault}
use Rattle.dict_index.proofs.MeaningLemmas.{whole_fault, gathered_title_fault, lines_fault_is, reading_from}
use Rattle.dict_index.proofs.reading.read_edition.Goals as goal

pub returns-in-Some-clause-refused : goal.returns-in-Some-clause-refused
returns-in-Some-clause-refused c = subst (λ f. IsIndexFault f c.args.index.now c.args.text.now) (sym c.refused.ensures) (whole_fault c.in-Some.refusal c.args.index.now c.args.text.now c.in-Some.ensures)

pub gather_lines-requires-clause-few : goal.gather_lines-requires-clause-few
gather_lines-requires-clause-few c = c.in_default.ensures.1.1.1.0

pub returns-in-Err-clause-refused : goal.returns-in-Err-clause-refused
returns-in-Err-clause-refused c = lines_fault_is c.in-Err.fault c.args.index.now c.args.text.now c.in_default.ensures c.in-Err.ensures.refused

pub returns-in-Err-title_and_info-clause-refused : goal.returns-in-Err-title_and_info-clause-refused
returns-in-Err-title_and_info-clause-refused c =
    gathered_title_fault c.args.index.now c.args.text.now c.in_default.ensures c.in-Ok.ensures.passes c.in-Err-title_and_info.fault c.in-Ok.gathered c.in-Ok.ensures.gathered c.in-Err-title_and_info.ensures.refused

pub invariant_of-result : goal.invariant_of-result
invariant_of-result c = (
  c.in-Ok.ensures.gathered.bodies,
  c.in-Ok.ensures.gathered.keys,
  (
    c.args.index.now,
    reading_from c.args.index.now c.args.text.now c.in_default.ensures c.in-Ok.ensures.passes c.in-Ok.gathered c.in-Ok-title_and_info.told.0.now c.in-Ok-title_and_info.told.1.now c.in-Ok.ensures.gathered
        c.in-Ok-title_and_info.ensures.title c.in-Ok-title_and_info.ensures.good c.in-Ok-title_and_info.ensures.info,
  ),
)

pub returns-clause-edition : goal.returns-clause-edition
returns-clause-edition c =
    reading_from c.args.index.now c.args.text.now c.in_default.ensures c.in-Ok.ensures.passes c.in-Ok.gathered c.in-Ok-title_and_info.told.0.now c.in-Ok-title_and_info.told.1.now c.in-Ok.ensures.gathered
    c.in-Ok-title_and_info.ensures.title c.in-Ok-title_and_info.ensures.good c.in-Ok-title_and_info.ensures.info
