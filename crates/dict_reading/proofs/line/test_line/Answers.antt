use Rattle.std.proofs.Common.{subst, ◌∙◌, ap}
use Rattle.std.specs.Str.{IsUtf8}
use Rattle.std.specs.Prelude.{Some, None}
use Rattle.dict_index.specs.Meaning.{IsReadEdition, IsFault}
use Rattle.dict_index.specs.Refused.{IsIndexFault}
use Rattle.dict_index.specs.declared.fault.IndexFault.TheVariants.{Refused}
use Rattle.dict_reading.proofs.LineLemmas.{read_passes, whole_passes, line_fails}
use Rattle.dict_reading.proofs.line.test_line.Goals as goal

pub returns-in-Ok-clause-passes : goal.returns-in-Ok-clause-passes
returns-in-Ok-clause-passes c line e none =
    read_passes c.args.text.now line none c.requires.text (subst IsUtf8 e c.requires.utf8) c.in-Ok._edition (subst (λ l. IsReadEdition l c.args.text.now c.in-Ok._edition) e c.in-Ok.ensures.edition)

pub returns-in-Err-Refused-default-None-clause-passes : goal.returns-in-Err-Refused-default-None-clause-passes
returns-in-Err-Refused-default-None-clause-passes c line e none =
    let found = c.in-Err-Refused-default-None in
    let is = subst (λ f. IsIndexFault f c.args.whole.now c.args.text.now) (found.field-0-is ∙ ap (λ l. Refused found.field-0-0 l) found.field-0-1-is) found.ensures.refused in
    whole_passes c.args.text.now line none c.requires.text (subst IsUtf8 e c.requires.utf8) found.field-0-0 (subst (λ l. IsFault l c.args.text.now found.field-0-0 None) e is)

pub returns-in-Err-Refused-default-Some-clause-refused : goal.returns-in-Err-Refused-default-Some-clause-refused
returns-in-Err-Refused-default-Some-clause-refused c line e none =
    let found = c.in-Err-Refused-default-Some in
    let is = subst (λ f. IsIndexFault f c.args.whole.now c.args.text.now) (found.field-0-is ∙ ap (λ l. Refused found.refusal l) found.field-0-1-is) found.ensures.refused in
    line_fails c.args.text.now line none c.requires.text (subst IsUtf8 e c.requires.utf8) found.refusal found.field-0-1-0 (subst (λ l. IsFault l c.args.text.now found.refusal (Some found.field-0-1-0)) e is)
