use Rattle.std.proofs.Common.{◌∙◌}
use Rattle.dict_desk.proofs.PlainLemmas.{kept_as_read}
use Rattle.dict_desk.proofs.edition.PlainEdition.new.Goals as goal

pub returns : goal.returns
returns c = kept_as_read c.args.number c.args.edition.now _ _ _ c.in_ok-owned_entries.field-0.items _ (c.in_ok-from_str.ensures.ok ∙ c.title.ensures) (c.in_ok-from_str-2.ensures.ok ∙ c.info.ensures)
    (c.in_ok-from_slice.ensures.items ∙ c.text.ensures.value) c.in_ok-owned_entries.ensures.lines c.entries.ensures.lines
