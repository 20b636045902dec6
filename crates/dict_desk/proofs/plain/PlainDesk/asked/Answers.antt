use Rattle.std.proofs.Common.{ap, sym, ◌∙◌}
use Rattle.std.specs.Prelude.{option_map}
use Rattle.dict_desk.specs.Plain.{edition_by_number}
use Rattle.dict_desk.proofs.DeskLemmas.{span_of_note}
use Rattle.dict_desk.proofs.plain.PlainDesk.asked.Goals as goal

pub span_of-span-requires : goal.span_of-span-requires
span_of-span-requires c =
    span_of_note c.self.inside.editions.items c.self.inside.counted c.as_ref.result c.in_ok-edition.edition.now c.args.number
    (sym (ap (option_map (λ found. found.now)) (sym c.in_ok-edition.was) ∙ (c.edition_numbered.ensures ∙ ap (edition_by_number c.args.number) c.deref.ensures.value))) c.as_ref.ensures.value c.self.invariant.1
