use Rattle.std.proofs.Common.{length, map, ap, ◌∙◌, arith}
use Rattle.std.proofs.lemmas.List.{length-map}
use Rattle.std.proofs.lemmas.Result.{IfOk-weaker}
use Rattle.dict_index.specs.Edition.{entry_in}
use Rattle.dict_index.specs.Views.{line_of}
use Rattle.store_search.specs.Entries.{entry_of}
use Rattle.store_search.proofs.edition.making_of_edition.Goals as goal

pub making_of_entries-requires : goal.making_of_entries-requires
making_of_entries-requires c =
    let edition = c.args.edition.now in
    omega (arith, c.is_well_formed.ensures.few, length-map edition.lines (entry_in edition.text), length-map c.entries.result.now line_of, ap length c.entries.ensures.lines)

pub returns : goal.returns
returns c = IfOk-weaker c.making_of_entries.result _ _ (λ making h. h ∙ ap (map entry_of) c.entries.ensures.lines) c.making_of_entries.ensures
