use Rattle.std.proofs.Common.{ap, sym, ◌∙◌}
use Rattle.store_derived.specs.Search.{rows_selected}
use Rattle.store_search.specs.Entries.{keys_of}
use Rattle.store_places.specs.Places.{places_where}
use Rattle.store_pieces.specs.Selected.{is_selected}
use Rattle.store_search.proofs.IndexLemmas.{none_where}
use Rattle.store_search.proofs.index.Index.selected_places.Goals as goal

pub returns-in-Nothing : goal.returns-in-Nothing
returns-in-Nothing c =
    let keys = keys_of c.args.self.now in
    c.new.ensures.items ∙ none_where keys ∙ sym (ap (λ s. places_where (is_selected (rows_selected s)) keys) c.in-Nothing.is)
