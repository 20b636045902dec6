use Rattle.std.proofs.Common.{sym, subst}
use Rattle.store_derived.specs.Search.{rows_selected}
use Rattle.store_search.specs.Selected.{AreSelected}
use Rattle.store_search.proofs.EditionLemmas.{are_selected}
use Rattle.store_search.proofs.IndexLemmas.{then_too}
use Rattle.store_search.proofs.index.Index.candidates.Goals as goal

pub returns-clause-selected : goal.returns-clause-selected
returns-clause-selected c =
    let rows = rows_selected c.args.selection.now in
    then_too _ _ c.selected_places.result (λ places is. subst (AreSelected rows c.args.self.now) (sym is) (are_selected rows c.args.self.now)) c.selected_places.ensures
