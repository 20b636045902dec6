use Rattle.std.proofs.Common.{List, subst, sym, ◌∙◌}
use Rattle.store_holdings.specs.Indexes.{entries_under}
use Rattle.store_holdings.specs.CutTexts.{Cuts, IsIndexOf}
use Rattle.store_search.specs.Entries.{Indexed}
use Rattle.store_holdings.proofs.NumberLemmas.{the_index}
use Rattle.store_holdings.proofs.answering.find_under.Goals as goal

pub returns-in-Some-clause-value : goal.returns-in-Some-clause-value
returns-in-Some-clause-value g c = λ clean index edition text stands cuts are held.
    let same = the_index c.in-Some.index index (entries_under c.args.number c.args.indexes.now) (sym c.in-Some.is ∙ c.in_ok-index.ensures.found) stands in
    c.find-end.ensures.value clean edition text (subst (λ (i : List Indexed). Cuts i edition text) same cuts) are held

pub returns-in-Some-clause-indexes : goal.returns-in-Some-clause-indexes
returns-in-Some-clause-indexes g c = c.put_back.ensures c.args.indexes.now (c.in_ok-index.ensures.out c.in-Some.index c.in-Some.is)

pub returns-in-Some-clause-looks : goal.returns-in-Some-clause-looks
returns-in-Some-clause-looks g c = λ index edition stands is.
    let same = the_index c.in-Some.index index (entries_under c.args.number c.args.indexes.now) (sym c.in-Some.is ∙ c.in_ok-index.ensures.found) stands in
    c.find-end.ensures.looks edition (subst (λ (i : List Indexed). IsIndexOf i edition) same is)
