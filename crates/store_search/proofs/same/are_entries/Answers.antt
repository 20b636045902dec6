use Rattle.std.proofs.Common.{◌≡◌, ℕ, ◌<◌, true, List, length, get_or, map, sym, ap, ◌∙◌, subst, arith, rules}
use Rattle.std.proofs.lemmas.List.{length-map, get_or-map, take_all, take_more_same}
use Rattle.dict_index.specs.Views.{line_of, HasItsKey}
use Rattle.dict_index.specs.declared.entry.Entry.{Entry}
use Rattle.dict_text.proofs.AllLemmas.{all_at}
use Rattle.store_search.specs.Entries.{entry_at, entry_of, no_entry}
use Rattle.store_search.proofs.same.are_entries.Goals as goal

pub is_entry-requires : goal.is_entry-requires
is_entry-requires c =
    subst HasItsKey (sym c.index-others-place.is) (all_at HasItsKey c.args.others.now c.loop-place.place c.index-others-place.result c.requires (omega arith))

-- the entry that the line at a place makes
entry_there : (others : List Entry) (place : ℕ) (item : Entry) → place < length others → item ≡ get_or others place item → entry_at (map entry_of (map line_of others)) place ≡ entry_of (line_of item)
entry_there others place item lt is =
    get_or-map entry_of (map line_of others) place (line_of item) no_entry (omega (arith, lt, length-map others line_of))
    ∙ ap entry_of (get_or-map line_of others place item (line_of item) lt ∙ ap line_of (sym is))

pub loop-place-preserved : goal.loop-place-preserved
loop-place-preserved c =
    let others = c.args.others.now in
    let place = c.loop-place.place in
    let lines = map line_of others in
    let many = length-map lines entry_of in
    let told : c.is_entry.result ≡ true = search rules in
    let there = entry_there others place c.index-others-place.result (omega arith) c.index-others-place.is in
    take_more_same c.args.entries.now (map entry_of lines) place no_entry (omega (arith, many, length-map others line_of)) (omega (arith, many, length-map others line_of)) c.loop-place.invariant (c.is_entry.ensures.same told ∙ sym there)

pub returns-clause-same : goal.returns-clause-same
returns-clause-same c told =
    let entries = c.args.entries.now in
    let lines = map line_of c.args.others.now in
    let place = c.loop-place.place in
    sym (take_all place entries (omega arith)) ∙ c.loop-place.invariant ∙ take_all place (map entry_of lines) (omega (arith, length-map lines entry_of, length-map c.args.others.now line_of))

pub returns-then-not-is_entry-clause-other : goal.returns-then-not-is_entry-clause-other
returns-then-not-is_entry-clause-other c told same =
    let place = c.loop-place.place in
    let there = entry_there c.args.others.now place c.index-others-place.result (omega arith) c.index-others-place.is in
    c.is_entry.ensures.other c.if-not-is_entry.true (ap (λ entries. entry_at entries place) same ∙ there)
