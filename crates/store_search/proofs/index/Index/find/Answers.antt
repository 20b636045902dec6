use Rattle.std.proofs.Common.{◌≡◌, ◌≤◌, subst, ap, sym, ◌∙◌, rules, length}
use Rattle.std.specs.List.{All}
use Rattle.std.specs.Str.{IsUtf8}
use Rattle.dict_match.specs.Matching.{is_hit}
use Rattle.store_derived.specs.Search.{rows_for}
use Rattle.store_search.specs.Entries.{entries_at, keys_of}
use Rattle.store_places.specs.Places.{places_where}
use Rattle.store_pieces.specs.Selected.{is_selected}
use Rattle.store_search.specs.Found.{found_entries}
use Rattle.store_search.proofs.EditionLemmas.{entries_there, count_there, fewer_found}
use Rattle.store_search.proofs.index.Index.find.Goals as goal

pub places_to_test-requires-clause-text : goal.places_to_test-requires-clause-text
places_to_test-requires-clause-text c = subst (λ l. All IsUtf8 (keys_of l)) c.self.view_is c.keys-keys.ensures.text

pub returns-clause-entries : goal.returns-clause-entries
returns-clause-entries c =
    let entries = c.args.self.now in
    let hit = is_hit c.args.strategy c.args.query.now in
    ap (entries_at entries) (c.keep_hits.ensures ∙ ap (places_where hit) (c.keys-keys.ensures.keys ∙ ap keys_of c.self.view_is)) ∙ entries_there hit entries

pub returns-clause-looked_at : goal.returns-clause-looked_at
returns-clause-looked_at c =
    let entries = c.args.self.now in
    let many : c.len-looked_at.result ≡ length c.in_ok-selected.selected.items = search rules in
    many
    ∙ ap length (c.in_ok-selected.ensures.value ∙ ap (λ rows. places_where (is_selected rows) (keys_of entries)) c.in_ok-selection.ensures)
    ∙ count_there (is_selected (rows_for c.args.strategy c.args.query.now)) entries

pub returns-clause-fewer : goal.returns-clause-fewer
returns-clause-fewer c =
    let entries = c.args.self.now in
    subst (λ n. length (found_entries c.args.strategy c.args.query.now entries) ≤ n) (sym (returns-clause-looked_at c))
    (fewer_found c.args.strategy c.args.query.now entries (subst (λ l. All IsUtf8 (keys_of l)) c.self.view_is c.keys-keys.ensures.text))
