use Rattle.std.proofs.Common.{filter, ap, ◌∙◌}
use Rattle.dict_match.specs.Matching.{is_hit}
use Rattle.store_derived.specs.Search.{rows_for}
use Rattle.store_search.specs.Entries.{keys_of}
use Rattle.store_places.specs.Places.{key_at, places_where}
use Rattle.store_pieces.specs.Selected.{is_selected}
use Rattle.store_pieces.proofs.SelectionLemmas.{untested, tested}
use Rattle.store_search.proofs.index.Index.places_to_test.Goals as goal

pub with_rarest-requires-clause-selected : goal.with_rarest-requires-clause-selected
with_rarest-requires-clause-selected c = c.requires.selected ∙ ap (λ s. places_where (is_selected (rows_for s c.args.query.now)) (keys_of c.args.self.now)) c.in-Substring.is

pub returns-in_default : goal.returns-in_default
returns-in_default c =
    let keys = keys_of c.args.self.now in
    let strategy = c.args.strategy in
    let q = c.args.query.now in
    record {
      untested = λ plain. c.requires.selected ∙ untested strategy q keys c.requires.text plain;
      tested = ap (filter (λ place. is_hit strategy q (key_at keys place))) c.requires.selected ∙ tested strategy q keys c.requires.text;
    }
