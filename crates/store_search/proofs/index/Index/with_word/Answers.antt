use Rattle.std.proofs.Common.{◌≡◌, ap, ◌∙◌}
use Rattle.dict_match.specs.Words.{words_between_blanks}
use Rattle.store_search.specs.Entries.{keys_of}
use Rattle.store_places.specs.Places.{places_where}
use Rattle.store_pieces.specs.Selected.{has_word}
use Rattle.store_search.proofs.IndexLemmas.{then_too}
use Rattle.store_search.proofs.index.Index.with_word.Goals as goal

pub returns : goal.returns
returns c =
    let keys = keys_of c.self.inside.entries in
    let there : c.places.result.now ≡ places_where (has_word c.args.word.now) (keys_of c.args.self.now) =
    c.places.ensures words_between_blanks keys c.self.invariant.words_placed ∙ ap (λ l. places_where (has_word c.args.word.now) (keys_of l)) c.self.view_is in
    then_too _ _ c.from_slice.result (λ places is. is ∙ there) c.from_slice.ensures.items
