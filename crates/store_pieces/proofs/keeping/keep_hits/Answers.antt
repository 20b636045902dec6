use Rattle.std.proofs.Common.{◌≡◌, ℕ, Bool, true, filter, ◌∙◌, rules}
use Rattle.std.proofs.lemmas.Fn.{filter_same}
use Rattle.dict_match.specs.Matching.{is_hit}
use Rattle.store_places.specs.Places.{key_at}
use Rattle.store_pieces.specs.Selected.{finds_all}
use Rattle.store_pieces.proofs.keeping.keep_hits.Goals as goal

pub returns-then-finds_all : goal.returns-then-finds_all
returns-then-finds_all c =
    let plain : finds_all c.args.strategy c.args.query.now ≡ true = search rules in
    c.requires.untested plain

pub returns : goal.returns
returns c =
    let keys = c.args.keys.now in
    let hit : ℕ → Bool = λ place. is_hit c.args.strategy c.args.query.now (key_at keys place) in
    let left : c.retain.new.self.items ≡ filter hit c.args.places.now.items = filter_same _ hit _ (λ x b f' k. search rules) _ _ c.retain.ensures.filtered in
    left ∙ c.requires.tested
