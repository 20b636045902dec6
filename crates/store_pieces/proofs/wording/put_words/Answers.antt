use Rattle.std.proofs.Common.{◌≡◌, ◌++◌, map, ap, sym, ◌∙◌}
use Rattle.std.specs.List.{zip}
use Rattle.dict_match.specs.Words.{words_between_blanks}
use Rattle.store_pieces.specs.Pieces.{placed_at}
use Rattle.store_pieces.proofs.WordLemmas.{put_one, as_many, all_put}
use Rattle.store_pieces.proofs.wording.put_words.Goals as goal

pub loop-word-init : goal.loop-word-init
loop-word-init c =
    let all : words_between_blanks c.args.key.now ≡ c.into_iter-word-iterator.result = sym (c.into_iter-word-iterator.ensures.into_iter_gives ∙ c.words-word-items.ensures.value) in
    (tt, tt, c.requires, ap (λ ws. zip c.args.found.now c.args.places.now.items ++ map (placed_at c.args.place) ws) (sym all))

pub loop-word-preserved : goal.loop-word-preserved
loop-word-preserved c =
    let place = c.args.place in
    let found = c.loop-word.found in
    let places = c.loop-word.places.items in
    let one = c.in_ok-push.ensures.pushed in
    let two = c.in_ok-push-2.ensures.items in
    let old = c.loop-word.invariant in (
      tt,
      tt,
      as_many place found c.push.new.self places c.push-in-loop-word.new.self.items c.in-Some.word.now old.2 one two,
      put_one place found c.push.new.self places c.push-in-loop-word.new.self.items c.in-Some.word.now c.loop-word.word-iterator c.next.new.self _ old.2 one two c.in-Some.ensures.steps old.3,
    )

pub returns : goal.returns
returns c =
    let old = c.loop-word.invariant in
    record { same = old.2; put = all_put c.args.place c.loop-word.found c.loop-word.places.items c.loop-word.word-iterator _ c.in-None.ensures.steps.0 old.3 }
