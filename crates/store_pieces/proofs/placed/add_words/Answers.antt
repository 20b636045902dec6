use Rattle.std.proofs.Common.{◌≡◌, ◌++◌, map, refl, ap, sym, ◌∙◌}
use Rattle.dict_match.specs.Words.{words_between_blanks}
use Rattle.store_pieces.specs.Pieces.{placed_at}
use Rattle.store_pieces.specs.PlacedPieces.{word_placed, words_placed}
use Rattle.store_pieces.proofs.PlacedLemmas.{put_more, none_left}
use Rattle.store_pieces.proofs.placed.add_words.Goals as goal

pub loop-word-init : goal.loop-word-init
loop-word-init c =
    let all : words_between_blanks c.args.key.now ≡ c.into_iter-word-iterator.result = sym (c.into_iter-word-iterator.ensures.into_iter_gives ∙ c.words-word-items.ensures.value) in
    (tt, tt, ap (λ ws. words_placed c.args.list.now.items ++ map (placed_at c.args.place) ws) (sym all))

pub loop-word-preserved : goal.loop-word-preserved
loop-word-preserved c = (
  tt,
  tt,
  put_more word_placed (placed_at c.args.place) c.loop-word.list.items c.push.new.self.items _ c.in-Some.word.now c.loop-word.word-iterator c.next.new.self _ c.in_ok-push.ensures.items refl c.in-Some.ensures.steps
      c.loop-word.invariant.2,
)

pub returns : goal.returns
returns c = none_left word_placed (placed_at c.args.place) c.loop-word.list.items c.loop-word.word-iterator _ c.in-None.ensures.steps.0 c.loop-word.invariant.2
