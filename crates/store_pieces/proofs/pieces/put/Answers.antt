use Rattle.std.proofs.Common.{◌≡◌, sym, ◌∙◌, true, false}
use Rattle.store_pieces.specs.Pieces.{ends_with_piece}
use Rattle.store_pieces.proofs.PieceLemmas.{put_grown, put_begun}
use Rattle.store_pieces.proofs.pieces.put.Goals as goal

pub returns-then-is_last : goal.returns-then-is_last
returns-then-is_last c =
    let e : ends_with_piece c.args.texts.now c.args.piece.now ≡ true = sym c.is_last.ensures ∙ c.if-is_last.true in
    let put = put_grown c.push_last.result c.args.texts.now c.args.lists.now c.push_last.new.self c.args.piece.now c.args.place e c.requires c.push_last.ensures in
    record { pairs = put.0; texts = put.1; same = put.2 }

pub returns : goal.returns
returns c =
    let e : ends_with_piece c.args.texts.now c.args.piece.now ≡ false = sym c.is_last.ensures ∙ c.if-is_last.false in
    let put = put_begun c.push_new.result c.args.texts.now c.args.lists.now c.push.new.self c.push_new.new.self c.args.piece.now c.args.place e c.requires c.in_ok-push.ensures.pushed c.push_new.ensures in
    record { pairs = put.0; texts = put.1; same = put.2 }
