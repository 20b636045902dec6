use Rattle.std.proofs.Common.{arith}
use Rattle.std.specs.Prelude.{string_bytes}
use Rattle.dict_proto.proofs.PutLemmas.{puts_err}
use Rattle.app_words.specs.Listing.{behind_comma}
use Rattle.app_words.proofs.LineLemmas.{piece_front, piece_more}
use Rattle.app_words.proofs.listing.put_further.Goals as goal

pub returns-in_err-put_behind_comma : goal.returns-in_err-put_behind_comma
returns-in_err-put_behind_comma g c =
    puts_err _ _ _ _ c.from_residual.ensures.0
    (piece_front behind_comma string_bytes c.args.names.now c.loop-name.name-index c.name-item.result (omega arith) c.name-item.is _ _ _ c.loop-name.invariant
    (rw c.as_str.ensures.value at c.in_err-put_behind_comma.ensures))

pub loop-name-preserved : goal.loop-name-preserved
loop-name-preserved g c =
    piece_more behind_comma string_bytes c.args.names.now c.loop-name.name-index c.name-item.result (omega arith) c.name-item.is _ _ _ c.loop-name.invariant
    (rw c.as_str.ensures.value at c.in_ok-put_behind_comma.ensures)
