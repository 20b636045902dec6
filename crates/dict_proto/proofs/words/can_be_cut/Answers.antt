use Rattle.std.proofs.Common.{◌∙◌, ◌<◌, length, arith}
use Rattle.dict_proto.specs.Places.{place_of}
use Rattle.dict_proto.proofs.PlaceLemmas.{cut-at}
use Rattle.dict_proto.proofs.words.can_be_cut.Goals as goal

pub loop-octet-preserved : goal.loop-octet-preserved
loop-octet-preserved c =
    let i = c.loop-octet.octet-index in
    let line = c.args.line.now in
    let lt : i < length line = omega arith in
    c.loop-octet.invariant ∙ cut-at line i (place_of c.loop-octet.place) (place_of c.after-place.result) lt c.after-place.ensures
