use Rattle.std.proofs.Common.{take}
use Rattle.std.specs.List.{flat_map}
use Rattle.dict_proto.specs.Streams.{PutsAll}
use Rattle.dict_catalogue.specs.Views.{texts_shown}
use Rattle.app_words.specs.Listing.{behind_comma}
use Rattle.app_words.proofs.listing.put_further.Given as goal

abbrev pub invariant-loop-name : goal.invariant-loop-name
invariant-loop-name g l = PutsAll (g.K.Sink.stream l.fn.sink) (g.K.Sink.stream l.sink) (flat_map behind_comma (take l.name-index (texts_shown l.names)))
