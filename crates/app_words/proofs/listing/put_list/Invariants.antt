use Rattle.std.proofs.Common.{◌≡◌, map, take}
use Rattle.dict_proto.specs.Streams.{PutsAll}
use Rattle.dict_catalogue.specs.Views.{item_shown}
use Rattle.app_words.specs.Listing.{listing_from}
use Rattle.app_words.proofs.listing.put_list.Given as goal

abbrev pub invariant-loop-item : goal.invariant-loop-item
invariant-loop-item g l = record {
  place : l.place ≡ l.item-index;
  put : PutsAll (g.K.Sink.stream l.fn.sink) (g.K.Sink.stream l.sink) (listing_from 0 (take l.item-index (map item_shown l.items)));
}
