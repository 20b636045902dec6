use Rattle.std.proofs.Common.{◌≡◌, false, take}
use Rattle.std.specs.List.{flat_map}
use Rattle.dict_catalogue.specs.Steps.{Catalogue}
use Rattle.dict_proto.specs.Streams.{PutsAll}
use Rattle.dict_session.specs.Desks.{Stays}
use Rattle.dict_session.specs.Rows.{octets_at_place}
use Rattle.dict_session.proofs.found.put_places.Given as goal

abbrev pub invariant-loop-place : goal.invariant-loop-place
invariant-loop-place g l = record {
  left : g.L.Lookup.is_trusted l.desk → (M : Catalogue) → g.L.Lookup.shows l.fn.desk M → PutsAll (g.K.Sink.stream l.fn.sink) (g.K.Sink.stream l.sink) (flat_map (octets_at_place l.query M.items) (take l.place-index l.places));
  desk : Stays g.L.Lookup.shows g.L.Lookup.leaves_one_of g.L.Lookup.keeps_beside g.L.Lookup.is_trusted g.L.Lookup.is_closed l.fn.desk l.desk;
  is_open : g.L.Lookup.is_closed l.desk ≡ false;
}
