use Rattle.std.proofs.Common.{◌++◌, ◌+◌, ◌<◌, [], ◌∷◌, ap, ◌∙◌, subst, sym, arith, length, take, drop, get_or, append-nil}
use Rattle.std.specs.List.{flat_map}
use Rattle.std.proofs.lemmas.List.{take_more, take_all}
use Rattle.std.proofs.lemmas.List.Concat.{flat_map-append}
use Rattle.dict_proto.specs.Streams.{PutsAll}
use Rattle.dict_proto.proofs.PutLemmas.{puts_none, all_after, pieces_at}
use Rattle.dict_session.specs.Ending.{Breaks}
use Rattle.dict_session.specs.Rows.{octets_at_place}
use Rattle.dict_session.proofs.PartLemmas.{stays_same, stays_after, breaks_after, breaks_longer}
use Rattle.dict_session.proofs.found.put_places.Goals as goal

pub loop-place-init : goal.loop-place-init
loop-place-init g c = record {
  left = λ trusted M shown. puts_none (g.K.Sink.stream c.args.sink.now);
  desk = stays_same g.L.Lookup.shows g.L.Lookup.leaves_one_of g.L.Lookup.keeps_beside g.L.Lookup.is_trusted g.L.Lookup.is_closed c.args.desk.now;
  is_open = c.requires;
}

pub loop-place-preserved : goal.loop-place-preserved
loop-place-preserved g c = record {
  left = λ trusted M shown.
      (let i = c.loop-place.place-index in
      let places = c.args.places.now in
      let f = octets_at_place c.args.query.now M.items in
      let lt : i < length places = omega arith in
      let earlier = c.in-Ok.ensures.desk.trust trusted in
      subst (PutsAll (g.K.Sink.stream c.args.sink.now) (g.K.Sink.stream c.put_at.new.sink))
      (ap (λ l. flat_map f (take i places) ++ l) (sym (append-nil (f (get_or places i 0)))) ∙ (sym (flat_map-append f (take i places) (get_or places i 0 ∷ [])) ∙ sym (ap (flat_map f) (take_more places i 0 lt))))
      (all_after (g.K.Sink.stream c.args.sink.now) (g.K.Sink.stream c.loop-place.sink) (g.K.Sink.stream c.put_at.new.sink) (flat_map f (take i places)) (f (get_or places i 0))
      (c.loop-place.invariant.left earlier M shown) (c.in-Ok.ensures.value trusted M (c.loop-place.invariant.desk.shows earlier M shown))));
  desk = stays_after g.L.Lookup.shows g.L.Lookup.leaves_one_of g.L.Lookup.keeps_beside g.L.Lookup.is_trusted g.L.Lookup.is_closed _ _ _ c.loop-place.invariant.desk c.in-Ok.ensures.desk;
  is_open = c.in-Ok.ensures.open;
}

pub returns-in-Err-clause-value : goal.returns-in-Err-clause-value
returns-in-Err-clause-value g c = λ trusted M shown.
    let i = c.loop-place.place-index in
    let places = c.args.places.now in
    let f = octets_at_place c.args.query.now M.items in
    let lt : i < length places = omega arith in
    let earlier = c.in-Err.ensures.desk.trust trusted in
    let failed = g.L.Lookup.has_failed c.put_at.new.desk in
    let rest = flat_map f (drop (i + 1) places) in
    subst (Breaks failed c.in-Err.fault (g.K.Sink.stream c.args.sink.now) (g.K.Sink.stream c.put_at.new.sink)) (sym (pieces_at f places i 0 lt))
    (breaks_after failed c.in-Err.fault (g.K.Sink.stream c.args.sink.now) (g.K.Sink.stream c.loop-place.sink) (g.K.Sink.stream c.put_at.new.sink) (flat_map f (take i places)) (f (get_or places i 0) ++ rest)
    (c.loop-place.invariant.left earlier M shown)
    (breaks_longer failed c.in-Err.fault (g.K.Sink.stream c.loop-place.sink) (g.K.Sink.stream c.put_at.new.sink) (f (get_or places i 0)) rest (c.in-Err.ensures.value trusted M (c.loop-place.invariant.desk.shows earlier M shown))))

pub returns-in-Err-clause-desk : goal.returns-in-Err-clause-desk
returns-in-Err-clause-desk g c = stays_after g.L.Lookup.shows g.L.Lookup.leaves_one_of g.L.Lookup.keeps_beside g.L.Lookup.is_trusted g.L.Lookup.is_closed _ _ _ c.loop-place.invariant.desk c.in-Err.ensures.desk

pub returns-clause-value : goal.returns-clause-value
returns-clause-value g c = λ trusted M shown.
    subst (PutsAll (g.K.Sink.stream c.args.sink.now) (g.K.Sink.stream c.loop-place.sink)) (ap (flat_map (octets_at_place c.args.query.now M.items)) (take_all c.loop-place.place-index c.args.places.now (omega arith)))
    (c.loop-place.invariant.left trusted M shown)
