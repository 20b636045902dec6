use Rattle.std.proofs.Common.{◌≡◌, ◌+◌, ◌<◌, ◌^◌, ◌==◌, ◌++◌, ◌∷◌, [], List, ℕ, not, sym, ap, subst, ◌∙◌, arith, length, take, get_or}
use Rattle.std.specs.Prelude.{if◌then◌else◌}
use Rattle.std.proofs.lemmas.List.{length-take-le, take_all}
use Rattle.dict_session.specs.Rows.{count_at, IsCounted}
use Rattle.dict_session.proofs.PartLemmas.{stays_same, stays_after}
use Rattle.dict_session.proofs.FoundLemmas.{counts_few, sum_more, filter_few, giving_more}
use Rattle.dict_session.proofs.found.count_all.Goals as goal

pub loop-place-init : goal.loop-place-init
loop-place-init g c = record {
  left = λ trusted M shown few. record { places = c.nothing-counted.ensures.places; count = c.nothing-counted.ensures.count };
  desk = stays_same g.L.Lookup.shows g.L.Lookup.leaves_one_of g.L.Lookup.keeps_beside g.L.Lookup.is_trusted g.L.Lookup.is_closed c.args.desk.now;
  is_open = λ e. e;
}

pub loop-place-preserved : goal.loop-place-preserved
loop-place-preserved g c = record {
  left = λ trusted M shown few.
      (let i = c.loop-place.place-index in
      let places = c.args.places.now in
      let count = count_at c.args.query.now M.items in
      let lt : i < length places = omega arith in
      let earlier = c.in-Ok.ensures.desk.trust trusted in
      let before = c.loop-place.invariant.left earlier M shown few in
      let one : c.in-Ok.count ≡ count (get_or places i 0) = c.in-Ok.ensures.value trusted M (c.loop-place.invariant.desk.shows earlier M shown) in
      let more = sum_more count places i 0 lt in
      let bound = counts_few c.args.query.now M (take (i + 1) places) (g.met.L.Lookup.well_formed c.args.desk.now M shown) in
      let size : length (take (i + 1) places) ≡ i + 1 = length-take-le (i + 1) places (omega arith) in
      let filtered = filter_few (λ place. not (count place == 0)) (take i places) in
      let least : length (take i places) ≡ i = length-take-le i places (omega arith) in
      let room : length c.loop-place.counted.places.items < 64 = omega (arith, ap length before.places, filtered, least, lt, few) in
      let fits : c.loop-place.counted.count + c.in-Ok.count < 2 ^ 64 = omega (arith, before.count, one, more, bound, size, few) in
      record {
        places =
            c.add.ensures.places room
            ∙ (ap (λ l. l ++ (if c.in-Ok.count == 0 then [] else get_or places i 0 ∷ [])) before.places ∙ sym (giving_more c.args.query.now M.items places i c.in-Ok.count lt one));
        count = omega (arith, c.add.ensures.count fits, before.count, one, more);
      });
  desk = stays_after g.L.Lookup.shows g.L.Lookup.leaves_one_of g.L.Lookup.keeps_beside g.L.Lookup.is_trusted g.L.Lookup.is_closed _ _ _ c.loop-place.invariant.desk c.in-Ok.ensures.desk;
  is_open = λ e. c.in-Ok.ensures.open (c.loop-place.invariant.is_open e);
}

pub returns-in-Err-clause-desk : goal.returns-in-Err-clause-desk
returns-in-Err-clause-desk g c = stays_after g.L.Lookup.shows g.L.Lookup.leaves_one_of g.L.Lookup.keeps_beside g.L.Lookup.is_trusted g.L.Lookup.is_closed _ _ _ c.loop-place.invariant.desk c.in-Err.ensures.desk

pub returns-clause-value : goal.returns-clause-value
returns-clause-value g c = λ trusted M shown few.
    subst (λ (all : List ℕ). IsCounted c.args.query.now M.items all c.loop-place.counted) (take_all c.loop-place.place-index c.args.places.now (omega arith)) (c.loop-place.invariant.left trusted M shown few)
