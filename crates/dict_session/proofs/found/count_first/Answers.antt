use Rattle.std.proofs.Common.{◌≡◌, ◌+◌, [], ◌∷◌, ap, ◌∙◌, sym, refl, arith, drop, get_or}
use Rattle.std.proofs.lemmas.List.{drop_more, drop_all}
use Rattle.dict_catalogue.specs.WellFormed.{total}
use Rattle.dict_session.specs.Rows.{count_at, first_counted, giving}
use Rattle.dict_session.proofs.PartLemmas.{stays_same, stays_after}
use Rattle.dict_session.proofs.FoundLemmas.{first_here, first_later, giving_first}
use Rattle.dict_session.proofs.found.count_first.Goals as goal

pub loop-place-init : goal.loop-place-init
loop-place-init g c = record {
  left = λ trusted M shown. refl;
  desk = stays_same g.L.Lookup.shows g.L.Lookup.leaves_one_of g.L.Lookup.keeps_beside g.L.Lookup.is_trusted g.L.Lookup.is_closed c.args.desk.now;
  is_open = λ e. e;
}

pub loop-place-preserved : goal.loop-place-preserved
loop-place-preserved g c = record {
  left = λ trusted M shown.
      (let i = c.loop-place.place-index in
      let places = c.args.places.now in
      let count = count_at c.args.query.now M.items in
      let earlier = c.in-Ok-eq0.ensures.desk.trust trusted in
      first_later count (drop i places) (get_or places i 0) (drop (i + 1) places) (first_counted count places) (drop_more places i 0 (omega arith))
      (sym (c.in-Ok-eq0.ensures.value trusted M (c.loop-place.invariant.desk.shows earlier M shown)) ∙ c.in-Ok-eq0.field-0-test) (c.loop-place.invariant.left earlier M shown));
  desk = stays_after g.L.Lookup.shows g.L.Lookup.leaves_one_of g.L.Lookup.keeps_beside g.L.Lookup.is_trusted g.L.Lookup.is_closed _ _ _ c.loop-place.invariant.desk c.in-Ok-eq0.ensures.desk;
  is_open = λ e. c.in-Ok-eq0.ensures.open (c.loop-place.invariant.is_open e);
}

pub returns-in-Ok-clause-value : goal.returns-in-Ok-clause-value
returns-in-Ok-clause-value g c = λ trusted M shown.
    let i = c.loop-place.place-index in
    let places = c.args.places.now in
    let count = count_at c.args.query.now M.items in
    let place = get_or places i 0 in
    let earlier = c.in-Ok.ensures.desk.trust trusted in
    let counted : c.in-Ok.count ≡ count place = c.in-Ok.ensures.value trusted M (c.loop-place.invariant.desk.shows earlier M shown) in
    let here : place ∷ [] ≡ first_counted count places = first_here count (drop i places) place (drop (i + 1) places) (first_counted count places) (drop_more places i 0 (omega arith))
    (λ e. c.in-Ok.count-test.1 (counted ∙ e)) (c.loop-place.invariant.left earlier M shown) in
    let alone : count place ≡ total count (place ∷ []) = omega arith in
    record {
      places = c.one_place.ensures ∙ (giving_first c.args.query.now M.items place (λ e. c.in-Ok.count-test.1 (counted ∙ e)) ∙ ap (giving c.args.query.now M.items) here);
      count = counted ∙ (alone ∙ ap (total count) here);
    }

pub returns-in-Ok-clause-desk : goal.returns-in-Ok-clause-desk
returns-in-Ok-clause-desk g c = stays_after g.L.Lookup.shows g.L.Lookup.leaves_one_of g.L.Lookup.keeps_beside g.L.Lookup.is_trusted g.L.Lookup.is_closed _ _ _ c.loop-place.invariant.desk c.in-Ok.ensures.desk

pub returns-in-Err-clause-desk : goal.returns-in-Err-clause-desk
returns-in-Err-clause-desk g c = stays_after g.L.Lookup.shows g.L.Lookup.leaves_one_of g.L.Lookup.keeps_beside g.L.Lookup.is_trusted g.L.Lookup.is_closed _ _ _ c.loop-place.invariant.desk c.in-Err.ensures.desk

pub returns-clause-value : goal.returns-clause-value
returns-clause-value g c = λ trusted M shown.
    let count = count_at c.args.query.now M.items in
    let none : [] ≡ first_counted count c.args.places.now =
    sym (ap (first_counted count) (drop_all c.loop-place.place-index c.args.places.now c.loop-place-test.false)) ∙ c.loop-place.invariant.left trusted M shown in
    record { places = c.nothing.ensures.places ∙ ap (giving c.args.query.now M.items) none; count = c.nothing.ensures.count ∙ ap (total count) none }
