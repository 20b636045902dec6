-- What a sink of rows takes, one row after another.
use Rattle.std.proofs.Common.{◌≡◌, ℕ, List, [], ◌++◌, ◌∷◌, Bool, true, false, refl, sym, subst}
use Rattle.std.specs.Prelude.{◌||◌}
use Rattle.std.specs.List.{flat_map}
use Rattle.std.proofs.lemmas.List.Concat.{flat_map-append}
use Rattle.dict_proto.specs.Streams.{Stream, PutsAll, PutsFront}
use Rattle.dict_proto.proofs.PutLemmas.{all_after, front_after, front_longer}
use Rattle.dict_index.specs.Found.{Row}
use Rattle.dict_desk.specs.declared.lookup.What.{What}
use Rattle.dict_session.specs.Rows.{has_some, row_octets}
use Rattle.dict_session.specs.declared.asked.Heading.{Heading}

module _ {X : Type 0} (f : X → List ℕ) where
  pub all_joined : (a b c : Stream) (xs ys : List X) → PutsAll a b (flat_map f xs) → PutsAll b c (flat_map f ys) → PutsAll a c (flat_map f (xs ++ ys))
  all_joined a b c xs ys h k = subst (PutsAll a c) (sym (flat_map-append f xs ys)) (all_after a b c (flat_map f xs) (flat_map f ys) h k)

  pub front_joined : (a b c : Stream) (xs ys zs : List X) → PutsAll a b (flat_map f xs) → PutsFront b c (flat_map f ys) → PutsFront a c (flat_map f (xs ++ (ys ++ zs)))
  front_joined a b c xs ys zs h k = subst (PutsFront a c) (sym (flat_map-append f xs (ys ++ zs))) (front_after a b c (flat_map f xs) (flat_map f (ys ++ zs)) h
      (subst (PutsFront b c) (sym (flat_map-append f ys zs)) (front_longer b c (flat_map f ys) (flat_map f zs) k)))

abbrev octets_under : What → Heading → Row → List ℕ
octets_under what heading = row_octets what heading.name.bytes heading.title.bytes

pub found_joined : (a b c : Stream) (what what' : What) (heading heading' : Heading) (rows more : List Row) → what' ≡ what → heading' ≡ heading
    → PutsAll a b (flat_map (octets_under what heading) rows) → PutsAll b c (flat_map (octets_under what' heading') more) → PutsAll a c (flat_map (octets_under what heading) (rows ++ more))
found_joined a b c what what' heading heading' rows more e f h k =
    all_joined (octets_under what heading) a b c rows more h
    (subst (λ (w : What). PutsAll b c (flat_map (octets_under w heading) more)) e (subst (λ (x : Heading). PutsAll b c (flat_map (octets_under what' x) more)) f k))

pub found_stopped : (a b c : Stream) (what what' : What) (heading heading' : Heading) (rows more rest : List Row) → what' ≡ what → heading' ≡ heading
    → PutsAll a b (flat_map (octets_under what heading) rows) → PutsFront b c (flat_map (octets_under what' heading') more) → PutsFront a c (flat_map (octets_under what heading) (rows ++ (more ++ rest)))
found_stopped a b c what what' heading heading' rows more rest e f h k =
    front_joined (octets_under what heading) a b c rows more rest h
    (subst (λ (w : What). PutsFront b c (flat_map (octets_under w heading) more)) e (subst (λ (x : Heading). PutsFront b c (flat_map (octets_under what' x) more)) f k))

pub some_none : (x : Bool) → x ≡ (x || false)
some_none true = refl
some_none false = refl

pub some_joined : (x y z : Bool) (rows more : List Row) → y ≡ (x || has_some rows) → z ≡ (y || has_some more) → z ≡ (x || has_some (rows ++ more))
some_joined true y z rows more e f = rw e at f
some_joined false y z [] more e f = rw e at f
some_joined false y z (row ∷ rows) more e f = rw e at f
