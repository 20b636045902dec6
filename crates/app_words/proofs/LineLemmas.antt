-- Lines that are put one after the other.
use Rattle.std.proofs.Common.{◌≡◌, ℕ, ◌+◌, ◌<◌, List, [], ◌∷◌, ◌++◌, sym, ap, ◌∙◌, subst, append-nil, append_assoc, length, map, take, drop, get_or, take-append-drop, arith}
use Rattle.std.specs.List.{flat_map}
use Rattle.std.proofs.lemmas.List.{drop_more, take_more, length-map, get_or-map, length-take-le}
use Rattle.std.proofs.lemmas.List.Concat.{flat_map-append}
use Rattle.dict_proto.specs.Streams.{Stream, PutsAll, PutsFront}
use Rattle.dict_proto.proofs.PutLemmas.{all_after, front_after, front_longer}
use Rattle.dict_catalogue.specs.Items.{Item}
use Rattle.app_words.specs.Listing.{listed_item_line, listing_from}

-- the element that was read, in front of those after it
read_at : {X Y : Type 0} (f : X → Y) (xs : List X) (i : ℕ) (x : X) → i < length xs → x ≡ get_or xs i x → drop i (map f xs) ≡ f x ∷ drop (i + 1) (map f xs)
read_at f xs i x lt is =
    drop_more (map f xs) i (f x) (omega (arith, length-map xs f, lt))
    ∙ ap (λ y. y ∷ drop (i + 1) (map f xs)) (get_or-map f xs i x (f x) lt ∙ ap f (sym is))

more_at : {X Y : Type 0} (f : X → Y) (xs : List X) (i : ℕ) (x : X) → i < length xs → x ≡ get_or xs i x → take (i + 1) (map f xs) ≡ take i (map f xs) ++ f x ∷ []
more_at f xs i x lt is =
    take_more (map f xs) i (f x) (omega (arith, length-map xs f, lt))
    ∙ ap (λ y. take i (map f xs) ++ y ∷ []) (get_or-map f xs i x (f x) lt ∙ ap f (sym is))

lines-append : (place : ℕ) (xs ys : List (Item (List ℕ))) → listing_from place (xs ++ ys) ≡ listing_from place xs ++ listing_from (place + length xs) ys
lines-append place [] ys = ap (λ (n : ℕ). listing_from n ys) (let e : place ≡ place + 0 = omega arith in e)
lines-append place (x ∷ xs) ys =
    ap (λ l. listed_item_line place x ++ l) (lines-append (place + 1) xs ys ∙ ap (λ (n : ℕ). listing_from (place + 1) xs ++ listing_from n ys) (let e : place + 1 + length xs ≡ place + length (x ∷ xs) = omega arith in e))
    ∙ sym (append_assoc (listed_item_line place x) (listing_from (place + 1) xs) (listing_from (place + length (x ∷ xs)) ys))

-- a line at its place, behind those before it
module _ {X : Type 0} (g : X → Item (List ℕ)) (xs : List X) (i : ℕ) (x : X) (lt : i < length xs) (is : x ≡ get_or xs i x) (a b c : Stream) where
  at_place : 0 + length (take i (map g xs)) ≡ i
  at_place = omega (arith, length-take-le i (map g xs) (omega (arith, length-map xs g, lt)))

  pub line_front : PutsAll a b (listing_from 0 (take i (map g xs))) → PutsFront b c (listed_item_line i (g x)) → PutsFront a c (listing_from 0 (map g xs))
  line_front h k =
      subst (PutsFront a c)
      (ap (λ (n : ℕ). listing_from 0 (take i (map g xs)) ++ (listed_item_line n (g x) ++ listing_from (n + 1) (drop (i + 1) (map g xs)))) (sym at_place)
      ∙ (ap (λ l. listing_from 0 (take i (map g xs)) ++ listing_from (0 + length (take i (map g xs))) l) (sym (read_at g xs i x lt is))
      ∙ (sym (lines-append 0 (take i (map g xs)) (drop i (map g xs))) ∙ ap (listing_from 0) (take-append-drop i (map g xs)))))
      (front_after a b c (listing_from 0 (take i (map g xs))) (listed_item_line i (g x) ++ listing_from (i + 1) (drop (i + 1) (map g xs))) h
      (front_longer b c (listed_item_line i (g x)) (listing_from (i + 1) (drop (i + 1) (map g xs))) k))

  pub line_more : PutsAll a b (listing_from 0 (take i (map g xs))) → PutsAll b c (listed_item_line i (g x)) → PutsAll a c (listing_from 0 (take (i + 1) (map g xs)))
  line_more h k =
      subst (PutsAll a c)
      (ap (λ l. listing_from 0 (take i (map g xs)) ++ l) (sym (append-nil (listed_item_line i (g x))))
      ∙ (ap (λ (n : ℕ). listing_from 0 (take i (map g xs)) ++ listing_from n (g x ∷ [])) (sym at_place)
      ∙ (sym (lines-append 0 (take i (map g xs)) (g x ∷ [])) ∙ ap (listing_from 0) (sym (more_at g xs i x lt is)))))
      (all_after a b c (listing_from 0 (take i (map g xs))) (listed_item_line i (g x)) h k)

-- a piece behind those before it
module _ {X Y : Type 0} (f : Y → List ℕ) (g : X → Y) (xs : List X) (i : ℕ) (x : X) (lt : i < length xs) (is : x ≡ get_or xs i x) (a b c : Stream) where
  pub piece_front : PutsAll a b (flat_map f (take i (map g xs))) → PutsFront b c (f (g x)) → PutsFront a c (flat_map f (map g xs))
  piece_front h k =
      subst (PutsFront a c) (ap (λ l. flat_map f (take i (map g xs)) ++ flat_map f l) (sym (read_at g xs i x lt is)) ∙ (sym (flat_map-append f (take i (map g xs)) (drop i (map g xs))) ∙ ap (flat_map f) (take-append-drop i (map g xs))))
      (front_after a b c (flat_map f (take i (map g xs))) (f (g x) ++ flat_map f (drop (i + 1) (map g xs))) h (front_longer b c (f (g x)) (flat_map f (drop (i + 1) (map g xs))) k))

  pub piece_more : PutsAll a b (flat_map f (take i (map g xs))) → PutsAll b c (f (g x)) → PutsAll a c (flat_map f (take (i + 1) (map g xs)))
  piece_more h k =
      subst (PutsAll a c) (ap (λ l. flat_map f (take i (map g xs)) ++ l) (sym (append-nil (f (g x))))
      ∙ (sym (flat_map-append f (take i (map g xs)) (g x ∷ [])) ∙ ap (flat_map f) (sym (more_at g xs i x lt is))))
      (all_after a b c (flat_map f (take i (map g xs))) (f (g x)) h k)
