-- Places one after the other, as they are held.
use Rattle.std.proofs.Common.{◌≡◌, ℕ, ◌+◌, ◌<◌, ◌≤◌, List, [], ◌∷◌, ◌++◌, Bool, true, false, arith, length, map, drop, get_or, sym, ap, ◌∙◌, append_assoc, length-append}
use Rattle.std.proofs.lemmas.List.{drop_more, get_or-map, length-map}
use Rattle.std.specs.List.{flat_map}
use Rattle.std.specs.Prelude.{Option, Some, if◌then◌else◌}
use Rattle.dict_catalogue.specs.Items.{Item, is_named}
use Rattle.dict_session.specs.Places.{places_from, places_by, places_under, HoldsPlaces}

module _ {X : Type 0} (test : X → Bool) (all : List ℕ) (held new : List ℕ) (i : ℕ) (xs : List X) (x : X) (rest : List X) where
  -- one place more
  pub place_in : xs ≡ x ∷ rest → test x ≡ true → (length held < 64 → new ≡ held ++ i ∷ [])
      → (length all ≤ 64 → held ++ places_from test i xs ≡ all) → (length all ≤ 64 → new ++ places_from test (i + 1) rest ≡ all)
  place_in e is grown before few =
      let whole : held ++ (i ∷ places_from test (i + 1) rest) ≡ all = rw (e, is) at (before few) in
      let room : length held < 64 = omega (arith, length-append held (i ∷ places_from test (i + 1) rest), ap length whole, few) in
      ap (λ l. l ++ places_from test (i + 1) rest) (grown room) ∙ (append_assoc held (i ∷ []) (places_from test (i + 1) rest) ∙ whole)

  -- or none
  pub place_out : xs ≡ x ∷ rest → test x ≡ false → new ≡ held
      → (length all ≤ 64 → held ++ places_from test i xs ≡ all) → (length all ≤ 64 → new ++ places_from test (i + 1) rest ≡ all)
  place_out e is same before few = ap (λ l. l ++ places_from test (i + 1) rest) same ∙ rw (e, is) at (before few)

-- the places of one more name
pub places_in : {X : Type 0} (f : X → List ℕ) (all held new : List ℕ) (xs : List X) (x : X) (rest : List X) → xs ≡ x ∷ rest → HoldsPlaces new (held ++ f x)
    → (length all ≤ 64 → held ++ flat_map f xs ≡ all) → (length all ≤ 64 → new ++ flat_map f rest ≡ all)
places_in f all held new xs x rest e grown before few =
    let whole : held ++ (f x ++ flat_map f rest) ≡ all = rw e at (before few) in
    let joined = append_assoc held (f x) (flat_map f rest) ∙ whole in
    let room : length (held ++ f x) ≤ 64 = omega (arith, length-append (held ++ f x) (flat_map f rest), ap length joined, few) in
    ap (λ l. l ++ flat_map f rest) (grown room) ∙ joined

-- an element that was read, in front of those after it
pub read_at : {X Y : Type 0} (f : X → Y) (xs : List X) (i : ℕ) (x : X) → i < length xs → x ≡ get_or xs i x → drop i (map f xs) ≡ f x ∷ drop (i + 1) (map f xs)
read_at f xs i x lt is =
    drop_more (map f xs) i (f x) (omega (arith, length-map xs f, lt))
    ∙ ap (λ y. y ∷ drop (i + 1) (map f xs)) (get_or-map f xs i x (f x) lt ∙ ap f (sym is))

-- the first item of a name stands here, or later
module _ {A : Type 0} (all : List (Item A)) (name : List ℕ) (i : ℕ) (xs : List (Item A)) (x : Item A) (rest : List (Item A)) (target : Option (List ℕ)) where
  pub under_here : xs ≡ x ∷ rest → is_named name x ≡ true → places_under all name i xs ≡ target → Some (places_by all i x) ≡ target
  under_here e is h = sym (ap (λ b. if b then Some (places_by all i x) else places_under all name (i + 1) rest) is) ∙ (sym (ap (places_under all name i) e) ∙ h)

  pub under_later : xs ≡ x ∷ rest → is_named name x ≡ false → places_under all name i xs ≡ target → places_under all name (i + 1) rest ≡ target
  under_later e is h = sym (ap (λ b. if b then Some (places_by all i x) else places_under all name (i + 1) rest) is) ∙ (sym (ap (places_under all name i) e) ∙ h)
