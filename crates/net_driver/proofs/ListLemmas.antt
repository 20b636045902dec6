-- Lists of connections.
use Rattle.std.specs.Prelude.{◌||◌, nat_le, if◌then◌else◌}
use Rattle.std.proofs.Common.{◌≡◌, ◌≢◌, length-append, ◌<◌, ◌≤◌, ◌+◌, ◌⊎◌, ℕ, zero, suc, Bool, true, false, cond, List, [], ◌∷◌, ◌++◌, All, length, get_or, set, length-set, take, drop, refl, sym, ap, ◌∙◌, subst, inl, inr, arith}
use Rattle.std.specs.List.{AllPairs, remove, filter}
use Rattle.std.proofs.lemmas.Bool.Decides.{leb_tells, eqb_tells}
use Rattle.std.proofs.lemmas.List.{get_or-set_other}
use Rattle.std.proofs.lemmas.Grind.{get_or-set_at}
use Rattle.std.proofs.lemmas.List.Elements.{All-push}
use Rattle.std.proofs.lemmas.List.Quantifiers.{all_pairs_push}
use Rattle.std.proofs.lemmas.List.Edits.{get_or-remove_below, get_or-remove_above, length-remove}
use Rattle.net_outlet.specs.Queues.{waiting}
use Rattle.net_driver.specs.Rounds.{WaitsAmong, connections_fitting, room_of}
use Rattle.net_driver.specs.Turning.{MarkAll, any}
use Rattle.net_connection.specs.Turns.{HasNothingToDo}
use Rattle.net_driver.proofs.BoolLemmas.{any_more, front_move, last_move}
use Rattle.net_connection.specs.declared.connection.Connection.{Connection}

-- what stands at a place, whatever stands in for none
pub default_free : {X : Type 0} (xs : List X) (k : ℕ) (a b : X) → k < length xs → get_or xs k a ≡ get_or xs k b
default_free [] k a b below = absurd (omega arith)
default_free (x ∷ xs) zero a b below = refl
default_free (x ∷ xs) (suc k) a b below = default_free xs k a b (omega arith)

-- a connection stands at this place
pub record StandsAt {T : Type 0} (all : List (Connection T)) (id : ℕ) (octets : List ℕ) : Type 0 where
  pub place : ℕ
  pub one : Connection T
  pub within : place < length all
  pub at : (d : Connection T) → get_or all place d ≡ one
  pub is : one.id ≡ id
  pub waits : waiting one.queue ≡ octets

pub among_at : {T : Type 0} (all : List (Connection T)) (id : ℕ) (octets : List ℕ) → WaitsAmong all id octets → StandsAt all id octets
among_at [] id octets never = absurd never
among_at (one ∷ others) id octets (inl here) = record { place = 0; one = one; within = omega arith; at = λ d. refl; is = here.0; waits = here.1 }
among_at (one ∷ others) id octets (inr there) =
    let s = among_at others id octets there in
    let below : s.place < length others = s.within in
    record { place = suc s.place; one = s.one; within = omega arith; at = s.at; is = s.is; waits = s.waits }

pub at_among : {T : Type 0} (all : List (Connection T)) (k : ℕ) (one : Connection T) → k < length all → get_or all k one ≡ one → WaitsAmong all one.id (waiting one.queue)
at_among [] k one below is = absurd (omega arith)
at_among (first ∷ others) zero one below is = inl (ap (λ it. it.id) is, ap (λ it. waiting it.queue) is)
at_among (first ∷ others) (suc k) one below is = inr (at_among others k one (omega arith) is)

-- the one at a place is among them
pub place_among : {T : Type 0} (all : List (Connection T)) (k : ℕ) (d : Connection T) → k < length all → WaitsAmong all (get_or all k d).id (waiting (get_or all k d).queue)
place_among all k d below = at_among all k (get_or all k d) below (default_free all k (get_or all k d) d below)

pub among_append : {T : Type 0} (xs ys : List (Connection T)) (id : ℕ) (octets : List ℕ) → WaitsAmong (xs ++ ys) id octets → WaitsAmong xs id octets ⊎ WaitsAmong ys id octets
among_append [] ys id octets h = inr h
among_append (x ∷ xs) ys id octets (inl here) = inl (inl here)
among_append (x ∷ xs) ys id octets (inr there) = elim (among_append xs ys id octets there) [
  | inl left ↦ inl (inr left)
  | inr right ↦ inr right
]

pub among_drop : {T : Type 0} (n : ℕ) (xs : List (Connection T)) (id : ℕ) (octets : List ℕ) → WaitsAmong (drop n xs) id octets → WaitsAmong xs id octets
among_drop zero xs id octets h = h
among_drop (suc n) [] id octets never = absurd never
among_drop (suc n) (x ∷ xs) id octets h = inr (among_drop n xs id octets h)

pub among_fitting : {T : Type 0} (most : ℕ) (xs : List (Connection T)) (id : ℕ) (octets : List ℕ) → WaitsAmong (connections_fitting most xs) id octets → WaitsAmong xs id octets
among_fitting most [] id octets never = absurd never
among_fitting most (x ∷ xs) id octets h = by_room (λ behind. among_fitting most xs id octets behind) (nat_le (room_of (x ∷ xs)) most) h
  where
    by_room : (WaitsAmong (connections_fitting most xs) id octets → WaitsAmong xs id octets) → (b : Bool) → WaitsAmong (if b then x ∷ xs else connections_fitting most xs) id octets → WaitsAmong (x ∷ xs) id octets
    by_room more true h = h
    by_room more false h = inr (more h)

pub among_filter : {T : Type 0} (p : Connection T → Bool) (xs : List (Connection T)) (id : ℕ) (octets : List ℕ) → WaitsAmong (filter p xs) id octets → WaitsAmong xs id octets
among_filter p [] id octets never = absurd never
among_filter p (x ∷ xs) id octets h =
    let kept : (b : Bool) → WaitsAmong (cond b (x ∷ filter p xs) (filter p xs)) id octets → WaitsAmong (x ∷ xs) id octets
    = λ b. elim b as (λ v. WaitsAmong (cond v (x ∷ filter p xs) (filter p xs)) id octets → WaitsAmong (x ∷ xs) id octets) [
      | true ↦ elim [
        | inl here ↦ inl here
        | inr there ↦ inr (among_filter p xs id octets there)
      ]
      | false ↦ λ there. inr (among_filter p xs id octets there)
    ] in
    kept (p x) h

-- the same ids in the same places
pub record HaveSameIds {T : Type 0} (xs ys : List (Connection T)) : Type 0 where
  pub len : length ys ≡ length xs
  pub same : (k : ℕ) (d : Connection T) → k < length xs → (get_or ys k d).id ≡ (get_or xs k d).id

pub rising_kept : {T : Type 0} (xs ys : List (Connection T)) → HaveSameIds xs ys → AllPairs (λ a b. a.id < b.id) xs → AllPairs (λ a b. a.id < b.id) ys
rising_kept xs ys ids rising i j d below within =
    let len = ids.len in
    let in_j : j < length xs = omega arith in
    let in_i : i < length xs = omega arith in
    let a = ids.same i d in_i in
    let b = ids.same j d in_j in
    omega (arith, a, b, rising i j d below in_j)

pub ids_kept : {T : Type 0} (P : ℕ → Type 0) (xs ys : List (Connection T)) → HaveSameIds xs ys → All (λ (one : Connection T). P one.id) xs → All (λ (one : Connection T). P one.id) ys
ids_kept P xs ys ids all k d within =
    let len = ids.len in
    let below : k < length xs = omega arith in
    subst P (sym (ids.same k d below)) (all k d below)

-- rising ids are apart: that at a place from all others
pub apart_remove : {T : Type 0} (xs : List (Connection T)) (i : ℕ) (one : Connection T) → i < length xs → get_or xs i one ≡ one → AllPairs (λ a b. a.id < b.id) xs
    → All (λ (other : Connection T). other.id ≢ one.id) (remove xs i)
apart_remove xs i one within is rising k d in_rest =
    let shorter = length-remove xs i within in
    let here : (get_or xs i d).id ≡ one.id = ap (λ it. it.id) (default_free xs i d one within ∙ is) in
    elim (leb_tells i k) [
      | inl above ↦ rw (get_or-remove_above xs i d k above.1 within) (λ same. let lt = rising i (k + 1) d (omega (arith, above.1)) (omega (arith, shorter)) in absurd (omega (arith, lt, here, same)))
      | inr below ↦ rw (get_or-remove_below xs i d k below.1 within) (λ same. let lt = rising k i d below.1 within in absurd (omega (arith, lt, here, same)))
    ]

-- what holds of each id holds of that of a connection among them
pub all_among : {T : Type 0} (P : ℕ → Type 0) (xs : List (Connection T)) (id : ℕ) (octets : List ℕ) → All (λ (one : Connection T). P one.id) xs → WaitsAmong xs id octets → P id
all_among P xs id octets all among =
    let s = among_at xs id octets among in
    subst P (ap (λ it. it.id) (s.at s.one) ∙ s.is) (all s.place s.one s.within)

pub ids_same : {T : Type 0} (xs : List (Connection T)) → HaveSameIds xs xs
ids_same xs = record { len = refl; same = λ k d within. refl }

-- the same ids, where one more connection has its id
pub ids_more : {T : Type 0} (old now : List (Connection T)) (i : ℕ) (after x : Connection T) → HaveSameIds old now → i < length now → after.id ≡ (get_or now i x).id → HaveSameIds old (set now i after)
ids_more old now i after x ids within id = record {
  len = length-set now i after ∙ ids.len;
  same = λ k d below. elim (eqb_tells k i) [
    | inl same ↦ rw (get_or-set_at now i k after d same.1 within)
        (id ∙ ap (λ it. it.id) (default_free now i x d within) ∙ ap (λ (j : ℕ). (get_or now j d).id) (sym same.1) ∙ ids.same k d below)
    | inr other ↦ rw (get_or-set_other now i k after d other.1) (ids.same k d below)
  ];
}

-- what waits for connections that are marked
pub marked_among : {T : Type 0} (is_told : ℕ → Bool) (old new : List (Connection T)) (id : ℕ) (octets : List ℕ) → MarkAll is_told old new → WaitsAmong new id octets → WaitsAmong old id octets
marked_among is_told old new id octets marks among =
    let s = among_at new id octets among in
    let len = marks.len in
    let within : s.place < length new = s.within in
    let below : s.place < length old = omega arith in
    let is = marks.marks s.place s.one below in
    let the_id : (get_or old s.place s.one).id ≡ id = sym (ap (λ it. it.id) is) ∙ ap (λ it. it.id) (s.at s.one) ∙ s.is in
    let the_octets : waiting (get_or old s.place s.one).queue ≡ octets = sym (ap (λ it. waiting it.queue) is) ∙ ap (λ it. waiting it.queue) (s.at s.one) ∙ s.waits in
    subst (λ (j : ℕ). WaitsAmong old j octets) the_id (subst (λ (l : List ℕ). WaitsAmong old (get_or old s.place s.one).id l) the_octets (place_among old s.place s.one below))

pub taken_whole : {X : Type 0} (n : ℕ) (xs ys : List X) → n ≡ length xs → take n (xs ++ ys) ≡ xs
taken_whole n [] ys is = rw is refl
taken_whole zero (x ∷ xs) ys is = absurd (omega arith)
taken_whole (suc n) (x ∷ xs) ys is = ap (λ l. x ∷ l) (taken_whole n xs ys (omega arith))

-- a new id is apart from those that were given
pub apart_push : {T : Type 0} (opened departing : List (Connection T)) (one : Connection T) (last : ℕ) → All (λ (b : Connection T). All (λ (a : Connection T). a.id ≢ b.id) opened) departing
    → All (λ (b : Connection T). b.id ≤ last) departing → last < one.id → All (λ (b : Connection T). All (λ (a : Connection T). a.id ≢ b.id) (opened ++ one ∷ [])) departing
apart_push opened departing one last apart given above k d within =
    All-push (λ a. a.id ≢ (get_or departing k d).id) opened one (apart k d within) (λ same. let under = given k d within in absurd (omega arith))

pub rising_push : {T : Type 0} (opened : List (Connection T)) (one : Connection T) (last : ℕ) → AllPairs (λ a b. a.id < b.id) opened → All (λ (a : Connection T). a.id ≤ last) opened → last < one.id
    → AllPairs (λ (a b : Connection T). a.id < b.id) (opened ++ one ∷ [])
rising_push opened one last rising given above = all_pairs_push (λ a b. a.id < b.id) opened one rising (λ k d within. let under = given k d within in omega arith)

pub given_push : {T : Type 0} (opened : List (Connection T)) (one : Connection T) (last now : ℕ) → All (λ (a : Connection T). a.id ≤ last) opened → last ≤ now → one.id ≤ now
    → All (λ (a : Connection T). a.id ≤ now) (opened ++ one ∷ [])
given_push opened one last now given up is = All-push (λ a. a.id ≤ now) opened one (λ k d within. let under = given k d within in omega arith) is

-- what stands before a place was changed so, and the rest is as it was
pub record ChangeUpTo {X : Type 0} (Changes : X → X → Type 0) (old now : List X) (i : ℕ) : Type 0 where
  pub len : length now ≡ length old
  pub changes : (k : ℕ) (d : X) → k < i → k < length old → Changes (get_or old k d) (get_or now k d)
  pub rest : (k : ℕ) (d : X) → i ≤ k → k < length old → get_or now k d ≡ get_or old k d

pub change_none : {X : Type 0} (Changes : X → X → Type 0) (all : List X) → ChangeUpTo Changes all all 0
change_none Changes all = record { len = refl; changes = λ k d before within. absurd (omega (arith, before)); rest = λ k d from within. refl }

pub change_more : {X : Type 0} (Changes : X → X → Type 0) (old now : List X) (i : ℕ) (one after : X) → i < length now → get_or now i one ≡ one → Changes one after
    → ChangeUpTo Changes old now i → ChangeUpTo Changes old (set now i after) (i + 1)
change_more {X} Changes old now i one after in_now is changed all =
    let len = all.len in
    let within : i < length old = omega (arith, in_now) in
    let was : (d : X) → get_or old i d ≡ one = λ d. sym (all.rest i d (omega arith) within) ∙ default_free now i d one in_now ∙ is in
    record {
      len = length-set now i after ∙ len;
      changes = λ k d before below. elim (eqb_tells k i) [
        | inl same ↦
            let at : get_or old k d ≡ one = ap (λ (j : ℕ). get_or old j d) same.1 ∙ was d in
            rw (get_or-set_at now i k after d same.1 in_now, at) changed
        | inr other ↦ rw (get_or-set_other now i k after d other.1) (all.changes k d (omega (arith, before, other.1)) below)
      ];
      rest = λ k d from below. rw (get_or-set_other now i k after d (λ same. absurd (omega (arith, from, same)))) (all.rest k d (omega (arith, from)) below);
    }

-- all of it
pub change_whole : {X : Type 0} (Changes : X → X → Type 0) (old now : List X) (i : ℕ) → length old ≤ i → ChangeUpTo Changes old now i
    → (k : ℕ) (d : X) → k < length old → Changes (get_or old k d) (get_or now k d)
change_whole Changes old now i whole all k d within = all.changes k d (omega (arith, whole, within)) within

-- the same, by changes in which something happened or didn't
pub record MoveUpTo {X : Type 0} (Changes : X → X → Bool → Type 0) (old now : List X) (i : ℕ) (moved : Bool) : Type 0 where
  pub len : length now ≡ length old
  pub moves : List Bool
  pub count : length moves ≡ i
  pub within : i ≤ length old
  pub has_moved : moved ≡ any moves
  pub changes : (k : ℕ) (d : X) → k < i → k < length old → Changes (get_or old k d) (get_or now k d) (get_or moves k false)
  pub rest : (k : ℕ) (d : X) → i ≤ k → k < length old → get_or now k d ≡ get_or old k d

pub move_none : {X : Type 0} (Changes : X → X → Bool → Type 0) (all : List X) → MoveUpTo Changes all all 0 false
move_none Changes all = record {
  len = refl;
  moves = [];
  count = refl;
  within = omega arith;
  has_moved = refl;
  changes = λ k d before within. absurd (omega (arith, before));
  rest = λ k d from within. refl;
}

pub move_more : {X : Type 0} (Changes : X → X → Bool → Type 0) (old now : List X) (i : ℕ) (one after : X) (before here both : Bool) → i < length now → get_or now i one ≡ one → both ≡ before || here
    → Changes one after here → MoveUpTo Changes old now i before → MoveUpTo Changes old (set now i after) (i + 1) both
move_more {X} Changes old now i one after before here both in_now is moved changed all =
    let len = all.len in
    let count = all.count in
    let within : i < length old = omega (arith, in_now) in
    let was : (d : X) → get_or old i d ≡ one = λ d. sym (all.rest i d (omega arith) within) ∙ default_free now i d one in_now ∙ is in
    record {
      len = length-set now i after ∙ len;
      moves = all.moves ++ here ∷ [];
      count = length-append all.moves (here ∷ []) ∙ ap (λ n. n + 1) count;
      within = omega (arith, within);
      has_moved = moved ∙ ap (λ b. b || here) all.has_moved ∙ sym (any_more all.moves here);
      changes = λ k d under below. elim (eqb_tells k i) [
        | inl same ↦
            let at : get_or old k d ≡ one = ap (λ (j : ℕ). get_or old j d) same.1 ∙ was d in
            rw (get_or-set_at now i k after d same.1 in_now, at, last_move all.moves k here (same.1 ∙ sym count)) changed
        | inr other ↦
            let earlier : k < i = omega (arith, under, other.1) in
            rw (get_or-set_other now i k after d other.1, front_move all.moves here k (omega (arith, earlier, count))) (all.changes k d earlier below)
      ];
      rest = λ k d from below. rw (get_or-set_other now i k after d (λ same. absurd (omega (arith, from, same)))) (all.rest k d (omega (arith, from)) below);
    }

-- one more is at rest
pub idle_more : {T : Type 0} (now : List (Connection T)) (i : ℕ) (after : Connection T) → i < length now → ((k : ℕ) (d : Connection T) → k < i → k < length now → HasNothingToDo (get_or now k d))
    → HasNothingToDo after → (k : ℕ) (d : Connection T) → k < i + 1 → k < length (set now i after) → HasNothingToDo (get_or (set now i after) k d)
idle_more now i after in_now before idle k d below within =
    let len : length (set now i after) ≡ length now = length-set now i after in
    elim (eqb_tells k i) [
      | inl same ↦ rw (get_or-set_at now i k after d same.1 in_now) idle
      | inr other ↦ rw (get_or-set_other now i k after d other.1) (before k d (omega (arith, below, other.1)) (omega (arith, len, within)))
    ]

-- ids that are apart stay so
pub apart_kept : {T : Type 0} (xs ys us vs : List (Connection T)) → HaveSameIds xs ys → HaveSameIds us vs → All (λ (b : Connection T). All (λ (a : Connection T). a.id ≢ b.id) xs) us
    → All (λ (b : Connection T). All (λ (a : Connection T). a.id ≢ b.id) ys) vs
apart_kept xs ys us vs ids others apart k d within i e in_ys same =
    let len = ids.len in
    let other_len = others.len in
    let in_us : k < length us = omega (arith, other_len, within) in
    let in_xs : i < length xs = omega (arith, len, in_ys) in
    apart k d in_us i e in_xs (sym (ids.same i e in_xs) ∙ same ∙ others.same k d in_us)
