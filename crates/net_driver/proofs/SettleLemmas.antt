-- Those that are no longer open, parted from those that are.
use Rattle.std.proofs.Common.{◌≡◌, ◌<◌, ◌≤◌, ◌+◌, ◌-◌, ℕ, zero, suc, Bool, true, false, cond, List, [], ◌∷◌, ◌++◌, length, get_or, drop, refl, sym, ap, ◌∙◌, arith, append_assoc, append-nil, length-append, length-drop}
use Rattle.std.specs.List.{filter, remove}
use Rattle.std.proofs.lemmas.List.{drop-append-le, drop-drop}
use Rattle.std.proofs.lemmas.List.Elements.{filter-append}
use Rattle.net_connection.specs.Stages.{is_departing, is_open}
use Rattle.std.specs.Prelude.{nat_le, if◌then◌else◌}
use Rattle.net_driver.specs.Rounds.{connections_fitting, latest, room_of}
use Rattle.net_connection.specs.declared.connection.Connection.{Connection}
use Rattle.net_connection.specs.declared.stage.Stage.{Stage}
use Rattle.net_connection.specs.declared.stage.Stage.TheVariants as stages

-- all of a few
pub latest_few : {A : Type 0} (n : ℕ) (xs : List A) → length xs ≤ n → latest n xs ≡ xs
latest_few n xs few = let none : length xs - n ≡ 0 = omega arith in rw none refl

-- one more
pub latest_more : {A : Type 0} (n : ℕ) (xs : List A) (x : A) → latest n xs ++ x ∷ [] ≡ latest (n + 1) (xs ++ x ∷ [])
latest_more n xs x =
    let len : length (xs ++ x ∷ []) ≡ length xs + 1 = length-append xs (x ∷ []) in
    let same : length (xs ++ x ∷ []) - (n + 1) ≡ length xs - n = omega (arith, len) in
    rw same (sym (drop-append-le (length xs - n) xs (x ∷ []) (omega arith)))

-- the last ones of the last ones and of some more
pub latest_twice : {A : Type 0} (n : ℕ) (xs ys : List A) → latest n (latest n xs ++ ys) ≡ latest n (xs ++ ys)
latest_twice n xs ys =
    let m = length xs - n in
    let front : latest n xs ++ ys ≡ drop m (xs ++ ys) = sym (drop-append-le m xs ys (omega arith)) in
    let len : length (drop m (xs ++ ys)) ≡ length (xs ++ ys) - m = length-drop m (xs ++ ys) in
    let all : length (xs ++ ys) ≡ length xs + length ys = length-append xs ys in
    let same : m + (length (xs ++ ys) - m - n) ≡ length (xs ++ ys) - n = omega (arith, all) in
    ap (λ l. latest n l) front ∙ ap (λ k. drop (k - n) (drop m (xs ++ ys))) len ∙ drop-drop (length (xs ++ ys) - m - n) m (xs ++ ys) ∙ ap (λ k. drop k (xs ++ ys)) same

no_more : {A : Type 0} (xs : List A) → length xs ≤ 0 → xs ≡ []
no_more [] few = refl
no_more (x ∷ xs) few = absurd (omega (arith, few))

at_middle : {A : Type 0} (xs : List A) (b : A) (ys : List A) (d : A) (i : ℕ) → length xs ≡ i → get_or (xs ++ b ∷ ys) i d ≡ b
at_middle [] b ys d i len = rw (sym len) refl
at_middle (x ∷ xs) b ys d zero len = absurd (omega (arith, len))
at_middle (x ∷ xs) b ys d (suc i) len = at_middle xs b ys d i (omega (arith, len))

remove_middle : {A : Type 0} (xs : List A) (b : A) (ys : List A) (i : ℕ) → length xs ≡ i → remove (xs ++ b ∷ ys) i ≡ xs ++ ys
remove_middle [] b ys i len = rw (sym len) refl
remove_middle (x ∷ xs) b ys zero len = absurd (omega (arith, len))
remove_middle (x ∷ xs) b ys (suc i) len = ap (λ l. x ∷ l) (remove_middle xs b ys i (omega (arith, len)))

open_stays : (stage : Stage) → is_open stage ≡ true → is_departing stage ≡ false
open_stays stages.Open opens = refl
open_stays stages.Closing opens = cc
open_stays stages.Parting opens = cc
open_stays stages.Draining opens = cc
open_stays stages.Over opens = cc

pub departing_closed : (stage : Stage) → is_departing stage ≡ true → is_open stage ≡ false
departing_closed stages.Open departs = cc
departing_closed stages.Closing departs = refl
departing_closed stages.Parting departs = refl
departing_closed stages.Draining departs = refl
departing_closed stages.Over departs = cc

-- of all that were among the open ones, those of a front are parted
pub record AreParted {T : Type 0} (all opened held departing : List (Connection T)) (place : ℕ) : Type 0 where
  pub front : List (Connection T)
  pub rest : List (Connection T)
  pub whole : all ≡ front ++ rest
  pub opened_are : opened ≡ filter (λ one. is_open one.stage) front ++ rest
  pub at : length (filter (λ (one : Connection T). is_open one.stage) front) ≡ place
  pub departing_are : departing ≡ latest 128 (held ++ filter (λ one. is_departing one.stage) front)

pub parted_none : {T : Type 0} (all held : List (Connection T)) → length held ≤ 128 → AreParted all all held held 0
parted_none all held few = record {
  front = [];
  rest = all;
  whole = refl;
  opened_are = refl;
  at = refl;
  departing_are = sym (ap (λ l. latest 128 l) (append-nil held) ∙ latest_few 128 held few);
}

pub parted_all : {T : Type 0} (all opened held departing : List (Connection T)) (place : ℕ) → length opened ≤ place → AreParted all opened held departing place
    → (opened ≡ filter (λ one. is_open one.stage) all) × (departing ≡ latest 128 (held ++ filter (λ one. is_departing one.stage) all))
parted_all {T} all opened held departing place done p =
    let len : length opened ≡ length (filter (λ (one : Connection T). is_open one.stage) p.front) + length p.rest = ap length p.opened_are ∙ length-append (filter (λ one. is_open one.stage) p.front) p.rest in
    let at = p.at in
    let none : p.rest ≡ [] = no_more p.rest (omega (arith, len, at)) in
    let whole : all ≡ p.front = p.whole ∙ ap (λ l. p.front ++ l) none ∙ append-nil p.front in (
      p.opened_are ∙ ap (λ l. filter (λ one. is_open one.stage) p.front ++ l) none ∙ append-nil (filter (λ one. is_open one.stage) p.front) ∙ ap (λ l. filter (λ one. is_open one.stage) l) (sym whole),
      p.departing_are ∙ ap (λ l. latest 128 (held ++ filter (λ one. is_departing one.stage) l)) (sym whole),
    )

-- the first of the rest
record HasNext {T : Type 0} (all opened held departing : List (Connection T)) (place : ℕ) (x : Connection T) : Type 0 where
  front : List (Connection T)
  rest : List (Connection T)
  whole : all ≡ (front ++ x ∷ []) ++ rest
  opened_are : opened ≡ filter (λ one. is_open one.stage) front ++ x ∷ rest
  at : length (filter (λ (one : Connection T). is_open one.stage) front) ≡ place
  departing_are : departing ≡ latest 128 (held ++ filter (λ one. is_departing one.stage) front)

has_next : {T : Type 0} (all opened held departing : List (Connection T)) (place : ℕ) (x : Connection T) (front rest : List (Connection T)) → place < length opened → get_or opened place x ≡ x
    → all ≡ front ++ rest → opened ≡ filter (λ one. is_open one.stage) front ++ rest → length (filter (λ (one : Connection T). is_open one.stage) front) ≡ place
    → departing ≡ latest 128 (held ++ filter (λ one. is_departing one.stage) front) → HasNext all opened held departing place x
has_next {T} all opened held departing place x front [] within is whole opened_are at departing_are =
    let len : length opened ≡ length (filter (λ (one : Connection T). is_open one.stage) front) = ap length (opened_are ∙ append-nil (filter (λ one. is_open one.stage) front)) in
    absurd (omega (arith, within, len, at))
has_next {T} all opened held departing place x front (y ∷ rest) within is whole opened_are at departing_are =
    let same : y ≡ x = sym (at_middle (filter (λ one. is_open one.stage) front) y rest x place at) ∙ ap (λ l. get_or l place x) (sym opened_are) ∙ is in
    record {
      front = front;
      rest = rest;
      whole = whole ∙ ap (λ z. front ++ z ∷ rest) same ∙ sym (append_assoc front (x ∷ []) rest);
      opened_are = opened_are ∙ ap (λ z. filter (λ one. is_open one.stage) front ++ z ∷ rest) same;
      at = at;
      departing_are = departing_are;
    }

-- one that is open stays
pub parted_open : {T : Type 0} (all opened held departing : List (Connection T)) (place : ℕ) (x : Connection T) → place < length opened → get_or opened place x ≡ x → is_open x.stage ≡ true
    → AreParted all opened held departing place → AreParted all opened held departing (place + 1)
parted_open {T} all opened held departing place x within is opens p =
    let n = has_next all opened held departing place x p.front p.rest within is p.whole p.opened_are p.at p.departing_are in
    let at = n.at in
    let more : filter (λ (one : Connection T). is_open one.stage) (n.front ++ x ∷ []) ≡ filter (λ one. is_open one.stage) n.front ++ x ∷ []
    = filter-append (λ (one : Connection T). is_open one.stage) n.front (x ∷ []) ∙ ap (λ (b : Bool). filter (λ (one : Connection T). is_open one.stage) n.front ++ cond b (x ∷ []) []) opens in
    let none : filter (λ (one : Connection T). is_departing one.stage) (n.front ++ x ∷ []) ≡ filter (λ one. is_departing one.stage) n.front
    = filter-append (λ (one : Connection T). is_departing one.stage) n.front (x ∷ []) ∙ ap (λ (b : Bool). filter (λ (one : Connection T). is_departing one.stage) n.front ++ cond b (x ∷ []) []) (open_stays x.stage opens)
    ∙ append-nil (filter (λ (one : Connection T). is_departing one.stage) n.front) in
    let len : length (filter (λ (one : Connection T). is_open one.stage) n.front ++ x ∷ []) ≡ length (filter (λ (one : Connection T). is_open one.stage) n.front) + 1 = length-append _ (x ∷ []) in
    record {
      front = n.front ++ x ∷ [];
      rest = n.rest;
      whole = n.whole;
      opened_are = n.opened_are ∙ sym (append_assoc (filter (λ one. is_open one.stage) n.front) (x ∷ []) n.rest) ∙ ap (λ l. l ++ n.rest) (sym more);
      at = ap length more ∙ len ∙ ap (λ k. k + 1) at;
      departing_are = n.departing_are ∙ ap (λ l. latest 128 (held ++ l)) (sym none);
    }

-- one that isn't goes
pub parted_close : {T : Type 0} (all opened held departing opened_now departing_now : List (Connection T)) (place : ℕ) (x : Connection T) → place < length opened → get_or opened place x ≡ x → is_open x.stage ≡ false
    → opened_now ≡ remove opened place → departing_now ≡ latest 128 (departing ++ filter (λ one. is_departing one.stage) (x ∷ []))
    → AreParted all opened held departing place → AreParted all opened_now held departing_now place
parted_close {T} all opened held departing opened_now departing_now place x within is closed opened_is departing_is p =
    let n = has_next all opened held departing place x p.front p.rest within is p.whole p.opened_are p.at p.departing_are in
    let same : filter (λ (one : Connection T). is_open one.stage) (n.front ++ x ∷ []) ≡ filter (λ one. is_open one.stage) n.front
    = filter-append (λ (one : Connection T). is_open one.stage) n.front (x ∷ []) ∙ ap (λ (b : Bool). filter (λ (one : Connection T). is_open one.stage) n.front ++ cond b (x ∷ []) []) closed
    ∙ append-nil (filter (λ (one : Connection T). is_open one.stage) n.front) in
    record {
      front = n.front ++ x ∷ [];
      rest = n.rest;
      whole = n.whole;
      opened_are = opened_is ∙ ap (λ l. remove l place) n.opened_are ∙ remove_middle (filter (λ one. is_open one.stage) n.front) x n.rest place n.at ∙ ap (λ l. l ++ n.rest) (sym same);
      at = ap length same ∙ n.at;
      departing_are = departing_is ∙ ap (λ l. latest 128 (l ++ filter (λ one. is_departing one.stage) (x ∷ []))) n.departing_are
          ∙ latest_twice 128 (held ++ filter (λ one. is_departing one.stage) n.front) (filter (λ one. is_departing one.stage) (x ∷ []))
          ∙ ap (λ l. latest 128 l) (append_assoc held (filter (λ one. is_departing one.stage) n.front) (filter (λ one. is_departing one.stage) (x ∷ []))
          ∙ ap (λ l. held ++ l) (sym (filter-append (λ one. is_departing one.stage) n.front (x ∷ []))));
    }

-- ---- those that have room for no more octets together than they may

-- all, where they do
pub fitting_all : {T : Type 0} (most : ℕ) (xs : List (Connection T)) → nat_le (room_of xs) most ≡ true → connections_fitting most xs ≡ xs
fitting_all most [] fits = refl
fitting_all most (x ∷ xs) fits = ap (λ b. if b then x ∷ xs else connections_fitting most xs) fits
