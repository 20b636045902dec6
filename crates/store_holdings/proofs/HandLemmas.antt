-- Rows that are handed out one after another.
use Rattle.std.proofs.Common.{◌≡◌, ℕ, zero, suc, ◌+◌, ◌<◌, List, [], ◌∷◌, ◌++◌, take, drop, get_or, length, refl, sym, ap, subst, ◌∙◌, arith}
use Rattle.std.specs.Prelude.{Result, Ok, map}
use Rattle.dict_index.specs.Found.{Row, row}
use Rattle.dict_desk.specs.declared.fault.Fault.{Fault}
use Rattle.store_search.specs.Entries.{Indexed, entry_at, entries_at, row_in}
use Rattle.dict_desk.specs.declared.sink.Demand.{Demand}
use Rattle.dict_desk.specs.declared.sink.Demand.TheVariants.{More, Stop}

-- what a list is made into, element by element
module _ {X Y : Type 0} (r : X → Y) (made : List X → List Y) (none : made [] ≡ []) (one : (x : X) (xs : List X) → made (x ∷ xs) ≡ r x ∷ made xs) where
  -- the front, the next element, and those behind
  pub made_cut : (xs : List X) (i : ℕ) (d : X) → i < length xs → made xs ≡ made (take i xs) ++ ((r (get_or xs i d) ∷ []) ++ made (drop (suc i) xs))
  made_cut [] i d below = absurd (omega arith)
  made_cut (x ∷ xs) zero d below = subst (λ (l : List Y). made (x ∷ xs) ≡ l ++ ((r x ∷ []) ++ made xs)) (sym none) (one x xs)
  made_cut (x ∷ xs) (suc i) d below =
      one x xs ∙ (ap (λ (ys : List Y). r x ∷ ys) (made_cut xs i d (omega arith)) ∙ ap (λ (ys : List Y). ys ++ ((r (get_or xs i d) ∷ []) ++ made (drop (suc i) xs))) (sym (one x (take i xs))))

  made_next : (xs : List X) (i : ℕ) (d : X) → i < length xs → made (take (suc i) xs) ≡ made (take i xs) ++ r (get_or xs i d) ∷ []
  made_next [] i d below = absurd (omega arith)
  made_next (x ∷ xs) zero d below = one x [] ∙ (ap (λ (ys : List Y). r x ∷ ys) none ∙ ap (λ (ys : List Y). ys ++ r x ∷ []) (sym none))
  made_next (x ∷ xs) (suc i) d below = one x (take (suc i) xs) ∙ (ap (λ (ys : List Y). r x ∷ ys) (made_next xs i d (omega arith)) ∙ ap (λ (ys : List Y). ys ++ r (get_or xs i d) ∷ []) (sym (one x (take i xs))))

  -- one element more
  pub made_more : (xs : List X) (i : ℕ) (d : X) → i < length xs → made (take (i + 1) xs) ≡ made (take i xs) ++ r (get_or xs i d) ∷ []
  made_more xs i d below =
      let next : suc i ≡ i + 1 = omega arith in
      subst (λ (n : ℕ). made (take n xs) ≡ made (take i xs) ++ r (get_or xs i d) ∷ []) next (made_next xs i d below)

pub more_by : (turn : Demand) → (turn ≡ Stop → ⊥) → turn ≡ More
more_by More apart = refl
more_by Stop apart = absurd (apart refl)

-- what a sink wants, as the value of a call that didn't fail
abbrev wants : Demand → Result Demand Fault
wants demand = Ok demand

pub ok_demand : (a b : Demand) → wants a ≡ wants b → a ≡ b
ok_demand a b e = cc

pub demand_ok : (a b : Demand) → a ≡ b → wants a ≡ wants b
demand_ok a b e = ap wants e

-- the row of an entry with its text
pub entry_row : (text : List ℕ) (entry : Indexed) (shown octets : List ℕ) (start size : ℕ) → shown ≡ entry.shown → start ≡ entry.start → size ≡ entry.size → octets ≡ take size (drop start text) → row shown octets ≡ row_in text entry
entry_row text entry shown octets start size a b c is = λ i. row (a i) ((is ∙ (λ j. take (c j) (drop (b j) text))) i)

-- those before a place, and the others
pub made_front : (r : Indexed → Row) (index : List Indexed) (places : List ℕ) (i : ℕ) → map r (entries_at index places) ≡ map r (entries_at index (take i places)) ++ map r (entries_at index (drop i places))
made_front r index places zero = zero_front places
  where
    zero_front : (places : List ℕ) → map r (entries_at index places) ≡ map r (entries_at index (take 0 places)) ++ map r (entries_at index (drop 0 places))
    zero_front [] = refl
    zero_front (place ∷ places) = refl
made_front r index [] (suc i) = refl
made_front r index (place ∷ places) (suc i) = ap (λ (l : List Row). r (entry_at index place) ∷ l) (made_front r index places i)

-- what was taken, where the sink is as it was
pub still_takes : {S R : Type 0} (takes : S → R → S → Type 0) (a b c : S) (rows : R) → c ≡ b → takes a rows b → takes a rows c
still_takes {S} takes a b c rows same h = subst (λ (s : S). takes a rows s) (sym same) h
