-- Entries that show the same text, each linked to the last one before it.
use Rattle.std.proofs.Common.{◌≡◌, ℕ, zero, suc, ◌≤◌, ◌<◌, List, [], ◌∷◌, ◌++◌, length, get_or, map, take, drop, refl, sym, ap, subst, ◌∙◌, cond, ◌||◌, Bool, true, false, bytes_eq, arith}
use Rattle.std.specs.Prelude.{filter, slice_get, Option, Some, None, option_map, IfSome}
use Rattle.std.specs.List.{list_any}
use Rattle.std.proofs.lemmas.List.{take-append-drop, take-take, drop-append-le, drop_all, map-append, length-append}
use Rattle.std.proofs.lemmas.List.Elements.{filter-append}
use Rattle.std.proofs.lemmas.List.Folds.{list_any-append}
use Rattle.std.proofs.lemmas.Option.{slice_get_within, slice_get_read}
use Rattle.std.proofs.lemmas.Slice.Eq.{bytes_eq-Decides}
use Rattle.dict_desk.specs.PlainEntries.{shown_by, up_to, IsLastShown, AreLinked}
use Rattle.dict_desk.specs.declared.entries.OwnedEntry.{OwnedEntry}

or_none : (b : Bool) → (b || false) ≡ b
or_none true = refl
or_none false = refl

or_true : (b : Bool) → (b || true) ≡ true
or_true true = refl
or_true false = refl

-- an entry that was read
pub read_at : (xs : List OwnedEntry) (i : ℕ) (x : OwnedEntry) → i < length xs → x ≡ get_or xs i x → slice_get xs i ≡ Some x
read_at xs i x below is = slice_get_read xs (length xs) i x refl below is

-- ---- the last entry that shows a text

shown_within : (xs : List OwnedEntry) (t : List ℕ) (i : ℕ) → option_map shown_by (slice_get xs i) ≡ Some t → i < length xs
shown_within [] t i e = cc
shown_within (x ∷ xs) t zero e = omega arith
shown_within (x ∷ xs) t (suc i) e = omega (arith, shown_within xs t i e)

pub last_within : (xs : List OwnedEntry) (t : List ℕ) (last : Option ℕ) → IsLastShown xs t last → up_to last ≤ length xs
last_within xs t None h = omega arith
last_within xs t (Some i) h = omega (arith, shown_within xs t i h.shows)

shown_front : (xs : List OwnedEntry) (t : List ℕ) (n i : ℕ) → option_map shown_by (slice_get (take n xs) i) ≡ Some t → option_map shown_by (slice_get xs i) ≡ Some t
shown_front xs t zero i e = cc
shown_front [] t (suc n) i e = e
shown_front (x ∷ xs) t (suc n) zero e = e
shown_front (x ∷ xs) t (suc n) (suc i) e = shown_front xs t n i e

shown_longer : (xs ys : List OwnedEntry) (t : List ℕ) (i : ℕ) → option_map shown_by (slice_get xs i) ≡ Some t → option_map shown_by (slice_get (xs ++ ys) i) ≡ Some t
shown_longer [] ys t i e = cc
shown_longer (x ∷ xs) ys t zero e = e
shown_longer (x ∷ xs) ys t (suc i) e = shown_longer xs ys t i e

shown_last : (xs : List OwnedEntry) (k : OwnedEntry) → slice_get (xs ++ k ∷ []) (length xs) ≡ Some k
shown_last [] k = refl
shown_last (x ∷ xs) k = shown_last xs k

-- one more entry, which shows it
pub last_here : (xs : List OwnedEntry) (k : OwnedEntry) (t : List ℕ) → shown_by k ≡ t → IsLastShown (xs ++ k ∷ []) t (Some (length xs))
last_here xs k t e = record {
  shows = ap (option_map shown_by) (shown_last xs k) ∙ ap Some e;
  behind = ap (filter (λ entry. bytes_eq t (shown_by entry))) (drop_all (suc (length xs)) (xs ++ k ∷ []) (omega (arith, length-append xs (k ∷ []))));
}

-- one more entry, which shows another
pub last_there : (xs : List OwnedEntry) (k : OwnedEntry) (t : List ℕ) (last : Option ℕ) → bytes_eq t (shown_by k) ≡ false → IsLastShown xs t last → IsLastShown (xs ++ k ∷ []) t last
last_there xs k t last other h = record {
  shows = by_last last h.shows;
  behind =
      ap (filter (λ entry. bytes_eq t (shown_by entry))) (drop-append-le (up_to last) xs (k ∷ []) (last_within xs t last h))
      ∙ (filter-append (λ entry. bytes_eq t (shown_by entry)) (drop (up_to last) xs) (k ∷ [])
      ∙ (ap (λ (es : List OwnedEntry). es ++ cond (bytes_eq t (shown_by k)) (k ∷ []) []) h.behind ∙ ap (λ b. cond b (k ∷ []) []) other));
}
  where
    by_last : (o : Option ℕ) → IfSome o (λ i. option_map shown_by (slice_get xs i) ≡ Some t) → IfSome o (λ i. option_map shown_by (slice_get (xs ++ k ∷ []) i) ≡ Some t)
    by_last None e = tt
    by_last (Some i) e = shown_longer xs (k ∷ []) t i e

-- ---- one more entry with its link

at_more : (xs : List OwnedEntry) (k : OwnedEntry) (i : ℕ) (e : OwnedEntry) (P : List OwnedEntry → OwnedEntry → Type 0) → slice_get (xs ++ k ∷ []) i ≡ Some e → (slice_get xs i ≡ Some e → P (take i xs) e) → P xs k
    → P (take i (xs ++ k ∷ [])) e
at_more [] k zero e P is early late = let same : k ≡ e = cc in subst (P []) same late
at_more [] k (suc i) e P is early late = cc
at_more (x ∷ xs) k zero e P is early late = early is
at_more (x ∷ xs) k (suc i) e P is early late = at_more xs k i e (λ front one. P (x ∷ front) one) is early late

pub linked_more : (xs : List OwnedEntry) (k : OwnedEntry) → AreLinked xs → IsLastShown xs (shown_by k) k.said.value.earlier → AreLinked (xs ++ k ∷ [])
linked_more xs k links last i e is = at_more xs k i e (λ front one. IsLastShown front (shown_by one) one.said.value.earlier) is (links i e) last

-- ---- from an entry back along its links

pub take_here : {X : Type 0} (xs : List X) (i : ℕ) (x : X) → slice_get xs i ≡ Some x → take (suc i) xs ≡ take i xs ++ x ∷ []
take_here [] i x e = cc
take_here (y ∷ xs) zero x e = let same : y ≡ x = cc in ap (λ z. z ∷ []) same
take_here (y ∷ xs) (suc i) x e = ap (λ zs. y ∷ zs) (take_here xs i x e)

module _ (p : OwnedEntry → Bool) where
  -- one of those that p finds shows the text
  abbrev pub is_among : List ℕ → List OwnedEntry → Bool
  is_among t xs = list_any (bytes_eq t) (map shown_by (filter p xs))

  among_append : (t : List ℕ) (xs ys : List OwnedEntry) → is_among t (xs ++ ys) ≡ (is_among t xs || is_among t ys)
  among_append t xs ys =
      ap (λ zs. list_any (bytes_eq t) (map shown_by zs)) (filter-append p xs ys)
      ∙ (ap (list_any (bytes_eq t)) (map-append shown_by (filter p xs) (filter p ys)) ∙ list_any-append (bytes_eq t) (map shown_by (filter p xs)) (map shown_by (filter p ys)))

  among_none : (t : List ℕ) (ys : List OwnedEntry) → filter (λ entry. bytes_eq t (shown_by entry)) ys ≡ [] → is_among t ys ≡ false
  among_none t [] e = refl
  among_none t (y ∷ ys) e = by_both (bytes_eq t (shown_by y)) (p y) refl e (among_none t ys)
    where
      by_both : (b h : Bool) → bytes_eq t (shown_by y) ≡ b → cond b (y ∷ filter (λ entry. bytes_eq t (shown_by entry)) ys) (filter (λ entry. bytes_eq t (shown_by entry)) ys) ≡ []
          → (filter (λ entry. bytes_eq t (shown_by entry)) ys ≡ [] → is_among t ys ≡ false) → list_any (bytes_eq t) (map shown_by (cond h (y ∷ filter p ys) (filter p ys))) ≡ false
      by_both true h is e more = cc
      by_both false true is e more = ap (λ c. c || is_among t ys) is ∙ more e
      by_both false false is e more = more e

  last_all : (t : List ℕ) (xs : List OwnedEntry) (last : Option ℕ) → IsLastShown xs t last → is_among t xs ≡ is_among t (take (up_to last) xs)
  last_all t xs last h =
      ap (is_among t) (sym (take-append-drop (up_to last) xs))
      ∙ (among_append t (take (up_to last) xs) (drop (up_to last) xs)
      ∙ (ap (λ b. is_among t (take (up_to last) xs) || b) (among_none t (drop (up_to last) xs) h.behind) ∙ or_none (is_among t (take (up_to last) xs))))

  step_found : (t : List ℕ) (xs : List OwnedEntry) (i : ℕ) (x : OwnedEntry) → slice_get xs i ≡ Some x → t ≡ shown_by x → p x ≡ true → is_among t (take (suc i) xs) ≡ true
  step_found t xs i x e same hit =
      ap (is_among t) (take_here xs i x e)
      ∙ (among_append t (take i xs) (x ∷ [])
      ∙ (ap (λ b. is_among t (take i xs) || list_any (bytes_eq t) (map shown_by (cond b (x ∷ []) []))) hit
      ∙ (ap (λ b. is_among t (take i xs) || (b || false)) ((bytes_eq-Decides t (shown_by x)).1 same) ∙ or_true (is_among t (take i xs)))))

  step_other : (t : List ℕ) (xs : List OwnedEntry) (i : ℕ) (x : OwnedEntry) → slice_get xs i ≡ Some x → p x ≡ false → is_among t (take (suc i) xs) ≡ is_among t (take i xs)
  step_other t xs i x e other =
      ap (is_among t) (take_here xs i x e)
      ∙ (among_append t (take i xs) (x ∷ [])
      ∙ (ap (λ b. is_among t (take i xs) || list_any (bytes_eq t) (map shown_by (cond b (x ∷ []) []))) other ∙ or_none (is_among t (take i xs))))

  -- of the entries before a place, those that show the text stand up to here, but for such as p doesn't find
  pub record Walks (xs : List OwnedEntry) (t : List ℕ) (place : ℕ) (last : Option ℕ) : Type 0 where
    pub within : up_to last ≤ length xs
    pub shows : IfSome last (λ i. option_map shown_by (slice_get xs i) ≡ Some t)
    pub same : is_among t (take place xs) ≡ is_among t (take (up_to last) xs)

  pub walk_begins : (xs : List OwnedEntry) (place : ℕ) (x : OwnedEntry) → AreLinked xs → slice_get xs place ≡ Some x → Walks xs (shown_by x) place x.said.value.earlier
  walk_begins xs place x links e =
      let last = links place x e in
      let below : up_to x.said.value.earlier ≤ place = omega (arith, last_within (take place xs) (shown_by x) x.said.value.earlier last, short place xs) in
      record {
        within = omega (arith, below, slice_get_within xs place x e);
        shows = by_last x.said.value.earlier last.shows;
        same = last_all (shown_by x) (take place xs) x.said.value.earlier last ∙ ap (is_among (shown_by x)) (take-take (up_to x.said.value.earlier) place xs below);
      }
    where
      short : (n : ℕ) (ys : List OwnedEntry) → length (take n ys) ≤ n
      short zero ys = omega arith
      short (suc n) [] = omega arith
      short (suc n) (y ∷ ys) = omega (arith, short n ys)

      by_last : (o : Option ℕ) → IfSome o (λ i. option_map shown_by (slice_get (take place xs) i) ≡ Some (shown_by x)) → IfSome o (λ i. option_map shown_by (slice_get xs i) ≡ Some (shown_by x))
      by_last None h = tt
      by_last (Some i) h = shown_front xs (shown_by x) place i h

  shows_it : (xs : List OwnedEntry) (t : List ℕ) (i : ℕ) (x : OwnedEntry) → slice_get xs i ≡ Some x → option_map shown_by (slice_get xs i) ≡ Some t → t ≡ shown_by x
  shows_it xs t i x e h = let same : Some (shown_by x) ≡ Some t = sym (ap (option_map shown_by) e) ∙ h in cc

  pub walk_on : (xs : List OwnedEntry) (t : List ℕ) (place i : ℕ) (x : OwnedEntry) → AreLinked xs → slice_get xs i ≡ Some x → p x ≡ false → Walks xs t place (Some i) → Walks xs t place x.said.value.earlier
  walk_on xs t place i x links e other walk =
      let begun = subst (λ (text : List ℕ). Walks xs text i x.said.value.earlier) (sym (shows_it xs t i x e walk.shows)) (walk_begins xs i x links e) in
      record { within = begun.within; shows = begun.shows; same = walk.same ∙ (step_other t xs i x e other ∙ begun.same) }

  -- each step leads further back
  pub walk_back : (xs : List OwnedEntry) (i : ℕ) (x : OwnedEntry) → AreLinked xs → slice_get xs i ≡ Some x → up_to x.said.value.earlier ≤ i
  walk_back xs i x links e = omega (arith, last_within (take i xs) (shown_by x) x.said.value.earlier (links i x e), short i xs)
    where
      short : (n : ℕ) (ys : List OwnedEntry) → length (take n ys) ≤ n
      short zero ys = omega arith
      short (suc n) [] = omega arith
      short (suc n) (y ∷ ys) = omega (arith, short n ys)

  pub walk_found : (xs : List OwnedEntry) (t : List ℕ) (place i : ℕ) (x : OwnedEntry) → slice_get xs i ≡ Some x → p x ≡ true → Walks xs t place (Some i) → true ≡ is_among t (take place xs)
  walk_found xs t place i x e hit walk = sym (walk.same ∙ step_found t xs i x e (shows_it xs t i x e walk.shows) hit)
