-- Runs of three octets that an index holds, and those that it leaves out.
use Rattle.std.proofs.Common.{◌≡◌, ℕ, ◌+◌, ◌-◌, ◌<◌, ◌≤◌, Bool, true, false, cond, ◌&&◌, ◌||◌, List, [], ◌∷◌, drop, length, get_or, filter, refl, ap, sym, ◌∙◌}
use Rattle.std.specs.List.{list_any, range_with_len}
use Rattle.std.specs.Str.{bytes_eq}
use Rattle.std.proofs.lemmas.Bool.{false≢true}
use Rattle.std.proofs.lemmas.List.Elements.{filter_agree}
use Rattle.std.proofs.lemmas.Slice.Eq.{bytes_eq-Decides}
use Rattle.store_derived.specs.Derived.{grams}
use Rattle.store_derived.proofs.PieceLemmas.{gram_to_end, no_more}
use Rattle.store_places.specs.Places.{key_at, places_where}
use Rattle.store_pieces.specs.Selected.{has_piece, has_gram}
use Rattle.store_derived.specs.KeptGrams.{is_kept_gram, kept_grams}

-- ---- a run that is held is in a key where it is one of the key's that are held

differs : (a b : List ℕ) → is_kept_gram a ≡ true → is_kept_gram b ≡ false → (e : Bool) → bytes_eq a b ≡ e → e ≡ false
differs a b kept out true e =
    let same : a ≡ b = (bytes_eq-Decides a b).0 e in
    absurd (false≢true (sym out ∙ ap is_kept_gram (sym same) ∙ kept))
differs a b kept out false e = refl

any_kept : (g : List ℕ) (gs : List (List ℕ)) → is_kept_gram g ≡ true → list_any (bytes_eq g) (filter is_kept_gram gs) ≡ list_any (bytes_eq g) gs
any_kept g [] kept = refl
any_kept g (x ∷ xs) kept = by (is_kept_gram x) refl (any_kept g xs kept)
  where
    by : (b : Bool) → is_kept_gram x ≡ b → list_any (bytes_eq g) (filter is_kept_gram xs) ≡ list_any (bytes_eq g) xs → list_any (bytes_eq g) (cond b (x ∷ filter is_kept_gram xs) (filter is_kept_gram xs)) ≡ list_any (bytes_eq g) (x ∷ xs)
    by true e same = ap (λ b. bytes_eq g x || b) same
    by false e same = same ∙ ap (λ b. b || list_any (bytes_eq g) xs) (sym (differs g x kept e (bytes_eq g x) refl))

pub kept_where : (g : List ℕ) (keys : List (List ℕ)) → is_kept_gram g ≡ true → places_where (has_piece kept_grams g) keys ≡ places_where (has_gram g) keys
kept_where g keys kept = filter_agree _ _ (λ place. any_kept g (grams (key_at keys place)) kept) (range_with_len 0 (length keys))

-- ---- one test behind another

twice : (p q : ℕ → Bool) (xs : List ℕ) → filter q (filter p xs) ≡ filter (λ x. p x && q x) xs
twice p q [] = refl
twice p q (x ∷ xs) = by (p x) (twice p q xs)
  where
    by : (b : Bool) → filter q (filter p xs) ≡ filter (λ x. p x && q x) xs → filter q (cond b (x ∷ filter p xs) (filter p xs)) ≡ cond (b && q x) (x ∷ filter (λ x. p x && q x) xs) (filter (λ x. p x && q x) xs)
    by true same = ap (λ l. cond (q x) (x ∷ l) l) same
    by false same = same

pub where_both : (p q : List ℕ → Bool) (keys : List (List ℕ)) → filter (λ place. q (key_at keys place)) (places_where p keys) ≡ places_where (λ key. p key && q key) keys
where_both p q keys = twice (λ place. p (key_at keys place)) (λ place. q (key_at keys place)) (range_with_len 0 (length keys))

-- ---- the runs of a key, one after another

pub kept_next : (key : List ℕ) (end : ℕ) → 3 ≤ end → end < length key + 1 → is_kept_gram (get_or key (end - 3) 0 ∷ get_or key (end - 2) 0 ∷ get_or key (end - 1) 0 ∷ []) ≡ true
    → kept_grams (drop (end - 3) key) ≡ (get_or key (end - 3) 0 ∷ get_or key (end - 2) 0 ∷ get_or key (end - 1) 0 ∷ []) ∷ kept_grams (drop (end + 1 - 3) key)
kept_next key end low fits kept =
    let g = get_or key (end - 3) 0 ∷ get_or key (end - 2) 0 ∷ get_or key (end - 1) 0 ∷ [] in
    let rest = kept_grams (drop (end + 1 - 3) key) in
    ap (filter is_kept_gram) (gram_to_end key end low fits) ∙ ap (λ b. cond b (g ∷ rest) rest) kept

pub left_out_next : (key : List ℕ) (end : ℕ) → 3 ≤ end → end < length key + 1 → is_kept_gram (get_or key (end - 3) 0 ∷ get_or key (end - 2) 0 ∷ get_or key (end - 1) 0 ∷ []) ≡ false
    → kept_grams (drop (end - 3) key) ≡ kept_grams (drop (end + 1 - 3) key)
left_out_next key end low fits out =
    let g = get_or key (end - 3) 0 ∷ get_or key (end - 2) 0 ∷ get_or key (end - 1) 0 ∷ [] in
    let rest = kept_grams (drop (end + 1 - 3) key) in
    ap (filter is_kept_gram) (gram_to_end key end low fits) ∙ ap (λ b. cond b (g ∷ rest) rest) out

pub no_more_kept : (key : List ℕ) (n : ℕ) → length key < n + 3 → kept_grams (drop n key) ≡ []
no_more_kept key n past = ap (filter is_kept_gram) (no_more key n past)

-- ---- a run looked for among them

pub has_next : (g key : List ℕ) (end : ℕ) → 3 ≤ end → end < length key + 1
    → has_gram g (drop (end - 3) key) ≡ (bytes_eq g (get_or key (end - 3) 0 ∷ get_or key (end - 2) 0 ∷ get_or key (end - 1) 0 ∷ []) || has_gram g (drop (end + 1 - 3) key))
has_next g key end low fits = ap (list_any (bytes_eq g)) (gram_to_end key end low fits)

-- two runs whose octets in the midst differ are others
pub others : (g : List ℕ) (a b d : ℕ) → (b ≡ get_or g 1 0 → ⊥) → false ≡ bytes_eq g (a ∷ b ∷ d ∷ [])
others g a b d apart = by (bytes_eq g (a ∷ b ∷ d ∷ [])) refl
  where
    by : (e : Bool) → bytes_eq g (a ∷ b ∷ d ∷ []) ≡ e → false ≡ e
    by true e = absurd (apart (ap (λ l. get_or l 1 0) (sym ((bytes_eq-Decides g (a ∷ b ∷ d ∷ [])).0 e))))
    by false e = refl

pub has_no_more : (g key : List ℕ) (n : ℕ) → length key < n + 3 → has_gram g (drop n key) ≡ false
has_no_more g key n past = ap (list_any (bytes_eq g)) (no_more key n past)
