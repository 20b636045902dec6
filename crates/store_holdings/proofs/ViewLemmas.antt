-- The texts of a cache are looked up, taken out and cut as its entries are.
use Rattle.std.proofs.Common.{◌≡◌, ℕ, suc, ◌+◌, ◌-◌, ◌<◌, ◌≤◌, Bool, true, false, cond, List, [], ◌∷◌, length, take, Option, Some, None, Vec, Global, refl, sym, ap, subst, ◌∙◌, arith}
use Rattle.std.specs.Prelude.{option_map, slice_get}
use Rattle.std.specs.Option.{option_map_or}
use Rattle.std.specs.Map.{lookup, lookup_entry, remove_entry}
use Rattle.std.proofs.lemmas.Bool.{eqb-true, and_parts}
use Rattle.std.proofs.lemmas.List.{take-map, take_all, length-map}
use Rattle.std.proofs.lemmas.List.Sums.{sum_by-cons}
use Rattle.std.proofs.lemmas.Option.{slice_get-map, slice_get_within}
use Rattle.lru.specs.LruCache.{LruCache, put_entries, displaced, last_entry}
use Rattle.store_holdings.specs.KeptTexts.{PartNumbers, same_key, most_texts, octets_of_texts, texts_of, fitting, put_first}
use Rattle.store_holdings.proofs.SizeLemmas.{cut_none, cut_some, octets_taken, last_goes, some_there}

abbrev Entries : Type 0
Entries = List (PartNumbers × Vec ℕ Global)

-- keys that are the same
pub same_keys : (a b : PartNumbers) → same_key a b ≡ true → a ≡ b
same_keys (m, i) (n, j) h = let both = and_parts _ _ h in ap (λ (k : ℕ). (k, i)) (eqb-true m n both.0) ∙ ap (λ (k : ℕ). (n, k)) (eqb-true i j both.1)

by_test : {X : Type 0} (f : Vec ℕ Global → X) (b : Bool) (text : Vec ℕ Global) (a : Option (Vec ℕ Global)) (c : Option X) → option_map f a ≡ c → option_map f (cond b (Some text) a) ≡ cond b (Some (f text)) c
by_test f true text a c e = refl
by_test f false text a c e = e

pub texts_looked : (key : PartNumbers) (entries : Entries) → option_map (λ (t : Vec ℕ Global). t.items) (lookup (same_key key) entries) ≡ lookup (same_key key) (texts_of entries)
texts_looked key [] = refl
texts_looked key (e ∷ entries) = by_test (λ (t : Vec ℕ Global). t.items) (same_key key e.0) e.1 (lookup (same_key key) entries) (lookup (same_key key) (texts_of entries)) (texts_looked key entries)

without_test : (b : Bool) (e : PartNumbers × Vec ℕ Global) (entries rest : Entries) (texts : List (PartNumbers × List ℕ)) → texts_of rest ≡ texts → texts_of (cond b entries (e ∷ rest)) ≡ cond b (texts_of entries) ((e.0, e.1.items) ∷ texts)
without_test true e entries rest texts same = refl
without_test false e entries rest texts same = ap (λ l. (e.0, e.1.items) ∷ l) same

pub texts_without : (key : PartNumbers) (entries : Entries) → texts_of (remove_entry (same_key key) entries) ≡ remove_entry (same_key key) (texts_of entries)
texts_without key [] = refl
texts_without key (e ∷ entries) = without_test (same_key key e.0) e entries (remove_entry (same_key key) entries) (remove_entry (same_key key) (texts_of entries)) (texts_without key entries)

-- a text that is taken out
pub size_taken : (key : PartNumbers) (entries : Entries) (text : Vec ℕ Global) → Some text ≡ lookup (same_key key) entries → octets_of_texts (texts_of entries) ≡ length text.items
    + octets_of_texts (remove_entry (same_key key) (texts_of entries))
size_taken key entries text found =
    octets_taken key text.items (texts_of entries) (sym (texts_looked key entries) ∙ ap (option_map (λ (t : Vec ℕ Global). t.items)) (sym found))

-- ---- what is put

-- what is removed was there
shorter_step : (kept : PartNumbers × List ℕ) (texts rest : List (PartNumbers × List ℕ)) (text : List ℕ) (found : Option (List ℕ)) (b : Bool) → cond b (Some kept.1) found ≡ Some text
    → (found ≡ Some text → length rest + 1 ≡ length texts) → length (cond b texts (kept ∷ rest)) + 1 ≡ length (kept ∷ texts)
shorter_step kept texts rest text found true e h = omega arith
shorter_step kept texts rest text found false e h = let less = h e in omega (arith, less)

shorter : (key : PartNumbers) (texts : List (PartNumbers × List ℕ)) (text : List ℕ) → lookup (same_key key) texts ≡ Some text → length (remove_entry (same_key key) texts) + 1 ≡ length texts
shorter key [] text e = absurd (cc)
shorter key (kept ∷ texts) text e = shorter_step kept texts (remove_entry (same_key key) texts) text (lookup (same_key key) texts) (same_key key kept.0) e (shorter key texts text)

same_step : (kept : PartNumbers × List ℕ) (texts rest : List (PartNumbers × List ℕ)) (found : Option (List ℕ)) (b : Bool) → cond b (Some kept.1) found ≡ None → (found ≡ None → rest ≡ texts) → cond b texts (kept ∷ rest) ≡ kept ∷ texts
same_step kept texts rest found true e h = absurd (cc)
same_step kept texts rest found false e h = ap (λ l. kept ∷ l) (h e)

same_without : (key : PartNumbers) (texts : List (PartNumbers × List ℕ)) → lookup (same_key key) texts ≡ None → remove_entry (same_key key) texts ≡ texts
same_without key [] e = refl
same_without key (kept ∷ texts) e = same_step kept texts (remove_entry (same_key key) texts) (lookup (same_key key) texts) (same_key key kept.0) e (same_without key texts)

-- the entry that is found has the key, and its text
found_step : (key : PartNumbers) (f e : PartNumbers × Vec ℕ Global) (o : Option (PartNumbers × Vec ℕ Global)) (t : Option (List ℕ)) (b : Bool) → same_key key f.0 ≡ b → cond b (Some f) o ≡ Some e
    → (o ≡ Some e → (e.0 ≡ key) × (t ≡ Some e.1.items)) → (e.0 ≡ key) × (cond b (Some f.1.items) t ≡ Some e.1.items)
found_step key f e o t true is h rest = let same : f ≡ e = cc in (ap (λ (p : PartNumbers × Vec ℕ Global). p.0) (sym same) ∙ sym (same_keys key f.0 is), ap (λ (p : PartNumbers × Vec ℕ Global). Some p.1.items) same)
found_step key f e o t false is h rest = rest h

entry_found : (key : PartNumbers) (entries : Entries) (e : PartNumbers × Vec ℕ Global) → lookup_entry (same_key key) entries ≡ Some e → (e.0 ≡ key) × (lookup (same_key key) (texts_of entries) ≡ Some e.1.items)
entry_found key [] e h = absurd (cc)
entry_found key (f ∷ entries) e h = found_step key f e (lookup_entry (same_key key) entries) (lookup (same_key key) (texts_of entries)) (same_key key f.0) refl h (entry_found key entries e)

none_step : (f : PartNumbers × Vec ℕ Global) (o : Option (PartNumbers × Vec ℕ Global)) (t : Option (List ℕ)) (b : Bool) → cond b (Some f) o ≡ None → (o ≡ None → t ≡ None) → cond b (Some f.1.items) t ≡ None
none_step f o t true h rest = absurd (cc)
none_step f o t false h rest = rest h

entry_none : (key : PartNumbers) (entries : Entries) → lookup_entry (same_key key) entries ≡ None → lookup (same_key key) (texts_of entries) ≡ None
entry_none key [] h = refl
entry_none key (f ∷ entries) h = none_step f (lookup_entry (same_key key) entries) (lookup (same_key key) (texts_of entries)) (same_key key f.0) h (entry_none key entries)

-- and none that isn't there
pub size_left : (key : PartNumbers) (entries : Entries) → None ≡ lookup (same_key key) entries → octets_of_texts (remove_entry (same_key key) (texts_of entries)) ≡ octets_of_texts (texts_of entries)
size_left key entries none = ap octets_of_texts (same_without key (texts_of entries) (sym (texts_looked key entries) ∙ ap (option_map (λ (t : Vec ℕ Global). t.items)) (sym none)))

module _ (cache : LruCache PartNumbers (Vec ℕ Global)) (key : PartNumbers) (text : Vec ℕ Global) (cap : cache.cap ≡ most_texts) (few : length cache.entries ≤ cache.cap) where
  abbrev texts : List (PartNumbers × List ℕ)
  texts = texts_of cache.entries

  abbrev after : Option (PartNumbers × Vec ℕ Global) → Entries
  after o = option_map_or (λ e. (e.0, text) ∷ remove_entry (same_key key) cache.entries) o ((key, text) ∷ take (cache.cap - 1) cache.entries)

  few_texts : length texts ≤ most_texts
  few_texts = let size = length-map {B = PartNumbers × List ℕ} cache.entries (λ (e : PartNumbers × Vec ℕ Global). (e.0, e.1.items)) in omega (arith, size, few, cap)

  put_by : (o : Option (PartNumbers × Vec ℕ Global)) → lookup_entry (same_key key) cache.entries ≡ o → texts_of (after o) ≡ put_first key text.items texts
  put_by None h =
      let none = entry_none key cache.entries h in
      ap (λ (k : ℕ). (key, text.items) ∷ texts_of (take (k - 1) cache.entries)) cap
      ∙ ap (λ l. (key, text.items) ∷ l) (sym (take-map (λ (e : PartNumbers × Vec ℕ Global). (e.0, e.1.items)) (most_texts - 1) cache.entries) ∙ ap (take (most_texts - 1)) (sym (same_without key texts none)))
  put_by (Some e) h =
      let found = entry_found key cache.entries e h in
      let size = shorter key texts e.1.items found.1 in
      let room : length (remove_entry (same_key key) texts) ≤ most_texts - 1 = let all = few_texts in omega (arith, size, all) in
      ap (λ (k : PartNumbers). (k, text.items) ∷ texts_of (remove_entry (same_key key) cache.entries)) found.0
      ∙ ap (λ l. (key, text.items) ∷ l) (texts_without key cache.entries ∙ sym (take_all (most_texts - 1) (remove_entry (same_key key) texts) room))

  pub texts_put : texts_of (put_entries same_key cache key text) ≡ put_first key text.items texts
  texts_put = put_by (lookup_entry (same_key key) cache.entries) refl

  -- what was put out for it
  abbrev pub HasSize : Option (PartNumbers × Vec ℕ Global) → Type 0
  HasSize None = octets_of_texts (put_first key text.items texts) ≡ octets_of_texts texts + length text.items
  HasSize (Some e) = octets_of_texts (put_first key text.items texts) + length e.1.items ≡ octets_of_texts texts + length text.items

  size_found : (old : Vec ℕ Global) → lookup (same_key key) cache.entries ≡ Some old → HasSize (Some (key, old))
  size_found old found =
      let there : lookup (same_key key) texts ≡ Some old.items = sym (texts_looked key cache.entries) ∙ ap (option_map (λ (t : Vec ℕ Global). t.items)) found in
      let before = octets_taken key old.items texts there in
      let size = shorter key texts old.items there in
      let room : length (remove_entry (same_key key) texts) ≤ most_texts - 1 = let all = few_texts in omega (arith, size, all) in
      let rest = ap octets_of_texts (take_all (most_texts - 1) (remove_entry (same_key key) texts) room) in
      let put = sum_by-cons (λ (k : PartNumbers × List ℕ). length k.1) (key, text.items) (take (most_texts - 1) (remove_entry (same_key key) texts)) in
      omega (arith, before, rest, put)

  size_new : lookup (same_key key) texts ≡ None → (o : Option (PartNumbers × Vec ℕ Global)) → slice_get cache.entries (cache.cap - 1) ≡ o → HasSize o
  size_new none None e =
      let at : slice_get texts (most_texts - 1) ≡ None = ap (λ (k : ℕ). slice_get texts (k - 1)) (sym cap) ∙ slice_get-map (λ (e : PartNumbers × Vec ℕ Global). (e.0, e.1.items)) cache.entries (cache.cap - 1)
      ∙ ap (option_map (λ (e : PartNumbers × Vec ℕ Global). (e.0, e.1.items))) e in
      let rest = ap octets_of_texts (ap (take (most_texts - 1)) (same_without key texts none) ∙ cut_none (most_texts - 1) texts at) in
      let put = sum_by-cons (λ (k : PartNumbers × List ℕ). length k.1) (key, text.items) (take (most_texts - 1) (remove_entry (same_key key) texts)) in
      omega (arith, rest, put)
  size_new none (Some f) e =
      let at : slice_get texts (most_texts - 1) ≡ Some (f.0, f.1.items) = ap (λ (k : ℕ). slice_get texts (k - 1)) (sym cap) ∙ slice_get-map (λ (e : PartNumbers × Vec ℕ Global). (e.0, e.1.items)) cache.entries (cache.cap - 1)
      ∙ ap (option_map (λ (e : PartNumbers × Vec ℕ Global). (e.0, e.1.items))) e in
      let few : length texts ≤ suc (most_texts - 1) = few_texts in
      let whole = cut_some (λ (k : PartNumbers × List ℕ). length k.1) (most_texts - 1) texts (f.0, f.1.items) few at in
      let rest = ap octets_of_texts (ap (take (most_texts - 1)) (same_without key texts none)) in
      let put = sum_by-cons (λ (k : PartNumbers × List ℕ). length k.1) (key, text.items) (take (most_texts - 1) (remove_entry (same_key key) texts)) in
      omega (arith, whole, rest, put)

  size_by : (o : Option (Vec ℕ Global)) → lookup (same_key key) cache.entries ≡ o → HasSize (option_map_or (λ old. Some (key, old)) o (slice_get cache.entries (cache.cap - 1)))
  size_by None e = size_new (sym (texts_looked key cache.entries) ∙ ap (option_map (λ (t : Vec ℕ Global). t.items)) e) (slice_get cache.entries (cache.cap - 1)) refl
  size_by (Some old) e = size_found old e

  pub size_put : (out : Option (PartNumbers × Vec ℕ Global)) → out ≡ displaced same_key cache key text → HasSize out
  size_put out is = subst HasSize (sym is) (size_by (lookup (same_key key) cache.entries) refl)

-- ---- the last of them

-- there is one
last_within : (entries : Entries) (e : PartNumbers × Vec ℕ Global) → Some e ≡ last_entry entries → length entries ≡ suc (length entries - 1)
last_within entries e some = let within = slice_get_within entries (length entries - 1) e (sym some) in omega (arith, within)

pub last_size : (entries : Entries) (e : PartNumbers × Vec ℕ Global) → Some e ≡ last_entry entries → octets_of_texts (texts_of entries) ≡ octets_of_texts (texts_of (take (length entries - 1) entries)) + length e.1.items
last_size entries e some =
    let n : ℕ = length entries - 1 in
    let size = length-map {B = PartNumbers × List ℕ} entries (λ (e : PartNumbers × Vec ℕ Global). (e.0, e.1.items)) in
    let one = last_within entries e some in
    let few : length (texts_of entries) ≤ suc n = omega (arith, size, one) in
    let at : slice_get (texts_of entries) n ≡ Some (e.0, e.1.items) = slice_get-map (λ (e : PartNumbers × Vec ℕ Global). (e.0, e.1.items)) entries n ∙ ap (option_map (λ (e : PartNumbers × Vec ℕ Global). (e.0, e.1.items))) (sym some) in
    cut_some (λ (k : PartNumbers × List ℕ). length k.1) n (texts_of entries) (e.0, e.1.items) few at
    ∙ ap (λ (l : List (PartNumbers × List ℕ)). octets_of_texts l + length e.1.items) (take-map (λ (e : PartNumbers × Vec ℕ Global). (e.0, e.1.items)) n entries)

pub last_fits : (most : ℕ) (entries : Entries) → most < octets_of_texts (texts_of entries) → fitting most (texts_of (take (length entries - 1) entries)) ≡ fitting most (texts_of entries)
last_fits most entries over =
    let size = length-map {B = PartNumbers × List ℕ} entries (λ (e : PartNumbers × Vec ℕ Global). (e.0, e.1.items)) in
    let some = some_there most (texts_of entries) over in
    let one : length (texts_of entries) ≡ suc (length entries - 1) = omega (arith, size, some) in
    ap (fitting most) (sym (take-map (λ (e : PartNumbers × Vec ℕ Global). (e.0, e.1.items)) (length entries - 1) entries)) ∙ last_goes most (length entries - 1) (texts_of entries) one over
