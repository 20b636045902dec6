-- What holds of each text that is kept.
use Rattle.std.proofs.Common.{◌≡◌, refl, ℕ, ◌-◌, Bool, true, false, cond, leb, List, [], ◌∷◌, length, Option, Some, sym, subst}
use Rattle.std.specs.List.{AllByRecursion}
use Rattle.std.specs.Map.{lookup, remove_entry}
use Rattle.dict_text.proofs.AllLemmas.{all_take}
use Rattle.store_holdings.specs.KeptTexts.{PartNumbers, same_key, most_kept_octets, most_texts, fitting, put_first, with_text}
use Rattle.store_holdings.proofs.ViewLemmas.{same_keys}

module _ (P : PartNumbers × List ℕ → Type 0) where
  without_step : (kept : PartNumbers × List ℕ) (texts rest : List (PartNumbers × List ℕ)) (b : Bool) → AllByRecursion P (kept ∷ texts) → AllByRecursion P rest → AllByRecursion P (cond b texts (kept ∷ rest))
  without_step kept texts rest true h r = h.1
  without_step kept texts rest false h r = (h.0, r)

  -- those that were not taken out
  pub all_without : (key : PartNumbers) (texts : List (PartNumbers × List ℕ)) → AllByRecursion P texts → AllByRecursion P (remove_entry (same_key key) texts)
  all_without key [] h = tt
  all_without key (kept ∷ texts) h = without_step kept texts (remove_entry (same_key key) texts) (same_key key kept.0) h (all_without key texts h.1)

  fitting_step : (kept : PartNumbers × List ℕ) (rest : List (PartNumbers × List ℕ)) (b : Bool) → P kept → AllByRecursion P rest → AllByRecursion P (cond b (kept ∷ rest) [])
  fitting_step kept rest true p r = (p, r)
  fitting_step kept rest false p r = tt

  all_fitting : (room : ℕ) (texts : List (PartNumbers × List ℕ)) → AllByRecursion P texts → AllByRecursion P (fitting room texts)
  all_fitting room [] h = tt
  all_fitting room (kept ∷ texts) h = fitting_step kept (fitting (room - length kept.1) texts) (leb (length kept.1) room) h.0 (all_fitting (room - length kept.1) texts h.1)

  with_step : (now before : List (PartNumbers × List ℕ)) (b : Bool) → AllByRecursion P now → AllByRecursion P before → AllByRecursion P (cond b now before)
  with_step now before true n h = n
  with_step now before false n h = h

  -- those beside one that is put
  pub all_with : (key : PartNumbers) (text : List ℕ) (texts : List (PartNumbers × List ℕ)) → P (key, text) → AllByRecursion P texts → AllByRecursion P (with_text key text texts)
  all_with key text texts p h =
      with_step (fitting most_kept_octets (put_first key text texts)) texts (leb (length text) most_kept_octets)
      (all_fitting most_kept_octets (put_first key text texts) (p, all_take P (most_texts - 1) (remove_entry (same_key key) texts) (all_without key texts h))) h

  found_step : (key : PartNumbers) (text : List ℕ) (kept : PartNumbers × List ℕ) (found : Option (List ℕ)) (b : Bool) → same_key key kept.0 ≡ b → cond b (Some kept.1) found ≡ Some text → P kept → (found ≡ Some text → P (key, text))
      → P (key, text)
  found_step key text kept found true is e p rest =
      let same : kept.1 ≡ text = cc in
      subst (λ (t : List ℕ). P (key, t)) same (subst (λ (k : PartNumbers). P (k, kept.1)) (sym (same_keys key kept.0 is)) p)
  found_step key text kept found false is e p rest = rest e

  -- and the one that is found
  pub all_found : (key : PartNumbers) (text : List ℕ) (texts : List (PartNumbers × List ℕ)) → lookup (same_key key) texts ≡ Some text → AllByRecursion P texts → P (key, text)
  all_found key text [] e h = absurd (cc)
  all_found key text (kept ∷ texts) e h = found_step key text kept (lookup (same_key key) texts) (same_key key kept.0) refl e h.0 (λ later. all_found key text texts later h.1)
