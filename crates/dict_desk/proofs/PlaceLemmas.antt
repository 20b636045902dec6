-- The map of the last places at which texts are shown.
use Rattle.std.proofs.Common.{◌≡◌, ℕ, List, [], ◌∷◌, ◌++◌, length, sym, ap, subst, ◌∙◌, cond, Bool, true, false, bytes_eq, nat_cmp, refl, Bor, Ordering}
use Rattle.std.specs.Prelude.{Some}
use Rattle.std.specs.BTreeMap.{BTreeMap, get, Updates}
use Rattle.std.specs.Cmp.Lexicographic.{slice_cmp}
use Rattle.std.proofs.lemmas.Cmp.{nat_list_eq_equiv}
use Rattle.std.proofs.lemmas.Map.Text.{is_eq-slice_cmp}
use Rattle.std.proofs.lemmas.Slice.Eq.{bytes_eq-Decides}
use Rattle.dict_desk.specs.PlainEntries.{shown_by, IsLastShown}
use Rattle.dict_desk.specs.declared.entries.OwnedEntry.{OwnedEntry}
use Rattle.dict_desk.proofs.LinkLemmas.{last_here, last_there}

-- the order of texts
abbrev pub text_order : Bor (List ℕ) → Bor (List ℕ) → Ordering
text_order x y = slice_cmp nat_cmp x.now y.now

-- the map has the last place of each text that the entries show
abbrev pub HasPlaces : BTreeMap (Bor (List ℕ)) ℕ → List OwnedEntry → Type 0
HasPlaces places owned = (q : Bor (List ℕ)) → IsLastShown owned q.now (get text_order places q)

pub places_more : (places new : BTreeMap (Bor (List ℕ)) ℕ) (h : Bor (List ℕ)) (owned : List OwnedEntry) (k : OwnedEntry) (n : ℕ) → n ≡ length owned → Updates text_order places new h (Some n) → shown_by k ≡ h.now
    → HasPlaces places owned → HasPlaces new (owned ++ k ∷ [])
places_more places new h owned k n size updates same has q = by_test (bytes_eq h.now q.now) refl
  where
    told : get text_order new q ≡ cond (bytes_eq h.now q.now) (Some (length owned)) (get text_order places q)
    told = updates.0 q ∙ (ap (λ b. cond b (Some n) (get text_order places q)) (is_eq-slice_cmp h.now q.now) ∙ ap (λ m. cond (bytes_eq h.now q.now) (Some m) (get text_order places q)) size)

    by_test : (b : Bool) → bytes_eq h.now q.now ≡ b → IsLastShown (owned ++ k ∷ []) q.now (get text_order new q)
    by_test true e =
        subst (IsLastShown (owned ++ k ∷ []) q.now) (sym (told ∙ ap (λ b. cond b (Some (length owned)) (get text_order places q)) e))
        (last_here owned k q.now (same ∙ (bytes_eq-Decides h.now q.now).0 e))
    by_test false e =
        subst (IsLastShown (owned ++ k ∷ []) q.now) (sym (told ∙ ap (λ b. cond b (Some (length owned)) (get text_order places q)) e))
        (last_there owned k q.now (get text_order places q) (ap (bytes_eq q.now) same ∙ (sym (nat_list_eq_equiv.symm h.now q.now) ∙ e)) (has q))
