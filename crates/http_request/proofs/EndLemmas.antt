-- The end of a head, from the first octet that is no line end.
use Rattle.std.proofs.Common.{◌≡◌, ◌<◌, ◌≤◌, ◌+◌, ◌-◌, ◌⊎◌, ℕ, zero, suc, List, [], ◌∷◌, length, drop, inl, inr, refl, sym, ◌∙◌, subst, arith}
use Rattle.std.specs.Prelude.{slice_index}
use Rattle.std.proofs.lemmas.Bool.{cases_lt}
use Rattle.std.proofs.lemmas.List.{get_or-drop, length-drop}
use Rattle.memchr.specs.Find.{OccursAt}
use Rattle.http_request.specs.Heads.{HasEnd, IsLineEnd}

abbrev pub needle : List ℕ
needle = 13 ∷ 10 ∷ 13 ∷ 10 ∷ []

-- an octet of what is left
at_drop : (xs : List ℕ) (s k j : ℕ) → OccursAt (drop s xs) needle k → j < 4 → slice_index xs (s + (k + j)) ≡ slice_index needle j
at_drop xs s k j h small = sym (get_or-drop s xs (k + j) 0) ∙ h.reads j small

-- the first four octets of what is left begin with a CR, and the octet at s is none
not_first : (xs : List ℕ) (s k : ℕ) → ¬ IsLineEnd (slice_index xs s) → OccursAt (drop s xs) needle k → k ≡ 0 → ⊥
not_first xs s k other h zero_is = other (inl (subst (λ i. slice_index xs i ≡ 13) (omega (arith, zero_is)) (at_drop xs s k 0 h (omega arith))))

pub ends : (xs : List ℕ) (s k : ℕ) → s ≤ length xs → (s < length xs → ¬ IsLineEnd (slice_index xs s)) → OccursAt (drop s xs) needle k → HasEnd xs
ends xs s k within other h =
    let room : k + 4 ≤ length xs - s = subst (λ n. k + 4 ≤ n) (length-drop s xs) h.fits in
    let here : ¬ IsLineEnd (slice_index xs s) = other (omega (arith, room)) in
    let first : k ≡ 0 → ⊥ = not_first xs s k here h in
    record {
      other = s;
      place = s + k;
      is_other = here;
      ordered = omega (arith, first);
      fits = omega (arith, room);
      cr = subst (λ i. slice_index xs i ≡ 13) (omega arith) (at_drop xs s k 0 h (omega arith));
      lf = subst (λ i. slice_index xs i ≡ 10) (omega arith) (at_drop xs s k 1 h (omega arith));
      second_cr = subst (λ i. slice_index xs i ≡ 13) (omega arith) (at_drop xs s k 2 h (omega arith));
      second_lf = subst (λ i. slice_index xs i ≡ 10) (omega arith) (at_drop xs s k 3 h (omega arith));
    }

-- an octet that is no line end doesn't stand before the first such octet
not_before : (xs : List ℕ) (s o : ℕ) → ((k : ℕ) → k < s → IsLineEnd (slice_index xs k)) → ¬ IsLineEnd (slice_index xs o) → (o < s) ⊎ (s ≤ o) → s ≤ o
not_before xs s o before other (inl h) = absurd (other (before o h))
not_before xs s o before other (inr h) = h

needle_at : (xs : List ℕ) (k : ℕ) (h : HasEnd xs) (j : ℕ) → k ≡ h.place → j < 4 → slice_index xs (k + j) ≡ slice_index needle j
needle_at xs k h zero e small = subst (λ i. slice_index xs i ≡ 13) (omega (arith, e)) h.cr
needle_at xs k h (suc zero) e small = subst (λ i. slice_index xs i ≡ 10) (omega (arith, e)) h.lf
needle_at xs k h (suc (suc zero)) e small = subst (λ i. slice_index xs i ≡ 13) (omega (arith, e)) h.second_cr
needle_at xs k h (suc (suc (suc zero))) e small = subst (λ i. slice_index xs i ≡ 10) (omega (arith, e)) h.second_lf
needle_at xs k h (suc (suc (suc (suc j)))) e small = absurd (omega (arith, small))

pub no_end : (xs : List ℕ) (s : ℕ) → s ≤ length xs → ((k : ℕ) → k < s → IsLineEnd (slice_index xs k))
    → ((k : ℕ) → 0 ≤ k → k < length (drop s xs) + 1 → ¬ OccursAt (drop s xs) needle k) → HasEnd xs → ⊥
no_end xs s within before none h =
    let after : s ≤ h.other = not_before xs s h.other before h.is_other (cases_lt h.other s) in
    let long : length (drop s xs) ≡ length xs - s = length-drop s xs in
    let o : s < h.place = omega (arith, after, h.ordered) in
    none (h.place - s) (omega arith) (omega (arith, long, o, h.fits)) (record {
      fits = omega (arith, long, o, h.fits);
      reads = λ j small. get_or-drop s xs (h.place - s + j) 0 ∙ subst (λ i. slice_index xs i ≡ slice_index needle j) (omega (arith, o)) (needle_at xs h.place h j refl small);
    })
