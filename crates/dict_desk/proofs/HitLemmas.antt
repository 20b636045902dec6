-- What a query finds among some entries, counted as these are gone through.
use Rattle.std.proofs.Common.{◌≡◌, ℕ, suc, ◌+◌, ◌≤◌, ◌==◌, List, [], length, take, drop, refl, sym, ap, subst, ◌∙◌, cond, Bool, true, false, arith}
use Rattle.std.specs.Prelude.{filter, slice_get, Some, if◌then◌else◌}
use Rattle.std.proofs.lemmas.Bool.{eqb-true}
use Rattle.std.proofs.lemmas.Option.{get_or_from_slice_get, slice_get_within}
use Rattle.dict_match.specs.declared.strategy.Strategy.{Strategy}
use Rattle.dict_desk.specs.PlainEntries.{shown_by, is_hit_of, is_shown, texts_listed}
use Rattle.dict_desk.specs.declared.entries.OwnedEntry.{OwnedEntry}
use Rattle.dict_desk.specs.declared.entries.EntryHits.{EntryHits}
use Rattle.dict_desk.proofs.SpanLemmas.{behind_same, behind_here}
use Rattle.dict_desk.proofs.ListedLemmas.{entries_more, hits_same, texts_same, count_more}

-- of the entries before a place this is found
pub record Counts (strategy : Strategy) (query : List ℕ) (xs : List OwnedEntry) (place : ℕ) (hits : EntryHits) : Type 0 where
  pub entries : hits.entries ≡ length (filter (is_hit_of strategy query) (take place xs))
  pub headwords : hits.headwords ≡ length (texts_listed strategy query (take place xs))
  pub few_entries : hits.entries ≤ place
  pub few_headwords : hits.headwords ≤ place
  pub before : filter (is_hit_of strategy query) (take hits.span.first xs) ≡ []
  pub behind : filter (is_hit_of strategy query) (drop hits.span.end (take place xs)) ≡ []
  pub ordered : hits.span.first ≤ hits.span.end
  pub fits : hits.span.end ≤ place

module _ (strategy : Strategy) (query : List ℕ) (xs : List OwnedEntry) (i : ℕ) (x : OwnedEntry) (at : slice_get xs i ≡ Some x) (hits : EntryHits) (h : Counts strategy query xs i hits) where
  abbrev p : OwnedEntry → Bool
  p entry = is_hit_of strategy query entry

  next : i + 1 ≡ suc i
  next = omega arith

  -- one more entry that isn't found
  pub counts_same : is_hit_of strategy query x ≡ false → Counts strategy query xs (i + 1) hits
  counts_same other = record {
    entries = h.entries ∙ ap length (sym (hits_same strategy query xs i x at other));
    headwords = h.headwords ∙ ap length (sym (texts_same strategy query xs i x at other));
    few_entries = omega (arith, h.few_entries);
    few_headwords = omega (arith, h.few_headwords);
    before = h.before;
    behind =
        ap (λ n. filter p (drop hits.span.end (take n xs))) next
        ∙ behind_same p xs hits.span.end i x (slice_get_within xs i x at) h.fits (ap p (get_or_from_slice_get xs i x x at) ∙ other) h.behind;
    ordered = h.ordered;
    fits = omega (arith, h.fits);
  }

  -- one more entry that is found
  module _ (hit : is_hit_of strategy query x ≡ true) (repeated : Bool) (is : repeated ≡ is_shown strategy query (shown_by x) (take i xs)) (more : EntryHits) where
    count_is : more.headwords ≡ (if repeated then hits.headwords else hits.headwords + 1) → more.headwords ≡ length (texts_listed strategy query (take (i + 1) xs))
    count_is e =
        e ∙ (ap (λ n. if repeated then n else n + 1) h.headwords
        ∙ (ap (λ b. cond b (length (texts_listed strategy query (take i xs))) (length (texts_listed strategy query (take i xs)) + 1)) is ∙ sym (count_more strategy query xs i x at hit)))

    count_few : more.headwords ≡ (if repeated then hits.headwords else hits.headwords + 1) → more.headwords ≤ i + 1
    count_few e = by_test repeated e
      where
        by_test : (b : Bool) → more.headwords ≡ (if b then hits.headwords else hits.headwords + 1) → more.headwords ≤ i + 1
        by_test true f = omega (arith, f, h.few_headwords)
        by_test false f = omega (arith, f, h.few_headwords)

    first_is : (b : Bool) → (hits.span.end == 0) ≡ b → more.span.first ≡ (if b then i else hits.span.first) → (filter p (take more.span.first xs) ≡ []) × (more.span.first ≤ i)
    first_is true e f =
        let none : hits.span.end ≡ 0 = eqb-true hits.span.end 0 e in
        (ap (λ n. filter p (take n xs)) f ∙ subst (λ n. filter p (drop n (take i xs)) ≡ []) none h.behind, omega (arith, f))
    first_is false e f = (ap (λ n. filter p (take n xs)) f ∙ h.before, omega (arith, f, h.ordered, h.fits))

    pub counts_more : more.entries ≡ hits.entries + 1 → more.headwords ≡ (if repeated then hits.headwords else hits.headwords + 1) → more.span.first ≡ (if hits.span.end == 0 then i else hits.span.first)
        → more.span.end ≡ i + 1 → Counts strategy query xs (i + 1) more
    counts_more entries headwords first end =
        let (before, low) = first_is (hits.span.end == 0) refl first in record {
          entries = entries ∙ (ap (λ n. n + 1) h.entries ∙ sym (entries_more strategy query xs i x at hit));
          headwords = count_is headwords;
          few_entries = omega (arith, entries, h.few_entries);
          few_headwords = count_few headwords;
          before = before;
          behind = ap (λ n. filter p (drop n (take (i + 1) xs))) end ∙ behind_here p xs (i + 1);
          ordered = omega (arith, low, end);
          fits = omega (arith, end);
        }
