-- A substring, and the runs of three octets in it.
use Rattle.std.proofs.Common.{◌≡◌, ℕ, ◌+◌, ◌≤◌, ◌&&◌, List, ◌++◌, take, drop, length, filter, ap, sym, ◌∙◌, arith, append_assoc}
use Rattle.std.specs.List.{All}
use Rattle.std.specs.Str.{IsUtf8}
use Rattle.std.proofs.lemmas.List.{length-drop, length-take-le, take-append-drop}
use Rattle.dict_match.specs.Matching.{is_hit, Hits, StandsIn}
use Rattle.dict_match.specs.declared.strategy.Strategy.TheVariants.{Substring}
use Rattle.store_derived.specs.Derived.{grams, IsGramOf}
use Rattle.store_derived.specs.Search.{rows_for}
use Rattle.store_derived.proofs.PieceLemmas.{grams_are}
use Rattle.store_places.specs.Places.{key_at, places_where}
use Rattle.store_pieces.specs.Selected.{has_gram, is_selected}
use Rattle.store_pieces.specs.Common.{HasAllWith}
use Rattle.store_pieces.proofs.PieceLemmas.{has}
use Rattle.store_pieces.proofs.SelectionLemmas.{covered, hit_decided, tested_among}

stands_within : (p q k : List ℕ) → StandsIn p q → StandsIn q k → StandsIn p k
stands_within p q k g h = (
  h.0 ++ g.0,
  g.1 ++ h.1,
  h.2 ∙ ap (λ l. h.0 ++ l ++ h.1) g.2
      ∙ ap (λ l. l ++ h.1) (sym (append_assoc h.0 (g.0 ++ p) g.1))
      ∙ append_assoc (h.0 ++ (g.0 ++ p)) g.1 h.1
      ∙ ap (λ l. l ++ (g.1 ++ h.1)) (sym (append_assoc h.0 g.0 p)),
)

gram_at : (q : List ℕ) (n : ℕ) → n + 3 ≤ length q → IsGramOf q (take 3 (drop n q))
gram_at q n fits =
    let rest = drop n q in
    let size = length-drop n q in (
      length-take-le 3 rest (omega (arith, size, fits)),
      (take n q, drop 3 rest, sym (append_assoc (take n q) (take 3 rest) (drop 3 rest) ∙ ap (λ l. take n q ++ l) (take-append-drop 3 rest) ∙ take-append-drop n q)),
    )

pub has_all_with : (q : List ℕ) (n : ℕ) (keys : List (List ℕ)) (places : List ℕ) → n + 3 ≤ length q → places ≡ places_where (has_gram (take 3 (drop n q))) keys → HasAllWith q keys places
has_all_with q n keys places fits is =
    let g = take 3 (drop n q) in
    let whole = gram_at q n fits in
    record {
      test = has_gram g;
      are = is;
      passes = λ key stands. (has grams g key).1 ((grams_are key g).1 (whole.0, stands_within g q key whole.1 stands));
    }

hit_stands : (q k : List ℕ) → Hits Substring q k → StandsIn q k
hit_stands q k h = h.1

-- none of those found is lost where only those of another list are tested too
pub tested_both : (q : List ℕ) (keys : List (List ℕ)) (fewer : List ℕ) → All IsUtf8 keys → (h : HasAllWith q keys fewer)
    → filter (λ place. is_hit Substring q (key_at keys place)) (places_where (λ key. h.test key && is_selected (rows_for Substring q) key) keys) ≡ places_where (is_hit Substring q) keys
tested_both q keys fewer text h =
    tested_among (λ key. h.test key && is_selected (rows_for Substring q) key) (is_hit Substring q) keys
    (λ z lt hit.
    let k = key_at keys z in
    ap (λ b. b && is_selected (rows_for Substring q) k) (h.passes k (hit_stands q k ((hit_decided Substring q k).0 hit))) ∙ covered Substring q keys text z lt hit)
