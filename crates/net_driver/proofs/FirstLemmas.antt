-- Whose command comes first.
use Rattle.std.proofs.Common.{◌≡◌, ◌≢◌, ◌≤◌, ◌<◌, ℕ, zero, suc, Bool, true, false, List, [], ◌∷◌, length, get_or, refl, sym, ap, ◌∙◌, inl, inr, arith}
use Rattle.std.proofs.lemmas.Bool.{ne_eqb}
use Rattle.std.proofs.lemmas.Bool.Decides.{leb_tells}
use Rattle.std.specs.List.{AllPairs}
use Rattle.std.specs.Prelude.{◌&&◌, ◌==◌, None, Option, Some, nat_le, nat_lt}
use Rattle.net_connection.specs.Handing.{held_for}
use Rattle.net_connection.specs.declared.connection.Connection.{Connection}
use Rattle.net_driver.specs.Turning.{IsFirst, first_at, first_of, is_other, longest}

some_same : {a b : ℕ} → Some a ≡ Some b → a ≡ b
some_same is = cc

none_some : {A : Type 0} (id : ℕ) → None ≡ Some id → A
none_some id is = cc

module _ {T : Type 0} where
  longest_most : (all : List (Connection T)) (k : ℕ) (d : Connection T) → k < length all → held_for (get_or all k d) ≤ longest all
  longest_most [] k d within = absurd (omega (arith, within))
  longest_most (one ∷ others) zero d within = omega arith
  longest_most (one ∷ others) (suc k) d within = let rest = longest_most others k d (omega (arith, within)) in omega (arith, rest)

  longest_least : (all : List (Connection T)) (n : ℕ) → ((k : ℕ) (d : Connection T) → k < length all → held_for (get_or all k d) ≤ n) → longest all ≤ n
  longest_least [] n most = omega arith
  longest_least (one ∷ others) n most =
      let here = most 0 one (omega arith) in
      let rest = longest_least others n (λ k d within. most (suc k) d (omega (arith, within))) in
      omega (arith, here, rest)

  -- the test of the one that stands before others
  tells : (one : Connection T) (others : List (Connection T)) (b : Bool) → (nat_lt 0 (held_for one) && nat_le (longest others) (held_for one)) ≡ b
      → (b ≡ true → (0 < held_for one) × (longest others ≤ held_for one)) × (b ≡ false → 0 < longest others → held_for one < longest others)
  tells one others b is = elim (leb_tells 1 (held_for one)) [
    | inl some ↦ elim (leb_tells (longest others) (held_for one)) [
      | inl most ↦
          let good : b ≡ true = sym is ∙ rw some.0 most.0 in
          (λ so. (omega (arith, some.1), most.1), λ not. absurd (let never : true ≡ false = sym good ∙ not in cc))
      | inr less ↦
          let bad : b ≡ false = sym is ∙ rw some.0 less.0 in
          (λ so. absurd (let never : true ≡ false = sym so ∙ bad in cc), λ not more. less.1)
    ]
    | inr none ↦
        let bad : b ≡ false = sym is ∙ rw none.0 refl in
        (λ so. absurd (let never : true ≡ false = sym so ∙ bad in cc), λ not more. omega (arith, none.1, more))
  ]

  place_same : (all : List (Connection T)) (k : ℕ) (d e : Connection T) → k < length all → held_for (get_or all k d) ≡ held_for (get_or all k e)
  place_same [] k d e within = absurd (omega (arith, within))
  place_same (one ∷ others) zero d e within = refl
  place_same (one ∷ others) (suc k) d e within = place_same others k d e (omega (arith, within))

  here_most : (one : Connection T) (others : List (Connection T)) (k : ℕ) (d : Connection T) → longest others ≤ held_for one → k < length (one ∷ others) → held_for (get_or (one ∷ others) k d) ≤ held_for one
  here_most one others zero d over within = omega arith
  here_most one others (suc k) d over within = let less = longest_most others k d (omega (arith, within)) in omega (arith, less, over)

  later_most : (one : Connection T) (others : List (Connection T)) (n k : ℕ) (d : Connection T) → held_for one < n → ((i : ℕ) → i < length others → held_for (get_or others i d) ≤ n) → k < length (one ∷ others)
      → held_for (get_or (one ∷ others) k d) ≤ n
  later_most one others n zero d less most within = omega (arith, less)
  later_most one others n (suc k) d less most within = most k (omega (arith, within))

  later_first : (one : Connection T) (others : List (Connection T)) (n place k : ℕ) (d : Connection T) → held_for one < n → ((i : ℕ) → i < place → held_for (get_or others i d) < n) → k < suc place → held_for (get_or (one ∷ others) k d) < n
  later_first one others n place zero d less first before = less
  later_first one others n place (suc k) d less first before = first k (omega (arith, before))

  -- it is the one that stands before others, or of the others
  first_here : (one : Connection T) (others : List (Connection T)) (id : ℕ) → 0 < held_for one → longest others ≤ held_for one → one.id ≡ id → IsFirst (one ∷ others) id
  first_here one others id some over same = record {
    place = 0;
    within = omega arith;
    is = λ d. same;
    some = λ d. some;
    most = λ k d within. here_most one others k d over within;
    first = λ k d before. absurd (omega (arith, before));
  }

  first_later : (one : Connection T) (others : List (Connection T)) (id : ℕ) → (0 < longest others → held_for one < longest others) → IsFirst others id → IsFirst (one ∷ others) id
  first_later one others id under it =
      let inside = it.within in
      let less : (d : Connection T) → held_for one < held_for (get_or others it.place d) = λ d. (
      let more = longest_most others it.place d inside in
      let some = it.some d in
      let least = longest_least others (held_for (get_or others it.place d)) (λ k e within. (let most = it.most k e within in let same = place_same others it.place d e inside in omega (arith, most, same))) in
      let below = under (omega (arith, more, some)) in
      omega (arith, below, least)) in
      record {
        place = suc it.place;
        within = omega (arith, inside);
        is = it.is;
        some = it.some;
        most = λ k d within. later_most one others (held_for (get_or others it.place d)) k d (less d) (λ i inner. it.most i d inner) within;
        first = λ k d before. later_first one others (held_for (get_or others it.place d)) it.place k d (less d) (λ i earlier. it.first i d earlier) before;
      }

  pub first_some : (all : List (Connection T)) (id : ℕ) → first_of all ≡ Some id → IsFirst all id
  first_some [] id is = none_some id is
  first_some (one ∷ others) id is = by (λ rest. first_some others id rest) (nat_lt 0 (held_for one) && nat_le (longest others) (held_for one)) refl
    where
      by : (first_of others ≡ Some id → IsFirst others id) → (b : Bool) → (nat_lt 0 (held_for one) && nat_le (longest others) (held_for one)) ≡ b → IsFirst (one ∷ others) id
      by later true e = let so = (tells one others true e).0 refl in first_here one others id so.0 so.1 (some_same (rw e at is))
      by later false e = first_later one others id ((tells one others false e).1 refl) (later (rw e at is))

  pub first_none : (all : List (Connection T)) → first_of all ≡ None → longest all ≡ 0
  first_none [] is = refl
  first_none (one ∷ others) is = by (λ rest. first_none others rest) (nat_lt 0 (held_for one) && nat_le (longest others) (held_for one)) refl
    where
      by : (first_of others ≡ None → longest others ≡ 0) → (b : Bool) → (nat_lt 0 (held_for one) && nat_le (longest others) (held_for one)) ≡ b → longest (one ∷ others) ≡ 0
      by later true e = absurd (let never : Some one.id ≡ None = rw e at is in cc)
      by later false e =
          let rest : longest others ≡ 0 = later (rw e at is) in
          elim (leb_tells 1 (held_for one)) [
            | inl some ↦ absurd (elim (leb_tells (longest others) (held_for one)) [
              | inl most ↦ (let never : true ≡ false = sym (rw some.0 most.0) ∙ e in cc)
              | inr less ↦ (let l = less.1 in omega (arith, l, rest))
            ])
            | inr none ↦ (let n = none.1 in omega (arith, n, rest))
          ]

  pub none_held : (all : List (Connection T)) → first_of all ≡ None → (k : ℕ) (d : Connection T) → k < length all → held_for (get_or all k d) ≡ 0
  none_held all is k d within = let most = longest_most all k d within in let none = first_none all is in omega (arith, most, none)

  -- one of which octets are held back for fewer turns than of another isn't first
  pub behind_longer : (all new : List (Connection T)) (place j k : ℕ) (d : Connection T) → AllPairs (λ a b. a.id < b.id) all → j < length all → k < length all → held_for (get_or all j d) < held_for (get_or all k d)
      → is_other (first_at all new place) (get_or all j d).id ≡ true
  behind_longer all new place j k d rising in_j in_k less = by (first_of all) refl
    where
      by : (first : Option ℕ) → first_of all ≡ first → is_other (first_at all new place) (get_or all j d).id ≡ true
      by None is = absurd (let none = none_held all is k d in_k in omega (arith, none, less))
      by (Some id) is =
          let it = first_some all id is in
          let most = it.most k d in_k in
          let apart : id ≢ (get_or all j d).id = λ same. (
          elim (leb_tells j it.place) [
            | inl below ↦ elim (leb_tells it.place j) [
              | inl above ↦ (
                  let here : j ≡ it.place = omega (arith, below.1, above.1) in
                  let equal = ap (λ (i : ℕ). held_for (get_or all i d)) here in
                  omega (arith, most, less, equal))
              | inr under ↦ (let apart = rising j it.place d under.1 it.within in let at = it.is d in omega (arith, apart, at, same))
            ]
            | inr over ↦ (let apart = rising it.place j d over.1 in_j in let at = it.is d in omega (arith, apart, at, same))
          ]) in
          let test : (id == (get_or all j d).id) ≡ false = ne_eqb id (get_or all j d).id apart in
          rw is (rw test refl)
