-- One list more behind the others, more elements in the last one, and the last one taken away.
use Rattle.std.proofs.Common.{◌≡◌, ℕ, zero, suc, ◌+◌, ◌-◌, ◌<◌, ◌≤◌, List, [], ◌∷◌, ◌++◌, length, take, drop, get_or, refl, ap, sym, ◌∙◌, subst, inl, inr, ◌⊎◌, length-append, arith, Result, Ok, Err}
use Rattle.std.specs.Result.{OnOk, OnErr}
use Rattle.std.proofs.lemmas.Bool.{cases_lt}
use Rattle.std.proofs.lemmas.List.{get_or_append_left, get_or_default, get_or_past, get_or_push, take-append-le, drop-append-le, length-drop, length-take-le, take_all, same_lists, drop_all, drop-take, take-take}
use Rattle.std.proofs.lemmas.List.FromFn.{length-map-range_with_len, get_or-map-range_with_len}
use Rattle.store_derived.specs.Runs.{end_at, run_at, runs, AreBegins}

pub size : (all begins : List ℕ) → length (runs all begins) ≡ length begins
size all begins = length-map-range_with_len (run_at all begins) 0 (length begins)

pub run_there : (all begins : List ℕ) (k : ℕ) (d : List ℕ) → k < length begins → get_or (runs all begins) k d ≡ run_at all begins k
run_there all begins k d lt = get_or-map-range_with_len (run_at all begins) 0 (length begins) k k d lt (omega arith)

-- two such lists are one where each of theirs is
same_runs : (all begins : List ℕ) (xs : List (List ℕ)) → length xs ≡ length begins → ((k : ℕ) → k < length begins → run_at all begins k ≡ get_or xs k []) → runs all begins ≡ xs
same_runs all begins xs long each =
    let here = size all begins in
    same_lists (runs all begins) xs (here ∙ sym long) (λ k d lt.
    let within : k < length begins = omega (arith, lt, here) in
    let in_xs : k < length xs = omega (arith, within, long) in
    run_there all begins k d within ∙ each k within ∙ default k d in_xs)
  where
    default : (k : ℕ) (d : List ℕ) → k < length xs → get_or xs k [] ≡ get_or xs k d
    default k d lt = get_or_default xs k [] d lt

-- ---- an empty one more

module _ (all begins : List ℕ) (are : AreBegins all begins) where
  long : length (begins ++ length all ∷ []) ≡ length begins + 1
  long = length-append begins (length all ∷ [])

  old : (k d : ℕ) → k < length begins → get_or (begins ++ length all ∷ []) k d ≡ get_or begins k d
  old k d lt = get_or_append_left begins (length all ∷ []) d k lt

  new : (k d : ℕ) → k ≡ length begins → get_or (begins ++ length all ∷ []) k d ≡ length all
  new k d e = get_or_push begins (length all) d k (sym e)

  here : (k : ℕ) → k < length (begins ++ length all ∷ []) → (k < length begins) ⊎ (k ≡ length begins)
  here k lt = elim (cases_lt k (length begins)) [ inl less ↦ inl less | inr le ↦ inr (omega (arith, long)) ]

  -- what ended at the end of all still does
  end_same : (k : ℕ) → k < length begins → end_at all (begins ++ length all ∷ []) k ≡ end_at all begins k
  end_same k lt = elim (cases_lt (k + 1) (length begins)) [
    | inl less ↦ old (k + 1) (length all) less
    | inr le ↦ new (k + 1) (length all) (omega arith) ∙ sym (get_or_past begins (k + 1) (length all) le)
  ]

  pub begun_are : AreBegins all (begins ++ length all ∷ [])
  begun_are = record {
    rise = λ k lt. elim (cases_lt (k + 1) (length begins)) [
      | inl less ↦ omega (arith, old k 0 (omega arith), old (k + 1) 0 less, are.rise k less)
      | inr le ↦
          let last : k + 1 ≡ length begins = omega (arith, long) in
          omega (arith, old k 0 (omega arith), new (k + 1) 0 last, are.within k (omega arith))
    ];
    within = λ k lt. elim (here k lt) [
      | inl less ↦ omega (arith, old k 0 less, are.within k less)
      | inr e ↦ omega (arith, new k 0 e)
    ];
  }

  kept : (k : ℕ) → k < length begins → run_at all (begins ++ length all ∷ []) k ≡ run_at all begins k
  kept k lt =
      ap (λ n. take (n - get_or (begins ++ length all ∷ []) k 0) (drop (get_or (begins ++ length all ∷ []) k 0) all)) (end_same k lt)
      ∙ ap (λ n. take (end_at all begins k - n) (drop n all)) (old k 0 lt)

  empty : (k : ℕ) → k ≡ length begins → run_at all (begins ++ length all ∷ []) k ≡ []
  empty k e =
      ap (λ n. take (end_at all (begins ++ length all ∷ []) k - n) (drop n all)) (new k 0 e)
      ∙ ap (take (end_at all (begins ++ length all ∷ []) k - length all)) (drop_all (length all) all (omega arith))
      ∙ take_all (end_at all (begins ++ length all ∷ []) k - length all) [] (omega arith)

  pub begun : runs all (begins ++ length all ∷ []) ≡ runs all begins ++ [] ∷ []
  begun =
      let count = size all begins in
      same_runs all (begins ++ length all ∷ []) (runs all begins ++ [] ∷ []) (length-append (runs all begins) ([] ∷ []) ∙ ap (λ n. n + 1) count ∙ sym long) (λ k lt. elim (here k lt) [
        | inl less ↦ kept k less ∙ sym (run_there all begins k [] less) ∙ sym (get_or_append_left (runs all begins) ([] ∷ []) [] k (omega (arith, count)))
        | inr e ↦ empty k e ∙ sym (get_or_push (runs all begins) [] [] k (omega (arith, count)))
      ])

-- ---- more elements in the last one

module _ (all begins more : List ℕ) (are : AreBegins all begins) where
  total : length (all ++ more) ≡ length all + length more
  total = length-append all more

  pub grown_are : AreBegins (all ++ more) begins
  grown_are = record { rise = are.rise; within = λ k lt. omega (arith, are.within k lt, total) }

  inner : (k : ℕ) → k + 1 < length begins → run_at (all ++ more) begins k ≡ run_at all begins k
  inner k lt =
      let b = get_or begins k 0 in
      let e = get_or begins (k + 1) 0 in
      let up : b ≤ e = are.rise k lt in
      let inside : e ≤ length all = are.within (k + 1) lt in
      let rest = length-drop b all in
      let new_end : end_at (all ++ more) begins k ≡ e = get_or_default begins (k + 1) (length (all ++ more)) 0 lt in
      let old_end : end_at all begins k ≡ e = get_or_default begins (k + 1) (length all) 0 lt in
      ap (λ n. take (n - b) (drop b (all ++ more))) new_end
      ∙ ap (take (e - b)) (drop-append-le b all more (omega arith))
      ∙ take-append-le (e - b) (drop b all) more (omega arith)
      ∙ ap (λ n. take (n - b) (drop b all)) (sym old_end)

  outer : (k : ℕ) → k + 1 ≡ length begins → run_at (all ++ more) begins k ≡ run_at all begins k ++ more
  outer k last =
      let b = get_or begins k 0 in
      let inside : b ≤ length all = are.within k (omega arith) in
      let rest = length-drop b all in
      let new_end : end_at (all ++ more) begins k ≡ length (all ++ more) = get_or_past begins (k + 1) (length (all ++ more)) (omega arith) in
      let old_end : end_at all begins k ≡ length all = get_or_past begins (k + 1) (length all) (omega arith) in
      let sum = length-append (drop b all) more in
      ap (λ n. take (n - b) (drop b (all ++ more))) new_end
      ∙ ap (take (length (all ++ more) - b)) (drop-append-le b all more inside)
      ∙ take_all (length (all ++ more) - b) (drop b all ++ more) (omega (arith, total, sum, rest))
      ∙ ap (λ l. l ++ more) (sym (ap (λ n. take (n - b) (drop b all)) old_end ∙ take_all (length all - b) (drop b all) (omega (arith, rest))))

  pub grown : (front : List (List ℕ)) (last : List ℕ) → runs all begins ≡ front ++ last ∷ [] → runs (all ++ more) begins ≡ front ++ (last ++ more) ∷ []
  grown front last is =
      let count = size all begins in
      let parts : length (front ++ last ∷ []) ≡ length front + 1 = length-append front (last ∷ []) in
      let same : length (front ++ last ∷ []) ≡ length begins = ap length (sym is) ∙ count in
      let new_parts : length (front ++ (last ++ more) ∷ []) ≡ length front + 1 = length-append front ((last ++ more) ∷ []) in
      same_runs (all ++ more) begins (front ++ (last ++ more) ∷ []) (omega (arith, parts, same, new_parts)) (λ k lt. elim (cases_lt k (length front)) [
        | inl less ↦
            inner k (omega (arith, less, parts, same)) ∙ sym (run_there all begins k [] lt) ∙ ap (λ l. get_or l k []) is ∙ get_or_append_left front (last ∷ []) [] k less ∙ sym (get_or_append_left front ((last ++ more) ∷ []) [] k less)
        | inr le ↦
            let at : length front ≡ k = omega (arith, le, lt, parts, same) in
            outer k (omega (arith, at, parts, same)) ∙ ap (λ l. l ++ more) (sym (run_there all begins k [] lt) ∙ ap (λ l. get_or l k []) is ∙ get_or_push front last [] k at) ∙ sym (get_or_push front (last ++ more) [] k at)
      ])

-- ---- the last one taken away

far : (begins : List ℕ) → ((at : ℕ) → at + 1 < length begins → get_or begins at 0 ≤ get_or begins (at + 1) 0) → (i n : ℕ) → i + n < length begins → get_or begins i 0 ≤ get_or begins (i + n) 0
far begins rise i zero lt = let e : get_or begins i 0 ≡ get_or begins (i + 0) 0 = ap (λ k. get_or begins k 0) (omega arith) in omega (arith, e)
far begins rise i (suc n) lt =
    let e : get_or begins (i + n + 1) 0 ≡ get_or begins (i + suc n) 0 = ap (λ k. get_or begins k 0) (omega arith) in
    omega (arith, e, far begins rise i n (omega arith), rise (i + n) (omega arith))

module _ (all begins before : List ℕ) (begin : ℕ) (is : begins ≡ before ++ begin ∷ []) (are : AreBegins all begins) where
  many : length begins ≡ length before + 1
  many = ap length is ∙ length-append before (begin ∷ [])

  first : (k d : ℕ) → k < length before → get_or begins k d ≡ get_or before k d
  first k d lt = ap (λ l. get_or l k d) is ∙ get_or_append_left before (begin ∷ []) d k lt

  at_last : (k d : ℕ) → k ≡ length before → get_or begins k d ≡ begin
  at_last k d e = ap (λ l. get_or l k d) is ∙ get_or_push before begin d k (sym e)

  begin_inside : begin ≤ length all
  begin_inside = omega (arith, are.within (length before) (omega (arith, many)), at_last (length before) 0 refl)

  cut_size : length (take begin all) ≡ begin
  cut_size = length-take-le begin all begin_inside

  below_begin : (k : ℕ) → k < length before → get_or before k 0 ≤ begin
  below_begin k lt =
      let n = length before - k in
      let to_last : get_or begins (k + n) 0 ≡ begin = at_last (k + n) 0 (omega arith) in
      omega (arith, far begins are.rise k n (omega (arith, many)), first k 0 lt, to_last)

  pub cut_are : AreBegins (take begin all) before
  cut_are = record {
    rise = λ k lt. omega (arith, are.rise k (omega (arith, many)), first k 0 (omega arith), first (k + 1) 0 lt);
    within = λ k lt. omega (arith, below_begin k lt, cut_size);
  }

  same_end : (k : ℕ) → k < length before → end_at (take begin all) before k ≡ end_at all begins k
  same_end k lt = elim (cases_lt (k + 1) (length before)) [
    | inl less ↦ get_or_default before (k + 1) (length (take begin all)) (length all) less ∙ sym (first (k + 1) (length all) less)
    | inr le ↦ get_or_past before (k + 1) (length (take begin all)) le ∙ cut_size ∙ sym (at_last (k + 1) (length all) (omega arith))
  ]

  end_inside : (k : ℕ) → k < length before → end_at all begins k ≤ begin
  end_inside k lt = elim (cases_lt (k + 1) (length before)) [
    | inl less ↦ omega (arith, first (k + 1) (length all) less, get_or_default before (k + 1) (length all) 0 less, below_begin (k + 1) less)
    | inr le ↦ omega (arith, at_last (k + 1) (length all) (omega arith))
  ]

  stays : (k : ℕ) → k < length before → run_at (take begin all) before k ≡ run_at all begins k
  stays k lt =
      let b = get_or before k 0 in
      let e = end_at all begins k in
      let upto = end_inside k lt in
      let low = below_begin k lt in
      let gap : b + (begin - b) ≡ begin = omega arith in
      let cut : drop b (take begin all) ≡ take (begin - b) (drop b all) = ap (λ n. drop b (take n all)) (sym gap) ∙ drop-take b (begin - b) all in
      ap (λ n. take (n - b) (drop b (take begin all))) (same_end k lt)
      ∙ ap (take (e - b)) cut
      ∙ take-take (e - b) (begin - b) (drop b all) (omega arith)
      ∙ ap (λ n. take (e - n) (drop n all)) (sym (first k 0 lt))

  pub cut : (front : List (List ℕ)) (last : List ℕ) → runs all begins ≡ front ++ last ∷ [] → runs (take begin all) before ≡ front
  cut front last e =
      let count = size all begins in
      let parts : length (front ++ last ∷ []) ≡ length front + 1 = length-append front (last ∷ []) in
      let same : length (front ++ last ∷ []) ≡ length begins = ap length (sym e) ∙ count in
      same_runs (take begin all) before front (omega (arith, parts, same, many)) (λ k lt.
      stays k lt ∙ sym (run_there all begins k [] (omega (arith, many))) ∙ ap (λ l. get_or l k []) e ∙ get_or_append_left front (last ∷ []) [] k (omega (arith, lt, parts, same, many)))

-- ---- as the functions read and write them

pub pushed : (all begins all' begins' text : List ℕ) → AreBegins all begins → all' ≡ all ++ text → begins' ≡ begins ++ length all ∷ [] → AreBegins all' begins' × (runs all' begins' ≡ runs all begins ++ text ∷ [])
pushed all begins all' begins' text are more is =
    let B = begins ++ length all ∷ [] in
    let here : AreBegins all B = begun_are all begins are in
    let there : runs (all ++ text) B ≡ runs all begins ++ ([] ++ text) ∷ [] = grown all B text here (runs all begins) [] (begun all begins are) in (
      subst (λ l. AreBegins l begins') (sym more) (subst (AreBegins (all ++ text)) (sym is) (grown_are all B text here)),
      ap (λ l. runs l begins') more ∙ ap (runs (all ++ text)) is ∙ there,
    )

pub run_past : (all begins : List ℕ) (list : List (List ℕ)) (k : ℕ) → runs all begins ≡ list → length begins ≤ k → [] ≡ get_or list k []
run_past all begins list k is le = sym (ap (λ l. get_or l k []) (sym is) ∙ get_or_past (runs all begins) k [] (omega (arith, size all begins)))

pub run_read : (all begins some : List ℕ) (list : List (List ℕ)) (k from to : ℕ) → runs all begins ≡ list → k < length begins → some ≡ all → from ≡ get_or begins k 0 → to ≡ end_at all begins k → take (to - from) (drop from some)
    ≡ get_or list k []
run_read all begins some list k from to is lt same from_is to_is =
    ap (λ l. take (to - from) (drop from l)) same
    ∙ ap (λ n. take (n - from) (drop from all)) to_is
    ∙ ap (λ n. take (end_at all begins k - n) (drop n all)) from_is
    ∙ sym (run_there all begins k [] lt)
    ∙ ap (λ l. get_or l k []) is

-- a list does not end before it begins, nor behind the end of all
pub end_bounds : (all begins : List ℕ) (k : ℕ) → AreBegins all begins → k < length begins → (get_or begins k 0 ≤ end_at all begins k) × (end_at all begins k ≤ length all)
end_bounds all begins k are lt = elim (cases_lt (k + 1) (length begins)) [
  | inl less ↦
      let e = get_or_default begins (k + 1) (length all) 0 less in
      (omega (arith, e, are.rise k less), omega (arith, e, are.within (k + 1) less))
  | inr le ↦ let e = get_or_past begins (k + 1) (length all) le in (omega (arith, e, are.within k lt), omega (arith, e))
]

pub put_are : {A E : Type 0} (r : Result A E) (all begins all' begins' text : List ℕ) → AreBegins all begins → OnOk r (all' ≡ all ++ text) → OnOk r (begins' ≡ begins ++ length all ∷ []) → OnErr r (all' ≡ all)
    → OnErr r (begins' ≡ begins) → AreBegins all' begins'
put_are (Ok x) all begins all' begins' text are more is same same_too = (pushed all begins all' begins' text are more is).0
put_are (Err e) all begins all' begins' text are more is same same_too = subst (λ l. AreBegins l begins') (sym same) (subst (AreBegins all) (sym same_too) are)

pub put_runs : {A E : Type 0} (r : Result A E) (all begins all' begins' text : List ℕ) (list : List (List ℕ)) → runs all begins ≡ list → AreBegins all begins → OnOk r (all' ≡ all ++ text)
    → OnOk r (begins' ≡ begins ++ length all ∷ []) → OnOk r (runs all' begins' ≡ list ++ text ∷ [])
put_runs (Ok x) all begins all' begins' text list seen are more is = (pushed all begins all' begins' text are more is).1 ∙ ap (λ l. l ++ text ∷ []) seen
put_runs (Err e) all begins all' begins' text list seen are more is = tt
