-- Runs of a list that are merged: one element more, and the next runs.
use Rattle.std.proofs.Common.{◌≡◌, ℕ, suc, ◌+◌, ◌-◌, ◌<◌, ◌≤◌, List, [], ◌∷◌, ◌++◌, length, take, drop, get_or, cond, Result, Ok, Err, ap, sym, ◌∙◌, subst, arith, append_assoc, append-nil}
use Rattle.std.specs.List.Sorted.{IsPermutation}
use Rattle.std.specs.Result.{OnOk, is_ok}
use Rattle.std.proofs.lemmas.List.{drop_all, drop_more, drop-drop, take-append-drop, take_rest}
use Rattle.std.proofs.lemmas.List.Sorted.{IsPermutation-refl, IsPermutation-middle, IsPermutation-append_left, IsPermutation-append_right}

module _ {X : Type 0} where
  -- what is merged, what is left of the one run, and the other with what stands behind it
  abbrev pub parts : List X → List X → ℕ → ℕ → ℕ → List X
  parts merged items left left_end right = merged ++ (take (left_end - left) (drop left items) ++ drop right items)

  pub as_it_was : (xs ys : List X) → ys ≡ xs → IsPermutation xs ys
  as_it_was xs ys same = subst (IsPermutation xs) (sym same) (IsPermutation-refl xs)

  one_less : (left left_end : ℕ) (x : X) (rest : List X) → left < left_end → take (left_end - left) (x ∷ rest) ≡ x ∷ take (left_end - (left + 1)) rest
  one_less left left_end x rest lt = let more : left_end - left ≡ suc (left_end - (left + 1)) = omega arith in ap (λ n. take n (x ∷ rest)) more

  pub put_left : (merged items : List X) (left left_end right : ℕ) (x : X) → left < length items → left < left_end → x ≡ get_or items left x → parts (merged ++ x ∷ []) items (left + 1) left_end right ≡ parts merged items left left_end right
  put_left merged items left left_end right x within some is =
      let here : drop left items ≡ x ∷ drop (left + 1) items = drop_more items left x within ∙ ap (λ y. y ∷ drop (left + 1) items) (sym is) in
      append_assoc merged (x ∷ []) (take (left_end - (left + 1)) (drop (left + 1) items) ++ drop right items)
      ∙ ap (λ l. merged ++ (l ++ drop right items)) (sym (ap (take (left_end - left)) here ∙ one_less left left_end x (drop (left + 1) items) some))

  pub put_right : (merged items : List X) (left left_end right : ℕ) (x : X) → right < length items → x ≡ get_or items right x
      → IsPermutation (parts merged items left left_end right) (parts (merged ++ x ∷ []) items left left_end (right + 1))
  put_right merged items left left_end right x within is =
      let run = take (left_end - left) (drop left items) in
      let here : drop right items ≡ x ∷ drop (right + 1) items = drop_more items right x within ∙ ap (λ y. y ∷ drop (right + 1) items) (sym is) in
      subst (λ l. IsPermutation (merged ++ (run ++ l)) (parts (merged ++ x ∷ []) items left left_end (right + 1))) (sym here)
      (subst (IsPermutation (merged ++ (run ++ x ∷ drop (right + 1) items))) (sym (append_assoc merged (x ∷ []) (run ++ drop (right + 1) items)))
      (IsPermutation-append_right merged _ _ (IsPermutation-middle run x (drop (right + 1) items))))

  pub none_left : (items : List X) (left left_end : ℕ) → left_end ≤ left → take (left_end - left) (drop left items) ≡ []
  none_left items left left_end none = let no : left_end - left ≡ 0 = omega arith in ap (λ n. take n (drop left items)) no

  front_and_rest : (items : List X) (right to : ℕ) → right ≤ to → take (to - right) (drop right items) ++ drop to items ≡ drop right items
  front_and_rest items right to le =
      let all : right + (to - right) ≡ to = omega arith in
      ap (λ l. take (to - right) (drop right items) ++ l) (ap (λ n. drop n items) (sym all) ∙ sym (drop-drop (to - right) right items)) ∙ take-append-drop (to - right) (drop right items)

  pub put_run : (merged items run : List X) (left left_end right to : ℕ) → left_end ≤ left → right ≤ to → IsPermutation (take (to - right) (drop right items)) run
      → IsPermutation (parts merged items left left_end right) (parts (merged ++ run) items left left_end to)
  put_run merged items run left left_end right to none le moved =
      let gone = none_left items left left_end none in
      let old : parts merged items left left_end right ≡ merged ++ (take (to - right) (drop right items) ++ drop to items) =
      ap (λ l. merged ++ (l ++ drop right items)) gone ∙ ap (λ l. merged ++ l) (sym (front_and_rest items right to le)) in
      let new : merged ++ (run ++ drop to items) ≡ parts (merged ++ run) items left left_end to =
      sym (append_assoc merged run (drop to items)) ∙ ap (λ l. (merged ++ run) ++ (l ++ drop to items)) (sym gone) in
      subst (IsPermutation (parts merged items left left_end right)) new
      (subst (λ l. IsPermutation l (merged ++ (run ++ drop to items))) (sym old) (IsPermutation-append_right merged _ _ (IsPermutation-append_left (drop to items) _ run moved)))

  pub pair_begins : (merged items : List X) (left left_end right middle : ℕ) → left_end ≤ left → right ≤ middle → parts merged items right middle middle ≡ parts merged items left left_end right
  pair_begins merged items left left_end right middle none le =
      ap (λ l. merged ++ l) (front_and_rest items right middle le) ∙ ap (λ l. merged ++ (l ++ drop right items)) (sym (none_left items left left_end none))

  pub all_again : (merged items : List X) (left left_end right : ℕ) → left_end ≤ left → length items ≤ right → parts [] merged 0 0 0 ≡ parts merged items left left_end right
  all_again merged items left left_end right none past =
      sym (append-nil merged) ∙ ap (λ l. merged ++ l) (sym (ap (λ l. l ++ drop right items) (none_left items left left_end none) ∙ drop_all right items past))

  pub all_put : (merged first whole items : List X) (left left_end right count : ℕ) → count ≡ length items → first ≡ merged ++ take (left_end - left) (drop left items) → whole ≡ first ++ take (count - right) (drop right items)
      → whole ≡ parts merged items left left_end right
  all_put merged first whole items left left_end right count many one two =
      let run = take (left_end - left) (drop left items) in
      two ∙ ap (λ l. l ++ take (count - right) (drop right items)) one ∙ append_assoc merged run (take (count - right) (drop right items))
      ∙ ap (λ l. merged ++ (run ++ l)) (ap (λ n. take (n - right) (drop right items)) many ∙ take_rest items right)

  pub on_ok : {A E : Type 0} (r : Result A E) (new put old : List X) → new ≡ cond (is_ok r) put old → OnOk r (new ≡ put)
  on_ok (Ok x) new put old h = h
  on_ok (Err e) new put old h = tt
