-- Where what comes in order has no two neighbours that are the same, all are apart.
use Rattle.std.proofs.Common.{◌≡◌, ℕ, ◌≤◌, Bool, true, false, ◌||◌, List, [], ◌∷◌, ◌++◌, refl, ap, sym, subst, ◌∙◌, arith, Some}
use Rattle.std.specs.Prelude.{ℤ, ◌≤ℤ◌, cond, not, bytes_eq, option_map, string_bytes, IsTrue}
use Rattle.std.specs.List.{AllByRecursion}
use Rattle.std.proofs.lemmas.Bool.{and_from, not_from_false}
use Rattle.std.proofs.lemmas.Int.{ints}
use Rattle.dict_text.proofs.AllLemmas.{all_weaker}
use Rattle.dict_catalogue.specs.Items.{is_among}
use Rattle.dict_catalogue.specs.WellFormed.{total, IsEachOnce}
use Rattle.dict_catalogue.proofs.ListLemmas.{sum_append}
use Rattle.dict_catalogue.proofs.ItemLemmas.{same_text, text_itself}
use Rattle.store_rows.specs.Tests.{has_once}
use Rattle.store_rows.specs.Order.{InOrder}
use Rattle.store_rows.specs.Apart.{last_of, HaveApartNeighbours, HasTakenIds, HasTakenRowids}
use Rattle.store_rows.specs.declared.apart.IdReader.{IdReader}
use Rattle.store_rows.specs.declared.apart.RowidReader.{RowidReader}
use Rattle.store_rows.proofs.LawfulLemmas.{some_same, once_true}

-- ---- one more

pub last_push : {X : Type 0} (xs : List X) (x : X) → last_of (xs ++ x ∷ []) ≡ Some x
last_push [] x = refl
last_push (y ∷ []) x = refl
last_push (y ∷ z ∷ zs) x = last_push (z ∷ zs) x

pub apart_push : {X : Type 0} (xs : List X) (x : X) → HaveApartNeighbours xs → (last_of xs ≡ Some x → ⊥) → HaveApartNeighbours (xs ++ x ∷ [])
apart_push [] x h new = tt
apart_push (y ∷ []) x h new = ((λ e. new (ap Some e)), tt)
apart_push (y ∷ z ∷ zs) x h new = (h.0, apart_push (z ∷ zs) x h.1 new)

pub ids_more : (old new : IdReader) (taken : List (List ℕ)) (id : List ℕ) → (option_map string_bytes old.last ≡ Some id → ⊥) → option_map string_bytes new.last ≡ Some id → HasTakenIds old taken → HasTakenIds new (taken ++ id ∷ [])
ids_more old new taken id apart last h = record { last = last ∙ sym (last_push taken id); apart = apart_push taken id h.apart (λ e. apart (h.last ∙ e)) }

pub rowids_more : (old new : RowidReader) (taken : List ℤ) (rowid : ℤ) → (old.last ≡ Some rowid → ⊥) → new.last ≡ Some rowid → HasTakenRowids old taken → HasTakenRowids new (taken ++ rowid ∷ [])
rowids_more old new taken rowid apart last h = record { last = last ∙ sym (last_push taken rowid); apart = apart_push taken rowid h.apart (λ e. apart (h.last ∙ e)) }

-- ---- twice

pub last_twice : {X : Type 0} (xs : List X) (x : X) → last_of xs ≡ Some x → InOrder (λ a b. a ≡ b → ⊥) (xs ++ x ∷ []) → ⊥
last_twice [] x e h = absurd (cc)
last_twice (y ∷ []) x e h = h.0.0 (some_same y x e)
last_twice (y ∷ z ∷ zs) x e h = last_twice (z ∷ zs) x e h.1

last_counts : (xs : List (List ℕ)) (x : List ℕ) → last_of xs ≡ Some x → 1 ≤ total (λ one. cond (bytes_eq one x) 1 0) xs
last_counts [] x e = absurd (cc)
last_counts (y ∷ []) x e =
    let same : bytes_eq y x ≡ true = ap (λ t. bytes_eq t x) (some_same y x e) ∙ text_itself x in
    let one : cond {A = ℕ} (bytes_eq y x) 1 0 ≡ 1 = ap (λ b. cond b 1 0) same in
    omega arith
last_counts (y ∷ z ∷ zs) x e = let rest : 1 ≤ total (λ one. cond (bytes_eq one x) 1 0) (z ∷ zs) = last_counts (z ∷ zs) x e in omega (arith, rest)

pub id_twice : (taken : List (List ℕ)) (id : List ℕ) → last_of taken ≡ Some id → IsEachOnce (taken ++ id ∷ []) → ⊥
id_twice taken id e once =
    let few : total (λ one. cond (bytes_eq one id) 1 0) (taken ++ id ∷ []) ≤ 1 = once id in
    let whole = sum_append (λ one. cond (bytes_eq one id) 1 0) taken (id ∷ []) in
    let there : 1 ≤ total (λ one. cond (bytes_eq one id) 1 0) taken = last_counts taken id e in
    let here : cond {A = ℕ} (bytes_eq id id) 1 0 ≡ 1 = ap (λ b. cond b 1 0) (text_itself id) in
    absurd (omega (arith, whole, here))

-- ---- all

pub neighbours_apart : {X : Type 0} (R : X → X → Type 0) → ((a b : X) → R a b → R b a → a ≡ b) → (xs : List X) → HaveApartNeighbours xs → InOrder R xs → InOrder (λ a b. a ≡ b → ⊥) xs
neighbours_apart R both [] h order = tt
neighbours_apart R both (x ∷ []) h order = (tt, tt)
neighbours_apart R both (x ∷ y ∷ ys) h order =
    ((h.0, all_weaker (R y) (λ z. x ≡ z → ⊥) (λ z r e. h.0 (both x y order.0.0 (subst (R y) (sym e) r))) ys order.1.0), neighbours_apart R both (y ∷ ys) h.1 order.1)

absent : (x : List ℕ) (xs : List (List ℕ)) → AllByRecursion (λ y. x ≡ y → ⊥) xs → is_among xs x ≡ false
absent x [] h = refl
absent x (y ∷ ys) h = differ (bytes_eq y x) refl ∙ absent x ys h.1
  where
    differ : (b : Bool) → bytes_eq y x ≡ b → is_among (y ∷ ys) x ≡ is_among ys x
    differ true e = absurd (h.0 (sym (same_text y x e)))
    differ false e = ap (λ b. b || is_among ys x) e

pub apart_once : (xs : List (List ℕ)) → InOrder (λ a b. a ≡ b → ⊥) xs → has_once xs ≡ true
apart_once [] h = refl
apart_once (x ∷ xs) h = and_from (not (is_among xs x)) (has_once xs) (not_from_false (is_among xs x) (absent x xs h.0)) (apart_once xs h.1)

pub ids_once : (leq : List ℕ → List ℕ → Bool) → ((a b : List ℕ) → IsTrue (leq a b) → IsTrue (leq b a) → a ≡ b) → (ids : IdReader) (taken : List (List ℕ)) → HasTakenIds ids taken → InOrder (λ a b. IsTrue (leq a b)) taken → IsEachOnce taken
ids_once leq both ids taken h order = once_true taken (apart_once taken (neighbours_apart (λ a b. IsTrue (leq a b)) both taken h.apart order))

int_both : (m n : ℤ) → m ≤ℤ n → n ≤ℤ m → m ≡ n
int_both m n h g = omega (arith, ints)

pub rowids_apart : (rowids : RowidReader) (taken : List ℤ) → HasTakenRowids rowids taken → InOrder (λ a b. a ≤ℤ b) taken → InOrder (λ a b. a ≡ b → ⊥) taken
rowids_apart rowids taken h order = neighbours_apart (λ a b. a ≤ℤ b) int_both taken h.apart order
