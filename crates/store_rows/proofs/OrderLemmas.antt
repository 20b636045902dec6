-- The same records in another order stand for the same catalogue.
use Rattle.std.proofs.Common.{◌≡◌, add_assoc, ℕ, ◌+◌, ◌≤◌, ◌<◌, Bool, true, false, ◌&&◌, ◌⊎◌, inl, inr, List, [], ◌∷◌, refl, ap, sym, subst, ◌∙◌, arith, zero-add}
use Rattle.std.specs.Prelude.{ℤ, pos, ◌≤ℤ◌, map, filter, cond, bytes_eq, IsPermutation, IsTrue}
use Rattle.std.specs.List.{AllByRecursion, sum_by, fold}
use Rattle.std.proofs.lemmas.Bool.{false≢true}
use Rattle.std.proofs.lemmas.Int.{ints}
use Rattle.std.proofs.lemmas.List.Sorted.{All-permutation, sum_by-IsPermutation, IsPermutation-sym}
use Rattle.std.proofs.lemmas.List.Elements.{All-from_recursion, recursion_from_All}
use Rattle.dict_text.proofs.AllLemmas.{all_weaker, all_filter}
use Rattle.store_tables.specs.Records as spec
use Rattle.dict_catalogue.specs.Items.{Stored, Item, regular, virtual, name_of, members_of, editions_of, is_known}
use Rattle.dict_index.specs.Edition.{Edition}
use Rattle.dict_catalogue.specs.Steps.{KeptFor, Catalogue}
use Rattle.dict_catalogue.specs.WellFormed.{total, IsNumberedFrom}
use Rattle.dict_catalogue.proofs.ItemLemmas.{same_text}
use Rattle.store_rows.specs.Tables.{Tables, same_number, members_of_owner, editions_numbered, entries_of}
use Rattle.store_rows.specs.Written.{numbered, item_record, member_record, entry_record, kept_record}
use Rattle.store_rows.specs.Stands.{HoldsMembers, HoldsEdition, HoldsEditions, has_number, Stands}
use Rattle.store_rows.specs.Order.{InOrder, HaveSame, AreOrdered}
use Rattle.store_rows.proofs.TakenLemmas.{same_number_is, same_itself}

-- ---- the same elements

-- the element is one of the list
abbrev pub IsIn : {X : Type 0} → X → List X → Type 0
IsIn x [] = ⊥
IsIn x (y ∷ ys) = (x ≡ y) ⊎ IsIn x ys

-- the same elements, each as often
pub record Same {X : Type 0} (xs ys : List X) : Type 0 where
  pub into : (x : X) → IsIn x xs → IsIn x ys
  pub back : (x : X) → IsIn x ys → IsIn x xs
  pub counts : (p : X → Bool) → total (λ x. cond (p x) 1 0) xs ≡ total (λ x. cond (p x) 1 0) ys

pub each_in : {X : Type 0} (P : X → Type 0) (xs : List X) → ((x : X) → IsIn x xs → P x) → AllByRecursion P xs
each_in P [] h = tt
each_in P (x ∷ xs) h = (h x (inl refl), each_in P xs (λ y i. h y (inr i)))

pub in_all : {X : Type 0} (P : X → Type 0) (x : X) (ys : List X) → AllByRecursion P ys → IsIn x ys → P x
in_all P x [] h i = absurd i
in_all P x (y ∷ ys) h (inl e) = subst P (sym e) h.0
in_all P x (y ∷ ys) h (inr i) = in_all P x ys h.1 i

one_way : {X : Type 0} (xs ys : List X) → IsPermutation xs ys → (x : X) → IsIn x ys → IsIn x xs
one_way xs ys same x i =
    in_all (λ y. IsIn y xs) x ys (recursion_from_All (λ y. IsIn y xs) ys (All-permutation (λ y. IsIn y xs) xs ys same (All-from_recursion (λ y. IsIn y xs) xs (each_in (λ y. IsIn y xs) xs (λ y j. j))))) i

fold_total : {X : Type 0} (f : X → ℕ) (a : ℕ) (xs : List X) → fold (λ (n : ℕ) (x : X). n + f x) a xs ≡ a + total f xs
fold_total f a [] = let e : a ≡ a + 0 = omega arith in e
fold_total f a (x ∷ xs) = fold_total f (a + f x) xs ∙ add_assoc a (f x) (total f xs)

sum_total : {X : Type 0} (f : X → ℕ) (xs : List X) → sum_by f xs ≡ total f xs
sum_total f xs = fold_total f 0 xs ∙ zero-add (total f xs)

pub same_from : {X : Type 0} (xs ys : List X) → IsPermutation xs ys → Same xs ys
same_from xs ys same = record {
  into = one_way ys xs (IsPermutation-sym xs ys same);
  back = one_way xs ys same;
  counts = (λ p. sym (sum_total (λ x. cond (p x) 1 0) xs) ∙ sym (sum_by-IsPermutation (λ x. cond (p x) 1 0) xs ys same) ∙ sum_total (λ x. cond (p x) 1 0) ys);
}

-- ---- of those that pass a test

in_step : {X : Type 0} (p : X → Bool) (x y : X) (ys : List X) (b : Bool) → p y ≡ b → (IsIn x (filter p ys) → IsIn x ys × (p x ≡ true)) → IsIn x (cond b (y ∷ filter p ys) (filter p ys)) → IsIn x (y ∷ ys) × (p x ≡ true)
in_step p x y ys true e rest (inl same) = (inl same, ap p same ∙ e)
in_step p x y ys true e rest (inr j) = let found = rest j in (inr found.0, found.1)
in_step p x y ys false e rest j = let found = rest j in (inr found.0, found.1)

pub in_passed : {X : Type 0} (p : X → Bool) (x : X) (xs : List X) → IsIn x (filter p xs) → IsIn x xs × (p x ≡ true)
in_passed p x [] i = absurd i
in_passed p x (y ∷ ys) i = in_step p x y ys (p y) refl (λ j. in_passed p x ys j) i

behind_in : {X : Type 0} (p : X → Bool) (x y : X) (ys : List X) (b : Bool) → IsIn x (filter p ys) → IsIn x (cond b (y ∷ filter p ys) (filter p ys))
behind_in p x y ys true i = inr i
behind_in p x y ys false i = i

pub passed_in : {X : Type 0} (p : X → Bool) (x : X) (xs : List X) → p x ≡ true → IsIn x xs → IsIn x (filter p xs)
passed_in p x [] pass i = absurd i
passed_in p x (y ∷ ys) pass (inl e) = subst (λ b. IsIn x (cond b (y ∷ filter p ys) (filter p ys))) (sym pass ∙ ap p e) (inl e)
passed_in p x (y ∷ ys) pass (inr i) = behind_in p x y ys (p y) (passed_in p x ys pass i)

count_step : {X : Type 0} (p q : X → Bool) (y : X) (ys : List X) (b : Bool) → total (λ x. cond (q x) 1 0) (filter p ys) ≡ total (λ x. cond (p x && q x) 1 0) ys →
    total (λ x. cond (q x) 1 0) (cond b (y ∷ filter p ys) (filter p ys)) ≡ cond (b && q y) 1 0 + total (λ x. cond (p x && q x) 1 0) ys
count_step p q y ys true e = ap (λ n. cond (q y) 1 0 + n) e
count_step p q y ys false e = e ∙ sym (zero-add (total (λ x. cond (p x && q x) 1 0) ys))

count_passed : {X : Type 0} (p q : X → Bool) (xs : List X) → total (λ x. cond (q x) 1 0) (filter p xs) ≡ total (λ x. cond (p x && q x) 1 0) xs
count_passed p q [] = refl
count_passed p q (y ∷ ys) = count_step p q y ys (p y) (count_passed p q ys)

pub same_passed : {X : Type 0} (p : X → Bool) (xs ys : List X) → Same xs ys → Same (filter p xs) (filter p ys)
same_passed p xs ys same = record {
  into = (λ x i. let found = in_passed p x xs i in passed_in p x ys found.1 (same.into x found.0));
  back = (λ x i. let found = in_passed p x ys i in passed_in p x xs found.1 (same.back x found.0));
  counts = (λ q. count_passed p q xs ∙ same.counts (λ x. p x && q x) ∙ sym (count_passed p q ys));
}

passed_step : {X : Type 0} (p : X → Bool) (y : X) (ys : List X) (b : Bool) → p y ≡ b → AllByRecursion (λ x. p x ≡ true) (filter p ys) → AllByRecursion (λ x. p x ≡ true) (cond b (y ∷ filter p ys) (filter p ys))
passed_step p y ys true e rest = (e, rest)
passed_step p y ys false e rest = rest

pub all_passed : {X : Type 0} (p : X → Bool) (xs : List X) → AllByRecursion (λ x. p x ≡ true) (filter p xs)
all_passed p [] = tt
all_passed p (y ∷ ys) = passed_step p y ys (p y) refl (all_passed p ys)

-- ---- relations of earlier and later elements

order_step : {X : Type 0} (R : X → X → Type 0) (p : X → Bool) (y : X) (ys : List X) (b : Bool) → AllByRecursion (R y) ys → InOrder R (filter p ys) → InOrder R (cond b (y ∷ filter p ys) (filter p ys))
order_step R p y ys true all rest = (all_filter (R y) p ys all, rest)
order_step R p y ys false all rest = rest

pub order_passed : {X : Type 0} (R : X → X → Type 0) (p : X → Bool) (xs : List X) → InOrder R xs → InOrder R (filter p xs)
order_passed R p [] h = tt
order_passed R p (y ∷ ys) h = order_step R p y ys (p y) h.0 (order_passed R p ys h.1)

pub all_with : {X : Type 0} (P Q T : X → Type 0) → ((x : X) → P x → Q x → T x) → (xs : List X) → AllByRecursion P xs → AllByRecursion Q xs → AllByRecursion T xs
all_with P Q T f [] h g = tt
all_with P Q T f (x ∷ xs) h g = (f x h.0 g.0, all_with P Q T f xs h.1 g.1)

pub order_given : {X : Type 0} (Q : X → Type 0) (R T : X → X → Type 0) → ((a b : X) → Q a → Q b → R a b → T a b) → (xs : List X) → AllByRecursion Q xs → InOrder R xs → InOrder T xs
order_given Q R T f [] q h = tt
order_given Q R T f (x ∷ xs) q h = (all_with Q (R x) (T x) (λ y qy r. f x y q.0 qy r) xs q.1 h.0, order_given Q R T f xs q.1 h.1)

pub order_both : {X : Type 0} (R S T : X → X → Type 0) → ((a b : X) → R a b → S a b → T a b) → (xs : List X) → InOrder R xs → InOrder S xs → InOrder T xs
order_both R S T f [] h g = tt
order_both R S T f (x ∷ xs) h g = (all_with (R x) (S x) (T x) (f x) xs h.0 g.0, order_both R S T f xs h.1 g.1)

-- ---- numbers that rise

abbrev pub Below : ℤ → ℤ → Type 0
Below m n = (m ≤ℤ n) × (m ≡ n → ⊥)

le_both : (m n : ℤ) → m ≤ℤ n → n ≤ℤ m → m ≡ n
le_both m n h g = omega (arith, ints)

rise_same : {X : Type 0} (key : X → ℤ) (xs ys : List X) → ((x : X) → IsIn x xs → IsIn x ys) → ((x : X) → IsIn x ys → IsIn x xs) → InOrder (λ a b. Below (key a) (key b)) xs → InOrder (λ a b. Below (key a) (key b)) ys → xs ≡ ys
rise_same key [] [] into back sx sy = refl
rise_same key [] (y ∷ ys) into back sx sy = absurd (back y (inl refl))
rise_same key (x ∷ xs) [] into back sx sy = absurd (into x (inl refl))
rise_same {X} key (x ∷ xs) (y ∷ ys) into back sx sy =
    let first : x ≡ y = heads (into x (inl refl)) (back y (inl refl)) in
    let rest : xs ≡ ys = rise_same key xs ys (λ z i. later xs ys z (sym first) sx.0 i (into z (inr i))) (λ z i. later ys xs z first sy.0 i (back z (inr i))) sx.1 sy.1 in
    λ j. first j ∷ rest j
  where
    heads : IsIn x (y ∷ ys) → IsIn y (x ∷ xs) → x ≡ y
    heads (inl e) j = e
    heads (inr i) (inl e) = sym e
    heads (inr i) (inr j) =
        let up = in_all (λ z. Below (key y) (key z)) x ys sy.0 i in
        let down = in_all (λ z. Below (key x) (key z)) y xs sx.0 j in
        absurd (up.1 (le_both (key y) (key x) up.0 down.0))

    later : {u w : X} (us ws : List X) (z : X) → w ≡ u → AllByRecursion (λ v. Below (key u) (key v)) us → IsIn z us → IsIn z (w ∷ ws) → IsIn z ws
    later {u} {w} us ws z same all i (inl e) = absurd ((in_all (λ v. Below (key u) (key v)) z us all i).1 (ap key (sym (e ∙ same))))
    later {u} {w} us ws z same all i (inr j) = j

-- how many have this number
abbrev count_at : {X : Type 0} → (X → ℤ) → ℤ → List X → ℕ
count_at key k xs = total (λ x. cond (same_number (key x) k) 1 0) xs

none_step : (b : Bool) (n : ℕ) → (b ≡ true → ⊥) → n ≡ 0 → cond b 1 0 + n ≡ 0
none_step true n wrong e = absurd (wrong refl)
none_step false n wrong e = omega arith

none_at : {X : Type 0} (key : X → ℤ) (k : ℤ) (xs : List X) → AllByRecursion (λ x. k ≡ key x → ⊥) xs → count_at key k xs ≡ 0
none_at key k [] h = refl
none_at key k (x ∷ xs) h = none_step (same_number (key x) k) (count_at key k xs) (λ e. h.0 (sym (same_number_is (key x) k e))) (none_at key k xs h.1)

one_step : (b : Bool) (n : ℕ) → (b ≡ true → n ≡ 0) → n ≤ 1 → cond b 1 0 + n ≤ 1
one_step true n none few = let e : n ≡ 0 = none refl in omega arith
one_step false n none few = omega arith

one_at : {X : Type 0} (key : X → ℤ) (k : ℤ) (xs : List X) → InOrder (λ a b. Below (key a) (key b)) xs → count_at key k xs ≤ 1
one_at key k [] h = omega arith
one_at key k (x ∷ xs) h =
    one_step (same_number (key x) k) (count_at key k xs)
    (λ e. none_at key k xs (all_weaker (λ y. Below (key x) (key y)) (λ y. k ≡ key y → ⊥) (λ y below same. below.1 (same_number_is (key x) k e ∙ same)) xs h.0))
    (one_at key k xs h.1)

tail_none : (b : Bool) (n : ℕ) → cond b 1 0 + n ≡ 0 → n ≡ 0
tail_none true n e = omega arith
tail_none false n e = omega arith

head_none : (b : Bool) (n : ℕ) → cond b 1 0 + n ≡ 0 → b ≡ true → ⊥
head_none true n e same = absurd (omega arith)
head_none false n e same = false≢true same

apart_from_none : {X : Type 0} (key : X → ℤ) (k : ℤ) (xs : List X) → count_at key k xs ≡ 0 → AllByRecursion (λ x. k ≡ key x → ⊥) xs
apart_from_none key k [] h = tt
apart_from_none key k (x ∷ xs) h =
    ((λ same. head_none (same_number (key x) k) (count_at key k xs) h (sym (ap (same_number (key x)) (sym same)) ∙ same_itself (key x))), apart_from_none key k xs (tail_none (same_number (key x) k) (count_at key k xs) h))

fewer : (b : Bool) (n : ℕ) → cond b 1 0 + n ≤ 1 → n ≤ 1
fewer true n le = omega arith
fewer false n le = omega arith

none_left : (b : Bool) (n : ℕ) → b ≡ true → cond b 1 0 + n ≤ 1 → n ≡ 0
none_left true n e le = omega arith
none_left false n e le = absurd (false≢true e)

apart_from_counts : {X : Type 0} (key : X → ℤ) (xs : List X) → ((k : ℤ) → count_at key k xs ≤ 1) → InOrder (λ a b. key a ≡ key b → ⊥) xs
apart_from_counts key [] h = tt
apart_from_counts key (x ∷ xs) h =
    (apart_from_none key (key x) xs (none_left (same_number (key x) (key x)) (count_at key (key x) xs) (same_itself (key x)) (h (key x))), apart_from_counts key xs (λ k. fewer (same_number (key x) k) (count_at key k xs) (h k)))

-- the same elements, in the order of numbers that no two of them share
pub ordered_once : {X : Type 0} (key : X → ℤ) (xs ys : List X) → Same xs ys → InOrder (λ a b. Below (key a) (key b)) xs → InOrder (λ a b. key a ≤ℤ key b) ys → xs ≡ ys
ordered_once key xs ys same strict order =
    let few : (k : ℤ) → count_at key k ys ≤ 1 = λ k. subst (λ (n : ℕ). n ≤ 1) (same.counts (λ x. same_number (key x) k)) (one_at key k xs strict) in
    rise_same key xs ys same.into same.back strict
    (order_both (λ a b. key a ≤ℤ key b) (λ a b. key a ≡ key b → ⊥) (λ a b. Below (key a) (key b)) (λ a b le apart. (le, apart)) ys order (apart_from_counts key ys few))

-- one element
two_more : (n : ℕ) → 1 + 0 ≡ 1 + (1 + n) → ⊥
two_more n e = absurd (omega arith)

pub one_once : {X : Type 0} (x : X) (ys : List X) → Same (x ∷ []) ys → ys ≡ x ∷ []
one_once x [] same = absurd (same.into x (inl refl))
one_once x (y ∷ []) same = only (same.back y (inl refl))
  where
    only : IsIn y (x ∷ []) → y ∷ [] ≡ x ∷ []
    only (inl e) = ap (λ z. z ∷ []) e
    only (inr i) = absurd i
one_once x (y ∷ z ∷ zs) same = absurd (two_more (total (λ w. 1) zs) (same.counts (λ w. true)))

-- ---- what is written

pos_le : (m n : ℕ) → m ≤ n → pos m ≤ℤ pos n
pos_le m n h = omega (arith, ints)

pos_below : (m n : ℕ) → m < n → Below (pos m) (pos n)
pos_below m n h = (pos_le m n (omega arith), λ e. let same : m ≡ n = cc in absurd (omega arith))

numbered_from : {X Y : Type 0} (f : ℕ → X → Y) (key : Y → ℤ) → ((n : ℕ) (x : X) → key (f n x) ≡ pos n) → (n : ℕ) (xs : List X) → AllByRecursion (λ y. (m : ℕ) × (key y ≡ pos m) × (n ≤ m)) (numbered f n xs)
numbered_from f key keyed n [] = tt
numbered_from f key keyed n (x ∷ xs) = (
  (n, keyed n x, let le : n ≤ n = omega arith in le),
  all_weaker (λ y. (m : ℕ) × (key y ≡ pos m) × (n + 1 ≤ m)) (λ y. (m : ℕ) × (key y ≡ pos m) × (n ≤ m)) (λ y h. (h.0, h.1, let above : n + 1 ≤ h.0 = h.2 in omega arith))
      (numbered f (n + 1) xs) (numbered_from f key keyed (n + 1) xs),
)

below_from : (k : ℤ) (n : ℕ) (l : ℤ) → k ≡ pos n → (m : ℕ) × (l ≡ pos m) × (n + 1 ≤ m) → Below k l
below_from k n l e h = let above : n + 1 ≤ h.0 = h.2 in subst (λ (z : ℤ). Below z l) (sym e) (subst (Below (pos n)) (sym h.1) (pos_below n h.0 (omega arith)))

pub numbered_rise : {X Y : Type 0} (f : ℕ → X → Y) (key : Y → ℤ) → ((n : ℕ) (x : X) → key (f n x) ≡ pos n) → (n : ℕ) (xs : List X) → InOrder (λ a b. Below (key a) (key b)) (numbered f n xs)
numbered_rise f key keyed n [] = tt
numbered_rise f key keyed n (x ∷ xs) = (
  all_weaker (λ y. (m : ℕ) × (key y ≡ pos m) × (n + 1 ≤ m)) (λ y. Below (key (f n x)) (key y)) (λ y h. below_from (key (f n x)) n (key y) (keyed n x) h) (numbered f (n + 1) xs) (numbered_from f key keyed (n + 1) xs),
  numbered_rise f key keyed (n + 1) xs,
)

kept_from : (n : ℕ) (replies : List KeptFor) → IsNumberedFrom n replies → AllByRecursion (λ row. (m : ℕ) × (row.number ≡ pos m) × (n ≤ m)) (map kept_record replies)
kept_from n [] h = tt
kept_from n (one ∷ replies) h = (
  (n, ap pos h.0, let le : n ≤ n = omega arith in le),
  all_weaker (λ (row : spec.KeptRecord). (m : ℕ) × (row.number ≡ pos m) × (n + 1 ≤ m)) (λ row. (m : ℕ) × (row.number ≡ pos m) × (n ≤ m)) (λ row g. (g.0, g.1, let above : n + 1 ≤ g.0 = g.2 in omega arith)) (map kept_record replies)
      (kept_from (n + 1) replies h.1),
)

pub kept_rise : (n : ℕ) (replies : List KeptFor) → IsNumberedFrom n replies → InOrder (λ (a b : spec.KeptRecord). Below a.number b.number) (map kept_record replies)
kept_rise n [] h = tt
kept_rise n (one ∷ replies) h = (
  all_weaker (λ (row : spec.KeptRecord). (m : ℕ) × (row.number ≡ pos m) × (n + 1 ≤ m)) (λ row. Below (pos one.reply.number) row.number) (λ row g. below_from (pos one.reply.number) n row.number (ap pos h.0) g)
      (map kept_record replies) (kept_from (n + 1) replies h.1),
  kept_rise (n + 1) replies h.1,
)

-- ---- the tables

pub item_placed : {A : Type 0} (n : ℕ) (item : Item A) → (item_record n item).place ≡ pos n
item_placed n (regular name current former) = refl
item_placed n (virtual name title members) = refl

pub members_same : {A : Type 0} (old new : List spec.Member) (item : Item A) → Same old new → InOrder (λ (a b : spec.Member). a.owner ≡ b.owner → a.ord ≤ℤ b.ord) new → HoldsMembers old item → HoldsMembers new item
members_same old new item same order h =
    let owner = name_of item in
    let mine = same_passed (λ (row : spec.Member). bytes_eq row.owner owner) old new same in
    let rising : InOrder (λ (a b : spec.Member). a.ord ≤ℤ b.ord) (members_of_owner owner new) =
    order_given (λ (row : spec.Member). bytes_eq row.owner owner ≡ true) (λ (a b : spec.Member). a.owner ≡ b.owner → a.ord ≤ℤ b.ord) (λ (a b : spec.Member). a.ord ≤ℤ b.ord)
    (λ a b x y r. r (same_text a.owner owner x ∙ sym (same_text b.owner owner y)))
    (members_of_owner owner new) (all_passed (λ (row : spec.Member). bytes_eq row.owner owner) new) (order_passed (λ (a b : spec.Member). a.owner ≡ b.owner → a.ord ≤ℤ b.ord) (λ (row : spec.Member). bytes_eq row.owner owner) new order) in
    let strict = subst (InOrder (λ (a b : spec.Member). Below a.ord b.ord)) (sym h) (numbered_rise (member_record owner) (λ (row : spec.Member). row.ord) (λ n x. refl) 0 (members_of item)) in
    sym (ordered_once (λ (row : spec.Member). row.ord) (members_of_owner owner old) (members_of_owner owner new) mine strict rising) ∙ h

edition_same : (old new : Tables) (owner : List ℕ) (stored : Stored Edition) → Same old.editions new.editions → Same old.entries new.entries → InOrder (λ (a b : spec.EntryRecord). a.edition ≡ b.edition → a.ord ≤ℤ b.ord) new.entries →
    HoldsEdition old owner stored → HoldsEdition new owner stored
edition_same old new owner stored editions entries order h =
    let number = pos stored.number in
    let rows = same_passed (λ (row : spec.EditionRecord). same_number row.number number) old.editions new.editions editions in
    let mine = same_passed (λ (row : spec.EntryRecord). same_number row.edition number) old.entries new.entries entries in
    let rising : InOrder (λ (a b : spec.EntryRecord). a.ord ≤ℤ b.ord) (entries_of number new.entries) =
    order_given (λ (row : spec.EntryRecord). same_number row.edition number ≡ true) (λ (a b : spec.EntryRecord). a.edition ≡ b.edition → a.ord ≤ℤ b.ord) (λ (a b : spec.EntryRecord). a.ord ≤ℤ b.ord)
    (λ a b x y r. r (same_number_is a.edition number x ∙ sym (same_number_is b.edition number y)))
    (entries_of number new.entries) (all_passed (λ (row : spec.EntryRecord). same_number row.edition number) new.entries)
    (order_passed (λ (a b : spec.EntryRecord). a.edition ≡ b.edition → a.ord ≤ℤ b.ord) (λ (row : spec.EntryRecord). same_number row.edition number) new.entries order) in
    let strict = subst (InOrder (λ (a b : spec.EntryRecord). Below a.ord b.ord)) (sym h.entries) (numbered_rise (entry_record stored.number) (λ (row : spec.EntryRecord). row.ord) (λ n x. refl) 0 h.reading.lines) in
    record {
      reading = h.reading;
      says = h.says;
      short = h.short;
      within = h.within;
      row = one_once _ _ (subst (λ rows. Same rows (editions_numbered number new.editions)) h.row rows);
      entries = sym (ordered_once (λ (row : spec.EntryRecord). row.ord) (entries_of number old.entries) (entries_of number new.entries) mine strict rising) ∙ h.entries;
    }

pub all_same : {X : Type 0} (P : X → Type 0) (xs ys : List X) → IsPermutation xs ys → AllByRecursion P xs → AllByRecursion P ys
all_same P xs ys same h = recursion_from_All P ys (All-permutation P xs ys same (All-from_recursion P xs h))

pub ordered_stands : (version : ℕ) (old new : Tables) (M : Catalogue) → HaveSame old new → AreOrdered new → Stands version old M → Stands version new M
ordered_stands version old new M same order h = record {
  well_formed = h.well_formed;
  marks = one_once _ _ (subst (λ rows. Same rows new.marks) h.marks (same_from old.marks new.marks same.marks));
  items = sym (ordered_once (λ (row : spec.ItemRecord). row.place) old.items new.items (same_from old.items new.items same.items)
      (subst (InOrder (λ (a b : spec.ItemRecord). Below a.place b.place)) (sym h.items) (numbered_rise item_record (λ (row : spec.ItemRecord). row.place) item_placed 0 M.items)) order.items) ∙ h.items;
  members = all_weaker (HoldsMembers old.members) (HoldsMembers new.members) (λ item g. members_same old.members new.members item (same_from old.members new.members same.members) order.members g) M.items h.members;
  owners = all_same (λ (row : spec.Member). IsTrue (is_known M.items row.owner)) old.members new.members same.members h.owners;
  editions = all_weaker (HoldsEditions old) (HoldsEditions new)
      (λ item g. all_weaker (HoldsEdition old (name_of item)) (HoldsEdition new (name_of item))
      (λ stored k. edition_same old new (name_of item) stored (same_from old.editions new.editions same.editions) (same_from old.entries new.entries same.entries) order.entries k)
      (editions_of item) g) M.items h.editions;
  numbers = all_same (λ (row : spec.EditionRecord). IsTrue (has_number M.items row.number)) old.editions new.editions same.editions h.numbers;
  entries = all_same (λ (row : spec.EntryRecord). IsTrue (has_number M.items row.edition)) old.entries new.entries same.entries h.entries;
  kept = sym (ordered_once (λ (row : spec.KeptRecord). row.number) old.kept new.kept (same_from old.kept new.kept same.kept)
      (subst (InOrder (λ (a b : spec.KeptRecord). Below a.number b.number)) (sym h.kept) (kept_rise 1 M.kept h.well_formed.numbered)) order.kept) ∙ h.kept;
}
