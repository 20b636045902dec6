-- What is held of the tables that were taken, as one more record is taken.
use Rattle.std.proofs.Common.{◌≡◌, ℕ, suc, Bool, true, false, inl, inr, List, [], ◌∷◌, ◌++◌, length, refl, ap, subst, ◌∙◌, arith, append-nil, Some, None}
use Rattle.std.specs.Prelude.{ℤ, pos, negsuc, filter, cond, ◌==◌}
use Rattle.std.specs.List.{AllByRecursion}
use Rattle.std.proofs.lemmas.Bool.{false≢true}
use Rattle.std.proofs.lemmas.Bool.Decides.{nat_tests}
use Rattle.std.proofs.lemmas.List.Elements.{filter-append}
use Rattle.dict_text.specs.Names.{is_title}
use Rattle.dict_index.specs.Edition.{Edition}
use Rattle.dict_catalogue.specs.Items.{Stored, Item, regular, virtual, numbers_of}
use Rattle.dict_index.specs.WellFormed.{IsWellFormedEdition}
use Rattle.store_rows.specs.Tables.{Tables, same_number, editions_numbered, entries_of}
use Rattle.store_rows.specs.Stands.{HoldsEdition}
use Rattle.store_rows.specs.Taken.{HasNone, IsTaken, HoldsTitle, HoldsTitles}

-- numbers

pub same_number_is : (a b : ℤ) → same_number a b ≡ true → a ≡ b
same_number_is (pos m) (pos n) e = ap pos (let h : m ≡ n = grind (arith, nat_tests) in h)
same_number_is (pos m) (negsuc n) e = absurd (false≢true e)
same_number_is (negsuc m) (pos n) e = absurd (false≢true e)
same_number_is (negsuc m) (negsuc n) e = ap negsuc (let h : m ≡ n = grind (arith, nat_tests) in h)

pub same_itself : (a : ℤ) → same_number a a ≡ true
same_itself (pos m) = grind (arith, nat_tests)
same_itself (negsuc m) = grind (arith, nat_tests)

pub nat_same : (m n : ℕ) → (m == n) ≡ true → m ≡ n
nat_same m n e = grind (arith, nat_tests)

pub nat_itself : (m n : ℕ) → m ≡ n → (m == n) ≡ true
nat_itself m n e = grind (arith, nat_tests)

-- a filter of one element more

pub filter_passes : {X : Type 0} (p : X → Bool) (xs : List X) (x : X) → p x ≡ true → filter p (xs ++ x ∷ []) ≡ filter p xs ++ x ∷ []
filter_passes p xs x e = filter-append p xs (x ∷ []) ∙ ap (λ b. filter p xs ++ cond b (x ∷ []) []) e

pub filter_passes_not : {X : Type 0} (p : X → Bool) (xs : List X) (x : X) → p x ≡ false → filter p (xs ++ x ∷ []) ≡ filter p xs
filter_passes_not p xs x e = filter-append p xs (x ∷ []) ∙ ap (λ b. filter p xs ++ cond b (x ∷ []) []) e ∙ append-nil (filter p xs)

-- what holds of an edition by the records of its number alone

pub record SameAt (number : ℕ) (old new : Tables) : Type 0 where
  pub editions : editions_numbered (pos number) new.editions ≡ editions_numbered (pos number) old.editions
  pub entries : entries_of (pos number) new.entries ≡ entries_of (pos number) old.entries

pub holds_same : (old new : Tables) (owner : List ℕ) (stored : Stored Edition) → SameAt stored.number old new → HoldsEdition old owner stored → HoldsEdition new owner stored
holds_same old new owner stored same h = record { reading = h.reading; says = h.says; short = h.short; within = h.within; row = same.editions ∙ h.row; entries = same.entries ∙ h.entries }

pub taken_same : (old new : Tables) (owner : List ℕ) (number : ℕ) (title : List ℕ) → SameAt number old new → IsTaken old owner number title → IsTaken new owner number title
taken_same old new owner number title same h =
    record { edition = h.edition; holds = holds_same old new owner (record { number = number; content = h.edition }) same h.holds; title = h.title; lawful = h.lawful }

pub title_same : (old new : Tables) (owner : List ℕ) (stored : Stored (List ℕ)) → SameAt stored.number old new → HoldsTitle old owner stored → HoldsTitle new owner stored
title_same old new owner stored same (inl h) = inl (h.0, (same.editions ∙ h.1.0, same.entries ∙ h.1.1))
title_same old new owner stored same (inr h) = inr (taken_same old new owner stored.number stored.content same h)

pub titles_same : (old new : Tables) (item : Item (List ℕ)) → AllByRecursion (λ number. SameAt number old new) (numbers_of item) → HoldsTitles old item → HoldsTitles new item
titles_same old new (regular name current None) same h = (title_same old new name current same.0 h.0, tt)
titles_same old new (regular name current (Some former)) same h = (title_same old new name current same.0 h.0, (title_same old new name former same.1.0 h.1.0, tt))
titles_same old new (virtual name title members) same h = tt

-- a title is not empty
pub no_empty_title : (edition : Edition) → IsWellFormedEdition edition → edition.title ≡ [] → ⊥
unfolding is_title
no_empty_title edition h e = false≢true (subst (λ (title : List ℕ). is_title title ≡ true) e h.title.1)

pub none_held : (taken : Tables) (owner : List ℕ) (stored : Stored (List ℕ)) → HoldsTitle taken owner stored → stored.content ≡ [] → HasNone taken stored.number
none_held taken owner stored (inl h) e = h.1
none_held taken owner stored (inr h) e = absurd (no_empty_title h.edition h.lawful (h.title ∙ e))

pub length_none : (xs : List ℕ) → (length xs == 0) ≡ true → xs ≡ []
length_none [] e = refl
length_none (x ∷ xs) e = absurd (let h : suc (length xs) ≡ 0 = nat_same (suc (length xs)) 0 e in omega arith)
