-- What stands under the numbers of items, as indexes are let go of.
use Rattle.std.proofs.Common.{◌≡◌, ◌≢◌, ℕ, Bool, true, false, cond, List, [], nat_eq, refl, sym, ap, ◌∙◌, arith}
use Rattle.std.specs.Prelude.{Option, Some, None}
use Rattle.std.specs.List.{AllByRecursion}
use Rattle.std.proofs.lemmas.Bool.{eqb-true, false≢true}
use Rattle.dict_text.proofs.AllLemmas.{all_of, all_weaker}
use Rattle.dict_catalogue.specs.Items.{numbers_of}
use Rattle.dict_catalogue.specs.Views.{item_shown}
use Rattle.dict_catalogue.specs.declared.summary.Item.{Item}
use Rattle.store_rows.proofs.OrderLemmas.{all_with}
use Rattle.store_search.specs.Entries.{Indexed}
use Rattle.store_holdings.specs.Indexes.{entries_under, IsGone}

-- ---- of each number of the items

abbrev pub OfNumbers : (ℕ → Type 0) → Item → Type 0
OfNumbers P item = AllByRecursion P (numbers_of (item_shown item))

pub numbers_both : (P Q R : ℕ → Type 0) → ((one : ℕ) → P one → Q one → R one) → (items : List Item) → AllByRecursion (OfNumbers P) items → AllByRecursion (OfNumbers Q) items → AllByRecursion (OfNumbers R) items
numbers_both P Q R f items p q = all_with (OfNumbers P) (OfNumbers Q) (OfNumbers R) (λ item a b. all_with P Q R f (numbers_of (item_shown item)) a b) items p q

-- ---- what stands under them is what stood there

abbrev pub Same : List (ℕ × List Indexed) → List (ℕ × List Indexed) → ℕ → Type 0
Same old new one = entries_under one new ≡ entries_under one old

pub same_itself : (indexes : List (ℕ × List Indexed)) (items : List Item) → AllByRecursion (OfNumbers (Same indexes indexes)) items
same_itself indexes items = all_of (OfNumbers (Same indexes indexes)) (λ item. all_of (Same indexes indexes) (λ one. refl) (numbers_of (item_shown item))) items

pub same_then : (old mid new : List (ℕ × List Indexed)) (items : List Item) → AllByRecursion (OfNumbers (Same old mid)) items → AllByRecursion (OfNumbers (Same mid new)) items → AllByRecursion (OfNumbers (Same old new)) items
same_then old mid new items a b = numbers_both (Same old mid) (Same mid new) (Same old new) (λ one p q. q ∙ p) items a b

gone_beside : (number one : ℕ) (b : Bool) (x y : Option (List Indexed)) → nat_eq number one ≡ b → one ≢ number → cond b x y ≡ y
gone_beside number one true x y e apart = absurd (apart (sym (eqb-true number one e)))
gone_beside number one false x y e apart = refl

pub beside_one : (number : ℕ) (old new : List (ℕ × List Indexed)) → ((q : ℕ) → entries_under q new ≡ cond (nat_eq number q) None (entries_under q old)) → (q : ℕ) → q ≢ number → entries_under q new ≡ entries_under q old
beside_one number old new gone q apart = gone q ∙ gone_beside number q (nat_eq number q) None (entries_under q old) refl apart

pub same_beside : (number : ℕ) (old new : List (ℕ × List Indexed)) → ((q : ℕ) → entries_under q new ≡ cond (nat_eq number q) None (entries_under q old)) → (items : List Item) → AllByRecursion (OfNumbers (λ one. one ≢ number)) items
    → AllByRecursion (OfNumbers (Same old new)) items
same_beside number old new gone items apart =
    all_weaker (OfNumbers (λ one. one ≢ number)) (OfNumbers (Same old new)) (λ item h. all_weaker (λ (one : ℕ). one ≢ number) (Same old new) (λ one p. beside_one number old new gone one p) (numbers_of (item_shown item)) h) items apart

-- ---- none stands under the number that was let go of

itself : (n : ℕ) → nat_eq n n ≡ true
itself n = grind arith

none_at : (number : ℕ) (b : Bool) (x : Option (List Indexed)) → b ≡ true → cond b None x ≡ None
none_at number true x is = refl
none_at number false x is = absurd (false≢true is)

pub gone_there : (number : ℕ) (old new : List (ℕ × List Indexed)) → ((q : ℕ) → entries_under q new ≡ cond (nat_eq number q) None (entries_under q old)) → entries_under number new ≡ None
gone_there number old new gone = gone number ∙ none_at number (nat_eq number number) (entries_under number old) (itself number)

none_still : (b : Bool) (x : Option (List Indexed)) → x ≡ None → cond b None x ≡ None
none_still true x is = refl
none_still false x is = is

-- where none stood, none does
abbrev pub Fewer : List (ℕ × List Indexed) → List (ℕ × List Indexed) → Type 0
Fewer old new = (q : ℕ) → entries_under q old ≡ None → entries_under q new ≡ None

pub fewer_by : (number : ℕ) (old new : List (ℕ × List Indexed)) → ((q : ℕ) → entries_under q new ≡ cond (nat_eq number q) None (entries_under q old)) → Fewer old new
fewer_by number old new gone q none = gone q ∙ none_still (nat_eq number q) (entries_under q old) none

pub gone_still : (items : List Item) (old new : List (ℕ × List Indexed)) → Fewer old new → (before : List Item) → AllByRecursion (OfNumbers (IsGone items old)) before → AllByRecursion (OfNumbers (IsGone items new)) before
gone_still items old new fewer before h =
    all_weaker (OfNumbers (IsGone items old)) (OfNumbers (IsGone items new)) (λ item p. all_weaker (IsGone items old) (IsGone items new) (λ one gone apart. fewer one (gone apart)) (numbers_of (item_shown item)) p) before h

-- ---- the index that stands under a number

abbrev index_in : Option (List Indexed) → List Indexed
index_in (Some index) = index
index_in None = []

pub the_index : (here index : List Indexed) (found : Option (List Indexed)) → Some here ≡ found → found ≡ Some index → index ≡ here
the_index here index found p q = sym (ap index_in (p ∙ q))
