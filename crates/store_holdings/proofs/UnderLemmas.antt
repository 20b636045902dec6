-- What stands under a number.
use Rattle.std.proofs.Common.{◌≡◌, ℕ, Bool, true, nat_eq, cond, List, [], ◌∷◌, Option, Some, None, unwrap_or, Result, Ok, Err, OnOk, OnErr, Ordering, Less, Equal, Greater, refl, sym, ap, ◌∙◌, arith}
use Rattle.std.proofs.lemmas.Bool.Decides.{nat_tests}
use Rattle.std.specs.Map.{lookup}
use Rattle.std.specs.Ordering.{is_eq, match_ordering, nat_cmp}
use Rattle.std.specs.BTreeMap.{insert_entry, is_at}
use Rattle.std.specs.List.Sorted.{IsStrictlySortedBy}
use Rattle.std.specs.Map.{keys_of}
use Rattle.std.proofs.lemmas.Cmp.{nat_cmp_total}
use Rattle.std.proofs.lemmas.Map.{lookup-none}
use Rattle.std.proofs.lemmas.Map.Entries.{none_below_head}
use Rattle.std.proofs.lemmas.Map.Keys.{sorted_tail}
use Rattle.store_search.specs.Entries.{Indexed}
use Rattle.store_holdings.specs.Indexes.{entries_under, IsOut}

abbrev pub Pairs : Type 0
Pairs = List (ℕ × List Indexed)

pub same_test : (a b : ℕ) → is_at (nat_cmp a) b ≡ nat_eq a b
same_test a b = grind (arith, nat_tests)

lookup_same : (s t : ℕ → Bool) → ((k : ℕ) → s k ≡ t k) → (es : Pairs) → lookup s es ≡ lookup t es
lookup_same s t same [] = refl
lookup_same s t same (e ∷ es) = λ i. cond (same e.0 i) (Some e.1) (lookup_same s t same es i)

-- as a map in order has it
pub found_under : (q : ℕ) (es : Pairs) → lookup (is_at (nat_cmp q)) es ≡ entries_under q es
found_under q es = lookup_same (is_at (nat_cmp q)) (nat_eq q) (same_test q) es

-- ---- an entry that is written over, and then written back

step : (k : ℕ) (w : List Indexed) (e : ℕ × List Indexed) (es : Pairs) (r : Ordering) → nat_cmp k e.0 ≡ r
    → insert_entry nat_cmp (e ∷ es) k w ≡ match_ordering r ((k, w) ∷ e ∷ es) ((e.0, w) ∷ es) (e ∷ insert_entry nat_cmp es k w)
step k w e es r h = ap (λ o. match_ordering o ((k, w) ∷ e ∷ es) ((e.0, w) ∷ es) (e ∷ insert_entry nat_cmp es k w)) h

looked : (k : ℕ) (e : ℕ × List Indexed) (es : Pairs) (r : Ordering) → nat_cmp k e.0 ≡ r → lookup (is_at (nat_cmp k)) (e ∷ es) ≡ cond (is_eq r) (Some e.1) (lookup (is_at (nat_cmp k)) es)
looked k e es r h = ap (λ o. cond (is_eq o) (Some e.1) (lookup (is_at (nat_cmp k)) es)) h

back_by : (k : ℕ) (p v : List Indexed) (e : ℕ × List Indexed) (es : Pairs) (r : Ordering) → nat_cmp k e.0 ≡ r
    → (lookup (is_at (nat_cmp k)) es ≡ Some v → insert_entry nat_cmp (insert_entry nat_cmp es k p) k v ≡ es) → (r ≡ Less → lookup (is_at (nat_cmp k)) (e ∷ es) ≡ None)
    → lookup (is_at (nat_cmp k)) (e ∷ es) ≡ Some v → insert_entry nat_cmp (insert_entry nat_cmp (e ∷ es) k p) k v ≡ e ∷ es
back_by k p v e es Less h further none there = absurd (let no = sym there ∙ none refl in cc)
back_by k p v e es Equal h further none there =
    ap (λ (l : Pairs). insert_entry nat_cmp l k v) (step k p e es Equal h) ∙ step k v (e.0, p) es Equal h
    ∙ ap (λ (x : List Indexed). (e.0, x) ∷ es) (ap (λ (o : Option (List Indexed)). unwrap_or o []) (sym there ∙ looked k e es Equal h))
back_by k p v e es Greater h further none there =
    ap (λ (l : Pairs). insert_entry nat_cmp l k v) (step k p e es Greater h) ∙ step k v e (insert_entry nat_cmp es k p) Greater h
    ∙ ap (λ (l : Pairs). e ∷ l) (further (sym (looked k e es Greater h) ∙ there))

pub written_back : (k : ℕ) (p v : List Indexed) (es : Pairs) → IsStrictlySortedBy nat_cmp (keys_of es) → lookup (is_at (nat_cmp k)) es ≡ Some v
    → insert_entry nat_cmp (insert_entry nat_cmp es k p) k v ≡ es
written_back k p v [] sorted there = absurd (let no = there in cc)
written_back k p v (e ∷ es) sorted there =
    back_by k p v e es (nat_cmp k e.0) refl (written_back k p v es (sorted_tail nat_cmp e.0 (keys_of es) sorted))
    (λ less. lookup-none (is_at (nat_cmp k)) (e ∷ es) (none_below_head nat_cmp_total k e es sorted less)) there

-- what is put in the place of an index that was taken out
pub put_ends : {A B : Type 0} (result : Result A B) (old new : Pairs) (number : ℕ) (index : List Indexed) (before : Pairs) → OnOk result (new ≡ insert_entry nat_cmp old number index)
    → OnErr result (lookup (is_at (nat_cmp number)) old ≡ None) → IsOut number index before old → new ≡ before
put_ends (Ok x) old new number index before written absent out = written ∙ out.back
put_ends (Err e) old new number index before written absent out = absurd (let no = sym out.there ∙ sym (found_under number old) ∙ absent in cc)

same_itself : (a : ℕ) → is_at (nat_cmp a) a ≡ true
same_itself a = grind (arith, nat_tests)

-- an empty index was put in the place of one
pub out_is : (number : ℕ) (old new now : Pairs) (empty index : List Indexed) → new ≡ insert_entry nat_cmp old number empty
    → lookup (is_at (nat_cmp number)) new ≡ cond (is_at (nat_cmp number) number) (Some empty) (lookup (is_at (nat_cmp number)) old) → empty ≡ [] → IsStrictlySortedBy nat_cmp (keys_of old)
    → lookup (is_at (nat_cmp number)) old ≡ Some index → old ≡ now → IsOut number index now new
out_is number old new now empty index written updated none sorted found same = record {
  there = sym (found_under number new) ∙ updated ∙ ap (λ b. cond b (Some empty) (lookup (is_at (nat_cmp number)) old)) (same_itself number) ∙ ap Some none;
  back = ap (λ (l : Pairs). insert_entry nat_cmp l number index) written ∙ written_back number empty index old sorted found ∙ same;
}
