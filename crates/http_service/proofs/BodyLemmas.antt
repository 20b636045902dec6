-- Values of the forms that bodies have.
use Rattle.std.proofs.Common.{◌≡◌, ◌<◌, ℕ, suc, zero, true, List, [], ◌∷◌, map, Option, Some, None, option_map, option_and_then, Ordering, Less, Equal, Greater, length, get_or, codes, refl, sym, ap, ◌∙◌, subst, arith}
use Rattle.std.specs.Ordering.{match_ordering, nat_cmp, is_eq}
use Rattle.std.specs.Cmp.Lexicographic.{slice_cmp}
use Rattle.std.proofs.lemmas.Map.Text.{is_eq-slice_cmp}
use Rattle.std.proofs.lemmas.Slice.Eq.{bytes_eq-Decides}
use Rattle.serde_json.specs.Data.{unsigned, negative, float, Data, null, boolean, number, string, array, object, Items, Members, no_members, member}
use Rattle.serde_json.specs.Find.{get, get_member, as_number, as_u64, as_object, as_array, as_str}
use Rattle.serde_json.specs.Events.{members_len}
use Rattle.serde_json.specs.View.{items_of, members_view}
use Rattle.serde_json.proofs.Views.{Entry, members_len-members_view}
use Rattle.http_service.specs.Bodies.{HasMembers, IsJson, IsPlace, IsPlaceValue, IsVirtual}

abbrev pub unsigned_of : Option Data → Option ℕ
unsigned_of o = option_and_then as_u64 (option_and_then as_number o)

-- what is found there is an unsigned number
number_is : (d : Data) (n : ℕ) → unsigned_of (Some d) ≡ Some n → d ≡ number (unsigned n)
number_is (number (unsigned m)) n h = cc h
number_is (number (negative z)) n h = absurd (cc h)
number_is (number (float x)) n h = absurd (cc h)
number_is null n h = absurd (cc h)
number_is (boolean b) n h = absurd (cc h)
number_is (string s) n h = absurd (cc h)
number_is (array ds) n h = absurd (cc h)
number_is (object ms) n h = absurd (cc h)

found : (o : Ordering) (d : Data) (n : ℕ) → unsigned_of (match_ordering o None (Some d) None) ≡ Some n → (is_eq o ≡ true) × (d ≡ number (unsigned n))
found Less d n h = absurd (cc h)
found Equal d n h = (refl, number_is d n h)
found Greater d n h = absurd (cc h)

same_key : (k l : List ℕ) → is_eq (slice_cmp nat_cmp k l) ≡ true → k ≡ l
same_key k l h = (bytes_eq-Decides k l).0 (sym (is_eq-slice_cmp k l) ∙ h)

one : (k : List ℕ) (ms : Members) (n : ℕ) → members_len ms ≡ 1 → unsigned_of (get_member k ms) ≡ Some n → ms ≡ member k (number (unsigned n)) no_members
one k no_members n c h = absurd (cc h)
one k (member l d no_members) n c h =
    let f : (is_eq (slice_cmp nat_cmp k l) ≡ true) × (d ≡ number (unsigned n)) = found (slice_cmp nat_cmp k l) d n h in
    cc (same_key k l f.0, f.1)
one k (member l d (member m e ms)) n c h = absurd (omega (arith, c))

pub one_member : (k : List ℕ) (d : Data) (ms : Members) (n : ℕ) → Some ms ≡ as_object d → members_len ms ≡ 1 → unsigned_of (get k d) ≡ Some n → d ≡ object (member k (number (unsigned n)) no_members)
one_member k (object js) ms n e c h = let same : js ≡ ms = cc e in ap object (one k js n (subst (λ x. members_len x ≡ 1) (sym same) c) h)
one_member k null ms n e c h = absurd (cc h)
one_member k (boolean b) ms n e c h = absurd (cc h)
one_member k (number x) ms n e c h = absurd (cc h)
one_member k (string s) ms n e c h = absurd (cc h)
one_member k (array ds) ms n e c h = absurd (cc h)

some_is : {X : Type 0} {a b : X} → Some a ≡ Some b → a ≡ b
some_is h = cc h

-- a value of that form has one member
pub one_count : (k : List ℕ) (d : Data) (es : List Entry) (n : ℕ) → Some (members_view es) ≡ as_object d → d ≡ object (member k (number (unsigned n)) no_members) → length es ≡ 1
one_count k d es n e is =
    let ms : members_view es ≡ member k (number (unsigned n)) no_members = some_is (e ∙ ap as_object is) in
    sym (members_len-members_view es) ∙ ap members_len ms

pub one_is : (k : List ℕ) (d : Data) (es : List Entry) (n : ℕ) → Some (members_view es) ≡ as_object d → length es ≡ 1 → unsigned_of (get k d) ≡ Some n → d ≡ object (member k (number (unsigned n)) no_members)
one_is k d es n e count h = one_member k d (members_view es) n e (members_len-members_view es ∙ count) h

pub array_is : (o : Option Data) (items : Items) → option_and_then as_array o ≡ Some items → o ≡ Some (array items)
array_is None items h = absurd (cc h)
array_is (Some (array ds)) items h = cc h
array_is (Some null) items h = absurd (cc h)
array_is (Some (boolean b)) items h = absurd (cc h)
array_is (Some (number x)) items h = absurd (cc h)
array_is (Some (string s)) items h = absurd (cc h)
array_is (Some (object ms)) items h = absurd (cc h)

pub string_is : (o : Option Data) (text : List ℕ) → option_and_then as_str o ≡ Some text → o ≡ Some (string text)
string_is None text h = absurd (cc h)
string_is (Some (string s)) text h = cc h
string_is (Some null) text h = absurd (cc h)
string_is (Some (boolean b)) text h = absurd (cc h)
string_is (Some (number x)) text h = absurd (cc h)
string_is (Some (array ds)) text h = absurd (cc h)
string_is (Some (object ms)) text h = absurd (cc h)

-- how many members there are
pub count_is : (d : Data) (es : List Entry) → Some (members_view es) ≡ as_object d → option_map members_len (as_object d) ≡ Some (length es)
count_is d es e = ap (option_map members_len) (sym e) ∙ ap Some (members_len-members_view es)

pub two_is : (d : Data) (es : List Entry) (items : Items) (title : List ℕ) → Some (members_view es) ≡ as_object d → HasMembers d items title → length es ≡ 2
two_is d es items title e v = some_is (sym (count_is d es e) ∙ v.two)

-- ---- items and texts

-- a list of items is that of one list alone
pub items_once : (xs ys : List Data) → items_of xs ≡ items_of ys → xs ≡ ys
items_once [] [] h = refl
items_once [] (y ∷ ys) h = absurd (cc h)
items_once (x ∷ xs) [] h = absurd (cc h)
items_once (x ∷ xs) (y ∷ ys) h =
    let a : x ≡ y = cc h in
    let b : items_of xs ≡ items_of ys = cc h in
    let t : xs ≡ ys = items_once xs ys b in
    cc

-- the parts of that form are determined
pub items_same : (d : Data) (xs ys : Items) (s t : List ℕ) → HasMembers d xs s → HasMembers d ys t → xs ≡ ys
items_same d xs ys s t p q = let e : Some (array xs) ≡ Some (array ys) = sym p.members ∙ q.members in cc

-- at each place of texts stands one
pub text_at : {V : Type 0} (view : V → Data) (items : List V) (texts : List (List ℕ)) (i : ℕ) (d : V)
    → map view items ≡ map string texts → i < length items → as_str (view (get_or items i d)) ≡ None → ⊥
text_at view [] texts i d e small none = omega (arith, small)
text_at view (x ∷ items) [] i d e small none = cc e
text_at view (x ∷ items) (t ∷ texts) zero d e small none =
    let f : view x ≡ string t = cc e in
    let g : Some t ≡ None = sym (ap as_str f) ∙ none in
    cc g
text_at view (x ∷ items) (t ∷ texts) (suc i) d e small none =
    let f : map view items ≡ map string texts = cc e in
    text_at view items texts i d f (omega (arith, small)) none

-- where its items are no texts, a value doesn't have that form
pub no_texts : (d : Data) (items : List Data) (s t : List ℕ) (texts : List (List ℕ)) → HasMembers d (items_of items) s
    → ((texts : List (List ℕ)) → ¬ (items ≡ map string texts)) → HasMembers d (items_of (map string texts)) t → ⊥
no_texts d items s t texts p none q = none texts (items_once items (map string texts) (items_same d (items_of items) (items_of (map string texts)) s t p q))

-- ---- one body says one thing

one_value : (body : List ℕ) (a b : Data) → IsJson body a → IsJson body b → a ≡ b
one_value body a b p q = some_is (sym p.reads ∙ q.reads)

place_once : (a : Data) (m n : ℕ) → IsPlaceValue a m → IsPlaceValue a n → m ≡ n
place_once a m n p q =
    let e : object (member (codes "place") (number (unsigned m)) no_members) ≡ object (member (codes "place") (number (unsigned n)) no_members) = sym p.is ∙ q.is in
    cc e

pub one_place : (body : List ℕ) (m n : ℕ) → IsPlace body m → IsPlace body n → m ≡ n
one_place body m n p q = place_once q.0 m n (subst (λ v. IsPlaceValue v m) (one_value body p.0 q.0 p.1 q.1) p.2) q.2

texts_once : (xs ys : List (List ℕ)) → map string xs ≡ map string ys → xs ≡ ys
texts_once [] [] h = refl
texts_once [] (y ∷ ys) h = absurd (cc h)
texts_once (x ∷ xs) [] h = absurd (cc h)
texts_once (x ∷ xs) (y ∷ ys) h =
    let a : x ≡ y = cc h in
    let b : map string xs ≡ map string ys = cc h in
    let t : xs ≡ ys = texts_once xs ys b in
    cc

same_value : (body : List ℕ) (s t : List ℕ) (xs ys : List (List ℕ)) (p : IsVirtual body s xs) (q : IsVirtual body t ys) → HasMembers q.0 (items_of (map string xs)) s
same_value body s t xs ys p q = subst (λ v. HasMembers v (items_of (map string xs)) s) (one_value body p.0 q.0 p.1 q.1) p.2

pub one_title : (body s t : List ℕ) (xs ys : List (List ℕ)) → IsVirtual body s xs → IsVirtual body t ys → s ≡ t
one_title body s t xs ys p q =
    let e : Some (string s) ≡ Some (string t) = sym (same_value body s t xs ys p q).title_is ∙ q.2.title_is in
    cc e

pub one_members : (body s t : List ℕ) (xs ys : List (List ℕ)) → IsVirtual body s xs → IsVirtual body t ys → xs ≡ ys
one_members body s t xs ys p q =
    texts_once xs ys (items_once (map string xs) (map string ys) (items_same q.0 (items_of (map string xs)) (items_of (map string ys)) s t (same_value body s t xs ys p q) q.2))
