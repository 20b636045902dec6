-- Texts that were seen, one more of them, and each once.
use denote.Ref.{Bor}
use Rattle.std.proofs.Common.{◌≡◌, ℕ, ◌+◌, ◌<◌, Bool, true, false, cond, not, ◌||◌, List, [], ◌∷◌, ◌++◌, map, take, length, get_or, refl, ap, sym, ◌∙◌, subst, bytes_eq}
use Rattle.std.specs.List.{list_any}
use Rattle.std.proofs.lemmas.Bool.{false≢true}
use Rattle.std.proofs.lemmas.List.{take_more, map-append}
use Rattle.std.proofs.lemmas.List.Folds.{list_any-append}
use Rattle.std.proofs.lemmas.Slice.Eq.{bytes_eq-Decides}
use Rattle.dict_index.specs.Found.{distinct}
use Rattle.store_search.specs.Entries.{Indexed, entry_at, entries_at, indexed_shown}

abbrev pub Equal : Type 0
Equal = Bor (List ℕ) → Bor (List ℕ) → Bool

-- whether two texts are the same, as the set tells it
abbrev pub same_texts : Equal
same_texts a b = bytes_eq a.now b.now

flips : (a b : List ℕ) → bytes_eq a b ≡ bytes_eq b a
flips a b = by (bytes_eq a b) (bytes_eq b a) refl refl
  where
    by : (c d : Bool) → bytes_eq a b ≡ c → bytes_eq b a ≡ d → bytes_eq a b ≡ bytes_eq b a
    by true true e f = e ∙ sym f
    by false false e f = e ∙ sym f
    by true false e f = absurd (false≢true (sym f ∙ (bytes_eq-Decides b a).1 (sym ((bytes_eq-Decides a b).0 e))))
    by false true e f = absurd (false≢true (sym e ∙ (bytes_eq-Decides a b).1 (sym ((bytes_eq-Decides b a).0 f))))

pub turned_texts : (one q : Bor (List ℕ)) → same_texts one q ≡ bytes_eq q.now one.now
turned_texts one q = flips one.now q.now

-- of each text the set's test of equality tells whether it is one of these
pub record HasSeen (eq : Equal) (keys : List (Bor (List ℕ))) (texts : List (List ℕ)) : Type 0 where
  pub each : (q : Bor (List ℕ)) → list_any (eq q) keys ≡ list_any (bytes_eq q.now) texts

pub none_seen : (eq : Equal) (keys : List (Bor (List ℕ))) → keys ≡ [] → HasSeen eq keys []
none_seen eq keys none = record { each = λ q. ap (λ l. list_any (eq q) l) none }

put_or : (a b : Bool) → cond a true b ≡ (b || (a || false))
put_or true true = refl
put_or true false = refl
put_or false true = refl
put_or false false = refl

pub one_seen : (eq : Equal) (keys keys' : List (Bor (List ℕ))) (texts : List (List ℕ)) (one : Bor (List ℕ)) → HasSeen eq keys texts
    → ((q : Bor (List ℕ)) → eq one q ≡ bytes_eq q.now one.now) → ((q : Bor (List ℕ)) → list_any (eq q) keys' ≡ cond (eq one q) true (list_any (eq q) keys)) → HasSeen eq keys' (texts ++ one.now ∷ [])
one_seen eq keys keys' texts one old same put = record {
  each = λ q.
      put q
      ∙ ap (λ b. cond b true (list_any (eq q) keys)) (same q)
      ∙ ap (λ b. cond (bytes_eq q.now one.now) true b) (old.each q)
      ∙ put_or (bytes_eq q.now one.now) (list_any (bytes_eq q.now) texts)
      ∙ sym (list_any-append (bytes_eq q.now) texts (one.now ∷ []));
}

abbrev pub texts_of : List Indexed → List ℕ → List (List ℕ)
texts_of entries places = map indexed_shown (entries_at entries places)

pub texts_more : (entries : List Indexed) (places : List ℕ) (p : ℕ) → texts_of entries (places ++ p ∷ []) ≡ texts_of entries places ++ (entry_at entries p).shown ∷ []
texts_more entries places p = ap (map indexed_shown) (map-append (entry_at entries) places (p ∷ [])) ∙ map-append indexed_shown (entries_at entries places) (entry_at entries p ∷ [])

abbrev pub Law : Type 0
Law = (texts : List (List ℕ)) (text : List ℕ) → distinct (texts ++ text ∷ []) ≡ cond (list_any (bytes_eq text) texts) (distinct texts) (distinct texts ++ text ∷ [])

pub record HasShown (eq : Equal) (entries : List Indexed) (places : List ℕ) (i : ℕ) (keys : List (Bor (List ℕ))) (firsts : List ℕ) : Type 0 where
  pub seen : HasSeen eq keys (texts_of entries (take i places))
  pub firsts_are : texts_of entries firsts ≡ distinct (texts_of entries (take i places))

pub none_shown : (eq : Equal) (entries : List Indexed) (places : List ℕ) (keys : List (Bor (List ℕ))) (firsts : List ℕ) → keys ≡ [] → firsts ≡ [] → HasShown eq entries places 0 keys firsts
none_shown eq entries places keys firsts one two = record { seen = none_seen eq keys one; firsts_are = ap (texts_of entries) two }

pub one_shown : (eq : Equal) (entries : List Indexed) (places : List ℕ) (i : ℕ) (keys keys' : List (Bor (List ℕ))) (firsts firsts' : List ℕ) (one : Bor (List ℕ)) (added : Bool) → Law → i < length places
    → HasShown eq entries places i keys firsts
    → one.now ≡ (entry_at entries (get_or places i 0)).shown → ((q : Bor (List ℕ)) → eq one q ≡ bytes_eq q.now one.now) → ((q : Bor (List ℕ)) → list_any (eq q) keys' ≡ cond (eq one q) true (list_any (eq q) keys))
    → added ≡ not (list_any (eq one) keys) → firsts' ≡ cond added (firsts ++ get_or places i 0 ∷ []) firsts → HasShown eq entries places (i + 1) keys' firsts'
one_shown eq entries places i keys keys' firsts firsts' one added law lt old is same put tell new =
    let p = get_or places i 0 in
    let T = texts_of entries (take i places) in
    let t = (entry_at entries p).shown in
    let next : texts_of entries (take (i + 1) places) ≡ T ++ t ∷ [] = ap (texts_of entries) (take_more places i 0 lt) ∙ texts_more entries (take i places) p in
    let there : added ≡ not (list_any (bytes_eq t) T) = tell ∙ ap not (old.seen.each one ∙ ap (λ x. list_any (bytes_eq x) T) is) in
    record {
      seen = subst (HasSeen eq keys') (ap (λ x. T ++ x ∷ []) is ∙ sym next) (one_seen eq keys keys' T one old.seen same put);
      firsts_are = ap (texts_of entries) new ∙ by added (list_any (bytes_eq t) T) there ∙ sym (law T t) ∙ sym (ap distinct next);
    }
  where
    by : (a b : Bool) → a ≡ not b → texts_of entries (cond a (firsts ++ get_or places i 0 ∷ []) firsts)
        ≡ cond b (distinct (texts_of entries (take i places))) (distinct (texts_of entries (take i places)) ++ (entry_at entries (get_or places i 0)).shown ∷ [])
    by true true e = cc
    by true false e = texts_more entries firsts (get_or places i 0) ∙ ap (λ l. l ++ (entry_at entries (get_or places i 0)).shown ∷ []) old.firsts_are
    by false true e = old.firsts_are
    by false false e = cc
