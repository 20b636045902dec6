-- Entries that are kept in lists, one more of them, and their parts by place.
use Rattle.std.proofs.Common.{◌≡◌, ℕ, zero, suc, ◌<◌, ◌≤◌, List, [], ◌∷◌, ◌++◌, length, get_or, refl, ap, sym, ◌∙◌, subst, inl, inr, arith, Result, Ok, Err, length-append}
use Rattle.std.specs.List.{All}
use Rattle.std.specs.Result.{OnOk, OnErr}
use Rattle.std.specs.Str.{IsUtf8}
use Rattle.std.proofs.lemmas.Bool.{cases_lt}
use Rattle.std.proofs.lemmas.List.{get_or_past}
use Rattle.std.proofs.lemmas.List.Elements.{All-push, All-get_or}
use Rattle.store_search.specs.Entries.{Indexed, no_entry, entry_at, keys_of}
use Rattle.store_derived.specs.Spans.{no_span}
use Rattle.store_search.specs.Stored.{indexed, stored, AreStored}
use Rattle.store_derived.specs.declared.spans.Span.{Span}

pub size_stored : (keys texts : List (List ℕ)) (spans : List Span) → length keys ≡ length spans → length texts ≡ length spans → length (stored keys texts spans) ≡ length spans
size_stored [] texts [] a b = refl
size_stored [] texts (span ∷ spans) a b = absurd (omega (arith, a))
size_stored (key ∷ keys) texts [] a b = absurd (omega (arith, a))
size_stored (key ∷ keys) [] (span ∷ spans) a b = absurd (omega (arith, b))
size_stored (key ∷ keys) (text ∷ texts) (span ∷ spans) a b = ap suc (size_stored keys texts spans (omega (arith, a)) (omega (arith, b)))

pub keys_stored : (keys texts : List (List ℕ)) (spans : List Span) → length keys ≡ length spans → length texts ≡ length spans → keys ≡ keys_of (stored keys texts spans)
keys_stored [] texts spans a b = refl
keys_stored (key ∷ keys) texts [] a b = absurd (omega (arith, a))
keys_stored (key ∷ keys) [] (span ∷ spans) a b = absurd (omega (arith, b))
keys_stored (key ∷ keys) (text ∷ texts) (span ∷ spans) a b = ap (λ l. key ∷ l) (keys_stored keys texts spans (omega (arith, a)) (omega (arith, b)))

pub stored_push : (keys texts : List (List ℕ)) (spans : List Span) (key text : List ℕ) (span : Span) → length keys ≡ length spans → length texts ≡ length spans → stored (keys ++ key ∷ []) (texts ++ text ∷ []) (spans ++ span ∷ [])
    ≡ stored keys texts spans ++ indexed key text span ∷ []
stored_push [] [] [] key text span a b = refl
stored_push [] [] (s ∷ spans) key text span a b = absurd (omega (arith, a))
stored_push [] (t ∷ texts) [] key text span a b = absurd (omega (arith, b))
stored_push [] (t ∷ texts) (s ∷ spans) key text span a b = absurd (omega (arith, a))
stored_push (k ∷ keys) texts [] key text span a b = absurd (omega (arith, a))
stored_push (k ∷ keys) [] (s ∷ spans) key text span a b = absurd (omega (arith, b))
stored_push (k ∷ keys) (t ∷ texts) (s ∷ spans) key text span a b = ap (λ l. indexed k t s ∷ l) (stored_push keys texts spans key text span (omega (arith, a)) (omega (arith, b)))

-- the parts of the entry at a place
pub shown_at : (keys texts : List (List ℕ)) (spans : List Span) (at : ℕ) → length keys ≡ length spans → length texts ≡ length spans → get_or texts at [] ≡ (entry_at (stored keys texts spans) at).shown
shown_at [] [] [] at a b = get_or_past [] at [] (omega arith) ∙ ap (λ (e : Indexed). e.shown) (sym (get_or_past [] at no_entry (omega arith)))
shown_at [] [] (s ∷ spans) at a b = absurd (omega (arith, a))
shown_at [] (t ∷ texts) [] at a b = absurd (omega (arith, b))
shown_at [] (t ∷ texts) (s ∷ spans) at a b = absurd (omega (arith, a))
shown_at (k ∷ keys) texts [] at a b = absurd (omega (arith, a))
shown_at (k ∷ keys) [] (s ∷ spans) at a b = absurd (omega (arith, b))
shown_at (k ∷ keys) (t ∷ texts) (s ∷ spans) zero a b = refl
shown_at (k ∷ keys) (t ∷ texts) (s ∷ spans) (suc at) a b = shown_at keys texts spans at (omega (arith, a)) (omega (arith, b))

span_at : (keys texts : List (List ℕ)) (spans : List Span) (at : ℕ) (d : Span) → length keys ≡ length spans → length texts ≡ length spans → at < length spans
    → ((get_or spans at d).start ≡ (entry_at (stored keys texts spans) at).start) × ((get_or spans at d).size ≡ (entry_at (stored keys texts spans) at).size)
span_at keys texts [] at d a b lt = absurd (omega (arith, lt))
span_at [] texts (s ∷ spans) at d a b lt = absurd (omega (arith, a))
span_at (k ∷ keys) [] (s ∷ spans) at d a b lt = absurd (omega (arith, b))
span_at (k ∷ keys) (t ∷ texts) (s ∷ spans) zero d a b lt = (refl, refl)
span_at (k ∷ keys) (t ∷ texts) (s ∷ spans) (suc at) d a b lt = span_at keys texts spans at d (omega (arith, a)) (omega (arith, b)) (omega (arith, lt))

none_at : (keys texts : List (List ℕ)) (spans : List Span) (at : ℕ) → length keys ≡ length spans → length texts ≡ length spans → length spans ≤ at → entry_at (stored keys texts spans) at ≡ no_entry
none_at keys texts spans at a b le = get_or_past (stored keys texts spans) at no_entry (omega (arith, le, size_stored keys texts spans a b))

pub any_span_at : (keys texts : List (List ℕ)) (spans : List Span) (at : ℕ) → length keys ≡ length spans → length texts ≡ length spans → ((get_or spans at no_span).start ≡ (entry_at (stored keys texts spans) at).start)
    × ((get_or spans at no_span).size ≡ (entry_at (stored keys texts spans) at).size)
any_span_at keys texts spans at a b = elim (cases_lt at (length spans)) [
  | inl less ↦ span_at keys texts spans at no_span a b less
  | inr le ↦
      let past = get_or_past spans at no_span le in
      let none = none_at keys texts spans at a b le in
      (ap (λ (s : Span). s.start) past ∙ sym (ap (λ (e : Indexed). e.start) none), ap (λ (s : Span). s.size) past ∙ sym (ap (λ (e : Indexed). e.size) none))
]

-- a text at any place is text
pub text_at : (texts : List (List ℕ)) (at : ℕ) → All IsUtf8 texts → IsUtf8 [] → IsUtf8 (get_or texts at [])
text_at texts at all none = elim (cases_lt at (length texts)) [
  | inl less ↦ All-get_or IsUtf8 texts at [] less all
  | inr le ↦ subst IsUtf8 (sym (get_or_past texts at [] le)) none
]

-- ---- as the functions put them

module _ {A E : Type 0} (keys texts keys' texts' : List (List ℕ)) (spans spans' : List Span) (key text : List ℕ) (span : Span) (are : AreStored keys texts spans) (k : IsUtf8 key) (t : IsUtf8 text) where
  pub put_are : (r : Result A E) → OnOk r (keys' ≡ keys ++ key ∷ []) → OnOk r (texts' ≡ texts ++ text ∷ []) → OnOk r (spans' ≡ spans ++ span ∷ []) → OnErr r (keys' ≡ keys) → OnErr r (texts' ≡ texts) → OnErr r (spans' ≡ spans)
      → AreStored keys' texts' spans'
  put_are (Ok x) one two three a b c = record {
    keys_size = omega (arith, ap length one, ap length three, length-append keys (key ∷ []), length-append spans (span ∷ []), are.keys_size);
    texts_size = omega (arith, ap length two, ap length three, length-append texts (text ∷ []), length-append spans (span ∷ []), are.texts_size);
    keys_text = subst (All IsUtf8) (sym one) (All-push IsUtf8 keys key are.keys_text k);
    texts_text = subst (All IsUtf8) (sym two) (All-push IsUtf8 texts text are.texts_text t);
  }
  put_are (Err e) one two three a b c = subst (λ l. AreStored l texts' spans') (sym a) (subst (λ l. AreStored keys l spans') (sym b) (subst (AreStored keys texts) (sym c) are))

  pub put_stored : (r : Result A E) (list : List Indexed) → stored keys texts spans ≡ list → OnOk r (keys' ≡ keys ++ key ∷ []) → OnOk r (texts' ≡ texts ++ text ∷ []) → OnOk r (spans' ≡ spans ++ span ∷ [])
      → OnOk r (stored keys' texts' spans' ≡ list ++ indexed key text span ∷ [])
  put_stored (Ok x) list is one two three =
      ap (λ l. stored l texts' spans') one ∙ ap (λ l. stored (keys ++ key ∷ []) l spans') two ∙ ap (stored (keys ++ key ∷ []) (texts ++ text ∷ [])) three
      ∙ stored_push keys texts spans key text span are.keys_size are.texts_size ∙ ap (λ l. l ++ indexed key text span ∷ []) is
  put_stored (Err e) list is one two three = tt

  pub put_same : (r : Result A E) (list : List Indexed) → stored keys texts spans ≡ list → OnErr r (keys' ≡ keys) → OnErr r (texts' ≡ texts) → OnErr r (spans' ≡ spans) → OnErr r (stored keys' texts' spans' ≡ list)
  put_same (Ok x) list is a b c = tt
  put_same (Err e) list is a b c = ap (λ l. stored l texts' spans') a ∙ ap (λ l. stored keys l spans') b ∙ ap (stored keys texts) c ∙ is
