-- What stays true of what is gathered when a line comes.
use Rattle.std.proofs.Common.{◌≡◌, ℕ, List, [], ◌∷◌, ◌++◌, refl, sym, ap, ◌∙◌, subst, cond, Bool, true, false, Bor}
use Rattle.std.proofs.lemmas.Slice.Eq.{bytes_eq-Decides}
use Rattle.std.specs.Prelude.{map, Option, Some, None, IsTrue, is_some}
use Rattle.std.specs.List.{AllByRecursion}
use Rattle.std.specs.Map.{update}
use Rattle.std.specs.Option.{option_map}
use Rattle.std.specs.Str.{bytes_eq}
use Rattle.std.specs.BTreeMap.{get_by_text}
use Rattle.dict_match.specs.Key.{reserved_key_of}
use Rattle.dict_index.specs.Line.{IsLine}
use Rattle.dict_index.specs.Reserved.{is_reserved, is_known_reserved, text_under}
use Rattle.dict_index.specs.Tests.{NoneHasKey, PassesLine}
use Rattle.dict_index.specs.Views.{line_of, HasBodyIn, HasItsKey}
use Rattle.dict_index.specs.Gathered.{HasGathered}
use Rattle.dict_index.specs.declared.entry.Entry.{Entry}
use Rattle.dict_index.specs.declared.gather.Gathered.{Gathered}
use Rattle.dict_index.specs.declared.fault.EditionRefusal.TheVariants.{Reserved, ReservedTwice}
use Rattle.dict_text.proofs.AllLemmas.{all_push}
use Rattle.dict_index.proofs.LineLemmas.{if_says}
use Rattle.dict_index.proofs.GatherLemmas.{said_push, map_push, entry_lines_push, under_push, under_first, none_has_key, some_has_key, known_is_reserved}

module _ (text : List ℕ) (lines : List (List ℕ)) (line : List ℕ) (g h : Gathered) (e : Entry) (l : IsLine line (line_of e)) where
  -- a line that isn't reserved adds its entry
  pub gathers_entry : is_reserved (reserved_key_of e.headword.now) ≡ false → h.entries.items ≡ g.entries.items ++ e ∷ [] → h.reserved ≡ g.reserved → HasBodyIn text e → HasItsKey e → HasGathered text lines g
      → HasGathered text (lines ++ line ∷ []) h
  gathers_entry plain entries same body key s = record {
    said = s.said ++ line_of e ∷ [];
    are = said_push lines s.said line (line_of e) s.are l;
    entries = ap (map line_of) entries ∙ (map_push line_of g.entries.items e ∙ (ap (λ ls. ls ++ line_of e ∷ []) s.entries ∙ sym (entry_lines_push s.said (line_of e) false plain)));
    bodies = subst (AllByRecursion (HasBodyIn text)) (sym entries) (all_push (HasBodyIn text) g.entries.items e s.bodies body);
    keys = subst (AllByRecursion HasItsKey) (sym entries) (all_push HasItsKey g.entries.items e s.keys key);
    reserved = λ key known. ap (λ r. option_map (λ found. found.now) (get_by_text r key)) same ∙ (s.reserved key known ∙ sym (under_push key text s.said (line_of e) (other key known (bytes_eq (reserved_key_of e.headword.now) key) refl)));
  }
    where
      other : (key : List ℕ) → IsTrue (is_known_reserved key) → (b : Bool) → bytes_eq (reserved_key_of e.headword.now) key ≡ b → bytes_eq (reserved_key_of e.headword.now) key ≡ false
      other key known false t = t
      other key known true t =
          let same_key : reserved_key_of e.headword.now ≡ key = (bytes_eq-Decides (reserved_key_of e.headword.now) key).0 t in
          let no : true ≡ false = sym (known_is_reserved key known) ∙ (ap is_reserved (sym same_key) ∙ plain) in
          absurd (cc)

  -- a line that isn't reserved passes the tests of reserved ones
  pub passes_entry : is_reserved (reserved_key_of e.headword.now) ≡ false → PassesLine Reserved text lines line × PassesLine ReservedTwice text lines line
  passes_entry plain = (
    if_says line (line_of e) (λ said. IsTrue (is_reserved (reserved_key_of said.headword)) → IsTrue (is_known_reserved (reserved_key_of said.headword))) l (λ is_one. absurd (let bad : true ≡ false = sym is_one ∙ plain in cc)),
    if_says line (line_of e) (λ said. IsTrue (is_known_reserved (reserved_key_of said.headword)) → NoneHasKey lines (reserved_key_of said.headword)) l
        (λ known. absurd (let no : true ≡ false = sym (known_is_reserved (reserved_key_of e.headword.now) known) ∙ plain in cc)),
  )

  -- a reserved line that isn't known
  pub unknown_fails : is_reserved (reserved_key_of e.headword.now) ≡ true → is_known_reserved (reserved_key_of e.headword.now) ≡ false → ¬ PassesLine Reserved text lines line
  unknown_fails is_one unknown passes = let bad : true ≡ false = sym (passes (line_of e) l is_one) ∙ unknown in cc

  pub known_passes : is_known_reserved (reserved_key_of e.headword.now) ≡ true → PassesLine Reserved text lines line
  known_passes known = if_says line (line_of e) (λ said. IsTrue (is_reserved (reserved_key_of said.headword)) → IsTrue (is_known_reserved (reserved_key_of said.headword))) l (λ _. known)

  -- a known line whose key an earlier one has
  pub twice_fails : is_known_reserved (reserved_key_of e.headword.now) ≡ true → is_some (get_by_text g.reserved (reserved_key_of e.headword.now)) ≡ true → HasGathered text lines g → ¬ PassesLine ReservedTwice text lines line
  twice_fails known found s passes = there (get_by_text g.reserved (reserved_key_of e.headword.now)) found
      (s.reserved (reserved_key_of e.headword.now) known ∙ some_has_key (reserved_key_of e.headword.now) text lines s.said s.are (passes (line_of e) l known))
    where
      there : {X : Type 0} (o : Option (Bor X)) → is_some o ≡ true → option_map (λ found. found.now) o ≡ None → ⊥
      there (Some x) is_there none = cc
      there None is_there none = let bad : false ≡ true = is_there in cc

  under_none : is_known_reserved (reserved_key_of e.headword.now) ≡ true → is_some (get_by_text g.reserved (reserved_key_of e.headword.now)) ≡ false → (s : HasGathered text lines g)
      → text_under (reserved_key_of e.headword.now) text s.said ≡ None
  under_none known missing s = sym (s.reserved (reserved_key_of e.headword.now) known) ∙ none_of (get_by_text g.reserved (reserved_key_of e.headword.now)) missing
    where
      none_of : {X : Type 0} (o : Option (Bor X)) → is_some o ≡ false → option_map (λ found. found.now) o ≡ None
      none_of (Some x) gone = absurd (let bad : true ≡ false = gone in cc)
      none_of None gone = refl

  pub once_passes : is_known_reserved (reserved_key_of e.headword.now) ≡ true → is_some (get_by_text g.reserved (reserved_key_of e.headword.now)) ≡ false → HasGathered text lines g → PassesLine ReservedTwice text lines line
  once_passes known missing s = if_says line (line_of e) (λ said. IsTrue (is_known_reserved (reserved_key_of said.headword)) → NoneHasKey lines (reserved_key_of said.headword)) l
      (λ k. none_has_key (reserved_key_of e.headword.now) text lines s.said s.are (under_none known missing s))

  -- a known line adds its text
  pub gathers_reserved : is_known_reserved (reserved_key_of e.headword.now) ≡ true → is_some (get_by_text g.reserved (reserved_key_of e.headword.now)) ≡ false → h.entries ≡ g.entries →
      ((key : List ℕ) → get_by_text h.reserved key ≡ update bytes_eq (get_by_text g.reserved) (reserved_key_of e.headword.now) (Some e.body) key) →
      HasBodyIn text e → HasGathered text lines g → HasGathered text (lines ++ line ∷ []) h
  gathers_reserved known missing same updates body s = record {
    said = s.said ++ line_of e ∷ [];
    are = said_push lines s.said line (line_of e) s.are l;
    entries = ap (λ v. map line_of v.items) same ∙ (s.entries ∙ sym (entry_lines_push s.said (line_of e) true (known_is_reserved (reserved_key_of e.headword.now) known)));
    bodies = subst (λ v. AllByRecursion (HasBodyIn text) v.items) (sym same) s.bodies;
    keys = subst (λ v. AllByRecursion HasItsKey v.items) (sym same) s.keys;
    reserved = λ key k. ap (option_map (λ found. found.now)) (updates key) ∙ by_key key k (bytes_eq (reserved_key_of e.headword.now) key) refl;
  }
    where
      by_key : (key : List ℕ) → IsTrue (is_known_reserved key) → (b : Bool) → bytes_eq (reserved_key_of e.headword.now) key ≡ b → option_map (λ found. found.now) (cond b (Some e.body) (get_by_text g.reserved key))
          ≡ text_under key text (s.said ++ line_of e ∷ [])
      by_key key k true t =
          let same_key : reserved_key_of e.headword.now ≡ key = (bytes_eq-Decides (reserved_key_of e.headword.now) key).0 t in
          ap Some body ∙ sym (under_first key text s.said (line_of e) (subst (λ q. text_under q text s.said ≡ None) same_key (under_none known missing s)) t)
      by_key key k false t = s.reserved key k ∙ sym (under_push key text s.said (line_of e) t)
