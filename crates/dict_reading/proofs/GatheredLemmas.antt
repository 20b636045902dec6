-- What stays true of what is gathered when a line comes.
use Rattle.std.proofs.Common.{◌≡◌, ℕ, List, [], ◌∷◌, ◌++◌, length, refl, sym, ap, ◌∙◌, subst, cond, Bool, true, false}
use Rattle.std.proofs.lemmas.Slice.Eq.{bytes_eq-Decides}
use Rattle.std.specs.Prelude.{map, Option, Some, None, IsTrue, IfSome, is_some}
use Rattle.std.specs.List.{AllByRecursion}
use Rattle.std.specs.Map.{update}
use Rattle.std.specs.Option.{option_map}
use Rattle.std.specs.Str.{bytes_eq}
use Rattle.std.specs.BTreeMap.{get_by_text}
use Rattle.dict_match.specs.Key.{reserved_key_of}
use Rattle.dict_index.specs.Line.{IsLine, body_in}
use Rattle.dict_index.specs.Refusals.{line_tests}
use Rattle.dict_index.specs.Refused.{PassesEach}
use Rattle.dict_index.specs.Reserved.{is_reserved, is_known_reserved, text_under}
use Rattle.dict_index.specs.Tests.{NoneHasKey, PassesLine}
use Rattle.dict_index.specs.declared.fault.EditionRefusal.TheVariants.{ReservedTwice}
use Rattle.dict_text.proofs.AllLemmas.{all_push}
use Rattle.dict_index.proofs.LineLemmas.{if_says}
use Rattle.dict_index.proofs.GatherLemmas.{said_push, map_push, entry_lines_push, under_push, under_first, none_has_key, some_has_key, known_is_reserved}
use Rattle.dict_reading.specs.Gathered.{HasGatheredPlaces, HasTextIn}
use Rattle.dict_reading.specs.Places.{line_in, LiesBelow}
use Rattle.dict_reading.specs.declared.gathered.GatheredPlaces.{GatheredPlaces}
use Rattle.dict_reading.specs.declared.places.EntryPlace.{EntryPlace}

-- no text is under a key
none_of : {X Y : Type 0} (f : X → Y) (o : Option X) → is_some o ≡ false → option_map f o ≡ None
none_of f (Some x) gone = absurd (let bad : true ≡ false = gone in cc)
none_of f None gone = refl

there : {X Y : Type 0} (f : X → Y) (o : Option X) → is_some o ≡ true → option_map f o ≡ None → ⊥
there f (Some x) is_there none = let bad : Some (f x) ≡ None = none in cc
there f None is_there none = let bad : false ≡ true = is_there in cc

module _ (index text : List ℕ) (lines : List (List ℕ)) (line : List ℕ) (g h : GatheredPlaces) (p : EntryPlace) (l : IsLine line (line_in index p)) (name : List ℕ) (named : reserved_key_of (line_in index p).headword ≡ name) where
  -- a line that isn't reserved adds its entry
  pub gathers_entry : is_reserved name ≡ false → h.entries.items ≡ g.entries.items ++ p ∷ [] → h.reserved ≡ g.reserved → LiesBelow (length index) p → HasGatheredPlaces index text lines g → HasGatheredPlaces index text (lines ++ line ∷ []) h
  gathers_entry plain entries same below s = record {
    said = s.said ++ line_in index p ∷ [];
    are = said_push lines s.said line (line_in index p) s.are l;
    entries = ap (map (line_in index)) entries ∙ (map_push (line_in index) g.entries.items p ∙ (ap (λ ls. ls ++ line_in index p ∷ []) s.entries ∙ sym (entry_lines_push s.said (line_in index p) false (ap is_reserved named ∙ plain))));
    below = subst (AllByRecursion (LiesBelow (length index))) (sym entries) (all_push (LiesBelow (length index)) g.entries.items p s.below below);
    reserved = λ key known. ap (λ r. option_map (λ place. body_in text (line_in index place)) (get_by_text r key)) same
        ∙ (s.reserved key known ∙ sym (under_push key text s.said (line_in index p) (other key known (bytes_eq (reserved_key_of (line_in index p).headword) key) refl)));
    texts = λ key. subst (λ r. IfSome (get_by_text r key) (HasTextIn text)) (sym same) (s.texts key);
  }
    where
      other : (key : List ℕ) → IsTrue (is_known_reserved key) → (b : Bool) → bytes_eq (reserved_key_of (line_in index p).headword) key ≡ b → bytes_eq (reserved_key_of (line_in index p).headword) key ≡ false
      other key known false t = t
      other key known true t =
          let same_key : reserved_key_of (line_in index p).headword ≡ key = (bytes_eq-Decides (reserved_key_of (line_in index p).headword) key).0 t in
          let wrong : true ≡ false = sym (known_is_reserved key known) ∙ (ap is_reserved (sym same_key ∙ named) ∙ plain) in
          absurd (cc)

  -- a line that isn't reserved has no reserved key that an earlier one has
  pub once_entry : is_reserved name ≡ false → PassesLine ReservedTwice text lines line
  once_entry plain = if_says line (line_in index p) (λ said. IsTrue (is_known_reserved (reserved_key_of said.headword)) → NoneHasKey lines (reserved_key_of said.headword)) l
      (λ known. absurd (let wrong : true ≡ false = sym (known_is_reserved (reserved_key_of (line_in index p).headword) known) ∙ (ap is_reserved named ∙ plain) in cc))

  -- a reserved key of a line that passes is known
  pub known_if : PassesEach line_tests text [] line → is_reserved name ≡ true → is_known_reserved name ≡ true
  known_if passes reserved = ap is_known_reserved (sym named) ∙ passes.1.1.1.1.1.1.1.0 (line_in index p) l (ap is_reserved named ∙ reserved)

  -- what is found under the key
  under_name : is_known_reserved name ≡ true → (s : HasGatheredPlaces index text lines g) → option_map (λ place. body_in text (line_in index place)) (get_by_text g.reserved name)
      ≡ text_under (reserved_key_of (line_in index p).headword) text s.said
  under_name known s = s.reserved name known ∙ ap (λ key. text_under key text s.said) (sym named)

  pub twice_fails : is_known_reserved name ≡ true → is_some (get_by_text g.reserved name) ≡ true → HasGatheredPlaces index text lines g → ¬ PassesLine ReservedTwice text lines line
  twice_fails known found s passes = there (λ place. body_in text (line_in index place)) (get_by_text g.reserved name) found
      (under_name known s ∙ some_has_key (reserved_key_of (line_in index p).headword) text lines s.said s.are (passes (line_in index p) l (ap is_known_reserved named ∙ known)))

  under_none : is_known_reserved name ≡ true → is_some (get_by_text g.reserved name) ≡ false → (s : HasGatheredPlaces index text lines g) → text_under (reserved_key_of (line_in index p).headword) text s.said ≡ None
  under_none known missing s = sym (under_name known s) ∙ none_of (λ place. body_in text (line_in index place)) (get_by_text g.reserved name) missing

  pub once_reserved : is_known_reserved name ≡ true → is_some (get_by_text g.reserved name) ≡ false → HasGatheredPlaces index text lines g → PassesLine ReservedTwice text lines line
  once_reserved known missing s = if_says line (line_in index p) (λ said. IsTrue (is_known_reserved (reserved_key_of said.headword)) → NoneHasKey lines (reserved_key_of said.headword)) l
      (λ k. none_has_key (reserved_key_of (line_in index p).headword) text lines s.said s.are (under_none known missing s))

  -- a known line adds its text
  pub gathers_reserved : is_known_reserved name ≡ true → is_some (get_by_text g.reserved name) ≡ false → h.entries ≡ g.entries →
      ((key : List ℕ) → get_by_text h.reserved key ≡ update bytes_eq (get_by_text g.reserved) name (Some p) key) →
      PassesEach line_tests text [] line → HasGatheredPlaces index text lines g → HasGatheredPlaces index text (lines ++ line ∷ []) h
  gathers_reserved known missing same updates passes s = record {
    said = s.said ++ line_in index p ∷ [];
    are = said_push lines s.said line (line_in index p) s.are l;
    entries = ap (λ v. map (line_in index) v.items) same ∙ (s.entries ∙ sym (entry_lines_push s.said (line_in index p) true (ap is_reserved named ∙ known_is_reserved name known)));
    below = subst (λ v. AllByRecursion (LiesBelow (length index)) v.items) (sym same) s.below;
    reserved = λ key k. ap (option_map (λ place. body_in text (line_in index place))) (updates key) ∙ by_key key k (bytes_eq name key) refl;
    texts = λ key. subst (λ o. IfSome o (HasTextIn text)) (sym (updates key)) (text_at (bytes_eq name key) (get_by_text g.reserved key) (s.texts key));
  }
    where
      by_key : (key : List ℕ) → IsTrue (is_known_reserved key) → (b : Bool) → bytes_eq name key ≡ b →
          option_map (λ place. body_in text (line_in index place)) (cond b (Some p) (get_by_text g.reserved key)) ≡ text_under key text (s.said ++ line_in index p ∷ [])
      by_key key k true t =
          let same_key : name ≡ key = (bytes_eq-Decides name key).0 t in
          sym (under_first key text s.said (line_in index p) (subst (λ q. text_under q text s.said ≡ None) (named ∙ same_key) (under_none known missing s)) (ap (λ q. bytes_eq q key) named ∙ t))
      by_key key k false t = s.reserved key k ∙ sym (under_push key text s.said (line_in index p) (ap (λ q. bytes_eq q key) named ∙ t))

      text_at : (b : Bool) (before : Option EntryPlace) → IfSome before (HasTextIn text) → IfSome (cond b (Some p) before) (HasTextIn text)
      text_at true before old = record { within = passes.1.1.0 (line_in index p) l; utf8 = (passes.1.1.1.1.1.0 (line_in index p) l).0 }
      text_at false before old = old
