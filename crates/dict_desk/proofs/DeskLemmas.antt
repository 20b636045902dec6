-- Which edition a number finds.
use Rattle.std.proofs.Common.{◌≡◌, ℕ, zero, suc, ◌==◌, Bool, true, false, List, [], ◌∷◌, cond, get_or, length, ◌<◌, refl, sym, ap, subst, ◌∙◌, arith, Bor}
use Rattle.std.specs.Prelude.{Option, Some, None, Contains, IfSome}
use Rattle.std.specs.List.{AllByRecursion}
use Rattle.std.proofs.lemmas.Bool.{eqb-true}
use Rattle.std.specs.Option.{option_copied}
use Rattle.dict_index.specs.Edition.{Edition}
use Rattle.dict_catalogue.specs.Steps.{Catalogue}
use Rattle.dict_desk.specs.Shown.{HasEdition}
use Rattle.dict_catalogue.specs.Items.{Stored, editions_of}
use Rattle.dict_catalogue.specs.Tests.{Holdings}
use Rattle.dict_index.specs.Found.{is_found}
use Rattle.dict_desk.specs.PlainEntries.{LieWithin}
use Rattle.dict_match.specs.declared.strategy.Strategy.{Strategy}
use Rattle.dict_desk.specs.declared.counted.CountedQuestion.{CountedQuestion}
use Rattle.dict_desk.specs.declared.entries.PlaceSpan.{PlaceSpan}
use Rattle.dict_desk.specs.declared.replies.Filed.{Filed}
use Rattle.dict_desk.specs.Plain.{PlainState, IsFoundByNumber, AreInStep, catalogue_from, edition_by_number, HoldsSpan}

pub same_some : {X : Type 0} (a b : X) → Some a ≡ Some b → a ≡ b
same_some a b e = cc

pub none_some : {X : Type 0} (b : X) (P : Type 0) → None ≡ Some b → P
none_some b P e = cc

-- the edition stands in the catalogue that a desk shows, and in the one that it is seen as
pub has_here : (M : Catalogue) (seen now : PlainState) (number : ℕ) (edition : Edition) → seen ≡ now → M ≡ now.catalogue → HasEdition M number edition → HasEdition seen.catalogue number edition
has_here M seen now number edition view shown has = subst (λ (N : Catalogue). HasEdition N number edition) (shown ∙ sym (ap (λ (state : PlainState). state.catalogue) view)) has

-- the edition that a catalogue has under a number is found by it
pub held_here : (summary : Holdings (List ℕ)) (editions : List (Stored Edition)) (replies : List Filed) (places : List ℕ → Option ℕ) → AreInStep summary editions replies places → (number : ℕ) (edition : Edition)
    → HasEdition (catalogue_from summary editions replies) number edition → edition_by_number number editions ≡ Some (record { number = number; content = edition })
held_here summary editions replies places parts number edition has =
    each (IsFoundByNumber editions) (editions_of has.item) (record { number = number; content = edition })
    (each (λ item. AllByRecursion (IsFoundByNumber editions) (editions_of item)) (catalogue_from summary editions replies).items has.item parts.held has.stands) has.stored
  where
    at_place : {X : Type 0} (P : X → Type 0) (xs : List X) (i : ℕ) (x : X) → AllByRecursion P xs → i < length xs → get_or xs i x ≡ x → P x
    at_place P [] i x all below e = absurd (omega arith)
    at_place P (y ∷ ys) zero x all below e = subst P e all.0
    at_place P (y ∷ ys) (suc i) x all below e = at_place P ys i x all.1 (omega arith) e

    each : {X : Type 0} (P : X → Type 0) (xs : List X) (x : X) → AllByRecursion P xs → Contains xs x → P x
    each P xs x all there = at_place P xs there.0 x all there.1 there.2

-- what a number finds has that number
pub number_found : (number : ℕ) (editions : List (Stored Edition)) (stored : Stored Edition) → edition_by_number number editions ≡ Some stored → stored.number ≡ number
number_found number [] stored e = cc
number_found number (x ∷ xs) stored e = by_first (x.number == number) refl e (number_found number xs stored)
  where
    by_first : (b : Bool) → (x.number == number) ≡ b → cond b (Some x) (edition_by_number number xs) ≡ Some stored → (edition_by_number number xs ≡ Some stored → stored.number ≡ number) → stored.number ≡ number
    by_first true is e h = let same : x ≡ stored = same_some x stored e in subst (λ (one : Stored Edition). one.number ≡ number) same (eqb-true x.number number is)
    by_first false is e h = h e

-- the span that was noted is that of the edition which its number finds
pub span_here : (editions : List (Stored Edition)) (counted : CountedQuestion) (stored : Stored Edition) (number : ℕ) → edition_by_number number editions ≡ Some stored → HoldsSpan editions counted
    → counted.number ≡ stored.number → LieWithin (is_found counted.strategy counted.query) stored.content.entries counted.span.first counted.span.end
span_here editions counted stored number found holds same =
    holds stored (subst (λ (n : ℕ). edition_by_number n editions ≡ Some stored) (sym (same ∙ number_found number editions stored found)) found)

-- the same where there may be no note, and it is lent
pub span_of_note : (editions : List (Stored Edition)) (kept : Option CountedQuestion) (lent : Option (Bor CountedQuestion)) (stored : Stored Edition) (number : ℕ) → edition_by_number number editions ≡ Some stored → option_copied lent ≡ kept
    → IfSome kept (HoldsSpan editions)
    → IfSome lent (λ one. one.now.number ≡ stored.number → LieWithin (is_found one.now.strategy one.now.query) stored.content.entries one.now.span.first one.now.span.end)
span_of_note editions kept None stored number found same holds = tt
span_of_note editions kept (Some one) stored number found same holds =
    span_here editions one.now stored number found (subst (λ (n : Option CountedQuestion). IfSome n (HoldsSpan editions)) (sym same) holds)

-- a note of a question that was counted in the edition of its number
pub note_holds : (editions : List (Stored Edition)) (kept : Option CountedQuestion) (stored : Stored Edition) (number : ℕ) (strategy : Strategy) (query : List ℕ) (span : PlaceSpan) → edition_by_number number editions ≡ Some stored
    → IfSome kept (λ one. (one.number ≡ number) × (one.strategy ≡ strategy) × (one.query ≡ query) × (one.span ≡ span)) → LieWithin (is_found strategy query) stored.content.entries span.first span.end
    → IfSome kept (HoldsSpan editions)
note_holds editions None stored number strategy query span found is within = tt
note_holds editions (Some one) stored number strategy query span found is within = λ other there.
    let same : stored ≡ other = same_some stored other (sym found ∙ (ap (λ (n : ℕ). edition_by_number n editions) (sym is.0) ∙ there)) in
    subst (λ (s : Stored Edition). LieWithin (is_found one.strategy one.query) s.content.entries one.span.first one.span.end) same
    (subst (λ (n : Strategy). LieWithin (is_found n one.query) stored.content.entries one.span.first one.span.end) (sym is.1)
    (subst (λ (n : List ℕ). LieWithin (is_found strategy n) stored.content.entries one.span.first one.span.end) (sym is.2)
    (subst (λ (n : PlaceSpan). LieWithin (is_found strategy query) stored.content.entries n.first n.end) (sym is.3) within)))
