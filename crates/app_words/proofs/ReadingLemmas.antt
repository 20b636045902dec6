-- What the words of a subcommand are read as.
use Rattle.std.proofs.Common.{◌≡◌, ◌&&◌, ◌^◌, ℕ, Bool, true, false, List, [], ◌∷◌, Option, Some, None, length, nat_lt, refl, sym, lt-ltb, ltb-true}
use Rattle.std.specs.Prelude.{Result, Ok, Err, option_map, option_and_then}
use Rattle.std.specs.Char.{digit_value}
use Rattle.std.specs.List.{list_all}
use Rattle.std.specs.Str.Parse.{AllDigits, ParsesUnsigned, digits_value, without_leading_plus}
use Rattle.std.proofs.lemmas.Option.{none-some, same_Some}
use Rattle.clap.specs.Matches.{ReadsOne}
use Rattle.clap.specs.Walk.{Row, Text}
use Rattle.clap.proofs.WalkLemmas.{both}
use Rattle.app_words.specs.Asked.{AskedTask, asked_by, found_asked, number_in}

digits_pass : (digits : Text) → AllDigits 10 digits → list_all (λ digit. nat_lt (digit_value digit) 10) digits ≡ true
digits_pass [] all = refl
digits_pass (digit ∷ digits) all = rw (lt-ltb (digit_value digit) 10 all.0) (digits_pass digits all.1)

digits_from : (digits : Text) → list_all (λ digit. nat_lt (digit_value digit) 10) digits ≡ true → AllDigits 10 digits
digits_from [] passed = tt
digits_from (digit ∷ digits) passed =
    let parts = both _ _ passed in
    (ltb-true _ _ parts.0, digits_from digits parts.1)

abbrev is_number : Text → Bool
is_number digits = nat_lt 0 (length digits) && list_all (λ digit. nat_lt (digit_value digit) 10) digits && nat_lt (digits_value 10 digits) (2 ^ 32)

-- a text that is a number
number_said : (E : Type 0) (text : Text) (n : ℕ) → ParsesUnsigned {E = E} 32 10 text (Ok n) → Some n ≡ number_in text
number_said E text n parsed =
    let digits = without_leading_plus text in
    rw (lt-ltb 0 (length digits) parsed.0.0.0, digits_pass digits parsed.0.0.1, lt-ltb (digits_value 10 digits) (2 ^ 32) parsed.0.1) (λ i. Some (parsed.1 i))

-- a text that is none
no_number : {E : Type 0} (text : Text) (e : E) → ParsesUnsigned 32 10 text (Err e) → None ≡ number_in text
no_number text e failed = go (is_number (without_leading_plus text)) refl
  where
    go : (b : Bool) → is_number (without_leading_plus text) ≡ b → None ≡ number_in text
    go false is = rw is refl
    go true is =
        let outer = both _ _ is in
        let inner = both _ _ outer.0 in
        absurd (failed ((ltb-true _ _ inner.0, digits_from (without_leading_plus text) inner.1), ltb-true _ _ outer.1))

value_read : (E : Type 0) (Gives : Text → Result ℕ E → Type 0) → ((t : Text) (r : Result ℕ E) → Gives t r → ParsesUnsigned 32 10 t r)
    → (text : Text) (result : Option ℕ) → ReadsOne Gives text result → result ≡ number_in text
value_read E Gives parses text (Some n) read = number_said E text n (parses text (Ok n) read)
value_read E Gives parses text None read = no_number text read.0 (parses text (Err read.0) read.1)

-- a value that is read as a number, where there is one
pub number_read : {E : Type 0} (Gives : Text → Result ℕ E → Type 0) → ((t : Text) (r : Result ℕ E) → Gives t r → ParsesUnsigned 32 10 t r)
    → (value : Option Text) (result : Option ℕ) → (value ≡ None → result ≡ None)
    → ((t : Text) → value ≡ Some t → ReadsOne Gives t result) → result ≡ option_and_then number_in value
number_read {E} Gives parses None result none some = none refl
number_read {E} Gives parses (Some text) result none some = value_read E Gives parses text result (some text refl)

named : (task : Option AskedTask) (name used_name : Text) (rows used_rows : List Row) → Some name ≡ Some used_name → Some rows ≡ Some used_rows
    → task ≡ asked_by name rows → task ≡ asked_by used_name used_rows
named task name used_name rows used_rows same_name same_rows is = rw (← same_Some _ _ same_name, ← same_Some _ _ same_rows) is

-- what is asked by the name and the rows of a subcommand that was found is asked by that subcommand
pub asked_of_found : {B : Type 0} (used : Option B) (name_of : B → Text) (rows_of : B → List Row) (task : Option AskedTask) (name : Text) (rows : List Row)
    → Some name ≡ option_map name_of used → Some rows ≡ option_map (λ (each : Text × List Row). each.1) (option_map (λ one. (name_of one, rows_of one)) used)
    → task ≡ asked_by name rows → task ≡ found_asked (option_map (λ one. (name_of one, rows_of one)) used)
asked_of_found None name_of rows_of task name rows same_name same_rows is = absurd (none-some _ (sym same_name))
asked_of_found (Some one) name_of rows_of task name rows same_name same_rows is = named task name (name_of one) rows (rows_of one) same_name same_rows is
