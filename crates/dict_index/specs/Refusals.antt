-- The refusals of an edition: the number and the name of each, as users see them, and the order of their tests.
use Rattle.std.specs.Prelude.{ℕ, List, [], ◌∷◌, ◌++◌, codes}
use Rattle.dict_index.specs.declared.fault.EditionRefusal.{EditionRefusal}
use Rattle.dict_index.specs.declared.fault.EditionRefusal.TheVariants.{IndexNotUtf8, Columns, Number, Interval, Headword, BodyText, BodyLine, Reserved, ReservedTwice, NoTitle, BadTitle, TooManyEntries, TextTooLong, LastLine, Shown}

pub record RefusalText : Type 0 where
  pub number : ℕ
  pub name : List ℕ

abbrev pub edition_refusal_text : EditionRefusal → RefusalText
edition_refusal_text IndexNotUtf8 = record { number = 1; name = codes "IndexNotUtf8" }
edition_refusal_text Columns = record { number = 2; name = codes "Columns" }
edition_refusal_text Number = record { number = 3; name = codes "Number" }
edition_refusal_text Interval = record { number = 4; name = codes "Interval" }
edition_refusal_text Headword = record { number = 5; name = codes "Headword" }
edition_refusal_text BodyText = record { number = 6; name = codes "BodyText" }
edition_refusal_text BodyLine = record { number = 7; name = codes "BodyLine" }
edition_refusal_text Reserved = record { number = 8; name = codes "Reserved" }
edition_refusal_text ReservedTwice = record { number = 9; name = codes "ReservedTwice" }
edition_refusal_text NoTitle = record { number = 10; name = codes "NoTitle" }
edition_refusal_text BadTitle = record { number = 11; name = codes "BadTitle" }
edition_refusal_text TooManyEntries = record { number = 12; name = codes "TooManyEntries" }
edition_refusal_text TextTooLong = record { number = 13; name = codes "TextTooLong" }
edition_refusal_text LastLine = record { number = 14; name = codes "LastLine" }
edition_refusal_text Shown = record { number = 15; name = codes "Shown" }

abbrev pub refusal_number : EditionRefusal → ℕ
refusal_number refusal = (edition_refusal_text refusal).number

abbrev pub refusal_name : EditionRefusal → List ℕ
refusal_name refusal = (edition_refusal_text refusal).name

-- the tests in order: first those of the whole files
abbrev pub whole_tests : List EditionRefusal
whole_tests = TextTooLong ∷ IndexNotUtf8 ∷ LastLine ∷ TooManyEntries ∷ []

-- then for each line those of what it says, and of its reserved key
abbrev pub said_tests : List EditionRefusal
said_tests = Columns ∷ Number ∷ Interval ∷ Headword ∷ Shown ∷ BodyText ∷ BodyLine ∷ []

abbrev pub reserved_tests : List EditionRefusal
reserved_tests = Reserved ∷ ReservedTwice ∷ []

abbrev pub line_tests : List EditionRefusal
line_tests = said_tests ++ reserved_tests

-- then those of the title
abbrev pub title_tests : List EditionRefusal
title_tests = NoTitle ∷ BadTitle ∷ []

abbrev pub tests_in_order : List EditionRefusal
tests_in_order = whole_tests ++ (line_tests ++ title_tests)
