-- The worked records stand for the worked catalogue.
use Rattle.std.proofs.Common.{◌≡◌, ℕ, ◌≤◌, inl, inr, Bool, true, false, ◌||◌, List, [], ◌∷◌, length, refl, arith, eqb-true}
use Rattle.std.specs.Prelude.{◌==◌, not, nat_le, codes, IsTrue, map}
use Rattle.std.specs.List.{AllByRecursion, list_all}
use Rattle.std.specs.Str.{is_utf8, chars}
use lib.Utf8.{encode}
use Rattle.std.proofs.lemmas.Bool.{and_parts, or_cases, leb-true}
use Rattle.std.proofs.lemmas.Str.{IsUtf8-from_is_utf8}
use Rattle.dict_text.specs.Names.{is_name, is_title, is_request_id}
use Rattle.dict_text.specs.Characters.{is_control}
use Rattle.dict_text.specs.Lines.{text_lines}
use Rattle.dict_match.proofs.Computing.{keys}
use Rattle.dict_index.specs.Edition.{edition_of}
use Rattle.dict_index.specs.Worked.{worked_index, worked_text, worked_reading}
use Rattle.dict_index.specs.Tests.{IsTextOctet}
use Rattle.dict_index.specs.WellFormed.{IsEditionText, IsWellFormedEntry, IsWellFormedEdition}
use Rattle.dict_index.proofs.WellFormedLemmas.{said_well_formed}
use Rattle.dict_index.proofs.WorkedLemmas.{worked}
use Rattle.dict_catalogue.specs.WellFormed.{IsWellFormed}
use Rattle.store_rows.specs.Stands.{Stands}
use Rattle.store_rows.specs.Worked.{ore_reading, commanded_catalogue, worked_tables}
use Rattle.store_rows.proofs.LawfulLemmas.{AreLawful, lawful_true, once_true}

not_true : (b : Bool) → not b ≡ true → ¬ IsTrue b
not_true true e k = let bad : false ≡ true = e in cc
not_true false e k = let bad : false ≡ true = k in cc

is_text_octet : ℕ → Bool
is_text_octet octet = (octet == 10) || ((octet == 9) || not (is_control octet))

text_octet : (octet : ℕ) → is_text_octet octet ≡ true → IsTextOctet octet
unfolding is_text_octet
text_octet octet e = elim (or_cases (octet == 10) ((octet == 9) || not (is_control octet)) e) [
  | inl feed ↦ inl (eqb-true octet 10 feed)
  | inr other ↦ (elim (or_cases (octet == 9) (not (is_control octet)) other) [
    | inl blank ↦ inr (inl (eqb-true octet 9 blank))
    | inr plain ↦ inr (inr (not_true (is_control octet) plain))
  ])
]

all_from : {X : Type 0} (P : X → Type 0) (test : X → Bool) → ((x : X) → test x ≡ true → P x) → (xs : List X) → list_all test xs ≡ true → AllByRecursion P xs
all_from P test f [] e = tt
all_from P test f (x ∷ xs) e = (f x (and_parts (test x) (list_all test xs) e).0, all_from P test f xs (and_parts (test x) (list_all test xs) e).1)

good_text : (text : List ℕ) → is_utf8 text ≡ true → list_all is_text_octet text ≡ true → list_all (λ line. nat_le (length line) 1021) (text_lines text) ≡ true → IsEditionText text
good_text text utf8 octets lines =
    ((IsUtf8-from_is_utf8 text utf8, all_from IsTextOctet is_text_octet text_octet text octets), all_from (λ line. length line ≤ 1021) (λ line. nat_le (length line) 1021) (λ line. leb-true (length line) 1021) (text_lines text) lines)

iron : IsWellFormedEntry (record { headword = codes "iron"; shown = codes "iron"; body = codes "iron\n  ore\n" })
unfolding keys chars encode is_utf8 is_text_octet
iron =
    record {
      headword = (IsUtf8-from_is_utf8 (codes "iron") refl, (omega arith, omega arith, refl, λ e. cc), refl);
      shown = (IsUtf8-from_is_utf8 (codes "iron") refl, (omega arith, omega arith, refl));
      body =
          good_text (codes "iron\n  ore\n") refl refl refl;
    }

ores : IsWellFormedEdition (edition_of ore_reading)
unfolding chars encode is_utf8 is_text_octet is_title
ores = record { title = (IsUtf8-from_is_utf8 (codes "Ores") refl, refl); info = good_text [] refl refl refl; entries = (iron, tt); few = omega arith }

gems : IsWellFormedEdition (edition_of worked_reading)
gems = said_well_formed worked_index worked_text (edition_of worked_reading) (worked_reading, worked, refl)

lawful : AreLawful 2 commanded_catalogue.items
unfolding chars encode is_utf8 is_name is_title
lawful = lawful_true 2 commanded_catalogue.items refl

well : IsWellFormed commanded_catalogue
unfolding is_name is_request_id
well = record {
  item_limit = lawful.limit;
  items = lawful.lawful;
  editions = ((ores, tt), ((gems, tt), (tt, tt)));
  names = lawful.names;
  members = lawful.members;
  accepted_limit = omega arith;
  replies = ((refl, refl, refl), ((refl, refl, refl), ((refl, refl, refl), tt)));
  ids = once_true (map (λ kept. kept.id) commanded_catalogue.kept) refl;
  numbered = (refl, (refl, (refl, tt)));
  installs = refl;
  edition_range = lawful.range;
  edition_once = lawful.once;
}

pub worked_stands : Stands 1 worked_tables commanded_catalogue
worked_stands = record {
  well_formed = well;
  marks = refl;
  items = refl;
  members = (refl, (refl, (refl, tt)));
  owners = (refl, (refl, tt));
  editions = (
    (record { reading = ore_reading; says = refl; short = omega arith; within = (omega arith, tt); row = refl; entries = refl }, tt),
    ((record { reading = worked_reading; says = refl; short = omega arith; within = (omega arith, (omega arith, (omega arith, tt))); row = refl; entries = refl }, tt), (tt, tt)),
  );
  numbers = (refl, (refl, tt));
  entries = (refl, (refl, (refl, (refl, tt))));
  kept = refl;
}
