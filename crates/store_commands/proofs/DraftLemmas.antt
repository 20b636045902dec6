-- What is known of an edition that was read of two files, and of its lines as they are stored.
use Rattle.std.proofs.Common.{◌≡◌, ℕ, suc, ◌+◌, ◌≤◌, ◌<◌, List, [], ◌∷◌, ◌++◌, length, map, take, get_or, not, arith, sym, ap, subst, ◌∙◌}
use Rattle.std.specs.Prelude.{Option, Some, None, IfSome, IfNone, Result, Ok, Err, OnOk, slice_get, slice_index_or}
use Rattle.std.specs.List.{AllByRecursion, AllZip}
use Rattle.std.proofs.lemmas.List.{take_all, take_more}
use Rattle.std.proofs.lemmas.Option.{slice_get-get_or}
use Rattle.dict_text.specs.Lines.{text_lines}
use Rattle.dict_text.proofs.AllLemmas.{all_filter}
use Rattle.dict_match.specs.Key.{reserved_key_of}
use Rattle.dict_index.specs.Edition.{ReadEdition, edition_of, entry_in}
use Rattle.dict_index.specs.Limits.{most_octets}
use Rattle.dict_index.specs.Line.{Line, IsLine}
use Rattle.dict_index.specs.Meaning.{IsRead, IsReadEdition}
use Rattle.dict_index.specs.Reserved.{is_reserved}
use Rattle.dict_index.specs.Tests.{IfSays}
use Rattle.dict_index.specs.WellFormed.{IsWellFormedEntry}
use Rattle.dict_index.specs.declared.fault.EditionRefusal.TheVariants.{Interval}
use Rattle.dict_index.proofs.WellFormedLemmas.{text_few, well_formed}
use Rattle.dict_catalogue.specs.Commands.{install}
use Rattle.dict_catalogue.specs.WellFormed.{IsLawfulCommand}
use Rattle.store_rows.specs.Stored.{stored_index, stored_line, IsStorable}
use Rattle.store_rows.specs.Stands.{IsWithin}
use Rattle.store_rows.proofs.IndexLemmas.{pushed}
use Rattle.store_rows.proofs.StoredLemmas.{of_entries}
use Rattle.store_commands.specs.Decided.{LiesWithin}
use Rattle.store_commands.specs.Installs.{AreFirstLines, AreAllLines, install_read}

-- ---- an edition that was read is one that a command may install

-- what each line says has the property, where whatever a line says has it
said_all : (P : Line → Type 0) (lines : List (List ℕ)) (said : List Line) → AllZip IsLine lines said → ((k : ℕ) → k < length lines → IfSays (slice_index_or lines k []) P) → AllByRecursion P said
said_all P [] [] are h = tt
said_all P [] (s ∷ said) are h = absurd are
said_all P (line ∷ lines) [] are h = absurd are
said_all P (line ∷ lines) (s ∷ said) are h = (h 0 (omega arith) s are.0, said_all P lines said are.1 (λ k lt. h (suc k) (omega arith)))

lines_within : (index text : List ℕ) (reading : ReadEdition) → IsReadEdition index text reading → AllByRecursion (IsWithin text) reading.lines
lines_within index text reading h =
    subst (AllByRecursion (IsWithin text)) (sym h.entries)
    (all_filter (IsWithin text) (λ said. not (is_reserved (reserved_key_of said.headword))) h.lines (said_all (IsWithin text) (text_lines index) h.lines h.said (λ k lt. (h.passes Interval k (λ o. lt)).1)))

pub read_itself : (index text : List ℕ) (reading : ReadEdition) → IsReadEdition index text reading → IsRead reading
read_itself index text reading h = (index, subst (λ t. IsReadEdition index t reading) (sym h.whole) h)

pub read_lies : (name : List ℕ) (reading : ReadEdition) → IsRead reading → LiesWithin (install_read name reading)
read_lies name reading h =
    let few : length reading.text ≤ most_octets = text_few h.0 reading h.1 in
    (lines_within h.0 reading.text reading h.1, omega (arith, few))

pub read_lawful : (name : List ℕ) (reading : ReadEdition) → IsRead reading → IsLawfulCommand (install name (edition_of reading))
read_lawful name reading h = well_formed h.0 reading.text reading h.1

-- ---- its lines can be stored

storable : (text : List ℕ) (lines : List Line) → length text ≤ most_octets → AllByRecursion (IsWithin text) lines → AllByRecursion IsWellFormedEntry (map (entry_in text) lines) → AllByRecursion IsStorable lines
storable text [] few lies lawful = tt
storable text (said ∷ lines) few lies lawful = (of_entries text said (omega (arith, few)) lies.0 lawful.0, storable text lines few lies.1 lawful.1)

pub read_storable : (index text : List ℕ) (reading : ReadEdition) → IsReadEdition index text reading → AllByRecursion IsStorable reading.lines
read_storable index text reading h =
    let it = read_itself index text reading h in
    storable reading.text reading.lines (text_few it.0 reading it.1) (lines_within it.0 reading.text reading it.1) (well_formed it.0 reading.text reading it.1).entries

-- ---- one line behind others

abbrev none_said : Line
none_said = record { headword = []; offset = 0; size = 0; shown = [] }

pub next_line : (lines : List Line) (i : ℕ) → i < length lines → (front more : List ℕ) → front ≡ stored_index (take i lines) → ((said : Line) → slice_get lines i ≡ Some said → more ≡ front ++ (stored_line said ++ 10 ∷ []))
    → more ≡ stored_index (take (i + 1) lines)
next_line lines i lt front more was put =
    let said : Line = get_or lines i none_said in
    put said (slice_get-get_or lines i none_said lt) ∙ ap (λ (o : List ℕ). o ++ (stored_line said ++ 10 ∷ [])) was ∙ sym (ap stored_index (take_more lines i none_said lt) ∙ pushed (take i lines) said)

-- ---- the lines of an edition's entries, whichever it is

module _ (index text : List ℕ) (reading : ReadEdition) (h : IsReadEdition index text reading)
    (one : (index text : List ℕ) (a b : ReadEdition) → IsReadEdition index text a → IsReadEdition index text b → a ≡ b) where
  pub first_lines : (n : ℕ) (stored : List ℕ) → stored ≡ stored_index (take n reading.lines) → AreFirstLines index text n stored
  first_lines n stored is = λ other k. subst (λ (r : ReadEdition). stored ≡ stored_index (take n r.lines)) (one index text reading other h k) is

  pub all_lines : (n : ℕ) (stored : List ℕ) → length reading.lines ≤ n → stored ≡ stored_index (take n reading.lines) → AreAllLines index text stored
  all_lines n stored le is = λ other k. subst (λ (r : ReadEdition). stored ≡ stored_index r.lines) (one index text reading other h k) (is ∙ ap stored_index (take_all n reading.lines le))

pub each_some : {X : Type 0} (found : Option X) (P Q : X → Type 0) → ((x : X) → P x → Q x) → IfSome found P → IfSome found Q
each_some None P Q f h = tt
each_some (Some x) P Q f h = f x h

pub either_way : {X R : Type 0} (found : Option X) (P : X → Type 0) (Q : Type 0) → ((x : X) → P x → R) → (Q → R) → IfSome found P → IfNone found Q → R
either_way None P Q some none h k = none k
either_way (Some x) P Q some none h k = some x h

pub both_none : {X : Type 0} (found : Option X) (P Q : Type 0) → IfNone found P → IfNone found Q → IfNone found (P × Q)
both_none None P Q h k = (h, k)
both_none (Some x) P Q h k = tt

-- ---- no line is read, or a test fails

pub on_ok : {X E : Type 0} (result : Result X E) (P Q : Type 0) → (P → Q) → OnOk result P → OnOk result Q
on_ok (Ok x) P Q f h = f h
on_ok (Err e) P Q f h = tt
