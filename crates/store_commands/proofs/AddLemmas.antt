-- The record and the parts of an edition that are added.
use Rattle.std.proofs.Common.{◌≡◌, ℕ, ◌+◌, ◌-◌, ◌<◌, ◌≤◌, pos, List, [], ◌∷◌, ◌++◌, length, take, drop, get_or, map, codes, arith, refl, sym, ap, subst, ◌∙◌, append-nil}
use Rattle.std.specs.Prelude.{slice_range, Option, Some, None, unwrap_or}
use Rattle.std.proofs.lemmas.Option.{none-some}
use Rattle.std.proofs.lemmas.List.{take_all, take_more, length-take-le, length-drop, get_or-drop, get_or-take}
use Rattle.sqlite.specs.Effect.{Database}
use Rattle.sqlite.specs.State.{HasCleanDisk, Survives}
use Rattle.sqlite.specs.Held.{Held, state}
use Rattle.sqlite.specs.declared.error.Error.{Error}
use Rattle.sqlite_trees.specs.declared.store.Store.{Ghosts}
use Rattle.store_sql.specs.Inserts.{Inserts, FailsToInsert}
use Rattle.store_sql.specs.HeaderRecords.{header_row}
use Rattle.store_tables.specs.Records.{EditionRecord, HeaderRecord, header_of}
use Rattle.store_rows.specs.After.{Installed, TableChange, installed_editions}
use Rattle.store_rows.specs.Written.{edition_record}
use Rattle.store_rows.specs.Stored.{stored_index}
use Rattle.store_rows.specs.Versions.{known}
use Rattle.store_holdings.specs.Files.{parts_under, installed_parts}
use Rattle.store_holdings.specs.AllTables.{AllTables, all_after}
use Rattle.store_commands.specs.KeptRecords.{HasRecords}
use Rattle.store_commands.specs.Changes.{with_more_editions, with_more_parts, with_files, finished, installed_header}
use Rattle.store_commands.specs.Statements.{adding_edition, adding_part, filing_of}
use Rattle.store_commands.specs.Writes.{WroteStatements, FailsToWrite}
use Rattle.store_commands.proofs.LoopLemmas.{Grows, adding_none, parts_none}
use Rattle.store_commands.proofs.TableLemmas.{edition_row, editions_added, other_entries}
use Rattle.store_commands.proofs.WriteLemmas.{wrote_added, failed_one}
use Rattle.store_sql.specs.Statements.{add}

-- ---- its record

module _ {S : Type 0} (g : Ghosts S) (given : HeaderRecord) (wanted : EditionRecord) (is : given ≡ header_of wanted) (old new : Held S) (survives : Survives (state g old) (state g new) (λ _. ⊥)) where
  pub wrote_header : (HasCleanDisk (state g new) → Inserts (codes "edition") (header_row given) (state g old) (state g new)) → WroteStatements g (adding_edition wanted ∷ []) (with_more_editions (wanted ∷ [])) old new
  wrote_header did =
      wrote_added g (codes "edition") (edition_row wanted) old new survives (with_more_editions (wanted ∷ [])) (editions_added wanted)
      (λ clean. subst (λ (h : HeaderRecord). Inserts (codes "edition") (header_row h) (state g old) (state g new)) is (did clean))

  pub failed_header : (e : Error) → (HasCleanDisk (state g new) → FailsToInsert (codes "edition") (header_row given) (state g old) (state g new) e) → FailsToWrite g (adding_edition wanted ∷ []) old new e
  failed_header e h =
      failed_one g (add (codes "edition") (edition_row wanted)) old new survives e (λ clean. subst (λ (k : HeaderRecord). FailsToInsert (codes "edition") (header_row k) (state g old) (state g new) e) is (h clean))

-- the record of the edition that is installed, if there is one
module _ {S : Type 0} (g : Ghosts S) (given : HeaderRecord) where
  pub wrote_installed : (edition : Option Installed) → installed_header edition ≡ Some given → (old new : Held S) → Survives (state g old) (state g new) (λ _. ⊥)
      → (HasCleanDisk (state g new) → Inserts (codes "edition") (header_row given) (state g old) (state g new)) → WroteStatements g (map adding_edition (installed_editions edition)) (with_more_editions (installed_editions edition)) old new
  wrote_installed None is old after survives did = absurd (none-some given is)
  wrote_installed (Some new) is old after survives did =
      wrote_header g given (edition_record new.owner new.number new.reading) (sym (ap (λ o. unwrap_or o given) is)) old after survives did

  pub failed_installed : (edition : Option Installed) → installed_header edition ≡ Some given → (old new : Held S) → Survives (state g old) (state g new) (λ _. ⊥) → (e : Error)
      → (HasCleanDisk (state g new) → FailsToInsert (codes "edition") (header_row given) (state g old) (state g new) e) → FailsToWrite g (map adding_edition (installed_editions edition)) old new e
  failed_installed None is old after survives e did = absurd (none-some given is)
  failed_installed (Some new) is old after survives e did =
      failed_header g given (edition_record new.owner new.number new.reading) (sym (ap (λ o. unwrap_or o given) is)) old after survives e did

editions_none : (all : AllTables) → with_more_editions [] all ≡ all
editions_none all = ap (λ (l : List EditionRecord). record all { editions = l }) (append-nil all.editions)

pub wrote_no_record : {S : Type 0} (g : Ghosts S) (edition : Option Installed) → installed_header edition ≡ None → (a : Held S) → WroteStatements g (map adding_edition (installed_editions edition))
    (with_more_editions (installed_editions edition)) a a
wrote_no_record g None is a = adding_none g adding_edition with_more_editions editions_none a
wrote_no_record g (Some new) is a = absurd (none-some _ (sym is))

-- ---- its parts

-- those from one place up to another
range_length : {X : Type 0} (xs : List X) (from to : ℕ) → from ≤ to → to ≤ length xs → length (slice_range xs from to) ≡ to - from
range_length xs from to ordered within = length-take-le (to - from) (drop from xs)
    (let e : length (drop from xs) ≡ length xs - from = length-drop from xs in let le : to - from ≤ length (drop from xs) = omega (arith, e, ordered, within) in le)

pub range_next : {X : Type 0} (xs : List X) (from to i : ℕ) (x : X) → from ≤ to → to ≤ length xs → i < to - from → x ≡ get_or xs (from + i) x → take i (slice_range xs from to) ++ x ∷ [] ≡ take (i + 1) (slice_range xs from to)
range_next xs from to i x ordered within lt is =
    let low : i < length (slice_range xs from to) = subst (λ n. i < n) (sym (range_length xs from to ordered within)) lt in
    let there : x ≡ get_or (slice_range xs from to) i x = is ∙ sym (get_or-drop from xs i x) ∙ sym (get_or-take (to - from) (drop from xs) i x lt) in
    ap (λ y. take i (slice_range xs from to) ++ y ∷ []) there ∙ sym (take_more (slice_range xs from to) i x low)

pub range_end : {X : Type 0} (xs : List X) (from to i : ℕ) → from ≤ to → to ≤ length xs → to - from ≤ i → take i (slice_range xs from to) ≡ slice_range xs from to
range_end xs from to i ordered within past = take_all i (slice_range xs from to) (subst (λ n. n ≤ i) (sym (range_length xs from to ordered within)) past)

pub each_grows : {X : Type 0} → Grows (λ (l : List X). l)
each_grows front back = (back, refl)

pub whole_range : {X : Type 0} (xs : List X) (n : ℕ) → n ≡ length xs → slice_range xs 0 n ≡ xs
whole_range xs n is =
    let e : n - 0 ≡ n = omega arith in
    let most : length xs ≤ n = omega (arith, is) in
    ap (λ k. take k xs) e ∙ take_all n xs most

-- the parts of its files are those of the edition that is installed
pub parts_installed : (new : Installed) (index text : List ℕ) → index ≡ stored_index new.reading.lines → text ≡ new.reading.text → parts_under (pos new.number) index text ≡ installed_parts (Some new)
parts_installed new index text one two = λ i. parts_under (pos new.number) (one i) (two i)

pub wrote_no_files : {S : Type 0} (g : Ghosts S) (edition : Option Installed) → edition ≡ None → (a : Held S) → WroteStatements g (filing_of edition) (with_files edition) a a
wrote_no_files g edition is a = subst (λ e. WroteStatements g (filing_of e) (with_files e) a a) (sym is) (adding_none g adding_part with_more_parts parts_none a)

-- the parts and then the rest make of the records what the whole makes: the entries alone differ, which no table keeps
pub whole_turned : (change : TableChange) (db : Database) (all : AllTables) → HasRecords db (finished change (with_files change.edition all)) → HasRecords db (all_after known change all)
whole_turned change db all it = other_entries db (finished change (with_files change.edition all)) it (all_after known change all).entries
