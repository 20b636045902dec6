-- What stands under the number of a filing, and what its parts make of that.
use Rattle.std.proofs.Common.{◌≡◌, ℕ, ◌+◌, ◌-◌, ◌≤◌, ◌<◌, ◌||◌, pos, Bool, true, false, cond, List, [], ◌∷◌, ◌++◌, length, map, take, drop, filter, not, codes, refl, sym, ap, subst, ◌∙◌, arith}
use Rattle.std.specs.Prelude.{slice_range, IsTrue, Option, Some, None}
use Rattle.std.specs.List.{AllByRecursion}
use Rattle.std.specs.List.Sorted.{IsPermutation}
use Rattle.std.proofs.lemmas.Bool.{false≢true}
use Rattle.std.proofs.lemmas.List.{take_all, map-append, length-map, length-drop, length-take-le}
use Rattle.std.proofs.lemmas.List.Elements.{filter-append}
use Rattle.std.proofs.lemmas.List.Sorted.{IsPermutation-refl, IsPermutation-sym, IsPermutation-trans, IsPermutation-append, IsPermutation-append_comm, IsPermutation-filter_both, IsPermutation-map}
use Rattle.std.proofs.Math.Seq.{take-add}
use Rattle.sqlite_trees.proofs.ListLemmas.{IsPermutation-filter}
use Rattle.sqlite.specs.Effect.{Database, IsDatabase}
use Rattle.sqlite.specs.Order.{Row}
use Rattle.sqlite.specs.State.{State, HasCleanDisk}
use Rattle.sqlite.specs.Held.{Held, state}
use Rattle.sqlite.specs.declared.error.Error.{Error}
use Rattle.sqlite_trees.specs.declared.store.Store.{Ghosts}
use Rattle.dict_text.proofs.AllLemmas.{all_drop, all_take, all_weaker}
use Rattle.store_tables.specs.Records.{EntryRecord, Part}
use Rattle.store_tables.specs.Effects.{equals_number, rows_of}
use Rattle.store_sql.specs.Statements.{Statement, make, add, remove, Succeeds, RunInTurn}
use Rattle.store_sql.specs.PartRecords.{part_row}
use Rattle.store_rows.specs.After.{Installed, TableChange, is_gone}
use Rattle.store_rows.specs.Tables.{same_number}
use Rattle.store_rows.specs.Versions.{known}
use Rattle.store_rows.proofs.SelectionLemmas.{filter_filter}
use Rattle.store_rows.proofs.TakenLemmas.{same_number_is, same_itself}
use Rattle.store_holdings.specs.HeldTexts.{rows_under}
use Rattle.store_holdings.specs.Files.{parts_under, installed_parts}
use Rattle.store_holdings.specs.AllTables.{AllTables, beside_installed, all_after}
use Rattle.store_sql.specs.Readings.{Keeps}
use Rattle.store_commands.specs.KeptRecords.{HasRecords, TurnsRecords}
use Rattle.store_commands.specs.Filing.{parts_of_filing, AreAllPartsFiled, IsOfEdition, HasFiledParts, filing_part, AreOfSomePart, with_part}
use Rattle.store_commands.specs.FiledParts.{FilesUpTo, WritesUpTo, FailsAmong}
use Rattle.store_commands.specs.Changes.{finished, with_more_parts, with_parts_anew}
use Rattle.store_commands.specs.Statements.{adding_part, parts_anew}
use Rattle.store_commands.specs.Writes.{WroteStatements, FailsToWrite}
use Rattle.store_commands.specs.Finishing.{AwaitsRest}
use Rattle.store_commands.specs.declared.filing.Filing.{Filing}
use Rattle.store_commands.proofs.RowLemmas.{filter_map, next_column, compared_values}
use Rattle.store_commands.proofs.TableLemmas.{parts_kept, other_entries, other_parts}
use Rattle.store_commands.proofs.TextLemmas.{parts_its, left_out, none_found, gone_itself}

-- ---- lists

pub so_far : {X : Type 0} (xs : List X) (from to : ℕ) → from ≤ to → take from xs ++ slice_range xs from to ≡ take to xs
so_far xs from to le =
    let whole : from + (to - from) ≡ to = omega (arith, le) in
    sym (subst (λ n. take n xs ≡ take from xs ++ take (to - from) (drop from xs)) whole (take-add from (to - from) xs))

pub all_pass : {X : Type 0} (test : X → Bool) (xs : List X) → AllByRecursion (λ (x : X). test x ≡ true) xs → filter test xs ≡ xs
all_pass test [] h = refl
all_pass test (x ∷ xs) h = ap (λ b. cond b (x ∷ filter test xs) (filter test xs)) h.0 ∙ ap (λ l. x ∷ l) (all_pass test xs h.1)

-- ---- what stands under a number

module _ {R : Type 0} (name : List ℕ) (encode : R → Row) (number : ℕ) where
  abbrev is_its : Row → Bool
  is_its row = equals_number 0 (pos number) row

  pub stands_under : (db : Database) (records : List R) → Keeps name encode db records → IsPermutation (filter is_its (map encode records)) (rows_under name number db)
  stands_under db records k =
      subst (λ l. IsPermutation (filter is_its (map encode records)) l) (sym (filter_map (drop 1) is_its (equals_number 1 (pos number)) (next_column 0 (pos number)) (rows_of name db)))
      (IsPermutation-filter is_its (map encode records) (map (drop 1) (rows_of name db)) k.rows)

pub part_asks : (number : ℕ) (p : Part) → equals_number 0 (pos number) (part_row p) ≡ true → p.edition ≡ pos number
part_asks number p its = sym (same_number_is (pos number) p.edition (sym (compared_values (pos number) p.edition) ∙ its))

module _ (number : ℕ) where
  abbrev is_under : Part → Bool
  is_under p = equals_number 0 (pos number) (part_row p)

  pub is_its_own : (p : Part) → p.edition ≡ pos number → is_under p ≡ true
  is_its_own p e = compared_values (pos number) p.edition ∙ ap (same_number (pos number)) e ∙ same_itself (pos number)

  parts_stand : (db : Database) (parts : List Part) → Keeps (codes "dictcat_part") part_row db parts → IsPermutation (map part_row (filter is_under parts)) (rows_under (codes "dictcat_part") number db)
  parts_stand db parts k =
      subst (λ l. IsPermutation l (rows_under (codes "dictcat_part") number db)) (sym (filter_map part_row (λ row. equals_number 0 (pos number) row) is_under (λ p. refl) parts))
      (stands_under (codes "dictcat_part") part_row number db parts k)

  abbrev AreIts : List Part → Type 0
  AreIts ps = AllByRecursion (λ (p : Part). p.edition ≡ pos number) ps

  all_its : (ps : List Part) → AreIts ps → filter is_under ps ≡ ps
  all_its ps h = all_pass is_under ps (all_weaker (λ (p : Part). p.edition ≡ pos number) (λ (p : Part). is_under p ≡ true) is_its_own ps h)

  -- nothing stands there where its parts were taken out
  none_stays : (ps : List Part) → filter is_under (filter (λ (p : Part). not (is_gone (number ∷ []) p.edition)) ps) ≡ []
  none_stays ps =
      filter_filter is_under (λ (p : Part). not (is_gone (number ∷ []) p.edition)) (λ (p : Part). false)
      (λ p. left_out (not (is_gone (number ∷ []) p.edition)) (is_under p) (λ asked. ap (λ n. not (is_gone (number ∷ []) n)) (part_asks number p asked) ∙ ap not (gone_itself number))) ps ∙ none_found ps

  -- the first parts, in place of others
  stand_first : (db : Database) (ps rows : List Part) → AreIts rows → Keeps (codes "dictcat_part") part_row db (filter (λ (p : Part). not (is_gone (number ∷ []) p.edition)) ps ++ rows)
      → IsPermutation (map part_row rows) (rows_under (codes "dictcat_part") number db)
  stand_first db ps rows its k =
      let rest : List Part = filter (λ (p : Part). not (is_gone (number ∷ []) p.edition)) ps in
      let same : filter is_under (rest ++ rows) ≡ rows = filter-append is_under rest rows ∙ ap (λ l. l ++ filter is_under rows) (none_stays ps) ∙ all_its rows its in
      subst (λ l. IsPermutation (map part_row l) (rows_under (codes "dictcat_part") number db)) same (parts_stand db (rest ++ rows) k)

  -- more of them
  stand_more : (old new : Database) (ps front rows : List Part) → AreIts rows → Keeps (codes "dictcat_part") part_row old ps → Keeps (codes "dictcat_part") part_row new (ps ++ rows)
      → IsPermutation (map part_row front) (rows_under (codes "dictcat_part") number old) → IsPermutation (map part_row (front ++ rows)) (rows_under (codes "dictcat_part") number new)
  stand_more old new ps front rows its one two stood =
      let under : List Row = rows_under (codes "dictcat_part") number old in
      let same : map part_row (filter is_under (ps ++ rows)) ≡ map part_row (filter is_under ps) ++ map part_row rows =
      ap (map part_row) (filter-append is_under ps rows ∙ ap (λ l. filter is_under ps ++ l) (all_its rows its)) ∙ map-append part_row (filter is_under ps) rows in
      let were : IsPermutation (map part_row front) (map part_row (filter is_under ps)) =
      IsPermutation-trans (map part_row front) under (map part_row (filter is_under ps)) stood (IsPermutation-sym (map part_row (filter is_under ps)) under (parts_stand old ps one)) in
      subst (λ l. IsPermutation l (rows_under (codes "dictcat_part") number new)) (sym (map-append part_row front rows))
      (IsPermutation-trans _ _ _ (IsPermutation-append _ _ _ _ were (IsPermutation-refl (map part_row rows)))
      (subst (λ l. IsPermutation l (rows_under (codes "dictcat_part") number new)) same (parts_stand new (ps ++ rows) two)))

-- ---- what a part of a filing leaves there

pub its_slice : (f : Filing) (from to : ℕ) → AllByRecursion (λ (p : Part). p.edition ≡ pos f.number) (slice_range (parts_of_filing f) from to)
its_slice f from to =
    all_take (λ (p : Part). p.edition ≡ pos f.number) (to - from) (drop from (parts_of_filing f))
    (all_drop (λ (p : Part). p.edition ≡ pos f.number) from (parts_of_filing f) (parts_its (pos f.number) f.index.items f.text.items))

module _ (f : Filing) (to : ℕ) (old new : Database) (all : AllTables) (it : HasRecords old all) where
  filed_by : (b : Bool) → (b ≡ true → HasFiledParts f old) → (b ≡ true → f.parts_filed < to) → TurnsRecords (with_part b f to) old new
      → IsPermutation (map part_row (take to (parts_of_filing f))) (rows_under (codes "dictcat_part") f.number new)
  filed_by true before goes_on turns =
      let rows : List Part = slice_range (parts_of_filing f) f.parts_filed to in
      subst (λ l. IsPermutation (map part_row l) (rows_under (codes "dictcat_part") f.number new)) (so_far (parts_of_filing f) f.parts_filed to (omega (arith, goes_on refl)))
      (stand_more f.number old new all.parts (take f.parts_filed (parts_of_filing f)) rows (its_slice f f.parts_filed to) (parts_kept old all it) (parts_kept new (with_part true f to all) (turns all it).0) (before refl))
  filed_by false before goes_on turns =
      let rows : List Part = slice_range (parts_of_filing f) 0 to in
      subst (λ l. IsPermutation (map part_row l) (rows_under (codes "dictcat_part") f.number new)) (so_far (parts_of_filing f) 0 to (omega arith))
      (stand_first f.number new all.parts rows (its_slice f 0 to) (parts_kept new (with_part false f to all) (turns all it).0))

  pub filed_on : (f.is_begun ≡ true → HasFiledParts f old) → FilesUpTo f to old new → HasFiledParts (record f { is_begun = true; parts_filed = to }) new
  filed_on before files = filed_by f.is_begun before files.goes_on files.turns

-- ---- all is filed

or_no : (b : Bool) → (b || false) ≡ b
or_no true = refl
or_no false = refl

module _ (f : Filing) (db : Database) (all : AllTables) (it : HasRecords db all) (whole : AreAllPartsFiled f) (filed : HasFiledParts f db) where
  abbrev gone : List Part
  gone = filter (λ (p : Part). is_gone (f.number ∷ []) p.edition) all.parts

  abbrev stay : List Part
  stay = filter (λ (p : Part). not (is_gone (f.number ∷ []) p.edition)) all.parts

  same_under : filter (is_under f.number) all.parts ≡ gone
  same_under = λ i. filter (λ (p : Part). (compared_values (pos f.number) p.edition ∙ sym (or_no (same_number (pos f.number) p.edition))) i) all.parts

  all_rows : IsPermutation (map part_row (parts_of_filing f)) (map part_row gone)
  all_rows =
      let under : List Row = rows_under (codes "dictcat_part") f.number db in
      IsPermutation-trans (map part_row (parts_of_filing f)) under (map part_row gone)
      (subst (λ l. IsPermutation (map part_row l) under) (take_all f.parts_filed (parts_of_filing f) whole.all) filed)
      (IsPermutation-sym (map part_row gone) under (subst (λ l. IsPermutation (map part_row l) under) same_under (parts_stand f.number db all.parts (parts_kept db all it))))

  -- the parts are the others and those of the edition, by their rows
  all_there : IsPermutation (map part_row (stay ++ parts_of_filing f)) (map part_row all.parts)
  all_there =
      subst (λ l. IsPermutation l (map part_row all.parts)) (sym (map-append part_row stay (parts_of_filing f)))
      (IsPermutation-trans _ _ _ (IsPermutation-append _ _ _ _ (IsPermutation-refl (map part_row stay)) all_rows)
      (IsPermutation-trans _ _ _ (IsPermutation-append_comm (map part_row stay) (map part_row gone))
      (subst (λ l. IsPermutation l (map part_row all.parts)) (map-append part_row gone stay)
      (IsPermutation-map part_row _ _ (IsPermutation-sym _ _ (IsPermutation-filter_both (λ (p : Part). is_gone (f.number ∷ []) p.edition) (λ (p : Part). not (is_gone (f.number ∷ []) p.edition)) (λ p. refl) all.parts))))))

  installed_there : (edition : Option Installed) → IsOfEdition f edition → IsPermutation (map part_row (beside_installed edition all.parts ++ installed_parts edition)) (map part_row all.parts)
  installed_there None h = absurd h
  installed_there (Some new) h =
      subst (λ l. IsPermutation (map part_row l) (map part_row all.parts))
      (λ i. filter (λ (p : Part). not (is_gone (h.0 i ∷ []) p.edition)) all.parts ++ parts_under (pos (h.0 i)) (h.1 i) (h.2 i)) all_there

  module _ (change : TableChange) (of_it : IsOfEdition f change.edition) where
    -- but for the entries, which no table keeps
    abbrev but_entries : AllTables
    but_entries = record (all_after known change all) { entries = filter (λ (r : EntryRecord). not (is_gone change.gone r.edition)) all.entries }

    rest_turned : (after : Database) → HasRecords after (finished change all) → HasRecords after (all_after known change all)
    rest_turned after it =
        other_entries after but_entries (other_parts after (finished change all) it but_entries.parts (installed_there change.edition of_it)) (all_after known change all).entries

pub awaits_rest : (f : Filing) (change : TableChange) (db : Database) → AreAllPartsFiled f → IsOfEdition f change.edition → HasFiledParts f db → AwaitsRest change db
awaits_rest f change db whole of_it filed = λ all it after has. rest_turned f db all it whole filed change of_it after has

-- ---- statements that ran

-- the store was open, the transaction is, and its database is sound
abbrev pub RanWell : State → State → Type 0
RanWell old new = IsTrue old.is_open × IsDatabase new.now × (new.in_transaction ≡ true)

succeeds_well : (one : Statement) (old new : State) → Succeeds one old new → RanWell old new
succeeds_well (make table) old new h = (h.1.was_open, h.0.sound, h.1.mode)
succeeds_well (add name row) old new h = (h.1.was_open, h.0.sound, h.1.mode)
succeeds_well (remove name test) old new h = (h.1.was_open, h.0.sound, h.1.mode)

ran_well : {S : Type 0} (g : Ghosts S) (statements : List Statement) (old new : Held S) → 1 ≤ length statements → RunInTurn g statements old new → RanWell (state g old) (state g new)
ran_well g [] old new some ran = absurd (omega (arith, some))
ran_well g (one ∷ []) old new some ran = subst (λ (h : Held _). RanWell (state g old) (state g h)) (sym ran.2) (succeeds_well one (state g old) (state g ran.0) ran.1.0)
ran_well g (one ∷ two ∷ rest) old new some ran =
    let last = ran_well g (two ∷ rest) ran.0 new (omega arith) ran.2 in
    ((succeeds_well one (state g old) (state g ran.0) ran.1.0).0, last.1, last.2)

module _ {S : Type 0} (g : Ghosts S) (f : Filing) (to : ℕ) (old new : Held S) where
  some_statements : (b : Bool) → (b ≡ true → f.parts_filed < to) → to ≤ length (parts_of_filing f) → 1 ≤ length (filing_part b f to)
  some_statements true more within =
      let parts : List Part = parts_of_filing f in
      let left : length (drop f.parts_filed parts) ≡ length parts - f.parts_filed = length-drop f.parts_filed parts in
      let long : length (slice_range parts f.parts_filed to) ≡ to - f.parts_filed = length-take-le (to - f.parts_filed) (drop f.parts_filed parts) (omega (arith, left, within)) in
      let all : length (map adding_part (slice_range parts f.parts_filed to)) ≡ length (slice_range parts f.parts_filed to) = length-map (slice_range parts f.parts_filed to) adding_part in
      omega (arith, all, long, more refl)
  some_statements false more within = omega arith

  pub wrote_well : (all : ℕ) → all ≡ length (parts_of_filing f) → to ≤ all → (f.is_begun ≡ true → f.parts_filed < to) → WritesUpTo g f to old new → HasCleanDisk (state g new) → RanWell (state g old) (state g new)
  wrote_well all long within more wrote clean = ran_well g (filing_part f.is_begun f to) old new (some_statements f.is_begun more (omega (arith, within, long))) (wrote.wrote.ran clean)

  module _ (parts : List Part) (are : parts ≡ parts_of_filing f) where
    -- where it has begun
    module _ (is : f.is_begun ≡ true) where
      pub next_wrote : f.parts_filed < to → WroteStatements g (map adding_part (slice_range parts f.parts_filed to)) (with_more_parts (slice_range parts f.parts_filed to)) old new → WritesUpTo g f to old new
      next_wrote more wrote = record {
        goes_on = λ _. more;
        wrote = subst (λ (b : Bool). WroteStatements g (filing_part b f to) (with_part b f to) old new) (sym is)
            (subst (λ (l : List Part). WroteStatements g (map adding_part (slice_range l f.parts_filed to)) (with_more_parts (slice_range l f.parts_filed to)) old new) are wrote);
      }

      pub next_failed : (e : Error) → FailsToWrite g (map adding_part (slice_range parts f.parts_filed to)) old new e → FailsAmong g (AreOfSomePart f) old new e
      next_failed e failed = (
        filing_part f.is_begun f to,
        (to, refl),
        subst (λ (b : Bool). FailsToWrite g (filing_part b f to) old new e) (sym is)
            (subst (λ (l : List Part). FailsToWrite g (map adding_part (slice_range l f.parts_filed to)) old new e) are failed),
      )

    -- where it begins
    module _ (number : ℕ) (same : number ≡ f.number) (is : f.is_begun ≡ false) where
      begins_as : (P : ℕ → List Part → Type 0) → P number (slice_range parts 0 to) → P f.number (slice_range (parts_of_filing f) 0 to)
      begins_as P h = subst (λ n. P n (slice_range (parts_of_filing f) 0 to)) same (subst (λ (l : List Part). P number (slice_range l 0 to)) are h)

      pub first_wrote : WroteStatements g (parts_anew number (slice_range parts 0 to)) (with_parts_anew number (slice_range parts 0 to)) old new → WritesUpTo g f to old new
      first_wrote wrote = record {
        goes_on = λ yes. absurd (false≢true (sym is ∙ yes));
        wrote = subst (λ (b : Bool). WroteStatements g (filing_part b f to) (with_part b f to) old new) (sym is) (begins_as (λ n l. WroteStatements g (parts_anew n l) (with_parts_anew n l) old new) wrote);
      }

      pub first_failed : (e : Error) → FailsToWrite g (parts_anew number (slice_range parts 0 to)) old new e → FailsAmong g (AreOfSomePart f) old new e
      first_failed e failed = (
        filing_part f.is_begun f to,
        (to, refl),
        subst (λ (b : Bool). FailsToWrite g (filing_part b f to) old new e) (sym is) (begins_as (λ n l. FailsToWrite g (parts_anew n l) old new e) failed),
      )
