-- What a database holds still where parts of no edition were taken out, or came.
use Rattle.std.proofs.Common.{◌≡◌, ◌≢◌, ℕ, ◌+◌, ◌≤◌, ◌&&◌, ◌||◌, ℤ, pos, Bool, true, false, List, [], ◌∷◌, ◌++◌, map, filter, not, codes, refl, sym, ap, subst, ◌∙◌, arith, append_assoc, append-nil}
use Rattle.std.specs.Prelude.{IsTrue, IfOk, OnOk, Result, Ok, Err, slice_range}
use Rattle.std.specs.List.{AllByRecursion, list_any}
use Rattle.std.specs.List.Sorted.{IsPermutation}
use Rattle.std.proofs.lemmas.Bool.{false≢true}
use Rattle.std.proofs.lemmas.List.Elements.{filter-append}
use Rattle.std.proofs.lemmas.List.Sorted.{IsPermutation-sym, IsPermutation-trans, IsPermutation-append_comm, IsPermutation-append_right, IsPermutation-map, length_permutation}
use Rattle.std.specs.Ordering.{is_lt}
use Rattle.sqlite.specs.Effect.{Database}
use Rattle.sqlite.specs.Order.{column, value_cmp}
use Rattle.sqlite.specs.declared.types.Value.TheVariants.{Int}
use Rattle.sqlite.specs.State.{State, HasCleanDisk, Survives}
use Rattle.sqlite.proofs.StateLemmas.{survives_weaker}
use Rattle.dict_text.proofs.AllLemmas.{all_append, all_of, all_weaker, all_filter, all_flat_map}
use Rattle.dict_index.specs.Edition.{Edition}
use Rattle.dict_catalogue.specs.Items.{edition_numbers, numbers_of}
use Rattle.dict_catalogue.specs.Views.{item_shown}
use Rattle.dict_catalogue.specs.declared.summary.Item.{Item}
use Rattle.dict_catalogue.specs.Steps.{Catalogue, summary_of}
use Rattle.dict_catalogue.specs.Tests.{Holdings}
use Rattle.store_tables.specs.Records.{EditionRecord, Part}
use Rattle.store_sql.specs.PartRecords.{part_row}
use Rattle.store_tables.specs.Effects.{equals_number}
use Rattle.store_rows.specs.Versions.{known}
use Rattle.store_rows.specs.Stands.{Stands, has_number}
use Rattle.store_rows.specs.Tables.{Tables, same_number, entries_of}
use Rattle.store_rows.specs.After.{is_gone}
use Rattle.store_rows.proofs.AfterLemmas.{filter_none}
use Rattle.store_rows.proofs.LawfulLemmas.{numbers_as}
use Rattle.store_rows.proofs.SelectionLemmas.{filter_filter}
use Rattle.store_rows.proofs.TakenLemmas.{nat_same, same_number_is, same_itself}
use Rattle.store_holdings.specs.AllTables.{AllTables, with_derived}
use Rattle.store_holdings.specs.Files.{all_parts, edition_parts, index_octets}
use Rattle.store_holdings.specs.Committed.{IsTreesOf}
use Rattle.store_holdings.specs.Holds.{Holds}
use Rattle.store_holdings.specs.HeldTexts.{rows_under, text_rows}
use Rattle.store_holdings.proofs.FileLemmas.{of_under}
use Rattle.store_commands.specs.KeptRecords.{HasRecords, TurnsRecords}
use Rattle.store_commands.specs.Changes.{IsInRange}
use Rattle.store_commands.specs.Answers.{HoldsBy}
use Rattle.store_commands.specs.Filing.{parts_of_filing, with_part}
use Rattle.store_commands.specs.FiledParts.{FilesUpTo}
use Rattle.store_commands.specs.Marking.{Remains}
use Rattle.store_commands.specs.Orphans.{LosesParts, HasNoParts, with_parts_that}
use Rattle.store_commands.specs.declared.filing.Filing.{Filing}
use Rattle.store_commands.proofs.DecideLemmas.{summary_in_range}
use Rattle.store_commands.proofs.FilingLemmas.{all_pass, its_slice, part_asks, stands_under}
use Rattle.store_commands.proofs.RowLemmas.{filter_map, compared_values}
use Rattle.store_commands.proofs.PartLemmas.{is_late}
use Rattle.store_commands.proofs.TableLemmas.{parts_kept, other_parts}
use Rattle.store_commands.proofs.TextLemmas.{kept_test, left_out, none_found, number_apart, of_text, others_fail, text_asks, text_under}
use Rattle.store_commands.proofs.WriteLemmas.{clean_before}

-- ---- numbers

numbers_apart : (m n : ℕ) → m ≢ n → same_number (pos m) (pos n) ≡ false
numbers_apart m n apart = by (same_number (pos m) (pos n)) refl
  where
    by : (b : Bool) → same_number (pos m) (pos n) ≡ b → b ≡ false
    by true e = absurd (apart (nat_same m n e))
    by false e = refl

-- a number that none of a list is
none_among : (number : ℕ) (numbers : List ℕ) → AllByRecursion (λ one. one ≢ number) numbers → list_any (λ one. same_number (pos one) (pos number)) numbers ≡ false
none_among number [] h = refl
none_among number (n ∷ numbers) h = ap (λ b. b || list_any (λ one. same_number (pos one) (pos number)) numbers) (numbers_apart n number h.0) ∙ none_among number numbers h.1

number_of_none : (M : Catalogue) (summary : Holdings (List ℕ)) (number : ℕ) → summary_of M ≡ summary → AllByRecursion (λ one. one ≢ number) (edition_numbers summary.items) → has_number M.items (pos number) ≡ false
number_of_none M summary number is apart =
    let same : edition_numbers summary.items ≡ edition_numbers M.items = ap (λ (s : Holdings (List ℕ)). edition_numbers s.items) (sym is) ∙ numbers_as (λ (edition : Edition). edition.title) M.items in
    none_among number (edition_numbers M.items) (subst (AllByRecursion (λ one. one ≢ number)) same apart)

-- no edition of the item has the number
abbrev pub HasNotNumber : ℕ → Item → Type 0
HasNotNumber number item = AllByRecursion (λ one. one ≢ number) (numbers_of (item_shown item))

pub none_of_items : (number : ℕ) (items : List Item) → AllByRecursion (HasNotNumber number) items → AllByRecursion (λ one. one ≢ number) (edition_numbers (map item_shown items))
none_of_items number [] h = tt
none_of_items number (item ∷ items) h = all_append (λ one. one ≢ number) (numbers_of (item_shown item)) (edition_numbers (map item_shown items)) h.0 (none_of_items number items h.1)

-- ---- parts

-- those that are left behind some bounds
abbrev pub behind_stays : ℕ → List (ℤ × ℤ) → Part → Bool
behind_stays number done r = not (list_any (λ bound. is_late number bound (part_row r)) done)

pub behind_others : (number : ℕ) (done : List (ℤ × ℤ)) (part : Part) → same_number (pos number) part.edition ≡ false → behind_stays number done part ≡ true
behind_others number done part other = ap not (none_late done)
  where
    none_late : (l : List (ℤ × ℤ)) → list_any (λ bound. is_late number bound (part_row part)) l ≡ false
    none_late [] = refl
    none_late (bound ∷ l) =
        ap (λ b. ((b && equals_number 1 bound.0 (part_row part)) && not (is_lt (value_cmp (column (part_row part) 2) (Int bound.1)))) || list_any (λ z. is_late number z (part_row part)) l)
        (compared_values (pos number) part.edition ∙ other) ∙ none_late l

-- those of editions have numbers of the catalogue
each_known : (M : Catalogue) (t : Tables) → Stands known t M → AllByRecursion (λ (p : Part). has_number M.items p.edition ≡ true) (all_parts t)
each_known M t stands =
    all_flat_map (λ (p : Part). has_number M.items p.edition ≡ true) (edition_parts t.entries) t.editions
    (all_weaker (λ (e : EditionRecord). IsTrue (has_number M.items e.number)) (λ (e : EditionRecord). AllByRecursion (λ (p : Part). has_number M.items p.edition ≡ true) (edition_parts t.entries e))
    (λ e there.
    all_weaker (λ (p : Part). has_number M.items p.edition ≡ has_number M.items e.number) (λ (p : Part). has_number M.items p.edition ≡ true) (λ p same. same ∙ there) (edition_parts t.entries e)
    (of_under (has_number M.items) e.number (index_octets (entries_of e.number t.entries)) e.body))
    t.editions stands.numbers)

-- Whatever records the tables kept, they keep them still, but for parts of this number, of which some may have gone, and some come.
pub record ChangesParts (number : ℕ) (old new : Database) : Type 0 where
  pub stays : Part → Bool
  pub more : List Part
  pub others : (part : Part) → same_number (pos number) part.edition ≡ false → stays part ≡ true
  pub its : AllByRecursion (λ (p : Part). p.edition ≡ pos number) more
  pub turns : TurnsRecords (λ all. record all { parts = filter stays all.parts ++ more }) old new

pub loses_changes : (number : ℕ) (old new : Database) → LosesParts number old new → ChangesParts number old new
loses_changes number old new loses = record {
  stays = loses.stays;
  more = [];
  others = loses.others;
  its = tt;
  turns = λ all it.
      let after = loses.turns all it in
      (subst (λ (l : List Part). HasRecords new (record all { parts = l })) (sym (append-nil (filter loses.stays all.parts))) after.0, after.1);
}

module _ (M : Catalogue) (number : ℕ) (apart : has_number M.items (pos number) ≡ false) (old new : Database) (h : Holds known old M) (changes : ChangesParts number old new) where
  abbrev all : AllTables
  all = with_derived h.orphans h.tables

  abbrev rest : List Part
  rest = filter changes.stays h.orphans

  another : (p : Part) → has_number M.items p.edition ≡ true → same_number (pos number) p.edition ≡ false
  another p there = by (same_number (pos number) p.edition) refl
    where
      by : (b : Bool) → same_number (pos number) p.edition ≡ b → b ≡ false
      by true e = absurd (false≢true (sym apart ∙ ap (has_number M.items) (same_number_is (pos number) p.edition e) ∙ there))
      by false e = refl

  parts_stay : filter changes.stays (all_parts h.tables) ≡ all_parts h.tables
  parts_stay = all_pass changes.stays (all_parts h.tables)
      (all_weaker (λ (p : Part). has_number M.items p.edition ≡ true) (λ (p : Part). changes.stays p ≡ true) (λ p there. changes.others p (another p there)) (all_parts h.tables) (each_known M h.tables h.stands))

  -- the parts of editions behind those of none
  in_order : IsPermutation ((rest ++ changes.more) ++ all_parts h.tables) ((rest ++ all_parts h.tables) ++ changes.more)
  in_order =
      subst (λ l. IsPermutation l ((rest ++ all_parts h.tables) ++ changes.more)) (sym (append_assoc rest changes.more (all_parts h.tables)))
      (subst (IsPermutation (rest ++ (changes.more ++ all_parts h.tables))) (sym (append_assoc rest (all_parts h.tables) changes.more))
      (IsPermutation-append_right rest _ _ (IsPermutation-append_comm changes.more (all_parts h.tables))))

  after : HasRecords new (with_derived (rest ++ changes.more) h.tables)
  after =
      let parts : List Part = (rest ++ all_parts h.tables) ++ changes.more in
      let there : HasRecords new (record all { parts = parts }) = subst (λ (l : List Part). HasRecords new (record all { parts = l ++ changes.more }))
      (filter-append changes.stays h.orphans (all_parts h.tables) ∙ ap (λ l. rest ++ l) parts_stay) (changes.turns all (record { own = h.own; keeps = h.keeps })).0 in
      other_parts new (record all { parts = parts }) there ((rest ++ changes.more) ++ all_parts h.tables) (IsPermutation-map part_row _ _ in_order)

  held_on : Holds known new M
  held_on = record {
    own = after.own;
    tables = h.tables;
    orphans = rest ++ changes.more;
    keeps = after.keeps;
    shown = h.shown;
    stands = h.stands;
    apart = record {
      apart = all_append (λ (p : Part). has_number M.items p.edition ≡ false) rest changes.more
          (all_filter (λ (p : Part). has_number M.items p.edition ≡ false) changes.stays h.orphans h.apart.apart)
          (all_weaker (λ (p : Part). p.edition ≡ pos number) (λ (p : Part). has_number M.items p.edition ≡ false) (λ p is. ap (has_number M.items) is ∙ apart) changes.more changes.its);
      later = λ low. absurd (omega (arith, low));
    };
  }

-- ---- the text of another number

module _ (number other : ℕ) (apart : other ≢ number) (old new : Database) (all : AllTables) (before : HasRecords old all) (changes : ChangesParts number old new) where
  text_on : IsPermutation (text_rows other old) (text_rows other new)
  text_on =
      let q : Part → Bool = of_text other in
      let none : filter q changes.more ≡ [] = filter_none q changes.more (others_fail q (pos other) (pos number) (text_asks other) (number_apart other number apart) changes.more changes.its) in
      let same : filter q (filter changes.stays all.parts ++ changes.more) ≡ filter q all.parts =
      filter-append q (filter changes.stays all.parts) changes.more ∙ ap (λ l. filter q (filter changes.stays all.parts) ++ l) none ∙ append-nil (filter q (filter changes.stays all.parts))
      ∙ filter_filter q changes.stays q
      (λ p. kept_test (changes.stays p) (q p) (λ its. changes.others p (ap (same_number (pos number)) (text_asks other p its) ∙ numbers_apart number other (λ is. apart (sym is))))) all.parts in
      let here = text_under other old all.parts (parts_kept old all before) in
      let there = text_under other new (filter changes.stays all.parts ++ changes.more) (parts_kept new (record all { parts = filter changes.stays all.parts ++ changes.more }) (changes.turns all before).0) in
      IsPermutation-trans (text_rows other old) (map part_row (filter q all.parts)) (text_rows other new) (IsPermutation-sym (map part_row (filter q all.parts)) (text_rows other old) here)
      (subst (λ l. IsPermutation (map part_row l) (text_rows other new)) same there)

-- what is committed of it holds what was held
pub remains_changed : (summary : Holdings (List ℕ)) (number : ℕ) → AllByRecursion (λ one. one ≢ number) (edition_numbers summary.items) → (old : State) → HoldsBy summary old → HasCleanDisk old → IsTrue old.is_open
    → (db : Database) → ChangesParts number old.now db → Remains summary old.committed db
remains_changed summary number apart old holds clean live db changes =
    let it = holds clean live in
    let from : ChangesParts number old.committed db = subst (λ (d : Database). ChangesParts number d db) it.1.settled changes in
    let all : AllTables = with_derived it.1.holds.orphans it.1.holds.tables in
    let before : HasRecords old.committed all = record { own = it.1.holds.own; keeps = it.1.holds.keeps } in
    record {
      holds = λ M held is. held_on M number (number_of_none M summary number is apart) old.committed db held from;
      texts = all_weaker (λ one. one ≢ number) (λ one. one ≤ summary.installs → IsPermutation (text_rows one old.committed) (text_rows one db)) (λ one other low. text_on number one other old.committed db all before from)
          (edition_numbers summary.items) apart;
      others = (from.turns all before).1;
    }

pub remains_without : (summary : Holdings (List ℕ)) (number : ℕ) → AllByRecursion (λ one. one ≢ number) (edition_numbers summary.items) → (old : State) → HoldsBy summary old → HasCleanDisk old → IsTrue old.is_open
    → (db : Database) → LosesParts number old.now db → Remains summary old.committed db
remains_without summary number apart old holds clean live db loses = remains_changed summary number apart old holds clean live db (loses_changes number old.now db loses)

-- ---- parts of an edition that comes

-- no edition of a summary has a number above that of each install
none_above : (installs number : ℕ) (numbers : List ℕ) → installs + 1 ≤ number → AllByRecursion (λ one. one ≤ installs) numbers → AllByRecursion (λ one. one ≢ number) numbers
none_above installs number numbers above h = all_weaker (λ one. one ≤ installs) (λ one. one ≢ number) (λ one le is. omega (arith, le, is, above)) numbers h

pub next_apart : (summary : Holdings (List ℕ)) (number : ℕ) → number ≡ summary.installs + 1 → (s : State) → HoldsBy summary s → HasCleanDisk s → IsTrue s.is_open → AllByRecursion (λ one. one ≢ number) (edition_numbers summary.items)
next_apart summary number next s holds clean live =
    let it = holds clean live in
    none_above summary.installs number (edition_numbers summary.items) (omega (arith, next)) (subst IsInRange it.2 (summary_in_range it.0 it.1.holds.stands.well_formed))

-- its parts are added, and where none was filed, what stood under its number has gone
files_turn : (f : Filing) (to : ℕ) (old new : Database) (b : Bool) → TurnsRecords (with_part b f to) old new → ChangesParts f.number old new
files_turn f to old new true turns = record {
  stays = λ p. true;
  more = slice_range (parts_of_filing f) f.parts_filed to;
  others = λ part other. refl;
  its = its_slice f f.parts_filed to;
  turns = λ all it.
      let after = turns all it in
      let rows : List Part = slice_range (parts_of_filing f) f.parts_filed to in
      (subst (λ (l : List Part). HasRecords new (record all { parts = l ++ rows })) (sym (all_pass (λ (p : Part). true) all.parts (all_of (λ (p : Part). true ≡ true) (λ p. refl) all.parts))) after.0, after.1);
}
files_turn f to old new false turns = record {
  stays = λ p. not (is_gone (f.number ∷ []) p.edition);
  more = slice_range (parts_of_filing f) 0 to;
  others = λ part other. ap (λ b. not (b || false)) other;
  its = its_slice f 0 to;
  turns = turns;
}

pub remains_filed : (summary : Holdings (List ℕ)) (f : Filing) (to : ℕ) → f.number ≡ summary.installs + 1 → (old : State) → HoldsBy summary old → HasCleanDisk old → IsTrue old.is_open
    → (db : Database) → FilesUpTo f to old.now db → Remains summary old.committed db
remains_filed summary f to next old holds clean live db files =
    remains_changed summary f.number (next_apart summary f.number next old holds clean live) old holds clean live db (files_turn f to old.now db f.is_begun files.turns)

pub filed_crash : (summary : Holdings (List ℕ)) (f : Filing) → f.number ≡ summary.installs + 1 → (old new : State) → HoldsBy summary old
    → Survives old new (IsTreesOf (λ db. IsTrue old.is_open × (to : ℕ) × FilesUpTo f to old.now db)) → Survives old new (λ trees. IsTrue old.is_open × IsTreesOf (Remains summary old.committed) trees)
filed_crash summary f next old new holds crash = survives_weaker old new _ _
    (λ clean trees it. (it.3.0, (it.0, it.1, it.2, remains_filed summary f it.3.1 next old holds (clean_before old new crash clean) it.3.0 it.0 it.3.2))) crash

-- ---- none is left

none_at_all : {X : Type 0} (xs : List X) → IsPermutation [] xs → xs ≡ []
none_at_all [] same = refl
none_at_all (x ∷ xs) same = absurd (let few = length_permutation [] (x ∷ xs) same in omega (arith, few))

pub none_has : (number : ℕ) (stays : Part → Bool) → ((part : Part) → same_number (pos number) part.edition ≡ true → stays part ≡ false) → (db : Database) (all : AllTables) → HasRecords db (with_parts_that stays all) → HasNoParts number db
none_has number stays its db all it =
    let q : Part → Bool = λ (p : Part). equals_number 0 (pos number) (part_row p) in
    let rest : List Part = filter stays all.parts in
    let none : filter q rest ≡ [] =
    filter_filter q stays (λ (p : Part). false)
    (λ p. left_out (stays p) (q p) (λ asked. its p (ap (same_number (pos number)) (part_asks number p asked) ∙ same_itself (pos number)))) all.parts ∙ none_found all.parts in
    let nothing : filter (λ row. equals_number 0 (pos number) row) (map part_row rest) ≡ [] =
    sym (filter_map part_row (λ row. equals_number 0 (pos number) row) q (λ p. refl) rest) ∙ ap (map part_row) none in
    none_at_all (rows_under (codes "dictcat_part") number db)
    (subst (λ l. IsPermutation l (rows_under (codes "dictcat_part") number db)) nothing (stands_under (codes "dictcat_part") part_row number db rest (parts_kept db (with_parts_that stays all) it)))

-- ---- what an answer tells where it succeeds

pub with_ok : {E : Type 0} (result : Result Bool E) (L : Type 0) (P Q : Bool → Type 0) → OnOk result L → (L → (b : Bool) → P b → Q b) → IfOk result P → IfOk result Q
with_ok (Ok b) L P Q on f it = f on b it
with_ok (Err e) L P Q on f it = tt
