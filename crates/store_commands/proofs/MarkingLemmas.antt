-- What the mark written as it is leaves of what a database holds.
use Rattle.std.proofs.Common.{◌≡◌, ℕ, ◌≤◌, List, sym, ap, subst, map, filter}
use Rattle.std.specs.Prelude.{IsTrue}
use Rattle.std.specs.List.Sorted.{IsPermutation}
use Rattle.std.proofs.lemmas.List.Sorted.{IsPermutation-sym, IsPermutation-trans}
use Rattle.sqlite.specs.Effect.{Database}
use Rattle.sqlite.specs.State.{State, HasCleanDisk}
use Rattle.store_tables.specs.Records.{Mark}
use Rattle.store_sql.specs.PartRecords.{part_row}
use Rattle.dict_catalogue.specs.Items.{edition_numbers}
use Rattle.dict_catalogue.specs.Steps.{Catalogue, summary_of}
use Rattle.dict_catalogue.specs.Tests.{Holdings}
use Rattle.store_rows.specs.Versions.{known}
use Rattle.store_holdings.specs.AllTables.{with_derived}
use Rattle.store_holdings.specs.Holds.{Holds}
use Rattle.store_holdings.specs.HeldTexts.{text_rows}
use Rattle.store_commands.specs.KeptRecords.{HasRecords, TurnsRecords}
use Rattle.store_commands.specs.Changes.{with_mark}
use Rattle.store_holdings.specs.Committed.{IsCommitted}
use Rattle.store_commands.specs.Answers.{HoldsBy}
use Rattle.store_commands.specs.Marking.{Remains}
use Rattle.store_commands.proofs.AboveLemmas.{each_one}
use Rattle.store_commands.proofs.TableLemmas.{parts_kept}
use Rattle.store_commands.proofs.TextLemmas.{of_text, text_under}

-- the records are those that there were
same_marked : (M : Catalogue) (db : Database) (h : Holds known db M) → with_mark M.installs (with_derived h.orphans h.tables) ≡ with_derived h.orphans h.tables
same_marked M db h = ap (λ (marks : List Mark). record (with_derived h.orphans h.tables) { marks = marks }) (sym h.stands.marks)

module _ (M : Catalogue) (old new : Database) (h : Holds known old M) (turns : TurnsRecords (with_mark M.installs) old new) where
  before : HasRecords old (with_derived h.orphans h.tables)
  before = record { own = h.own; keeps = h.keeps }

  after : HasRecords new (with_derived h.orphans h.tables)
  after = subst (HasRecords new) (same_marked M old h) (turns (with_derived h.orphans h.tables) before).0

  held_again : Holds known new M
  held_again = record { own = after.own; tables = h.tables; orphans = h.orphans; keeps = after.keeps; shown = h.shown; stands = h.stands; apart = h.apart }

  text_again : (number : ℕ) → IsPermutation (text_rows number old) (text_rows number new)
  text_again number =
      let parts = (with_derived h.orphans h.tables).parts in
      let here = text_under number old parts (parts_kept old (with_derived h.orphans h.tables) before) in
      let there = text_under number new parts (parts_kept new (with_derived h.orphans h.tables) after) in
      IsPermutation-trans (text_rows number old) (map part_row (filter (of_text number) parts)) (text_rows number new)
      (IsPermutation-sym (map part_row (filter (of_text number) parts)) (text_rows number old) here) there

-- what is committed of it holds what was held
pub remains_by : (summary : Holdings (List ℕ)) (old : State) → HoldsBy summary old → HasCleanDisk old → IsTrue old.is_open → (db : Database) → TurnsRecords (with_mark summary.installs) old.now db → Remains summary old.committed db
remains_by summary old holds clean live db turns =
    let it = holds clean live in
    let from : TurnsRecords (with_mark summary.installs) old.committed db = subst (λ (d : Database). TurnsRecords (with_mark summary.installs) d db) it.1.settled turns in
    let by : (M : Catalogue) → summary_of M ≡ summary → TurnsRecords (with_mark M.installs) old.committed db =
    λ M is. subst (λ (n : ℕ). TurnsRecords (with_mark n) old.committed db) (sym (ap (λ (b : Holdings (List ℕ)). b.installs) is)) from in
    record {
      holds = λ M held is. held_again M old.committed db held (by M is);
      texts = each_one (λ number. number ≤ summary.installs → IsPermutation (text_rows number old.committed) (text_rows number db))
          (λ number low. text_again it.0 old.committed db it.1.holds (by it.0 it.2) number) (edition_numbers summary.items);
      others = (from (with_derived it.1.holds.orphans it.1.holds.tables) (record { own = it.1.holds.own; keeps = it.1.holds.keeps })).1;
    }

pub committed_wider : (P Q : Database → Type 0) (s : State) → ((db : Database) → P db → Q db) → IsCommitted P s → IsCommitted Q s
committed_wider P Q s wider done = record {
  is_open = done.is_open;
  settled = done.settled;
  holds = wider s.committed done.holds;
  only = λ trees left. let it = done.only trees left in (it.0, it.1, it.2, wider it.0 it.3);
}
