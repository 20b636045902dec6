-- What has been gathered from the lines so far.
use Rattle.std.specs.Prelude.{◌≡◌, ℕ, List, IsTrue, map}
use Rattle.std.specs.List.{AllByRecursion, AllZip}
use Rattle.std.specs.Option.{option_map}
use Rattle.std.specs.BTreeMap.{get_by_text}
use Rattle.dict_index.specs.Line.{Line, IsLine}
use Rattle.dict_index.specs.Reserved.{is_known_reserved, text_under}
use Rattle.dict_index.specs.Tests.{PassesLine}
use Rattle.dict_index.specs.Meaning.{entry_lines}
use Rattle.dict_index.specs.Views.{line_of, HasBodyIn, HasItsKey}
use Rattle.dict_index.specs.declared.gather.Gathered.{Gathered}
use Rattle.dict_index.specs.declared.fault.EditionRefusal.TheVariants.{Reserved, ReservedTwice}
use Rattle.dict_index.specs.declared.line.EntryLineFault.{EntryLineFault}
use Rattle.dict_index.specs.declared.line.EntryLineFault.TheVariants.{Refused, Memory}

-- the entries of these lines with their keys, and the texts of the known reserved keys among them
pub record HasGathered (text : List ℕ) (lines : List (List ℕ)) (gathered : Gathered) : Type 0 where
  pub said : List Line
  pub are : AllZip IsLine lines said
  pub entries : map line_of gathered.entries.items ≡ entry_lines said
  pub bodies : AllByRecursion (HasBodyIn text) gathered.entries.items
  pub keys : AllByRecursion HasItsKey gathered.entries.items
  pub reserved : (key : List ℕ) → IsTrue (is_known_reserved key) → option_map (λ found. found.now) (get_by_text gathered.reserved key) ≡ text_under key text said

-- what a line that is not gathered is refused for, behind these lines
abbrev pub IsGatherFault : EntryLineFault → List ℕ → List (List ℕ) → List ℕ → Type 0
IsGatherFault (Refused Reserved) text lines line = ¬ PassesLine Reserved text lines line
IsGatherFault (Refused ReservedTwice) text lines line = PassesLine Reserved text lines line × ¬ PassesLine ReservedTwice text lines line
IsGatherFault (Refused _) text lines line = ⊥
IsGatherFault Memory text lines line = Unit {0}
