-- How much of a change that may come is left to prepare, in counts: each of them is of a kind, and what is done first stands at the head.
use Rattle.std.specs.Prelude.{◌≡◌, ℕ, ◌-◌, ◌^◌, Bool, true, false, List, [], ◌∷◌, ◌++◌, length, Option, Some, None}
use Rattle.store_commands.specs.Drafts.{DraftState}
use Rattle.store_commands.specs.Left.{draft_left, filing_left}
use Rattle.store_commands.specs.declared.filing.Filing.{Filing}
use Rattle.store_holdings.specs.Taken.{LooksAt}
use Rattle.store_desk.specs.declared.making.IndexPart.{IndexPart}
use Rattle.store_desk.specs.declared.making.IndexPart.TheVariants.{Entries, Parts, Lost}

-- what contracts see of the numbers under which there may be parts of no edition: how many they are, and by how many slices at most the parts of
-- the last one are taken out
pub record OrphansState : Type 0 where
  pub numbers : ℕ
  pub slices : ℕ

-- what contracts see of an install of whose edition all is read: what is filed, and how much is left of its index: what is to be done next, and how
-- often at most
pub record ComingState : Type 0 where
  pub filing : Filing
  pub index : ℕ × ℕ

abbrev pub orphans_left : OrphansState → List ℕ
orphans_left orphans = orphans.numbers ∷ orphans.slices ∷ []

-- Of an index in memory: entries that aren't taken, counted down from what a number of 64 bits can count; or, once all are, the steps that are
-- left at most.
abbrev pub index_left : IndexPart → ℕ × ℕ
index_left (Entries builder) = (2, 2 ^ 64 - length builder)
index_left (Parts making) = (1, making.left)
index_left Lost = (0, 0)

abbrev pub both_left : ℕ × ℕ → List ℕ
both_left index = index.0 ∷ index.1 ∷ []

-- of what is read
abbrev pub reading_left : Option DraftState → List ℕ
reading_left None = 0 ∷ 0 ∷ 0 ∷ []
reading_left (Some draft) = draft_left draft

-- of what is filed, and then of its index
abbrev pub coming_left : Option ComingState → List ℕ
coming_left None = 0 ∷ 0 ∷ 0 ∷ 0 ∷ []
coming_left (Some coming) = filing_left coming.filing ++ both_left coming.index

-- what is read is filed then
abbrev pub install_left : Option DraftState → Option ComingState → List ℕ
install_left draft coming = reading_left draft ++ coming_left coming

abbrev pub log_left : Bool → ℕ
log_left true = 1
log_left false = 0

-- a long log is copied, parts of no edition are taken out, and then what comes is prepared
abbrev pub left_to_prepare : Bool → OrphansState → Option DraftState → Option ComingState → List ℕ
left_to_prepare is_log_long orphans draft coming = log_left is_log_long ∷ (orphans_left orphans ++ install_left draft coming)

-- whether parts are filed of an edition that comes
abbrev pub has_filed : Option ComingState → Bool
has_filed None = false
has_filed (Some coming) = coming.filing.is_begun

-- what is counted of a desk: how many entries and rows its lookups have taken; how much is left to prepare, and whether parts of an edition are
-- filed for it
pub record Counts : Type 0 where
  pub taken : ℕ
  pub left : List ℕ
  pub filed : Bool

-- what is counted where nothing is looked up: what lookups have taken is as it was
abbrev pub recounted : Counts → Counts → Counts
recounted old new = record old { left = new.left; filed = new.filed }

abbrev pub counted : ℕ → Bool → OrphansState → Option DraftState → Option ComingState → Counts
counted taken is_log_long orphans draft coming = record { taken = taken; left = left_to_prepare is_log_long orphans draft coming; filed = has_filed coming }

-- nothing is noted of a change that may come, and nothing of it is read or filed
abbrev pub HasForgotten : Counts → Type 0
HasForgotten counts = (is_log_long : Bool) × (orphans : OrphansState) × (counts ≡ record counts { left = left_to_prepare is_log_long orphans None None; filed = false })

-- a lookup took so many entries and rows at least; what is left to prepare, and whether parts are filed, is as it was
pub record CountsLook (old new : Counts) (few : ℕ) : Type 0 where
  pub taken : LooksAt old.taken new.taken few
  pub same : new ≡ record old { taken = new.taken }
