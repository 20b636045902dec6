-- What contracts see of an install that may come.
use Rattle.std.specs.Prelude.{◌≡◌, Bool, ℕ, List}

-- the name and the two files as they came; how many lines are read, and of how many entries the lines are written as they are stored;
-- whether a test fails, and whether nothing is left to do
pub record DraftState : Type 0 where
  pub name : List ℕ
  pub index : List ℕ
  pub text : List ℕ
  pub lines : ℕ
  pub written : ℕ
  pub is_refused : Bool
  pub is_done : Bool

-- it is a draft of this name and these two files
pub record IsDraftOf (name index text : List ℕ) (d : DraftState) : Type 0 where
  pub name_is : d.name ≡ name
  pub index_is : d.index ≡ index
  pub text_is : d.text ≡ text
