-- What a sink of rows was handed.
use Rattle.std.specs.Prelude.{◌≡◌, List, ◌++◌, Result, Ok, OnErr}
use Rattle.dict_index.specs.Found.{Row}
use Rattle.dict_desk.specs.declared.fault.Fault.{Fault}
use Rattle.dict_desk.specs.declared.lookup.End.{End}
use Rattle.dict_desk.specs.declared.lookup.End.TheVariants.{All, Stopped}

-- Between two states of a sink these rows were handed out, in order: all of them were taken; or the sink stopped in a
-- front of them; or the call failed, and before that a front of them was taken and the sink didn't stop. `takes` and
-- `stops` are the sink's own.
pub record Hands {S : Type 0} (takes stops : S → List Row → S → Type 0) (old new : S) (rows : List Row) (result : Result End Fault) : Type 0 where
  pub all : result ≡ Ok All → takes old rows new
  pub stopped : result ≡ Ok Stopped → stops old rows new
  pub failed : OnErr result ((front : List Row) × (rest : List Row) × (rows ≡ front ++ rest) × takes old front new)
