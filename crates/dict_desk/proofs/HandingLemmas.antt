-- What a sink was handed, by how the call ends.
use Rattle.std.proofs.Common.{◌≡◌, List, ◌++◌}
use Rattle.std.specs.Prelude.{Result, Ok, Err}
use Rattle.dict_index.specs.Found.{Row}
use Rattle.dict_desk.specs.Handing.{Hands}
use Rattle.dict_desk.specs.declared.fault.Fault.{Fault}
use Rattle.dict_desk.specs.declared.lookup.End.{End}
use Rattle.dict_desk.specs.declared.lookup.End.TheVariants.{All, Stopped}

abbrev ok_end : End → Result End Fault
ok_end end = Ok end

module _ {S : Type 0} (takes stops : S → List Row → S → Type 0) (old new : S) where
  pub hands_all : (rows : List Row) → takes old rows new → Hands takes stops old new rows (Ok All)
  hands_all rows h = record { all = λ e. h; stopped = λ e. cc; failed = tt }

  pub hands_stopped : (rows : List Row) → stops old rows new → Hands takes stops old new rows (Ok Stopped)
  hands_stopped rows h = record { all = λ e. cc; stopped = λ e. h; failed = tt }

  pub hands_front : (fault : Fault) (rows front rest : List Row) → rows ≡ front ++ rest → takes old front new → Hands takes stops old new rows (Err fault)
  hands_front fault rows front rest e h = record { all = λ e. cc; stopped = λ e. cc; failed = (front, rest, e, h) }

  pub hands_end : (end : End) (rows : List Row) → (end ≡ All → takes old rows new) → (end ≡ Stopped → stops old rows new) → Hands takes stops old new rows (Ok end)
  hands_end end rows taken broken = record { all = λ e. taken (ended end All e); stopped = λ e. broken (ended end Stopped e); failed = tt }
    where
      ended : (a b : End) → ok_end a ≡ ok_end b → a ≡ b
      ended a b e = cc
