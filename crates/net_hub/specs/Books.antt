-- Which connections are open, by their ids, and which further one may be opened.
use Rattle.std.specs.Prelude.{◌≡◌, ◌==◌, ℕ, Bool, true, false, nat_lt, nat_le, List, position, Option, Some, None, Result, Ok, Err, if◌then◌else◌}
use Rattle.net_hub.specs.declared.fault.HubFault.{HubFault}
use Rattle.net_hub.specs.declared.fault.HubFault.TheVariants.{UnknownConnection, TooMany, Memory}

-- the id is above each that was given so far, of which this is the greatest
abbrev pub is_new : ℕ → Option ℕ → Bool
is_new id None = true
is_new id (Some greatest) = nat_lt greatest id

-- the first test that an opening fails, where so many connections are open: its id is new, and fewer than 64 are
abbrev pub opening : ℕ → Option ℕ → ℕ → Result (Unit {0}) HubFault
opening id greatest count = if is_new id greatest then (if nat_le 64 count then Err TooMany else Ok tt) else Err UnknownConnection

-- what an opening is refused for: the first test that it fails, or where it fails none a growth that was refused
abbrev pub IsRefusal : Result (Unit {0}) HubFault → HubFault → Type 0
IsRefusal (Err fault) told = told ≡ fault
IsRefusal (Ok passed) told = told ≡ Memory

-- the id is not above the greatest one that was given
abbrev pub is_given : Option ℕ → ℕ → Bool
is_given None id = false
is_given (Some greatest) id = nat_le id greatest

-- the place of an open connection
abbrev pub place_of_connection : ℕ → List ℕ → Option ℕ
place_of_connection id ids = position (λ one. one == id) ids

abbrev pub hub_fault_number : HubFault → ℕ
hub_fault_number UnknownConnection = 50
hub_fault_number TooMany = 51
hub_fault_number Memory = 52
