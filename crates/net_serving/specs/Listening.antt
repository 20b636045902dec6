-- How serving begins: sockets are bound to two addresses, which are told.
use Rattle.std.specs.Prelude.{◌≡◌, ◌≢◌, ◌⊎◌, ℕ, List, ◌++◌, Result, Ok, Err, codes}
use Rattle.std.specs.IoError.{error_kind}
use Rattle.std.specs.declared.io.Error.{Error}
use Rattle.std.specs.declared.io.ErrorKind.{ErrorKind}
use Rattle.std.specs.declared.io.ErrorKind.TheVariants.{OutOfMemory}
use Rattle.std.specs.declared.net.socket_addr.SocketAddr.{SocketAddr}
use Rattle.std.specs.Net.Text.{socket_text}
use Rattle.dict_proto.specs.Streams.{StreamChange, PutsAll, PutsFront}
use Rattle.net_driver.specs.Binding.{BindsBoth}
use Rattle.net_driver.specs.Bound.{sockets_of}
use Rattle.net_driver.specs.declared.binding.Network as network
use Rattle.net_driver.specs.declared.driver.Driver.{Driver}
use Rattle.net_driver.specs.declared.fault.BindFault.{BindFault}
use Rattle.net_driver.specs.declared.sockets.SystemSockets.{SystemSockets}
use Rattle.net_driver.specs.declared.fault.BindFault.TheVariants as bind_faults
use Rattle.app_words.specs.Writing.{IsUntouched}
use Rattle.app_words.specs.declared.fault.ProgramFault.{ProgramFault}
use Rattle.app_words.specs.declared.fault.ProgramFault.TheVariants as faults

-- the addresses that were bound, for readers and for editors, as they are printed
abbrev pub lines_of : SocketAddr → SocketAddr → List ℕ
lines_of dict http = codes "dict " ++ (socket_text dict ++ (codes "\nhttp " ++ (socket_text http ++ codes "\n")))

-- what is told of the kind of the system's error where sockets can't be waited for: that memory ran out, where it is that, and else that
-- they can't be
abbrev pub TellsKind : ErrorKind → ProgramFault → Type 0
TellsKind kind fault = (kind ≡ OutOfMemory → fault ≡ faults.Memory) × (kind ≢ OutOfMemory → fault ≡ faults.CannotWait)

-- the same of the error
abbrev pub TellsWaiting : Error → ProgramFault → Type 0
TellsWaiting why fault = TellsKind (error_kind why) fault

-- no socket can be bound to this address
abbrev pub IsUnbound : List ℕ → ProgramFault → Type 0
IsUnbound address fault = (told : _) × (fault ≡ faults.CannotBind told) × (told.now ≡ address)

-- what is told where none is bound to the one or the other
abbrev pub TellsOf : List ℕ → List ℕ → BindFault → ProgramFault → Type 0
TellsOf dict http (bind_faults.Dict why) fault = IsUnbound dict fault
TellsOf dict http (bind_faults.Http why) fault = IsUnbound http fault
TellsOf dict http (bind_faults.Wait why) fault = TellsWaiting why fault
TellsOf dict http bind_faults.Memory fault = fault ≡ faults.Memory

-- By what is known of a network.
module _ {B L : Type 0} (n : network.Ghosts B L SystemSockets) where
  -- both addresses are bound, or one is not, for this reason
  abbrev pub BindsBy : List ℕ → List ℕ → Result Driver BindFault → Type 0
  BindsBy dict http bound = BindsBoth n.is_bound n.refuses n.is_over n.is_unwatched dict http (sockets_of bound)

  -- Sockets are bound to both, and they are written. Where one is not, the first fault is told, and nothing is written; where they are bound, but
  -- the writer fails, a front of these is written, and where memory runs out nothing
  abbrev pub Begins : List ℕ → List ℕ → Result Driver ProgramFault → StreamChange → Type 0
  Begins dict http (Ok driver) writer = BindsBy dict http (Ok driver) × PutsAll writer.old writer.new (lines_of driver.addresses.0 driver.addresses.1)
  Begins dict http (Err fault) writer =
      ((why : BindFault) × BindsBy dict http (Err why) × TellsOf dict http why fault × IsUntouched writer)
      ⊎ ((driver : Driver) × BindsBy dict http (Ok driver)
      × (((fault ≡ faults.CannotWrite) × PutsFront writer.old writer.new (lines_of driver.addresses.0 driver.addresses.1))
      ⊎ ((fault ≡ faults.Memory) × IsUntouched writer)))
