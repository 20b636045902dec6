-- What comes of serving a file's catalogue, whatever opens it.
use Rattle.std.specs.Prelude.{ℕ, List, Option, Err, Bool, Result}
use Rattle.dict_desk.specs.declared.fault.Fault.{Fault}
use Rattle.dict_desk.specs.declared.lookup.Lookup as lookup
use Rattle.dict_desk.specs.Expected.{Expected}
use Rattle.dict_proto.specs.Streams.{StreamChange}
use Rattle.app_words.specs.declared.fault.ProgramFault.{ProgramFault}
use Rattle.net_serving.specs.Deeds.{WasShut}
use Rattle.net_serving.specs.Done.{WasDone}
use Rattle.net_serving.specs.Serving.{HasServed, IsNotReopened, IsOpenBehind}
use Rattle.net_serving.specs.declared.desks.DeskOpener as desks

-- the file of a desk was closed, and this is what is held of it
abbrev pub WasShutBy : {K D : Type 0} → lookup.Ghosts K → desks.Ghosts D K → D → K → Type 0
WasShutBy k d = WasShut k.shows k.leaves_one_of k.is_trusted d.is_safe d.holds_alone d.still_leaves d.still_keeps d.is_uncopied

-- the catalogue of the file with a path was served at two addresses, which were told, until this fault ended it
abbrev pub IsServedUntil : {K D : Type 0} → lookup.Ghosts K → desks.Ghosts D K → (K → Expected → K → Type 0) → (K → Result Bool Fault → K → Type 0) → List ℕ → List ℕ → List ℕ → Option ℕ → D → D → ProgramFault → StreamChange → Type 0
IsServedUntil k d expects prepares path dict http rounds old new fault writer =
    (desk : _) × (served : HasServed k.shows k.leaves_one_of k.keeps_beside k.is_trusted d.is_opened k.has_failed k.is_closed expects prepares desk dict http rounds (Err fault) (WasShutBy k d new)
    (IsNotReopened k.leaves_one_of d.is_unreopened d.still_leaves d.still_keeps new path) writer)
    × WasDone {A = Unit {0}} (λ last. IsOpenBehind k.shows k.leaves_one_of k.keeps_beside k.is_trusted d.is_opened k.is_closed desk served.stretches last 0)
    (WasShutBy k d new) (d.history old) (d.history new) path desk served.stretches (Err fault)
