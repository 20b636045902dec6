-- What was done to the file whose catalogue was served.
use Rattle.std.specs.Prelude.{◌≡◌, ◌⊎◌, ◌++◌, ℕ, Bool, List, [], ◌∷◌, Option, Some, None, Result, Ok, Err}
use Rattle.dict_desk.specs.declared.fault.Fault.{Fault}
use Rattle.dict_catalogue.specs.Steps.{Catalogue}
use Rattle.dict_desk.specs.Expected.{Expected}
use Rattle.dict_proto.specs.Streams.{StreamChange}
use Rattle.net_driver.specs.declared.driver.Driver.{Driver}
use Rattle.app_words.specs.Writing.{IsUntouched}
use Rattle.app_words.specs.declared.fault.ProgramFault.{ProgramFault}
use Rattle.net_serving.specs.Deeds.{Deed, Opens, Reopens, Closes, Does}
use Rattle.net_serving.specs.Serving.{HasServed, IsNew, IsNone, IsOpenBehind, Stretch}

-- over the last stretch: its desk is open still; or it was closed; or it was closed, and the file wasn't opened again
abbrev pub IsLastStretch : {K : Type 0} → List ℕ → K → Option K → List (Deed K) → Type 0
IsLastStretch path left last deeds =
    ((last ≡ Some left) × (deeds ≡ [])) ⊎ (((last ≡ None) × (deeds ≡ Closes left ∷ [])) ⊎ ((last ≡ None) × (deeds ≡ Reopens path left None ∷ [])))

-- its desk was closed, and the file opened again as another
abbrev pub HasReopened : {K : Type 0} → List ℕ → K → K → Option (List (Deed K)) → Option (List (Deed K)) → Type 0
HasReopened path left next old new = Does old new (Reopens path left (Some next) ∷ [])

-- In stretches, of which the first is over this desk, this was done to the file: behind each but the last its desk was closed and the file
-- opened again, as the desk of the next; behind the last that too, or nothing, or it ended there. The desk that is open then, or none.
abbrev pub AreDone : {K : Type 0} → List ℕ → K → List (Stretch K) → Option K → List (Deed K) → Type 0
AreDone path desk [] last deeds = (last ≡ Some desk) × (deeds ≡ [])
AreDone path desk (one ∷ others) last deeds =
    (one.opened ≡ desk) × (((others ≡ []) × IsLastStretch path one.left last deeds)
    ⊎ ((next : _) × (more : List (Deed _)) × (deeds ≡ Reopens path one.left (Some next) ∷ more) × AreDone path next others last more))

-- the same, of a history
abbrev pub HasDone : {K : Type 0} → List ℕ → K → List (Stretch K) → Option K → Option (List (Deed K)) → Option (List (Deed K)) → Type 0
HasDone {K} path desk stretches last old new = (deeds : List (Deed K)) × AreDone path desk stretches last deeds × Does old new deeds

-- and of one stretch
abbrev pub HasTurned : {K : Type 0} → List ℕ → K → Option K → Option (List (Deed K)) → Option (List (Deed K)) → Type 0
HasTurned {K} path left last old new = ((deeds : List (Deed K)) × IsLastStretch path left last deeds × Does old new deeds)
    ⊎ ((next : K) × (last ≡ Some next) × HasReopened path left next old new)

-- the desk that is open in the end is closed
abbrev pub closing : {K : Type 0} → Option K → List (Deed K)
closing None = []
closing (Some desk) = Closes desk ∷ []

-- Where all rounds were made, a desk is open in the end, the one behind them all, and it was closed; at a fault none is.
abbrev pub IsClosedBehind : {K A : Type 0} → (K → Type 0) → (K → Type 0) → Result A ProgramFault → Option K → Type 0
IsClosedBehind Behind Shut (Ok value) (Some last) = Behind last × Shut last
IsClosedBehind Behind Shut (Ok value) None = ⊥
IsClosedBehind Behind Shut (Err fault) last = last ≡ None

-- The file was opened once, as this desk; the stretches went on from it, and what is open in the end was closed
abbrev pub WasDone : {K A : Type 0} → (K → Type 0) → (K → Type 0) → Option (List (Deed K)) → Option (List (Deed K)) → List ℕ → K → List (Stretch K) → Result A ProgramFault → Type 0
WasDone {K} Behind Shut old new path desk stretches result =
    (last : Option K) × (deeds : List (Deed K)) × AreDone path desk stretches last deeds × Does old new (Opens path (Some desk) ∷ (deeds ++ closing last))
    × IsClosedBehind Behind Shut result last

module _ {K Beside : Type 0} (Shows : K → Catalogue → Type 0) (LeavesOneOf : K → List (Option Catalogue) → Type 0) (KeepsBeside : K → Beside → Type 0) (IsTrusted : K → Type 0) (IsOpened : Option K → K → Type 0)
    (has_failed is_closed : K → Bool) (expects : K → Expected → K → Type 0) (prepares : K → Result Bool Fault → K → Type 0)
    (Begins : List ℕ → List ℕ → Result Driver ProgramFault → StreamChange → Type 0) where
  -- There is no desk of the file; or there is, and no sockets were bound to both addresses, or they couldn't be told, and it was closed;
  -- or they were, it was served, and the driver that is kept is the one that served it. Nothing else was done to any file
  abbrev pub ServeEnds : (List ℕ → ProgramFault → Type 0) → (K → Type 0) → (List ℕ → K → ProgramFault → Type 0) → Option (List (Deed K)) → Option (List (Deed K)) → List ℕ → List ℕ → List ℕ → Option ℕ
      → Result (Unit {0}) ProgramFault → StreamChange → Option Driver → Type 0
  ServeEnds IsUnopened Shut IsUnreopened old new path dict http rounds result writer kept =
      ((fault : ProgramFault) × (result ≡ Err fault) × IsNone (IsUnopened path) fault × IsUntouched writer × Does old new (Opens path None ∷ []) × (kept ≡ None))
      ⊎ ((desk : K) × IsNew Shows LeavesOneOf IsTrusted (IsOpened None) desk
      × (((fault : ProgramFault) × (result ≡ Err fault) × Begins dict http (Err fault) writer × Does old new (Opens path (Some desk) ∷ Closes desk ∷ []) × Shut desk × (kept ≡ None))
      ⊎ ((served : HasServed Shows LeavesOneOf KeepsBeside IsTrusted IsOpened has_failed is_closed expects prepares desk dict http rounds result Shut (IsUnreopened path) writer)
      × WasDone (λ last. IsOpenBehind Shows LeavesOneOf KeepsBeside IsTrusted IsOpened is_closed desk served.stretches last 0) Shut old new path desk served.stretches result
      × (kept ≡ Some served.last) × Begins dict http (Ok served.first) writer)))
