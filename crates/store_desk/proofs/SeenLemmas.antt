-- What is seen of a desk that isn't closed is what is committed.
use Rattle.std.proofs.Common.{◌≡◌, false, List, ℕ, sym, subst}
use Rattle.std.specs.Prelude.{IsTrue, Option}
use Rattle.sqlite.specs.Effect.{Database}
use Rattle.sqlite.specs.State.{HasCleanDisk}
use Rattle.sqlite.specs.Held.{Held, state}
use Rattle.sqlite_trees.specs.declared.store.Store.{Ghosts}
use Rattle.dict_catalogue.specs.Tests.{Holdings}
use Rattle.store_rows.specs.Versions.{known, layout_of}
use Rattle.store_holdings.specs.Holds.{HasLayout}
use Rattle.store_desk.specs.Desk.{IsAtRest, is_closed}
use Rattle.store_desk.specs.declared.last.LastCall.{LastCall}
use Rattle.store_desk.specs.Left.{ComingState}

module _ {S : Type 0} (g : Ghosts S) (last : LastCall) (summary : Holdings (List ℕ)) (filing : Option ComingState) (h : Held S) (fine : is_closed last ≡ false) (rest : IsAtRest g last summary filing h)
    (clean : HasCleanDisk (state g h)) (live : IsTrue (state g h).is_open) where
  pub seen : (P : Database → Type 0) → P (state g h).committed → P (state g h).now
  seen P it = subst P (sym (rest.holds fine clean live).1.settled) it

  -- the tables of the known version
  pub own_seen : HasLayout (layout_of known) (state g h).now.schema
  own_seen = seen (λ (db : Database). HasLayout (layout_of known) db.schema) (rest.holds fine clean live).1.holds.own
