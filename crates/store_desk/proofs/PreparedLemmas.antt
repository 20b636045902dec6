-- The replies that a desk keeps.
use Rattle.std.proofs.Common.{◌≡◌, false, List, ℕ, sym, subst}
use Rattle.std.specs.Prelude.{IsTrue, Option}
use Rattle.sqlite.specs.Effect.{Database}
use Rattle.sqlite.specs.State.{HasCleanDisk}
use Rattle.sqlite.specs.Held.{Held, state}
use Rattle.sqlite_trees.specs.declared.store.Store.{Ghosts}
use Rattle.dict_catalogue.specs.Steps.{Catalogue}
use Rattle.dict_catalogue.specs.Tests.{Holdings}
use Rattle.store_rows.specs.Versions.{known, layout_of}
use Rattle.store_holdings.specs.Holds.{HasLayout, Holds}
use Rattle.store_tables.specs.Effects.{Has}
use Rattle.store_tables.specs.Tables.{kept}
use Rattle.store_commands.specs.KeptRecords.{HoldsReplies}
use Rattle.store_commands.proofs.KeptLemmas.{holds_replies}
use Rattle.store_desk.specs.Desk.{IsAtRest, is_closed}
use Rattle.store_desk.specs.Left.{ComingState}
use Rattle.store_desk.specs.declared.last.LastCall.{LastCall}

-- the table of the replies is there
pub kept_there : (db : Database) → HasLayout (layout_of known) db.schema → Has kept db
kept_there db own = let it = own.tables.1.1.1.0 in (it.at, it.tree, it.has)

-- the replies that are kept are those that are seen
pub replies_seen : {S : Type 0} (g : Ghosts S) (last : LastCall) (summary : Holdings (List ℕ)) (filing : Option ComingState) (h : Held S) → is_closed last ≡ false → IsAtRest g last summary filing h
    → HasCleanDisk (state g h) → IsTrue (state g h).is_open → (M : Catalogue) → Holds known (state g h).committed M → HoldsReplies (state g h).now M.kept
replies_seen g last summary filing h fine rest clean live M holds =
    subst (λ (db : Database). HoldsReplies db M.kept) (sym (rest.holds fine clean live).1.settled) (holds_replies known (state g h).committed M holds)
