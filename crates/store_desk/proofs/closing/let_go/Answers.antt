use Rattle.std.proofs.Common.{◌≡◌, false, IsTrue, subst}
use Rattle.sqlite.specs.Held.{state}
use Rattle.sqlite.specs.State.{HasCleanDisk}
use Rattle.dict_catalogue.specs.Steps.{Catalogue}
use Rattle.dict_catalogue.specs.Views.{summary_shown}
use Rattle.store_holdings.specs.Holds.{IsLeft}
use Rattle.sqlite.specs.Effect.{Database}
use Rattle.store_desk.specs.Desk.{DeskState, HasBeside, KeepsBeside, Shows, is_closed}
use Rattle.store_desk.proofs.CloseLemmas.{committed_holds}
use Rattle.store_desk.proofs.closing.let_go.Goals as goal

pub returns-clause-holds : goal.returns-clause-holds
returns-clause-holds g c =
    subst
    (λ (desk : DeskState _). is_closed desk.last ≡ false → HasCleanDisk (state g.S.Store desk.conn) → IsTrue (state g.S.Store desk.conn).is_open → (M : Catalogue) → Shows g.S.Store desk M → IsLeft M
    (state g.S.Store desk.conn).committed.trees)
    c.desk.view_is
    (committed_holds g.S.Store c.desk.inside.conn (summary_shown c.desk.inside.summary) c.desk.inside.last c.desk.inside.indexes c.desk.inside.texts c.is_whole.ensures.live)

pub returns-clause-beside : goal.returns-clause-beside
returns-clause-beside g c =
    subst
    (λ (desk : DeskState _). HasCleanDisk (state g.S.Store desk.conn) → IsTrue (state g.S.Store desk.conn).is_open → (db : Database) → KeepsBeside g.S.Store desk db → HasBeside db (state g.S.Store desk.conn).committed.trees)
    c.desk.view_is (λ clean live db keeps. keeps clean (state g.S.Store c.desk.inside.conn).committed.trees (c.committed_may_stay.ensures live))
