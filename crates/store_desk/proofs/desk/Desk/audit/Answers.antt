use Rattle.std.proofs.Common.{◌≡◌, false, sym, ap, subst, ◌∙◌}
use Rattle.std.specs.Prelude.{Result, Ok, Err, OnOk, IfErr, IfOk}
use Rattle.sqlite.specs.Held.{state}
use Rattle.sqlite.specs.State.{HasCleanDisk, Survives}
use Rattle.dict_catalogue.specs.Views.{summary_shown}
use Rattle.dict_desk.specs.declared.fault.Fault.TheVariants.{Disk}
use Rattle.store_opening.specs.Reading.{HasFailedToRead}
use Rattle.store_desk.specs.Left.{recounted}
use Rattle.store_desk.specs.Desk.{DeskState, Shows, is_closed}
use Rattle.store_desk.specs.Opened.{IsNotHeld, TellsOfDatabase}
use Rattle.store_desk.proofs.AppliedLemmas.{err_clean}
use Rattle.store_desk.proofs.DeskLemmas.{desk_on, shows_counted, shows_on}
use Rattle.store_desk.proofs.desk.Desk.audit.Goals as goal

pub read_committed-outcome-requires-clause-holds : goal.read_committed-outcome-requires-clause-holds
read_committed-outcome-requires-clause-holds g c = λ clean live.
    let before : is_closed c.self.inside.last ≡ false = ap (λ (d : DeskState _). is_closed d.last) (c.self.view_is ∙ c.withdraw.ensures.same) ∙ c.in_ok-withdraw.ensures.open in
    let it = c.self.invariant.0.holds before clean live in
    (it.0, it.1)

pub invariant_of-self : goal.invariant_of-self
invariant_of-self g c =
    let before : is_closed c.self.inside.last ≡ false = ap (λ (d : DeskState _). is_closed d.last) (c.self.view_is ∙ c.withdraw.ensures.same) ∙ c.in_ok-withdraw.ensures.open in
    desk_on g.S.Store c.self.inside.conn c.read_committed-outcome.new.conn
    (summary_shown c.self.inside.summary) c.self.inside.filing c.self.inside.last c.last_by-self-inside.result before c.self.invariant.0 c.read_committed-outcome.ensures.survives
    c.read_committed-outcome.ensures.stays (λ _. c.read_committed-outcome.ensures.autocommit) c.self.inside.texts c.forget_by.new.texts c.forget_by.ensures c.self.invariant.1.made

ok_clean : {T E : Type 0} (C X : Type 0) (result : Result T E) → (C → OnOk result X) → IfOk result (λ _. C → X)
ok_clean C X (Ok value) h = h
ok_clean C X (Err fault) h = tt

pub returns-clause-sound : goal.returns-clause-sound
returns-clause-sound g c = ok_clean _ _ c.read_committed-outcome.result c.read_committed-outcome.ensures.rests

pub returns-clause-shows : goal.returns-clause-shows
returns-clause-shows g c = λ clean M shown.
    let before : is_closed c.self.inside.last ≡ false = ap (λ (d : DeskState _). is_closed d.last) (c.self.view_is ∙ c.withdraw.ensures.same) ∙ c.in_ok-withdraw.ensures.open in
    shows_on g.S.Store c.self.inside.conn c.read_committed-outcome.new.conn
    (summary_shown c.self.inside.summary) c.self.inside.filing c.self.inside.last c.last_by-self-inside.result before c.self.invariant.0 c.read_committed-outcome.ensures.survives c.read_committed-outcome.ensures.stays
    c.self.inside.indexes c.self.inside.texts M
    (subst (λ (d : DeskState _). Shows g.S.Store d M) (sym (c.self.view_is ∙ c.withdraw.ensures.same)) (shows_counted g.S.Store c.args.self.now (recounted c.args.self.now.counts c.withdraw.new.self.counts) M shown))
    c.forget_by.new.texts c.forget_by.ensures

pub returns-clause-spares : goal.returns-clause-spares
returns-clause-spares g c =
    subst (λ (d : DeskState _). Survives (state g.S.Store d.conn) (state g.S.Store c.read_committed-outcome.new.conn) (λ _. ⊥)) (c.self.view_is ∙ c.withdraw.ensures.same) c.read_committed-outcome.ensures.survives

pub returns-clause-same : goal.returns-clause-same
returns-clause-same g c = λ clean live.
    subst (λ (d : DeskState _). (state g.S.Store c.read_committed-outcome.new.conn).committed ≡ (state g.S.Store d.conn).committed) (c.self.view_is ∙ c.withdraw.ensures.same)
    ((c.read_committed-outcome.ensures.stays clean).committed live)

pub returns-clause-told : goal.returns-clause-told
returns-clause-told g c =
    err_clean _ c.read_committed-outcome.result (subst (λ (d : DeskState _). HasCleanDisk (state g.S.Store c.read_committed-outcome.new.conn) → IfErr c.read_committed-outcome.result
    (TellsOfDatabase (state g.S.Store d.conn).committed)) (c.self.view_is ∙ c.withdraw.ensures.same) c.read_committed-outcome.ensures.told)

pub returns-clause-not_held : goal.returns-clause-not_held
returns-clause-not_held g c =
    err_clean _ c.read_committed-outcome.result (subst (λ (d : DeskState _). HasCleanDisk (state g.S.Store c.read_committed-outcome.new.conn) → IfErr c.read_committed-outcome.result
    (IsNotHeld (state g.S.Store d.conn).committed)) (c.self.view_is ∙ c.withdraw.ensures.same) c.read_committed-outcome.ensures.not_held)

pub returns-clause-broken : goal.returns-clause-broken
returns-clause-broken g c =
    subst (λ (d : DeskState _). HasCleanDisk (state g.S.Store c.read_committed-outcome.new.conn) → IfErr c.read_committed-outcome.result
    (λ fault. fault ≡ Disk → HasFailedToRead (state g.S.Store d.conn) (state g.S.Store c.read_committed-outcome.new.conn))) (c.self.view_is ∙ c.withdraw.ensures.same) c.read_committed-outcome.ensures.failed
