use Rattle.std.proofs.Common.{◌≡◌, ◌||◌, false, refl, sym, ap, subst, ◌∙◌, arith}
use Rattle.std.specs.Prelude.{Option, Some, None, Ok}
use Rattle.std.proofs.lemmas.Bool.{false≢true}
use Rattle.sqlite.specs.Held.{state}
use Rattle.sqlite.specs.State.{HasCleanDisk}
use Rattle.dict_desk.specs.Faults.{has_closed_by}
use Rattle.dict_desk.specs.declared.fault.Fault.TheVariants.{Closed as Shut}
use Rattle.dict_desk.specs.declared.answered.Answered.{Answered}
use Rattle.dict_desk.specs.declared.answered.Answered.TheVariants.{Done, Refused}
use Rattle.store_desk.specs.Desk.{DeskState, KeepsBeside, LeavesOneOf, is_closed, has_failed}
use Rattle.store_desk.proofs.BesideLemmas.{beside_on}
use Rattle.store_desk.proofs.DeskLemmas.{clean_behind, leaves_on}
use Rattle.store_desk.proofs.FinishLemmas.{done_as, none_by}
use Rattle.store_desk.proofs.PreparingLemmas.{closed_failed, failing_or, open_closed, or_false, shows_but_counts}
use Rattle.store_desk.proofs.preparing.DeskPreparer.answer_prepared.Goals as goal

pub finish-requires : goal.finish-requires
finish-requires g c =
    let fine : is_closed c.args.self.now.last ≡ false = sym c.is_closed.ensures ∙ c.if-is_closed.false in
    fine

-- ---- the desk is closed

pub returns-then-is_closed-clause-caused : goal.returns-then-is_closed-clause-caused
returns-then-is_closed-clause-caused g c = λ clean. (sym c.is_closed.ensures ∙ c.if-is_closed.true, refl)

pub returns-then-is_closed-clause-failed : goal.returns-then-is_closed-clause-failed
returns-then-is_closed-clause-failed g c = failing_or c.args.self.now.last c.args.self.now.last Shut refl (closed_failed c.args.self.now.last (sym c.is_closed.ensures ∙ c.if-is_closed.true))

pub returns-then-is_closed-clause-closes : goal.returns-then-is_closed-clause-closes
returns-then-is_closed-clause-closes g c = sym (or_false (is_closed c.args.self.now.last))

pub returns-then-is_closed-clause-closed : goal.returns-then-is_closed-clause-closed
returns-then-is_closed-clause-closed g c = (λ is. sym c.is_closed.ensures ∙ c.if-is_closed.true, λ shut. refl)

-- ---- the files are refused

pub returns-in-Some-clause-refused : goal.returns-in-Some-clause-refused
returns-in-Some-clause-refused g c = (c.in-Some.ensures, refl)

pub returns-in-Some-clause-closed : goal.returns-in-Some-clause-closed
returns-in-Some-clause-closed g c =
    let fine : is_closed c.args.self.now.last ≡ false = sym c.is_closed.ensures ∙ c.if-is_closed.false in
    open_closed {T = Option Answered} c.args.self.now.last (Ok (Some (Refused c.in-Some.told.0 c.in-Some.told.1))) fine tt

-- ---- it was done, or not

pub returns-in-Some-finish-clause-done : goal.returns-in-Some-finish-clause-done
returns-in-Some-finish-clause-done g c = c.in-Some-finish.ensures.done

pub returns-in-Some-finish-clause-value : goal.returns-in-Some-finish-clause-value
returns-in-Some-finish-clause-value g c =
    λ clean M shown reading is. (done_as g.S.Store c.args.self.now c.finish.new.self c.args.id.now c.args.name.now c.args.index.now c.args.text.now c.in-Some-finish.outcome c.one_meaning.ensures.one_reading
    c.in-Some-finish.ensures.done reading is).answered clean M shown

pub returns-in-Some-finish-clause-left : goal.returns-in-Some-finish-clause-left
returns-in-Some-finish-clause-left g c =
    λ clean M shown reading is. (done_as g.S.Store c.args.self.now c.finish.new.self c.args.id.now c.args.name.now c.args.index.now c.args.text.now c.in-Some-finish.outcome c.one_meaning.ensures.one_reading
    c.in-Some-finish.ensures.done reading is).left clean M shown

pub returns-in-Some-finish-clause-spares : goal.returns-in-Some-finish-clause-spares
returns-in-Some-finish-clause-spares g c = λ ms left. c.in-Some-finish.ensures.done.2.spared ms left

pub returns-in-Some-finish-clause-kinds_done : goal.returns-in-Some-finish-clause-kinds_done
returns-in-Some-finish-clause-kinds_done g c = c.in-Some-finish.ensures.kinds

pub returns-in-Some-finish-clause-caused_done : goal.returns-in-Some-finish-clause-caused_done
returns-in-Some-finish-clause-caused_done g c =
    λ clean reading is. (done_as g.S.Store c.args.self.now c.finish.new.self c.args.id.now c.args.name.now c.args.index.now c.args.text.now c.in-Some-finish.outcome c.one_meaning.ensures.one_reading c.in-Some-finish.ensures.done
    reading is).failed clean

pub returns-in-Some-finish-clause-failed_done : goal.returns-in-Some-finish-clause-failed_done
returns-in-Some-finish-clause-failed_done g c = c.in-Some-finish.ensures.failed

pub returns-in-Some-finish-clause-closes_done : goal.returns-in-Some-finish-clause-closes_done
returns-in-Some-finish-clause-closes_done g c =
    let fine : is_closed c.args.self.now.last ≡ false = sym c.is_closed.ensures ∙ c.if-is_closed.false in
    c.in-Some-finish.ensures.closes ∙ sym (ap (λ b. b || has_closed_by c.in-Some-finish.outcome) fine)

pub returns-in-Some-finish-clause-closed_done : goal.returns-in-Some-finish-clause-closed_done
returns-in-Some-finish-clause-closed_done g c =
    let fine : is_closed c.args.self.now.last ≡ false = sym c.is_closed.ensures ∙ c.if-is_closed.false in
    (λ is. absurd (c.in-Some-finish.ensures.closed is), λ shut. absurd (false≢true (sym fine ∙ shut)))

pub returns-in-Some-finish-clause-beside : goal.returns-in-Some-finish-clause-beside
returns-in-Some-finish-clause-beside g c = λ db kept. c.in-Some-finish.ensures.done.2.keeps db kept

pub returns-in-Some-finish-clause-trust : goal.returns-in-Some-finish-clause-trust
returns-in-Some-finish-clause-trust g c = λ clean. let beside = c.in-Some-finish.ensures.done.2.beside in omega (arith, beside.clean, clean)

pub returns-in-Some-finish-clause-closed : goal.returns-in-Some-finish-clause-closed
returns-in-Some-finish-clause-closed g c =
    let fine : is_closed c.args.self.now.last ≡ false = sym c.is_closed.ensures ∙ c.if-is_closed.false in
    open_closed {T = Option Answered} c.args.self.now.last (Ok (Some (Done c.in-Some-finish.outcome))) fine tt

-- ---- it is let go of

pub returns-clause-trust : goal.returns-clause-trust
returns-clause-trust g c = λ clean.
    clean_behind (state g.S.Store c.args.self.now.conn) (state g.S.Store c.finish.new.self.conn) (none_by c.finish.result c.in_default-finish.not-Some c.finish.ensures.survives)
    (subst (λ (d : DeskState _). HasCleanDisk (state g.S.Store d.conn)) c.let_go_of_prepared.ensures.same clean)

pub returns-clause-shows : goal.returns-clause-shows
returns-clause-shows g c = λ clean M shown.
    let mid : HasCleanDisk (state g.S.Store c.finish.new.self.conn) = subst (λ (d : DeskState _). HasCleanDisk (state g.S.Store d.conn)) c.let_go_of_prepared.ensures.same clean in
    shows_but_counts g.S.Store c.finish.new.self c.let_go_of_prepared.new.self c.let_go_of_prepared.ensures.same M (none_by c.finish.result c.in_default-finish.not-Some (c.finish.ensures.shows mid M shown))

pub returns-clause-leaves : goal.returns-clause-leaves
returns-clause-leaves g c = λ ms left.
    subst (λ (d : DeskState _). LeavesOneOf g.S.Store d ms) (sym c.let_go_of_prepared.ensures.same)
    (leaves_on g.S.Store c.args.self.now c.finish.new.self (none_by c.finish.result c.in_default-finish.not-Some c.finish.ensures.survives) ms left)

pub returns-clause-beside : goal.returns-clause-beside
returns-clause-beside g c = λ db kept.
    subst (λ (d : DeskState _). KeepsBeside g.S.Store d db) (sym c.let_go_of_prepared.ensures.same)
    (beside_on g.S.Store c.args.self.now c.finish.new.self (none_by c.finish.result c.in_default-finish.not-Some c.finish.ensures.survives) db kept)

pub returns-clause-failed : goal.returns-clause-failed
returns-clause-failed g c =
    ap has_failed (ap (λ (d : DeskState _). d.last) c.let_go_of_prepared.ensures.same ∙ none_by c.finish.result c.in_default-finish.not-Some c.finish.ensures.last) ∙ sym (or_false (has_failed c.args.self.now.last))

pub returns-clause-closes : goal.returns-clause-closes
returns-clause-closes g c =
    ap is_closed (ap (λ (d : DeskState _). d.last) c.let_go_of_prepared.ensures.same ∙ none_by c.finish.result c.in_default-finish.not-Some c.finish.ensures.last) ∙ sym (or_false (is_closed c.args.self.now.last))

pub returns-clause-closed : goal.returns-clause-closed
returns-clause-closed g c =
    let fine : is_closed c.args.self.now.last ≡ false = sym c.is_closed.ensures ∙ c.if-is_closed.false in
    open_closed {T = Option Answered} c.args.self.now.last (Ok None) fine tt
