use Rattle.std.proofs.Common.{sym, subst}
use Rattle.sqlite.specs.Held.{state}
use Rattle.dict_catalogue.specs.Views.{summary_shown}
use Rattle.store_commands.specs.Filing.{IsFiledSoFar}
use Rattle.store_desk.specs.Left.{ComingState}
use Rattle.store_desk.proofs.DeskLemmas.{same_stays, survives_itself}
use Rattle.store_desk.proofs.FinishLemmas.{finished_of, some_with}
use Rattle.store_desk.proofs.coming.Coming.finish.Goals as goal

pub put_index-requires : goal.put_index-requires
put_index-requires g c = c.self.invariant.1

pub apply_read-requires-clause-known : goal.apply_read-requires-clause-known
apply_read-requires-clause-known g c = c.self.invariant.0

pub apply_read-requires-clause-filed : goal.apply_read-requires-clause-filed
apply_read-requires-clause-filed g c = subst (λ (f : ComingState). IsFiledSoFar f.filing (state g.S.Store c.args.conn.now)) (sym c.self.view_is) c.requires.filed

pub invariant_of-self : goal.invariant_of-self
invariant_of-self g c = (c.self.invariant.0, c.put_index.ensures.index)

pub invariant_of-self-2 : goal.invariant_of-self-2
invariant_of-self-2 g c = (c.self.invariant.0, c.put_index.ensures.index)

pub returns-then-put_index-clause-finished : goal.returns-then-put_index-clause-finished
returns-then-put_index-clause-finished g c =
    let request = c.args.request.now in
    finished_of g.S.Store (summary_shown c.args.summary.now) request.id.now request.name.now request.index.now request.text.now c.self.inside.install c.args.conn.now c.apply_read.new.conn c.args.number
    c.args.indexes.now c.put_index.new.indexes (c.put_index.ensures.is_of c.if-put_index.true) (c.put_index.ensures.put c.if-put_index.true) c.apply_read.result c.apply_read.ensures.finished

pub returns-then-put_index-clause-begun : goal.returns-then-put_index-clause-begun
returns-then-put_index-clause-begun g c = some_with c.apply_read.result (c.is_filed.ensures c.if-not-is_filed.false).begun

pub returns-then-put_index-clause-settled : goal.returns-then-put_index-clause-settled
returns-then-put_index-clause-settled g c = λ clean live. some_with c.apply_read.result (c.apply_read.ensures.settled clean live)

pub returns-clause-stays : goal.returns-clause-stays
returns-clause-stays g c = λ clean. same_stays (state g.S.Store c.args.conn.now)

pub returns-clause-survives : goal.returns-clause-survives
returns-clause-survives g c = survives_itself (state g.S.Store c.args.conn.now) (λ _. ⊥)

pub returns-then-not-is_filed-clause-stays : goal.returns-then-not-is_filed-clause-stays
returns-then-not-is_filed-clause-stays g c = λ clean. same_stays (state g.S.Store c.args.conn.now)

pub returns-then-not-is_filed-clause-survives : goal.returns-then-not-is_filed-clause-survives
returns-then-not-is_filed-clause-survives g c = survives_itself (state g.S.Store c.args.conn.now) (λ _. ⊥)
