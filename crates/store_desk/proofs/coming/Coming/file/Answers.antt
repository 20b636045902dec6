use Rattle.std.proofs.Common.{◌++◌, refl, sym, subst}
use Rattle.std.specs.Prelude.{OnOk, Some}
use Rattle.std.proofs.lemmas.Result.{on_ok_weaker}
use Rattle.sqlite.specs.Held.{state}
use Rattle.store_commands.specs.Filing.{HasSameRows, IsFiledSoFar}
use Rattle.store_commands.specs.Left.{IsLess, filing_left}
use Rattle.store_desk.specs.Left.{ComingState, both_left, coming_left, index_left}
use Rattle.store_desk.proofs.LeftLemmas.{less_front}
use Rattle.store_desk.proofs.MakingLemmas.{index_same, install_same}
use Rattle.store_desk.proofs.coming.Coming.file.Goals as goal

pub file_part-requires-clause-drawn : goal.file_part-requires-clause-drawn
file_part-requires-clause-drawn g c = c.self.invariant.0.drawn

pub file_part-requires-clause-filed : goal.file_part-requires-clause-filed
file_part-requires-clause-filed g c = subst (λ (f : ComingState). IsFiledSoFar f.filing (state g.S.Store c.args.conn.now)) (sym c.self.view_is) c.requires.filed

pub invariant_of-self : goal.invariant_of-self
invariant_of-self g c = (
  install_same c.self.inside.install c.file_part.new.filing c.file_part.ensures.rows c.self.invariant.0,
  index_same c.self.inside.install c.file_part.new.filing c.self.inside.index c.file_part.ensures.rows c.self.invariant.1,
)

pub returns-clause-rows : goal.returns-clause-rows
returns-clause-rows g c = subst (λ (f : ComingState). HasSameRows f.filing c.file_part.new.filing) c.self.view_is c.file_part.ensures.rows

pub returns-clause-fewer : goal.returns-clause-fewer
returns-clause-fewer g c =
    let index = both_left (index_left c.self.inside.index) in
    let later = filing_left c.file_part.new.filing ++ index in
    subst (λ (old : ComingState). OnOk c.file_part.result (IsLess later (coming_left (Some old)))) c.self.view_is
    (on_ok_weaker c.file_part.result (less_front (filing_left c.file_part.new.filing) (filing_left c.self.inside.install.filing) index index refl) c.file_part.ensures.fewer)
