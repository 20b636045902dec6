use Rattle.std.proofs.Common.{refl, sym, subst}
use Rattle.std.specs.Prelude.{Option, None}
use Rattle.store_commands.specs.Drafts.{DraftState}
use Rattle.store_commands.specs.Left.{IsLess}
use Rattle.store_desk.specs.Left.{coming_left, install_left, reading_left}
use Rattle.store_desk.proofs.LeftLemmas.{coming_as_long, less_front}
use Rattle.store_desk.proofs.preparing.read_next.Goals as goal

pub returns-in-More-clause-fewer : goal.returns-in-More-clause-fewer
returns-in-More-clause-fewer c = λ is.
    let rest = coming_left c.args.filing.now in
    less_front (reading_left c.step_draft.new.draft) (reading_left c.args.draft.now) rest rest refl (c.step_draft.ensures.more c.in-More.is)

pub returns-in-Whole-clause-fewer : goal.returns-in-Whole-clause-fewer
returns-in-Whole-clause-fewer c = λ is.
    let later = c.replace.new.dest in
    subst (λ (d : Option DraftState). IsLess (install_left d later) (install_left c.args.draft.now c.args.filing.now)) (sym c.plan_next.ensures.used)
    (less_front (reading_left None) (reading_left c.args.draft.now) (coming_left later) (coming_left c.args.filing.now) (coming_as_long later c.args.filing.now) (c.step_draft.ensures.whole c.in-Whole.is))
