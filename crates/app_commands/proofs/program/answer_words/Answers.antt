use Rattle.std.proofs.Common.{refl, inl, inr, ◌∙◌, Err}
use Rattle.app_commands.specs.Program.{IsMistake}
use Rattle.app_words.specs.declared.fault.ProgramFault.TheVariants.{Memory}
use Rattle.app_commands.proofs.program.answer_words.Goals as goal

pub returns-in-OutOfMemory : goal.returns-in-OutOfMemory
returns-in-OutOfMemory g c words fails reader untouched =
    inl (Err Memory, inr (refl, untouched, refl), c.tell_fault.ensures)

pub returns-in_default : goal.returns-in_default
returns-in_default g c words fails reader untouched =
    let kind = c.kind.ensures in
    let mistake : IsMistake _ = (λ e. c.in_default.not-OutOfMemory (kind ∙ e), λ e. c.in_default.not-DisplayHelp (kind ∙ e), λ e. c.in_default.not-DisplayVersion (kind ∙ e)) in
    elim c.tell_mistake.ensures [
      | inl told ↦ inr (told.0, (_, mistake, fails), untouched, refl, told.1)
      | inr memory ↦ inl (Err Memory, inr (refl, untouched, refl), memory)
    ]
