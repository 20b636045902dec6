use Rattle.std.proofs.Common.{refl, inl, inr}
use Rattle.app_commands.proofs.program.command.Goals as goal

pub returns-in-Err : goal.returns-in-Err
returns-in-Err g c =
    let reader = g.S.Source.stream c.args.reader.now in
    elim (c.answer_words-status.ensures _ c.in-Err.ensures.err (record { old = reader; new = reader }) refl) [
      | inl (end, shown, closes) ↦ inl (end, inr (shown, refl), closes)
      | inr misread ↦ inr (misread, refl)
    ]
