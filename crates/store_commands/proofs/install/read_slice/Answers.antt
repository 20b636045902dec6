use Rattle.std.proofs.Common.{◌≡◌, ◌<◌, ◌^◌, true, false, refl, sym, subst, ◌∙◌, arith, rules}
use Rattle.std.proofs.lemmas.Bool.{false≢true}
use Rattle.store_commands.specs.Installs.{is_refused, lines_read}
use Rattle.store_commands.specs.Left.{IsLess, progress_left}
use Rattle.store_commands.specs.declared.install.Progress.{Progress}
use Rattle.store_commands.specs.declared.install.Progress.TheVariants.{Reader}
use Rattle.store_commands.proofs.LeftLemmas.{read_less}
use Rattle.store_commands.proofs.install.read_slice.Goals as goal

pub returns-in-Ok-clause-fewer : goal.returns-in-Ok-clause-fewer
returns-in-Ok-clause-fewer c = λ _.
    let was = c.in-Reader.reader.number in
    let few : was < 2 ^ 64 = omega (arith, c.line_count.ensures, c.line_count.type_inv) in
    let more : was < c.take.new.self.number = c.in-Ok.ensures.some (search rules) in
    subst (λ (p : Progress). IsLess (progress_left (Reader c.take.new.self)) (progress_left p)) (sym c.in-Reader.is) (read_less false false was c.take.new.self.number refl (λ _. more) few)

pub returns-in_ok-progress-in-Err-clause-fewer : goal.returns-in_ok-progress-in-Err-clause-fewer
returns-in_ok-progress-in-Err-clause-fewer c = λ _.
    let was = c.in-Reader.reader.number in
    let new = c.in_ok-progress-in-Err.field-0 in
    let few : was < 2 ^ 64 = omega (arith, c.line_count.ensures, c.line_count.type_inv) in
    let told : is_refused new ≡ true = c.in_ok-progress-in-Err.ensures.told in
    subst (λ (p : Progress). IsLess (progress_left new) (progress_left p)) (sym c.in-Reader.is)
    (read_less false (is_refused new) was (lines_read new) refl (λ no. absurd (false≢true (sym no ∙ told))) few)
