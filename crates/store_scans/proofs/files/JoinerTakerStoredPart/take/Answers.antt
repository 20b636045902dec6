use Rattle.std.proofs.Common.{◌≡◌, pos, ◌++◌, ◌∷◌, [], sym, subst, ◌∙◌}
use Rattle.store_rows.specs.Parts.{parts_of}
use Rattle.store_rows.specs.Joining.{IsNext, MayRefusePart}
use Rattle.store_scans.proofs.FileLemmas.{parts_next, parts_refused}
use Rattle.store_scans.proofs.files.JoinerTakerStoredPart.take.Goals as goal

-- the part isn't one of this number
pub returns-in_default-clause-refused : goal.returns-in_default-clause-refused
returns-in_default-clause-refused c = λ is first given h. parts_refused first given c.args.next c.args.self.now h (λ number e next. c.in_default.ensures.below number e)

pub returns-in-Ok-clause-taken : goal.returns-in-Ok-clause-taken
returns-in-Ok-clause-taken c = λ first given h.
    let octets = c.deref.ensures.value in
    parts_next first given c.args.next c.args.self.now c.push.new.self c.in-Some.number h c.in-Some.ensures.number (subst (IsNext c.args.self.now c.in-Some.number) octets c.in-Ok.ensures.taken)
    (subst (λ o. parts_of c.push.new.self ≡ parts_of c.args.self.now ++ o ∷ []) octets c.in-Ok.ensures.parts)

pub returns-clause-refused : goal.returns-clause-refused
returns-clause-refused c = λ is first given h.
    let why = c.fault_of_part.ensures is in
    let wrong = subst (MayRefusePart c.args.self.now c.in-Some.number c.deref.result.now) why c.in-Err.ensures.refused in
    parts_refused first given c.args.next c.args.self.now h (λ number e next.
    let both : pos number ≡ pos c.in-Some.number = sym e ∙ c.in-Some.ensures.number in
    let same : number ≡ c.in-Some.number = cc in
    wrong (subst (λ n. IsNext c.args.self.now n c.deref.result.now) same (subst (IsNext c.args.self.now number) (sym c.deref.ensures.value) next)))
