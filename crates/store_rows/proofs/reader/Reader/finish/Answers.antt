use Rattle.std.proofs.Common.{◌≡◌, arith, sym, ◌∙◌}
use Rattle.std.proofs.lemmas.Bool.{false≢true}
use Rattle.store_rows.proofs.FinishLemmas.{standing, standing_summary, finish_refused}
use Rattle.store_rows.proofs.reader.Reader.finish.Goals as goal
use Rattle.store_rows.proofs.reader.Reader.finish.Goals.{then-self-via-then-self, then-self-via-else-self+then-not-are_titled}

pub returns-then-self-clause-damaged : goal.returns-then-self-clause-damaged
returns-then-self-clause-damaged c = λ version taken h M stands. finish_refused version c.args.self taken M h stands (λ counted titled.
    elim c.then-self.branch [
      | then-self-via-then-self w ↦ w.if-self.true counted
      | then-self-via-else-self+then-not-are_titled w ↦ (let told = rw w.deref.ensures.value at w.are_titled.ensures in false≢true (sym w.if-not-are_titled.true ∙ told ∙ titled))
    ])

pub returns-clause-stands : goal.returns-clause-stands
returns-clause-stands c = λ version taken h ids.
    let told = rw c.deref.ensures.value at c.are_titled.ensures in
    let counted : c.args.self.installed ≡ c.args.self.installs = omega arith in
    let s = standing version c.args.self taken h counted (sym told ∙ c.if-not-are_titled.false) ids in
    (s.catalogue, s.stands, standing_summary version c.args.self taken s)
