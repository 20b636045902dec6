use Rattle.std.proofs.Common.{ap, sym, ◌∙◌, subst}
use Rattle.store_derived.specs.Runs.{AreBegins, runs}
use Rattle.store_derived.proofs.RunLemmas.{cut, cut_are}
use Rattle.store_derived.proofs.texts.Texts.pop.Goals as goal

pub invariant_of-self : goal.invariant_of-self
invariant_of-self c =
    let all = c.self.inside.octets.items in
    let begins = c.self.inside.begins in
    let before = c.pop.new.self in
    subst (λ l. AreBegins l before) (sym c.truncate.ensures.items) (cut_are all begins before c.in-Some.begin c.in-Some.ensures c.self.invariant)

pub returns-in-Some : goal.returns-in-Some
returns-in-Some c = λ front text is.
    let all = c.self.inside.octets.items in
    let begins = c.self.inside.begins in
    let before = c.pop.new.self in
    ap (λ l. runs l before) c.truncate.ensures.items ∙ cut all begins before c.in-Some.begin c.in-Some.ensures c.self.invariant front text (c.self.view_is ∙ is)
