use Rattle.std.proofs.Common.{◌∷◌, [], ap, sym, ◌∙◌, subst}
use Rattle.store_derived.specs.Runs.{AreBegins, runs}
use Rattle.store_derived.proofs.RunLemmas.{grown, grown_are}
use Rattle.store_derived.proofs.lists.PlaceLists.push_last.Goals as goal

pub invariant_of-self-2 : goal.invariant_of-self-2
invariant_of-self-2 c =
    let all = c.self.inside.places.items in
    let begins = c.self.inside.begins in
    subst (λ l. AreBegins l begins) (sym c.in_ok-push.ensures.items) (grown_are all begins (c.args.place ∷ []) c.self.invariant)

pub returns : goal.returns
returns c = λ front last is.
    let all = c.self.inside.places.items in
    let begins = c.self.inside.begins in
    ap (λ l. runs l begins) c.in_ok-push.ensures.items ∙ grown all begins (c.args.place ∷ []) c.self.invariant front last (c.self.view_is ∙ is)
