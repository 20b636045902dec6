use Rattle.std.proofs.Common.{◌≤◌, ℕ, subst, List}
use Rattle.std.specs.List.{AllByRecursion}
use Rattle.store_rows.proofs.StrayLemmas.{numbers_fit}
use Rattle.store_rows.proofs.reader.Reader.numbers.Goals as goal

pub returns-in_default-clause-damaged : goal.returns-in_default-clause-damaged
returns-in_default-clause-damaged c =
    let none = rw c.in_default.is at c.in_ok-signed.ensures in
    let told = rw c.deref-2.ensures.value at none in
    let numbers = rw c.deref.ensures.value at c.in_ok-numbers.ensures in
    numbers_fit c.args.self.now c.args.self.now.installs_few (subst (λ (ns : List ℕ). AllByRecursion (λ number. number ≤ 9223372036854775807) ns → ⊥) numbers told)
