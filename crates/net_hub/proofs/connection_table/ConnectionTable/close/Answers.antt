use Rattle.std.proofs.Common.{◌≡◌, ◌<◌, true, All, sym, subst, arith}
use Rattle.std.specs.List.{AllPairs}
use Rattle.net_hub.specs.Books.{is_given}
use Rattle.net_hub.proofs.BookLemmas.{rising_remove, all_remove}
use Rattle.net_hub.proofs.connection_table.ConnectionTable.close.Goals as goal

pub invariant_of-self-clause-rising : goal.invariant_of-self-clause-rising
invariant_of-self-clause-rising c = subst (λ xs. AllPairs (λ a b. a < b) xs) (sym c.remove.ensures.items) (rising_remove c.args.self.now.ids.items c.args.place (omega (arith, c.requires, c.args.self.now.ids.ok)) c.args.self.now.rising)

pub invariant_of-self-clause-given : goal.invariant_of-self-clause-given
invariant_of-self-clause-given c =
    subst (λ xs. All (λ id. is_given c.args.self.now.greatest id ≡ true) xs) (sym c.remove.ensures.items)
    (all_remove (λ id. is_given c.args.self.now.greatest id ≡ true) c.args.self.now.ids.items c.args.place (omega (arith, c.requires, c.args.self.now.ids.ok)) c.args.self.now.given)
