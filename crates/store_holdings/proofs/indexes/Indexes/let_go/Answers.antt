use Rattle.std.proofs.Common.{nat_eq, cond, None, sym, ap, ◌∙◌}
use Rattle.store_holdings.specs.Indexes.{entries_under}
use Rattle.store_holdings.proofs.UnderLemmas.{Pairs, same_test, found_under}
use Rattle.store_holdings.proofs.indexes.Indexes.let_go.Goals as goal

pub returns : goal.returns
returns c q =
    sym (found_under q c.remove-gone.new.self.entries) ∙ c.remove-gone.ensures.updates.0 q ∙ (λ i. cond (same_test c.args.number q i) None (found_under q c.self.inside.by_number.entries i))
    ∙ ap (λ (es : Pairs). cond (nat_eq c.args.number q) None (entries_under q es)) c.self.view_is
