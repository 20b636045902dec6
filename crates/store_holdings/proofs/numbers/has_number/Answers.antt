use Rattle.std.proofs.Common.{◌≢◌, ℕ, sym, subst, arith}
use Rattle.std.specs.List.{AllByRecursion}
use Rattle.std.proofs.lemmas.List.{take_all}
use Rattle.dict_catalogue.specs.declared.summary.Item.{Item}
use Rattle.dict_text.proofs.AllLemmas.{all_at, all_more}
use Rattle.store_holdings.proofs.NumberLemmas.{OfNumbers}
use Rattle.store_holdings.proofs.numbers.has_number.Goals as goal

pub loop-item-preserved : goal.loop-item-preserved
loop-item-preserved c =
    let apart : Item → Type 0 = OfNumbers (λ (one : ℕ). one ≢ c.args.number) in
    let item = c.item-item.result in
    all_more apart c.args.items.now c.loop-item.item-index item (omega arith) c.loop-item.invariant (subst apart c.item-item.is (c.item_has.ensures.apart c.if-item_has.false))

pub returns-then-item_has-clause-there : goal.returns-then-item_has-clause-there
returns-then-item_has-clause-there c = λ told all.
    let apart : Item → Type 0 = OfNumbers (λ (one : ℕ). one ≢ c.args.number) in
    c.item_has.ensures.there c.if-item_has.true (subst apart (sym c.item-item.is) (all_at apart c.args.items.now c.loop-item.item-index c.item-item.result all (omega arith)))

pub returns-clause-apart : goal.returns-clause-apart
returns-clause-apart c = λ none. subst (AllByRecursion (OfNumbers (λ (one : ℕ). one ≢ c.args.number))) (take_all c.loop-item.item-index c.args.items.now (omega arith)) c.loop-item.invariant
