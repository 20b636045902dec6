use Rattle.std.proofs.Common.{◌≡◌, ◌<◌, [], length, get_or, ap, sym, ◌∙◌, subst, arith, Less, Equal, Greater}
use Rattle.store_derived.specs.Derived.{octets_cmp}
use Rattle.store_pieces.proofs.PieceLemmas.{IsSought, sought_none, sought_low, sought_high, sought_all, found_at}
use Rattle.store_pieces.proofs.pieces.place_of.Goals as goal

pub loop-low-init : goal.loop-low-init
loop-low-init c = subst (IsSought c.args.texts.now c.args.wanted.now 0) (sym c.len-high.ensures) (sought_none c.args.texts.now c.args.wanted.now c.requires)

pub loop-low-preserved-in-Less : goal.loop-low-preserved-in-Less
loop-low-preserved-in-Less c =
    let middle = c.middle_of-middle.result in
    let inside : middle < c.loop-low.high = c.middle_of-middle.ensures.high in
    let is : octets_cmp (get_or c.args.texts.now middle []) c.args.wanted.now ≡ Less = ap (λ a. octets_cmp a c.args.wanted.now) (sym c.get.ensures) ∙ sym c.cmp.ensures ∙ c.in-Less.is in
    sought_low c.args.texts.now c.args.wanted.now c.requires c.loop-low.low c.loop-low.high middle c.loop-low.invariant inside is

pub returns-in-Equal : goal.returns-in-Equal
returns-in-Equal c =
    let middle = c.middle_of-middle.result in
    let inside : middle < length c.args.texts.now = omega (arith, c.middle_of-middle.ensures.high, c.loop-low.invariant.fits) in
    let is : octets_cmp (get_or c.args.texts.now middle []) c.args.wanted.now ≡ Equal = ap (λ a. octets_cmp a c.args.wanted.now) (sym c.get.ensures) ∙ sym c.cmp.ensures ∙ c.in-Equal.is in
    (inside, found_at c.args.texts.now c.args.wanted.now middle is)

pub loop-low-preserved : goal.loop-low-preserved
loop-low-preserved c =
    let middle = c.middle_of-middle.result in
    let inside : middle < c.loop-low.high = c.middle_of-middle.ensures.high in
    let is : octets_cmp (get_or c.args.texts.now middle []) c.args.wanted.now ≡ Greater = ap (λ a. octets_cmp a c.args.wanted.now) (sym c.get.ensures) ∙ sym c.cmp.ensures ∙ c.in-Greater.is in
    sought_high c.args.texts.now c.args.wanted.now c.requires c.loop-low.low c.loop-low.high middle c.loop-low.invariant inside is

pub returns : goal.returns
returns c = sought_all c.args.texts.now c.args.wanted.now c.requires c.loop-low.low c.loop-low.high c.loop-low.invariant (omega (arith, c.loop-low-test.false))
