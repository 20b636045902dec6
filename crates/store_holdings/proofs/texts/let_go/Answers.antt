use Rattle.std.proofs.Common.{◌<◌, ℕ, Vec, Global, sym, ap, ◌∙◌, arith}
use Rattle.lru.specs.LruCache.{LruCache}
use Rattle.store_holdings.specs.KeptTexts.{PartNumbers, octets_of_texts, texts_of, fitting}
use Rattle.store_holdings.proofs.SizeLemmas.{all_fit}
use Rattle.store_holdings.proofs.ViewLemmas.{last_size, last_fits}
use Rattle.store_holdings.proofs.texts.let_go.Goals as goal

pub overflow_sub-octets : goal.overflow_sub-octets
overflow_sub-octets c =
    let size = last_size c.loop-octets.kept.entries _ c.in-Some.ensures.value in
    omega (arith, size, c.loop-octets.invariant.counted, c.len.ensures)

pub loop-octets-preserved : goal.loop-octets-preserved
loop-octets-preserved c =
    let size = last_size c.loop-octets.kept.entries _ c.in-Some.ensures.value in
    let rest = ap (λ (k : LruCache PartNumbers (Vec ℕ Global)). octets_of_texts (texts_of k.entries)) c.pop_lru.ensures.entries in
    let over : c.args.most < octets_of_texts (texts_of c.loop-octets.kept.entries) = omega (arith, c.loop-octets-test.true, c.loop-octets.invariant.counted) in
    record {
      counted = omega (arith, size, rest, c.loop-octets.invariant.counted, c.len.ensures);
      fits = ap (λ (k : LruCache PartNumbers (Vec ℕ Global)). fitting c.args.most (texts_of k.entries)) c.pop_lru.ensures.entries ∙ last_fits c.args.most c.loop-octets.kept.entries over ∙ c.loop-octets.invariant.fits;
      cap = ap (λ (k : LruCache PartNumbers (Vec ℕ Global)). k.cap) c.pop_lru.ensures.entries ∙ c.loop-octets.invariant.cap;
    }

pub returns-clause-fits : goal.returns-clause-fits
returns-clause-fits c = sym (all_fit c.args.most (texts_of c.loop-octets.kept.entries) (omega (arith, c.loop-octets-test.false, c.loop-octets.invariant.counted))) ∙ c.loop-octets.invariant.fits
