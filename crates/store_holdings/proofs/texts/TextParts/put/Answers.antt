use Rattle.std.proofs.Common.{ap, ◌∙◌, arith}
use Rattle.store_holdings.specs.KeptTexts.{most_kept_octets, octets_of_texts, texts_of}
use Rattle.store_holdings.proofs.SizeLemmas.{fitting_within}
use Rattle.store_holdings.proofs.texts.TextParts.put.Goals as goal

pub invariant_of-self-2 : goal.invariant_of-self-2
invariant_of-self-2 c =
    let fits = ap octets_of_texts c.let_go.ensures.fits in
    let within = fitting_within most_kept_octets (texts_of c.put_new.new.kept.entries) in
    record {
      counted = c.let_go.ensures.counted;
      few = omega (arith, fits, within, c.let_go.ensures.counted);
      cap = c.let_go.ensures.cap ∙ c.in_ok-put_new.ensures.cap;
    }
