use Rattle.std.proofs.Common.{◌≡◌, length}
use Rattle.store_holdings.specs.KeptTexts.{octets_of_texts, texts_of, fitting}
use Rattle.store_holdings.proofs.texts.let_go.Given as goal

abbrev pub invariant-loop-octets : goal.invariant-loop-octets
invariant-loop-octets l = record {
  counted : l.octets ≡ octets_of_texts (texts_of l.kept.entries);
  fits : fitting l.most (texts_of l.kept.entries) ≡ fitting l.most (texts_of l.initial.kept.entries);
  cap : l.kept.cap ≡ l.initial.kept.cap;
}

abbrev pub decreases-loop-octets : goal.decreases-loop-octets
decreases-loop-octets l = length l.kept.entries
