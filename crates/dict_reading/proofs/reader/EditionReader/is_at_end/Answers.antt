use Rattle.std.proofs.Common.{arith}
use Rattle.std.proofs.lemmas.Bool.Decides.{nat_tests}
use Rattle.dict_reading.proofs.SliceLemmas.{end_from_octets, octets_from_end}
use Rattle.dict_reading.proofs.reader.EditionReader.is_at_end.Goals as goal

pub returns : goal.returns
returns c = (
  (λ t. end_from_octets c.args.index.now c.requires.0 c.args.self.now c.requires.1 (grind (arith, nat_tests, t))),
  (λ e. let le = octets_from_end c.args.index.now c.requires.0 c.args.self.now c.requires.1 e in grind (arith, nat_tests, le)),
)
