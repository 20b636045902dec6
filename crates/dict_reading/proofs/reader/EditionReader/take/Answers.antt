use Rattle.std.proofs.Common.{◌+◌, ◌<◌, length, ap, ◌∙◌, subst, arith}
use Rattle.dict_text.specs.Lines.{text_lines}
use Rattle.dict_index.specs.Line.{IsLine}
use Rattle.dict_index.specs.Tests.{line_at}
use Rattle.dict_reading.proofs.SliceLemmas.{comes_more, slice_more, not_yet}
use Rattle.dict_reading.proofs.reader.EditionReader.take.Goals as goal

pub take_line-requires-clause-more : goal.take_line-requires-clause-more
take_line-requires-clause-more c = not_yet c.args.index.now c.args.text.now c.lines.self c.lines.invariant.read c.is_at_end.result c.is_at_end.ensures c.if-not-is_at_end.true

pub lines-preserved : goal.lines-preserved
lines-preserved c =
    let count = c.lines.invariant.count in
    let read = c.in-Ok.ensures.read in
    let one = c.in-Ok.ensures.one in
    let few = read.few in
    let there : c.args.self.now.number + c.lines.lines < length (text_lines c.args.index.now) = omega (arith, count, one, few) in
    let last : c.lines.self.number < c.take_line.new.self.number = omega (arith, one) in
    let said = (read.passes c.lines.self.number last).1.0 in
    let at = ap (λ n. line_at c.args.index.now n) count in
    record {
      read = read;
      count = omega (arith, one, count);
      comes = comes_more c.args.index.now c.args.self.now.number c.lines.lines there c.lines.octets c.in-Ok.count said.0 c.lines.invariant.comes (subst (λ l. IsLine l said.0) at said.1)
          (c.in-Ok.ensures.octets said.0 said.1 ∙ ap (λ l. length l + 1 + said.0.size) at);
      slice = slice_more c.args.index.now c.args.self.now.number c.lines.lines c.lines.octets c.lines.invariant.comes (omega (arith, c.if-octets-lt-SLICE_OCTETS.true)) (omega (arith, c.lines-test.true));
      none = λ zero. omega (arith, zero);
    }
