use Rattle.std.proofs.Common.{◌-◌, length}
use Rattle.dict_text.specs.Lines.{text_lines}
use Rattle.dict_reading.specs.Reading.{HasRead}
use Rattle.dict_reading.proofs.reader.EditionReader.take_all.Given as goal

abbrev pub invariant-slices : goal.invariant-slices
invariant-slices l = HasRead l.index l.text l.self

abbrev pub decreases-slices : goal.decreases-slices
decreases-slices l = length (text_lines l.index) - l.self.number
