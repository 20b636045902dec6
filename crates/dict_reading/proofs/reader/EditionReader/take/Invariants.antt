use Rattle.std.proofs.Common.{◌≡◌, ◌+◌, ◌-◌, length}
use Rattle.dict_reading.specs.Reading.{HasRead}
use Rattle.dict_reading.specs.Slices.{IsSlice, ComesTo}
use Rattle.dict_reading.proofs.reader.EditionReader.take.Given as goal

-- so many lines were read in this slice, which come to so many octets
abbrev pub invariant-lines : goal.invariant-lines
invariant-lines l = record {
  read : HasRead l.index l.text l.self;
  count : l.self.number ≡ l.initial.self.number + l.lines;
  comes : ComesTo l.index l.initial.self.number l.lines l.octets;
  slice : IsSlice l.index l.initial.self.number l.lines;
  none : l.lines ≡ 0 → l.octets ≡ 0;
}

abbrev pub decreases-lines : goal.decreases-lines
decreases-lines l = length l.index - l.self.place
