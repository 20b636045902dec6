use Rattle.std.proofs.Common.{◌≡◌, reverse, drop}
use Rattle.store_derived.specs.Derived.{octets_cmp}
use Rattle.store_places.proofs.reversed.compare_reversed.Given as goal

-- what is left of both compares as both do
abbrev pub invariant-loop-octet : goal.invariant-loop-octet
invariant-loop-octet l = octets_cmp (reverse l.fn.text) l.other ≡ octets_cmp (reverse l.rest) (drop l.octet-index l.other)
