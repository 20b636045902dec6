-- Spans, the first of them with numbers of 32 bits.
use Rattle.std.specs.Prelude.{List, ◌++◌, map}
use Rattle.store_derived.specs.declared.spans.NarrowSpan.{NarrowSpan}
use Rattle.store_derived.specs.declared.spans.Span.{Span}

abbrev pub no_span : Span
no_span = record { start = 0; size = 0 }

abbrev pub widened : NarrowSpan → Span
widened span = record { start = span.start; size = span.size }

abbrev pub spans : List NarrowSpan → List Span → List Span
spans narrow wide = map widened narrow ++ wide
