use Rattle.std.proofs.Common.{map, take}
use Rattle.httparse.specs.Spans.{header_bytes}
use Rattle.http_request.specs.Fields.{AreValues, values_of}
use Rattle.http_request.proofs.fields.values_of.Given as goal

abbrev pub invariant-loop-header : goal.invariant-loop-header
invariant-loop-header l = AreValues l.found (values_of l.name (map (header_bytes l.buf) (take l.header-index l.headers)))
