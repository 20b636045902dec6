-- A sink in memory with a bound, as contracts see it.
use Rattle.std.specs.Prelude.{Some}
use Rattle.dict_proto.specs.Streams.{Stream}
use Rattle.dict_proto.specs.declared.limited.LimitedSink.{LimitedSink}

abbrev pub stream_of : LimitedSink → Stream
stream_of sink = record { octets = Some sink.taken.items; failures = sink.failures }
