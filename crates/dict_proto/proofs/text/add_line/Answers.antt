use Rattle.std.proofs.Common.{subst}
use Rattle.dict_proto.specs.Gathering.{Gathers}
use Rattle.dict_proto.proofs.StuffingLemmas.{line-told}
use Rattle.dict_proto.proofs.text.add_line.Goals as goal

pub returns : goal.returns
returns g c =
    subst (Gathers c.add_all.result (g.K.Sink.stream c.args.sink.now) (g.K.Sink.stream c.add_all.new.sink) c.args.gathered.now.octets.items c.add_all.new.self.octets.items)
    (line-told c.stuffing.result.now c.args.line.now c.stuffing.ensures) c.add_all.ensures
