use Rattle.std.proofs.Common.{subst}
use Rattle.dict_proto.specs.Streams.{Puts}
use Rattle.dict_session.proofs.ShowLemmas.{help_is}
use Rattle.dict_session.proofs.show.put_help.Goals as goal

pub returns : goal.returns
returns g c =
    subst (Puts c.put_replies.result (g.K.Sink.stream c.args.sink.now) (g.K.Sink.stream c.put_replies.new.sink)) help_is c.put_replies.ensures
