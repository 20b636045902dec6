use Rattle.std.proofs.Common.{Err, refl}
use Rattle.std.specs.Prelude.{Some}
use Rattle.dict_proto.specs.Streams.{change}
use Rattle.dictcat_lib.proofs.FileLemmas.{spared_all, spoken_spared}
use Rattle.dictcat_lib.proofs.files.CatalogueFilesCataloguesDeskFileStore.session.Goals as goal

pub returns-in-Ok-clause-spoken : goal.returns-in-Ok-clause-spoken
returns-in-Ok-clause-spoken g c = (
  Some c.in-Ok.desk,
  (c.in-Ok.ensures.spoken.0, c.in-Ok.end, c.told_over.ensures, c.in-Ok.ensures.spoken.1, c.in-Ok.ensures.spoken.2),
  refl,
  (c.close.result, c.close.ensures.shut),
)

pub returns-in-Ok-clause-spared : goal.returns-in-Ok-clause-spared
returns-in-Ok-clause-spared g c =
    spoken_spared c.in-Ok.end c.told_over.result (change g.S.Source.stream c.args.reader.now c.run_session.new.reader) (change g.W.Sink.stream c.args.writer.now c.run_session.new.writer) c.told_over.ensures
    c.in-Ok.ensures.memory

pub returns-in-Err-clause-spared : goal.returns-in-Err-clause-spared
returns-in-Err-clause-spared g c =
    spared_all (Err c.in-Err.fault) (change g.S.Source.stream c.args.reader.now c.run_session.new.reader) (change g.W.Sink.stream c.args.writer.now c.run_session.new.writer) c.in-Err.ensures.spoken.1
    c.in-Err.ensures.spoken.2
