use Rattle.dict_reading.proofs.ColumnLemmas.{no_line, said_of}
use Rattle.dict_reading.proofs.columns.said_in.Goals as goal

pub returns-in_default-clause-said : goal.returns-in_default-clause-said
returns-in_default-clause-said c said is = no_line c.args.line.now said c.in_default.ensures.0 c.in_default.ensures.1 is

pub returns-clause-said : goal.returns-clause-said
returns-clause-said c = said_of c.args.line.now c.in-Some.columns.headword c.in-Some.columns.offset.now c.in-Some.columns.size.now c.in-Some.columns.shown c.said_by.result c.in-Some.ensures c.said_by.ensures.headword
