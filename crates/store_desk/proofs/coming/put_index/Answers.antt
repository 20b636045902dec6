use Rattle.std.proofs.Common.{List, sym, subst}
use Rattle.std.specs.Prelude.{Some}
use Rattle.store_search.specs.Entries.{Indexed}
use Rattle.store_desk.specs.Indexed.{HasPutIfSome}
use Rattle.store_desk.proofs.IndexedLemmas.{put_beside}
use Rattle.store_desk.proofs.coming.put_index.Goals as goal

pub returns-in-Ok-clause-put : goal.returns-in-Ok-clause-put
returns-in-Ok-clause-put c = λ told reading h. subst (λ (index : List Indexed). HasPutIfSome c.args.number (Some index) c.args.indexes.now c.put.new.self) (c.in-Some.ensures.whole reading h) c.in-Ok.ensures.put

pub returns-in-Ok-clause-is_of : goal.returns-in-Ok-clause-is_of
returns-in-Ok-clause-is_of c = λ told. c.is_of.ensures.0 c.if-not-is_of.false

pub returns-in-Ok-clause-others : goal.returns-in-Ok-clause-others
returns-in-Ok-clause-others c = λ q apart. put_beside c.args.number (Some c.in-Some.whole) c.args.indexes.now c.put.new.self c.in-Ok.ensures.put q (λ same. apart (sym same))

pub returns-in-Err-clause-others : goal.returns-in-Err-clause-others
returns-in-Err-clause-others c = λ q apart. c.in-Err.ensures.refused q
