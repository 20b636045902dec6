use Rattle.std.proofs.Common.{ap, ◌++◌, ◌∙◌}
use Rattle.dict_index.specs.Line.{behind_tab}
use Rattle.store_rows.specs.Spelling.{spelling}
use Rattle.store_rows.specs.Stored.{fourth_column, stored_line}
use Rattle.store_rows.proofs.IndexLemmas.{put_pieces}
use Rattle.store_rows.proofs.writing.write_line.Goals as goal

pub returns-clause-put : goal.returns-clause-put
unfolding stored_line
returns-clause-put c =
    put_pieces c.args.to.now.items c.args.headword.now (spelling c.args.offset) (spelling c.args.size) (behind_tab (fourth_column c.args.headword.now c.args.shown.now)) _ _ _ _ _
    (c.in_ok-extend_from_slice.ensures.items ∙ ap (λ l. c.args.to.now.items ++ l) c.as_bytes.ensures.value) c.in_ok-put_number.ensures.put c.in_ok-put_number-2.ensures.put c.in_ok-put_shown.ensures.put c.in_ok-push.ensures.items
