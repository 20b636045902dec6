use Rattle.std.proofs.Common.{subst}
use Rattle.std.specs.Prelude.{string_bytes}
use Rattle.sqlite.specs.Held.{state}
use Rattle.dict_index.specs.Edition.{ReadEdition, edition_of}
use Rattle.dict_catalogue.specs.Commands.{install}
use Rattle.dict_catalogue.specs.Steps.{step}
use Rattle.dict_catalogue.specs.Views.{summary_shown}
use Rattle.store_commands.specs.Answers.{Answers, summary_after}
use Rattle.store_commands.proofs.DraftLemmas.{both_none, each_some, either_way}
use Rattle.store_commands.proofs.FinishLemmas.{settled_by}
use Rattle.store_commands.proofs.WriteLemmas.{clean_before}
use Rattle.store_commands.proofs.ending.apply_read.Goals as goal

pub returns-clause-value : goal.returns-clause-value
returns-clause-value g c = λ clean M rests is.
    let came = c.args.whole.now.came.items in
    let text = c.args.whole.now.filing.text.items in
    each_some c.apply_files.result _ _
    (λ outcome it reading h.
    subst (λ (r : ReadEdition). Answers (state g.S.Store c.apply_files.new.conn) M c.args.id.now (step M c.args.id.now (install (string_bytes c.args.whole.now.name) (edition_of r))) outcome)
    (c.one_meaning.ensures.one_reading came text it.0 reading it.1 h) (it.2.applied.value clean M rests is)) c.apply_files.ensures.finished

pub returns-clause-settled : goal.returns-clause-settled
returns-clause-settled g c = λ clean live.
    let summary = summary_shown c.args.summary.now in
    let old = state g.S.Store c.args.conn.now in
    let new = state g.S.Store c.apply_files.new.conn in
    either_way c.apply_files.result _ _ (λ outcome it. settled_by (summary_after summary outcome) new it.2.applied.holds clean live)
    (λ it. it.0.settled live (settled_by summary old c.requires.holds (clean_before old new it.1 clean) (it.0.was_open live))) c.apply_files.ensures.finished
    (both_none c.apply_files.result _ _ (c.apply_files.ensures.left clean) c.apply_files.ensures.survives)
