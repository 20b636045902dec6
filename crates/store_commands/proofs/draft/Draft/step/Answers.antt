use Rattle.std.proofs.Common.{◌+◌, ◌-◌, ◌≤◌, subst}
use Rattle.dict_reading.specs.Slices.{IsSlice}
use Rattle.store_commands.specs.Drafts.{DraftState, IsDraftOf}
use Rattle.store_commands.specs.Installs.{lines_read, state_of}
use Rattle.store_commands.proofs.DraftLemmas.{on_ok}
use Rattle.store_commands.proofs.draft.Draft.step.Goals as goal

pub returns-clause-files : goal.returns-clause-files
returns-clause-files c =
    let h = c.step.ensures.files in
    subst (λ (d : DraftState). IsDraftOf d.name d.index d.text (state_of c.step.new.self)) c.self.view_is (record { name_is = h.name_is; index_is = h.index_is; text_is = h.text_is })

pub returns-clause-reads : goal.returns-clause-reads
returns-clause-reads c =
    on_ok c.step.result _ _ (λ h fine. subst (λ (d : DraftState). IsSlice d.index d.lines (lines_read c.step.new.self.progress - d.lines)) c.self.view_is (h.reads fine)) c.step.ensures.short

pub returns-clause-writes : goal.returns-clause-writes
returns-clause-writes c = on_ok c.step.result _ _ (λ h. subst (λ (d : DraftState). c.step.new.self.written ≤ d.written + 4096) c.self.view_is h.writes) c.step.ensures.short
