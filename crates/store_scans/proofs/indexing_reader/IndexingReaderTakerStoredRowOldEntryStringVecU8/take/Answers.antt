use Rattle.std.proofs.Common.{[], ◌∷◌, subst}
use Rattle.std.proofs.lemmas.Result.{on_ok_weaker}
use Rattle.store_tables.specs.Records.{shown_as}
use Rattle.store_tables.specs.Typed.{owned_entry}
use Rattle.store_scans.specs.Entries.{AreNotTaken}
use Rattle.store_scans.specs.IndexingReader.{old_entry_in, AreTakenAndIndexed}
use Rattle.store_scans.proofs.TakerLemmas.{if_err_then, added_next, added_refused}
use Rattle.store_scans.proofs.indexing_reader.IndexingReaderTakerStoredRowOldEntryStringVecU8.take.Goals as goal

pub returns-clause-taken : goal.returns-clause-taken
returns-clause-taken c =
    let row = c.without_old_keys-entry.result in
    on_ok_weaker c.entry.result (λ more first given h. added_next old_entry_in first given c.args.next c.args.self.now h c.entry.new.self
    (subst (λ e. AreTakenAndIndexed c.args.self.now c.entry.new.self (e ∷ [])) c.without_old_keys-entry.ensures
    (subst (λ shown. AreTakenAndIndexed c.args.self.now c.entry.new.self (shown_as (owned_entry row) shown ∷ [])) c.as_str.ensures.value more))) c.entry.ensures.added

pub returns-clause-refused : goal.returns-clause-refused
returns-clause-refused c =
    let row = c.without_old_keys-entry.result in
    if_err_then _ _ c.entry.result (λ fault wrong is first given h. added_refused old_entry_in first given c.args.next c.args.self.now h
    (subst (λ e. AreNotTaken c.args.self.now.reader (e ∷ [])) c.without_old_keys-entry.ensures
    (subst (λ shown. AreNotTaken c.args.self.now.reader (shown_as (owned_entry row) shown ∷ [])) c.as_str.ensures.value (wrong is)))) c.entry.ensures.damaged
