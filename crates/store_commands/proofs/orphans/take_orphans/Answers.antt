use Rattle.std.proofs.Common.{◌≡◌, ◌≢◌, ◌<◌, Bool, true, false, subst, inr, rules}
use Rattle.std.specs.Prelude.{IsTrue}
use Rattle.std.specs.List.{AllByRecursion}
use Rattle.sqlite.specs.Effect.{Database}
use Rattle.sqlite.specs.Held.{state}
use Rattle.sqlite.proofs.StateLemmas.{survives_weaker}
use Rattle.dict_catalogue.specs.Items.{edition_numbers}
use Rattle.dict_catalogue.specs.Views.{summary_shown}
use Rattle.store_holdings.specs.Committed.{IsCommitted}
use Rattle.store_commands.specs.Marking.{Remains}
use Rattle.store_commands.specs.Orphans.{LosesParts, FailsToTakeOut, FailsToTakeOrphans, rows_left_under}
use Rattle.store_commands.proofs.DraftLemmas.{on_ok}
use Rattle.store_commands.proofs.LoopLemmas.{each_err}
use Rattle.store_commands.proofs.FinishLemmas.{usable_by}
use Rattle.store_commands.proofs.WriteLemmas.{clean_before}
use Rattle.store_commands.proofs.MarkingLemmas.{committed_wider}
use Rattle.store_commands.proofs.TakingLemmas.{HasNotNumber, none_of_items, remains_without, with_ok}
use Rattle.store_commands.proofs.orphans.take_orphans.Goals as goal

pub commit_slice-requires-clause-usable : goal.commit_slice-requires-clause-usable
commit_slice-requires-clause-usable g c = usable_by (summary_shown c.args.summary.now) (state g.S.Store c.args.conn.now) c.requires.holds

pub returns-clause-made : goal.returns-clause-made
returns-clause-made g c clean =
    let summary = summary_shown c.args.summary.now in
    let number = c.args.number in
    let old = state g.S.Store c.args.conn.now in
    let new = state g.S.Store c.commit_slice.new.conn in
    let none : c.has_number.result ≡ false = search rules in
    let there : AllByRecursion (HasNotNumber number) c.args.summary.now.items.items = rw c.deref.ensures.value at c.has_number.ensures none in
    let apart : AllByRecursion (λ one. one ≢ number) (edition_numbers summary.items) = none_of_items number c.args.summary.now.items.items there in
    let P = λ (db : Database). IsTrue old.is_open × LosesParts number old.now db in
    on_ok c.commit_slice.result (IsCommitted P new) (IsCommitted (Remains summary old.committed) new)
    (committed_wider P (Remains summary old.committed) new (λ db it. remains_without summary number apart old c.requires.holds (clean_before old new c.commit_slice.ensures.crash clean) it.0 db it.1))
    (c.commit_slice.ensures.made clean)

pub returns-clause-fewer : goal.returns-clause-fewer
returns-clause-fewer g c clean =
    let number = c.args.number in
    let old = state g.S.Store c.args.conn.now in
    let new = state g.S.Store c.commit_slice.new.conn in
    let L = IsCommitted (λ db. IsTrue old.is_open × LosesParts number old.now db) new in
    let less : Database → Bool → Type 0 = λ db more. more ≡ true → rows_left_under number new.committed < rows_left_under number db in
    with_ok c.commit_slice.result L (less old.now) (less old.committed)
    (c.commit_slice.ensures.made clean)
    (λ made more fewer some. subst (λ db. rows_left_under number new.committed < rows_left_under number db) (c.requires.holds (clean_before old new c.commit_slice.ensures.crash clean) made.holds.0).1.settled (fewer some))
    (c.commit_slice.ensures.fewer clean)

pub returns-clause-failed : goal.returns-clause-failed
returns-clause-failed g c clean =
    each_err c.commit_slice.result (FailsToTakeOut g.S.Store c.args.number c.args.conn.now c.commit_slice.new.conn) (FailsToTakeOrphans g.S.Store c.args.number c.args.conn.now c.commit_slice.new.conn) (λ why h. inr h)
    (c.commit_slice.ensures.failed clean)

pub returns-clause-crash : goal.returns-clause-crash
returns-clause-crash g c =
    let summary = summary_shown c.args.summary.now in
    let number = c.args.number in
    let old = state g.S.Store c.args.conn.now in
    let new = state g.S.Store c.commit_slice.new.conn in
    let none : c.has_number.result ≡ false = search rules in
    let there : AllByRecursion (HasNotNumber number) c.args.summary.now.items.items = rw c.deref.ensures.value at c.has_number.ensures none in
    let apart : AllByRecursion (λ one. one ≢ number) (edition_numbers summary.items) = none_of_items number c.args.summary.now.items.items there in
    survives_weaker old new _ _
    (λ clean trees it. (it.3.0, (it.0, it.1, it.2, remains_without summary number apart old c.requires.holds (clean_before old new c.commit_slice.ensures.crash clean) it.3.0 it.0 it.3.1)))
    c.commit_slice.ensures.crash
