use Rattle.std.proofs.Common.{◌≡◌, false, rules, sym, subst}
use Rattle.std.specs.Prelude.{IsTrue}
use Rattle.sqlite.specs.Effect.{Database}
use Rattle.sqlite.specs.Held.{state}
use Rattle.dict_catalogue.specs.Views.{summary_shown}
use Rattle.store_holdings.specs.AllTables.{with_derived}
use Rattle.store_commands.specs.Filing.{HasFiledParts}
use Rattle.store_commands.specs.FiledParts.{FilesUpTo}
use Rattle.store_commands.specs.Marking.{Remains}
use Rattle.store_commands.proofs.ApplyLemmas.{holds_now}
use Rattle.store_commands.proofs.FilingLemmas.{filed_on}
use Rattle.store_commands.proofs.MarkingLemmas.{committed_wider}
use Rattle.store_commands.proofs.TakingLemmas.{filed_crash, remains_filed}
use Rattle.store_commands.proofs.FinishLemmas.{usable_by}
use Rattle.store_commands.proofs.WriteLemmas.{clean_before}
use Rattle.store_commands.proofs.parts.file_part.Goals as goal

pub commit_parts-requires-clause-usable : goal.commit_parts-requires-clause-usable
commit_parts-requires-clause-usable g c = usable_by (summary_shown c.args.summary.now) (state g.S.Store c.args.conn.now) c.requires.holds

pub returns-clause-made : goal.returns-clause-made
returns-clause-made g c clean =
    let summary = summary_shown c.args.summary.now in
    let f = c.args.filing.now in
    let old = state g.S.Store c.args.conn.now in
    let new = state g.S.Store c.commit_parts.new.conn in
    let number : c.is_other_number.result ≡ false = search rules in
    let P = λ (db : Database). IsTrue old.is_open × FilesUpTo f c.in-Ok.filed old.now db in
    committed_wider P (Remains summary old.committed) new
    (λ db it. remains_filed summary f c.in-Ok.filed (c.is_other_number.ensures.next number) old c.requires.holds (clean_before old new c.commit_parts.ensures.crash clean) it.0 db it.1) (c.in-Ok.ensures.made clean)

pub returns-clause-filed : goal.returns-clause-filed
returns-clause-filed g c = λ clean live begun.
    let f = c.args.filing.now in
    let old = state g.S.Store c.args.conn.now in
    let new = state g.S.Store c.commit_parts.new.conn in
    let early = clean_before old new c.commit_parts.ensures.crash clean in
    let done = c.in-Ok.ensures.made clean in
    let it = c.requires.holds early done.holds.0 in
    let held = holds_now old it.0 it.1 in
    filed_on f c.in-Ok.filed old.now new.committed (with_derived held.orphans held.tables) (record { own = held.own; keeps = held.keeps })
    (λ is. subst (HasFiledParts f) (sym it.1.settled) (c.requires.filed early done.holds.0 is)) done.holds.1

pub returns-clause-crash : goal.returns-clause-crash
returns-clause-crash g c =
    let number : c.is_other_number.result ≡ false = search rules in
    filed_crash (summary_shown c.args.summary.now) c.args.filing.now (c.is_other_number.ensures.next number) (state g.S.Store c.args.conn.now) (state g.S.Store c.commit_parts.new.conn) c.requires.holds
    c.commit_parts.ensures.crash

pub returns-in-Err-clause-crash : goal.returns-in-Err-clause-crash
returns-in-Err-clause-crash g c =
    let number : c.is_other_number.result ≡ false = search rules in
    filed_crash (summary_shown c.args.summary.now) c.args.filing.now (c.is_other_number.ensures.next number) (state g.S.Store c.args.conn.now) (state g.S.Store c.commit_parts.new.conn) c.requires.holds
    c.commit_parts.ensures.crash
