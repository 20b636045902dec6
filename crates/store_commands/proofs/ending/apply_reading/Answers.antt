use Rattle.std.proofs.Common.{OnErr, ◌≡◌, ℕ, List, sym, subst}
use Rattle.std.specs.Prelude.{IsTrue, string_bytes}
use Rattle.sqlite.specs.Effect.{Database}
use Rattle.sqlite.specs.Held.{state}
use Rattle.sqlite.specs.State.{HasCleanDisk}
use Rattle.dict_index.specs.Edition.{edition_of}
use Rattle.dict_catalogue.specs.Commands.{install}
use Rattle.dict_catalogue.specs.Views.{summary_shown, IsChange}
use Rattle.store_commands.specs.Changes.{change_by}
use Rattle.store_commands.specs.Finishing.{AwaitsRest}
use Rattle.store_commands.specs.Installs.{install_read}
use Rattle.store_commands.proofs.DraftLemmas.{read_itself}
use Rattle.store_commands.proofs.FinishLemmas.{applied_later, holds_later}
use Rattle.store_commands.proofs.LoopLemmas.{each_err}
use Rattle.store_commands.proofs.WriteLemmas.{clean_before}
use Rattle.store_commands.proofs.ending.apply_reading.Goals as goal

pub apply_planned-requires-clause-read : goal.apply_planned-requires-clause-read
apply_planned-requires-clause-read g c = read_itself c.args.whole.now.came.items c.args.whole.now.filing.text.items c.args.reading.now c.requires.read

pub apply_planned-requires-clause-planned : goal.apply_planned-requires-clause-planned
apply_planned-requires-clause-planned g c = (
  subst (λ (name : List ℕ). IsChange (summary_shown c.args.summary.now) (install name c.args.reading.now.title) c.in-Some.change) (sym c.as_str-name.ensures.value) c.in-Some.ensures.planned.0,
  c.in-Some.ensures.planned.1,
  c.in-Some.ensures.planned.2,
)

pub apply_planned-requires-clause-awaits : goal.apply_planned-requires-clause-awaits
apply_planned-requires-clause-awaits g c =
    let new = state g.S.Store c.read_change.new.conn in
    subst (λ (name : List ℕ). HasCleanDisk new → IsTrue new.is_open → AwaitsRest (change_by c.args.id.now (install_read name c.args.reading.now) c.in-Some.change) new.now) (sym c.as_str-name.ensures.value)
    c.in-Some.ensures.awaits

pub apply_planned-requires-clause-holds : goal.apply_planned-requires-clause-holds
apply_planned-requires-clause-holds g c =
    holds_later (summary_shown c.args.summary.now) (state g.S.Store c.args.conn.now) (state g.S.Store c.read_change.new.conn) c.in-Some.ensures.same c.read_change.ensures.survives c.requires.holds

pub returns-clause-finished : goal.returns-clause-finished
returns-clause-finished g c =
    let old = state g.S.Store c.args.conn.now in
    let mid = state g.S.Store c.read_change.new.conn in
    let new = state g.S.Store c.apply_planned.new.conn in
    let name = string_bytes c.args.whole.now.name in
    let applied = rw c.as_str-name.ensures.value at c.apply_planned.ensures.applied in
    record {
      lawful = c.requires.id;
      applied = applied_later (summary_shown c.args.summary.now) c.args.id.now (install name (edition_of c.args.reading.now)) old mid new c.apply_planned.result c.in-Some.ensures.same c.read_change.ensures.survives applied;
      failed = λ clean.
          let early = clean_before mid new applied.crash clean in
          each_err c.apply_planned.result _ _ (λ fault h real. (c.read_change.new.conn, c.in-Some.ensures.same early, c.read_change.ensures.survives, h real)) (rw c.as_str-name.ensures.value at (c.apply_planned.ensures.failed clean));
      installed = rw c.as_str-name.ensures.value at c.apply_planned.ensures.installed;
      stays = λ clean live.
          let same = c.in-Some.ensures.same (clean_before mid new applied.crash clean) in
          subst (λ (db : Database). OnErr c.apply_planned.result (new.committed ≡ db)) same.0.committed_is (c.apply_planned.ensures.stays clean live);
    }
