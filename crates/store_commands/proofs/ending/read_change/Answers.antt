use Rattle.std.proofs.Common.{◌≡◌, true, sym, rules, subst}
use Rattle.std.specs.Prelude.{List, ℕ, string_bytes}
use Rattle.sqlite.specs.Held.{state}
use Rattle.dict_catalogue.specs.Commands.{install}
use Rattle.dict_catalogue.specs.Views.{summary_shown, IsChange}
use Rattle.store_commands.specs.Changes.{change_by}
use Rattle.store_commands.specs.Installs.{install_read}
use Rattle.store_commands.proofs.FinishLemmas.{usable_by, change_awaits, free_still}
use Rattle.store_commands.proofs.TableLemmas.{has_kept}
use Rattle.store_commands.proofs.ending.read_change.Goals as goal

pub kept_reply-requires : goal.kept_reply-requires
kept_reply-requires g c = λ clean live.
    has_kept (state g.S.Store c.args.conn.now).now (usable_by (summary_shown c.args.summary.now) (state g.S.Store c.args.conn.now) c.requires.holds clean live)

pub returns-clause-planned : goal.returns-clause-planned
returns-clause-planned g c = (
  subst (λ (name : List ℕ). IsChange (summary_shown c.args.summary.now) (install name c.args.reading.now.title) c.in-Some.change) c.as_str.ensures.value
      (subst (λ (title : List ℕ). IsChange (summary_shown c.args.summary.now) (install c.as_str.result.now title) c.in-Some.change) c.title.ensures c.in-Some.ensures.planned),
  c.in-Some.ensures.writable.0,
  c.in-Some.ensures.writable.1,
)

pub returns-clause-awaits : goal.returns-clause-awaits
returns-clause-awaits g c = λ clean live.
    let whole : c.is_whole.result ≡ true = search rules in
    let of_it : c.is_planned_so.result ≡ true = search rules in
    change_awaits c.args.whole.now.filing (summary_shown c.args.summary.now) (state g.S.Store c.args.conn.now) (state g.S.Store c.kept_reply.new.conn) c.requires.filed c.requires.holds c.kept_reply.ensures.survives
    (λ clean. c.in-Ok-None.ensures.same clean) (change_by c.args.id.now (install_read (string_bytes c.args.whole.now.name) c.args.reading.now) c.in-Some.change) (c.is_whole.ensures.whole whole)
    (c.is_planned_so.ensures of_it (string_bytes c.args.whole.now.name) c.args.reading.now (c.requires.known.stored c.args.reading.now c.requires.read) (sym c.requires.read.whole)) clean

pub returns-clause-free : goal.returns-clause-free
returns-clause-free g c = λ clean M rests.
    free_still c.args.id.now (state g.S.Store c.args.conn.now) (state g.S.Store c.kept_reply.new.conn) (c.in-Ok-None.ensures.same clean) (rw c.in-Ok-None.field-0-is at (c.in-Ok-None.ensures.value clean)) M rests
