use Rattle.std.proofs.Common.{◌≡◌, false, refl, sym, ap, subst, rules}
use Rattle.std.specs.Prelude.{option_map}
use Rattle.sqlite.specs.State.{HasCleanDisk}
use Rattle.sqlite.specs.Held.{state}
use Rattle.dict_catalogue.specs.Steps.{kept_under}
use Rattle.dict_catalogue.specs.Views.{summary_shown, kept_shown}
use Rattle.store_commands.specs.KeptRecords.{HoldsReplies}
use Rattle.store_desk.specs.Desk.{DeskState, Shows, LeavesOneOf, is_closed, KeepsBeside}
use Rattle.store_desk.specs.Left.{counted}
use Rattle.store_desk.specs.OnlyReads.{OnlyReads}
use Rattle.store_desk.proofs.CauseLemmas.{reply_gives_way}
use Rattle.store_desk.proofs.BesideLemmas.{beside_on}
use Rattle.store_desk.proofs.DeskLemmas.{clean_behind, desk_on, leaves_on, replies_stay, shows_on}
use Rattle.store_desk.proofs.KeeperLemmas.{kept_value}
use Rattle.store_desk.proofs.PreparedLemmas.{kept_there, replies_seen}
use Rattle.store_desk.proofs.SeenLemmas.{own_seen}
use Rattle.store_desk.proofs.keeper.DeskKeeper.kept.Goals as goal

pub kept_reply-outcome-requires : goal.kept_reply-outcome-requires
kept_reply-outcome-requires g c = λ clean live.
    let before : is_closed c.self.inside.last ≡ false = search rules in
    kept_there (state g.S.Store c.self.inside.conn).now (own_seen g.S.Store c.self.inside.last (summary_shown c.self.inside.summary) c.self.inside.filing c.self.inside.conn before c.self.invariant.0 clean live)

pub invariant_of-self : goal.invariant_of-self
invariant_of-self g c =
    let before : is_closed c.self.inside.last ≡ false = search rules in
    desk_on g.S.Store c.self.inside.conn c.kept_reply-outcome.new.conn (summary_shown c.self.inside.summary) c.self.inside.filing c.self.inside.last c.last_by-self-inside.result before c.self.invariant.0
    c.kept_reply-outcome.ensures.survives
    (λ clean. replies_stay (state g.S.Store c.self.inside.conn) (state g.S.Store c.kept_reply-outcome.new.conn) c.kept_reply-outcome.result (c.kept_reply-outcome.ensures.same clean) (c.kept_reply-outcome.ensures.failed clean))
    c.kept_reply-outcome.ensures.mode c.self.inside.texts c.forget_by.new.texts c.forget_by.ensures c.self.invariant.1.made

pub returns-clause-value : goal.returns-clause-value
returns-clause-value g c = λ clean M shown.
    let before : is_closed c.self.inside.last ≡ false = search rules in
    let honest = clean_behind (state g.S.Store c.self.inside.conn) (state g.S.Store c.kept_reply-outcome.new.conn) c.kept_reply-outcome.ensures.survives clean in
    let ready = subst (λ (d : DeskState _). Shows g.S.Store d M) (sym c.self.view_is) shown in
    kept_value (λ reply. (kept : _) → HoldsReplies (state g.S.Store c.self.inside.conn).now kept → option_map kept_shown reply ≡ kept_under kept c.args.id.now)
    (λ reply. option_map kept_shown reply ≡ kept_under M.kept c.args.id.now) c.kept_reply-outcome.result (state g.S.Store c.self.inside.conn) (state g.S.Store c.kept_reply-outcome.new.conn)
    (λ reply live alone. alone M.kept (replies_seen g.S.Store c.self.inside.last (summary_shown c.self.inside.summary) c.self.inside.filing c.self.inside.conn before c.self.invariant.0 honest live M (ready.holds before honest live)))
    (c.kept_reply-outcome.ensures.same clean) (c.kept_reply-outcome.ensures.alone clean)

pub returns-clause-keeps : goal.returns-clause-keeps
returns-clause-keeps g c =
    let before : is_closed c.self.inside.last ≡ false = search rules in
    let old : DeskState _ = record {
      conn = c.self.inside.conn;
      summary = summary_shown c.self.inside.summary;
      last = c.self.inside.last;
      indexes = c.self.inside.indexes;
      texts = c.self.inside.texts;
      counts = counted c.self.inside.rows_taken c.self.inside.is_log_long c.self.inside.orphans c.self.inside.draft c.self.inside.filing;
    } in
    let new : DeskState _ = record {
      conn = c.kept_reply-outcome.new.conn;
      summary = summary_shown c.self.inside.summary;
      last = c.last_by-self-inside.result;
      indexes = c.self.inside.indexes;
      texts = c.forget_by.new.texts;
      counts = counted c.self.inside.rows_taken c.self.inside.is_log_long c.self.inside.orphans c.self.inside.draft c.self.inside.filing;
    } in
    record {
      trust = λ clean. subst (λ (d : DeskState _). HasCleanDisk (state g.S.Store d.conn)) c.self.view_is
          (clean_behind (state g.S.Store c.self.inside.conn) (state g.S.Store c.kept_reply-outcome.new.conn) c.kept_reply-outcome.ensures.survives clean);
      beside = λ db kept.
          beside_on g.S.Store old new c.kept_reply-outcome.ensures.survives db (subst (λ (d : DeskState _). KeepsBeside g.S.Store d db) (sym c.self.view_is) kept);
      shows = λ clean M shown.
          shows_on g.S.Store c.self.inside.conn c.kept_reply-outcome.new.conn (summary_shown c.self.inside.summary) c.self.inside.filing c.self.inside.last c.last_by-self-inside.result before c.self.invariant.0
          c.kept_reply-outcome.ensures.survives
          (λ clean. replies_stay (state g.S.Store c.self.inside.conn) (state g.S.Store c.kept_reply-outcome.new.conn) c.kept_reply-outcome.result (c.kept_reply-outcome.ensures.same clean) (c.kept_reply-outcome.ensures.failed clean))
          c.self.inside.indexes c.self.inside.texts M (subst (λ (d : DeskState _). Shows g.S.Store d M) (sym c.self.view_is) shown) c.forget_by.new.texts c.forget_by.ensures;
      leaves = λ ms left.
          leaves_on g.S.Store old new c.kept_reply-outcome.ensures.survives ms (subst (λ (d : DeskState _). LeavesOneOf g.S.Store d ms) (sym c.self.view_is) left);
      kinds = search rules;
      caused = reply_gives_way g.S.Store c.args.self.now new c.self.inside.conn (ap (λ (d : DeskState _). d.conn) c.self.view_is) (summary_shown c.self.inside.summary) c.self.inside.filing
          c.self.inside.last before c.self.invariant.0 c.kept_reply-outcome.ensures.survives
          c.kept_reply-outcome.result c.kept_reply-outcome.ensures.kinds c.kept_reply-outcome.ensures.failed;
      failed = search rules;
      closes = search rules;
      closed = search rules;
    }

pub returns-clause-reads : goal.returns-clause-reads
returns-clause-reads g c =
    let new : DeskState _ = record {
      conn = c.kept_reply-outcome.new.conn;
      summary = summary_shown c.self.inside.summary;
      last = c.last_by-self-inside.result;
      indexes = c.self.inside.indexes;
      texts = c.forget_by.new.texts;
      counts = counted c.self.inside.rows_taken c.self.inside.is_log_long c.self.inside.orphans c.self.inside.draft c.self.inside.filing;
    } in
    subst (λ (d : DeskState _). OnlyReads g.S.Store d new) c.self.view_is (record {
      survives = c.kept_reply-outcome.ensures.survives;
      stays = λ clean. replies_stay (state g.S.Store c.self.inside.conn) (state g.S.Store c.kept_reply-outcome.new.conn) c.kept_reply-outcome.result (c.kept_reply-outcome.ensures.same clean) (c.kept_reply-outcome.ensures.failed clean);
      same = refl;
    })
