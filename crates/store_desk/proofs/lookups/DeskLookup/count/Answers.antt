use Rattle.std.proofs.Common.{◌≡◌, ℕ, List, false, sym, ap, subst, refl, rules}
use Rattle.std.specs.Prelude.{Result, OnOk}
use Rattle.sqlite.specs.State.{HasCleanDisk}
use Rattle.sqlite.specs.Held.{state}
use Rattle.dict_catalogue.specs.Views.{summary_shown}
use Rattle.dict_desk.specs.Shown.{count_of}
use Rattle.dict_desk.specs.declared.fault.Fault.{Fault}
use Rattle.dict_desk.specs.declared.lookup.What.TheVariants.{Entries}
use Rattle.store_holdings.specs.Taken.{LooksAt}
use Rattle.store_search.specs.Entries.{Indexed}
use Rattle.store_desk.specs.Desk.{DeskState, Shows, LeavesOneOf, is_closed, KeepsBeside}
use Rattle.store_holdings.specs.Indexes.{entries_under}
use Rattle.store_holdings.proofs.StateLemmas.{each_ok}
use Rattle.store_desk.specs.OnlyReads.{OnlyReads}
use Rattle.store_desk.proofs.CauseLemmas.{memory_gives_way}
use Rattle.store_desk.proofs.DeskLemmas.{texts_keep, same_stays, survives_itself}
use Rattle.store_desk.proofs.PreparingLemmas.{rests_as, shows_as}
use Rattle.store_desk.proofs.ServedLemmas.{served_one}
use Rattle.store_desk.specs.KeptParts.{KeepsTexts}
use Rattle.store_desk.specs.Left.{CountsLook, counted}
use Rattle.store_desk.proofs.lookups.DeskLookup.count.Goals as goal

pub invariant_of-self : goal.invariant_of-self
invariant_of-self g c =
    let before : is_closed c.self.inside.last ≡ false = search rules in (
      rests_as g.S.Store (summary_shown c.self.inside.summary) c.self.inside.filing c.self.inside.last c.last_by-self-inside.result c.self.inside.conn before c.self.invariant.0 c.self.inside.filing (c.self.invariant.0.filed before),
      subst (KeepsTexts c.last_by-self-inside.result (summary_shown c.self.inside.summary)) (sym c.forget_by.ensures)
          (texts_keep c.last_by-self-inside.result (summary_shown c.self.inside.summary) c.self.inside.texts c.self.invariant.1.made),
    )

pub returns-clause-keeps : goal.returns-clause-keeps
returns-clause-keeps g c =
    let before : is_closed c.self.inside.last ≡ false = search rules in
    let new : DeskState _ = record {
      conn = c.self.inside.conn;
      summary = summary_shown c.self.inside.summary;
      last = c.last_by-self-inside.result;
      indexes = c.count_under-outcome.new.indexes;
      texts = c.forget_by.new.texts;
      counts = counted c.count_under-outcome.new.rows_taken c.self.inside.is_log_long c.self.inside.orphans c.self.inside.draft c.self.inside.filing;
    } in
    record {
      trust = λ clean. subst (λ (d : DeskState _). HasCleanDisk (state g.S.Store d.conn)) c.self.view_is clean;
      beside = λ db kept. subst (λ (d : DeskState _). KeepsBeside g.S.Store d db) (sym c.self.view_is) kept;
      shows = λ clean M shown.
          shows_as g.S.Store (summary_shown c.self.inside.summary) c.self.inside.last c.last_by-self-inside.result c.self.inside.conn before c.self.inside.indexes c.count_under-outcome.new.indexes
          (λ q. ap (entries_under q) c.count_under-outcome.ensures.indexes) c.self.inside.texts c.forget_by.new.texts c.forget_by.ensures M
          (subst (λ (d : DeskState _). Shows g.S.Store d M) (sym c.self.view_is) shown);
      leaves = λ ms left. subst (λ (d : DeskState _). LeavesOneOf g.S.Store d ms) (sym c.self.view_is) left;
      kinds = search rules;
      caused = λ clean.
          memory_gives_way g.S.Store c.args.self.now new (ap (λ (d : DeskState _). d.conn) c.self.view_is) c.count_under-outcome.result c.count_under-outcome.ensures.kinds;
      failed = search rules;
      closes = search rules;
      closed = search rules;
    }

pub returns-clause-value : goal.returns-clause-value
returns-clause-value g c = λ clean M edition shown has.
    let ready = subst (λ (d : DeskState _). Shows g.S.Store d M) (sym c.self.view_is) shown in
    let one = served_one g.S.Store (record {
      conn = c.self.inside.conn;
      summary = summary_shown c.self.inside.summary;
      last = c.self.inside.last;
      indexes = c.self.inside.indexes;
      texts = c.self.inside.texts;
      counts = counted c.self.inside.rows_taken c.self.inside.is_log_long c.self.inside.orphans c.self.inside.draft c.self.inside.filing;
    }) M c.args.number
    edition has (ready.served clean) in
    each_ok c.count_under-outcome.result _ _ (λ count h. h one.index edition one.stands (one.text, one.cuts)) c.count_under-outcome.ensures.value

pub returns-clause-looks : goal.returns-clause-looks
returns-clause-looks g c = λ clean M edition shown has count all.
    let ready = subst (λ (d : DeskState _). Shows g.S.Store d M) (sym c.self.view_is) shown in
    let one = served_one g.S.Store (record {
      conn = c.self.inside.conn;
      summary = summary_shown c.self.inside.summary;
      last = c.self.inside.last;
      indexes = c.self.inside.indexes;
      texts = c.self.inside.texts;
      counts = counted c.self.inside.rows_taken c.self.inside.is_log_long c.self.inside.orphans c.self.inside.draft c.self.inside.filing;
    }) M c.args.number
    edition has (ready.served clean) in
    let now = counted c.count_under-outcome.new.rows_taken c.self.inside.is_log_long c.self.inside.orphans c.self.inside.draft c.self.inside.filing in
    subst (λ (d : DeskState _). CountsLook d.counts now (count_of Entries c.args.strategy c.args.query.now edition)) c.self.view_is (record {
      taken = subst (λ (r : Result ℕ Fault). OnOk r (LooksAt c.self.inside.rows_taken c.count_under-outcome.new.rows_taken (count_of Entries c.args.strategy c.args.query.now edition))) all
          (c.count_under-outcome.ensures.looks one.index edition one.stands (one.text, one.cuts));
      same = refl;
    })

pub returns-clause-reads : goal.returns-clause-reads
returns-clause-reads g c =
    let new : DeskState _ = record {
      conn = c.self.inside.conn;
      summary = summary_shown c.self.inside.summary;
      last = c.last_by-self-inside.result;
      indexes = c.count_under-outcome.new.indexes;
      texts = c.forget_by.new.texts;
      counts = counted c.count_under-outcome.new.rows_taken c.self.inside.is_log_long c.self.inside.orphans c.self.inside.draft c.self.inside.filing;
    } in
    subst (λ (d : DeskState _). OnlyReads g.S.Store d new) c.self.view_is (record {
      survives = survives_itself (state g.S.Store c.self.inside.conn) (λ _. ⊥);
      stays = λ clean. same_stays (state g.S.Store c.self.inside.conn);
      same = ap (λ (indexes : List (ℕ × List Indexed)). record new { indexes = indexes }) c.count_under-outcome.ensures.indexes;
    })
