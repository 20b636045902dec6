use Rattle.std.proofs.Common.{◌≡◌, ℕ, List, false, sym, ap, subst, refl, rules}
use Rattle.std.specs.Prelude.{IfErr}
use Rattle.sqlite.specs.Effect.{Database}
use Rattle.sqlite.specs.State.{HasCleanDisk}
use Rattle.sqlite.specs.Held.{state}
use Rattle.dict_catalogue.specs.Views.{summary_shown}
use Rattle.store_holdings.specs.HeldTexts.{HoldsText}
use Rattle.store_holdings.specs.CutTexts.{ArePartsOf}
use Rattle.dict_desk.specs.Shown.{count_of}
use Rattle.dict_desk.specs.declared.lookup.What.TheVariants.{Entries}
use Rattle.store_search.specs.Entries.{Indexed}
use Rattle.store_holdings.specs.Searches.{IsOfStore}
use Rattle.store_holdings.proofs.AskLemmas.{clean_first}
use Rattle.store_holdings.proofs.HeldLemmas.{held_tables}
use Rattle.store_desk.specs.Desk.{DeskState, Shows, LeavesOneOf, is_closed, KeepsBeside}
use Rattle.store_desk.specs.Left.{CountsLook, counted}
use Rattle.store_desk.specs.OnlyReads.{OnlyReads}
use Rattle.store_desk.proofs.CauseLemmas.{found_gives_way}
use Rattle.store_desk.proofs.BesideLemmas.{beside_on}
use Rattle.store_desk.proofs.DeskLemmas.{found_stays, leaves_on, desk_on, shows_with, parts_after}
use Rattle.store_desk.proofs.SeenLemmas.{own_seen, seen}
use Rattle.store_desk.proofs.ServedLemmas.{served_one}
use Rattle.store_desk.proofs.lookups.DeskLookup.find.Goals as goal

pub hand_rows-outcome-requires : goal.hand_rows-outcome-requires
hand_rows-outcome-requires g c = λ clean live.
    let before : is_closed c.self.inside.last ≡ false = search rules in
    held_tables (state g.S.Store c.self.inside.conn).now (own_seen g.S.Store c.self.inside.last (summary_shown c.self.inside.summary) c.self.inside.filing c.self.inside.conn before c.self.invariant.0 clean live)

pub invariant_of-self : goal.invariant_of-self
invariant_of-self g c =
    let before : is_closed c.self.inside.last ≡ false = search rules in
    desk_on g.S.Store c.self.inside.conn c.hand_rows-outcome.new.conn
    (summary_shown c.self.inside.summary) c.self.inside.filing c.self.inside.last c.last_by-self-inside.result before c.self.invariant.0 c.hand_rows-outcome.ensures.reads.survives
    (found_stays g.S.Store c.args.number c.self.inside.conn c.hand_rows-outcome.new.conn c.hand_rows-outcome.result c.hand_rows-outcome.ensures.reads)
    c.hand_rows-outcome.ensures.reads.mode c.hand_rows-outcome.new.texts c.forget_by.new.texts c.forget_by.ensures (c.hand_rows-outcome.ensures.keeps.made c.self.invariant.1.made)

pub returns-clause-keeps : goal.returns-clause-keeps
returns-clause-keeps g c =
    let before : is_closed c.self.inside.last ≡ false = search rules in
    let old : DeskState _ = record {
      conn = c.self.inside.conn;
      summary = summary_shown c.self.inside.summary;
      last = c.self.inside.last;
      indexes = c.self.inside.indexes;
      texts = c.self.inside.texts;
      counts = counted c.self.inside.rows_taken c.self.inside.is_log_long c.self.inside.orphans c.self.inside.draft c.self.inside.filing;
    } in
    let new : DeskState _ = record {
      conn = c.hand_rows-outcome.new.conn;
      summary = summary_shown c.self.inside.summary;
      last = c.last_by-self-inside.result;
      indexes = c.hand_rows-outcome.new.indexes;
      texts = c.forget_by.new.texts;
      counts = counted c.hand_rows-outcome.new.rows_taken c.self.inside.is_log_long c.self.inside.orphans c.self.inside.draft c.self.inside.filing;
    } in
    let kinds : IfErr c.hand_rows-outcome.result IsOfStore = c.hand_rows-outcome.ensures.reads.kinds in
    record {
      trust = λ clean. subst (λ (d : DeskState _). HasCleanDisk (state g.S.Store d.conn)) c.self.view_is (clean_first c.hand_rows-outcome.ensures.reads clean);
      beside = λ db kept.
          beside_on g.S.Store old new c.hand_rows-outcome.ensures.reads.survives db (subst (λ (d : DeskState _). KeepsBeside g.S.Store d db) (sym c.self.view_is) kept);
      shows = λ clean M shown.
          subst (λ (indexes : List (ℕ × List Indexed)). Shows g.S.Store
          (record {
            conn = c.hand_rows-outcome.new.conn;
            summary = summary_shown c.self.inside.summary;
            last = c.last_by-self-inside.result;
            indexes = indexes;
            texts = c.forget_by.new.texts;
            counts = counted c.hand_rows-outcome.new.rows_taken c.self.inside.is_log_long c.self.inside.orphans c.self.inside.draft c.self.inside.filing;
          })
          M) (sym c.hand_rows-outcome.ensures.indexes)
          (shows_with g.S.Store c.self.inside.conn c.hand_rows-outcome.new.conn
          (summary_shown c.self.inside.summary) c.self.inside.filing c.self.inside.last c.last_by-self-inside.result before c.self.invariant.0 c.hand_rows-outcome.ensures.reads.survives
          (found_stays g.S.Store c.args.number c.self.inside.conn c.hand_rows-outcome.new.conn c.hand_rows-outcome.result c.hand_rows-outcome.ensures.reads)
          c.self.inside.indexes c.self.inside.texts M (subst (λ (d : DeskState _). Shows g.S.Store d M) (sym c.self.view_is) shown) c.forget_by.new.texts
          (λ clean stored one.
          let honest = clean_first c.hand_rows-outcome.ensures.reads clean in
          subst (ArePartsOf stored.number one.text) (sym c.forget_by.ensures)
          (parts_after c.last_by-self-inside.result stored.number one.text c.hand_rows-outcome.new.texts
          (c.hand_rows-outcome.ensures.keeps.texts clean stored.number one.text one.kept
          (λ same live. seen g.S.Store c.self.inside.last (summary_shown c.self.inside.summary) c.self.inside.filing c.self.inside.conn before c.self.invariant.0 honest live
          (λ (db : Database). HoldsText db stored.number one.text) (one.held before live))))));
      leaves = λ ms left.
          leaves_on g.S.Store old new c.hand_rows-outcome.ensures.reads.survives ms (subst (λ (d : DeskState _). LeavesOneOf g.S.Store d ms) (sym c.self.view_is) left);
      kinds = search rules;
      caused = found_gives_way g.S.Store c.args.self.now new c.self.inside.conn (ap (λ (d : DeskState _). d.conn) c.self.view_is) (summary_shown c.self.inside.summary) c.self.inside.filing
          c.self.inside.last before c.self.invariant.0 c.hand_rows-outcome.ensures.reads.survives
          c.args.number c.hand_rows-outcome.result c.hand_rows-outcome.ensures.reads;
      failed = search rules;
      closes = search rules;
      closed = search rules;
    }

pub returns-clause-value : goal.returns-clause-value
returns-clause-value g c = λ clean M edition shown has.
    let before : is_closed c.self.inside.last ≡ false = search rules in
    let honest = clean_first c.hand_rows-outcome.ensures.reads clean in
    let ready = subst (λ (d : DeskState _). Shows g.S.Store d M) (sym c.self.view_is) shown in
    let one = served_one g.S.Store
    (record {
      conn = c.self.inside.conn;
      summary = summary_shown c.self.inside.summary;
      last = c.self.inside.last;
      indexes = c.self.inside.indexes;
      texts = c.self.inside.texts;
      counts = counted c.self.inside.rows_taken c.self.inside.is_log_long c.self.inside.orphans c.self.inside.draft c.self.inside.filing;
    }) M
    c.args.number edition has (ready.served honest) in
    c.hand_rows-outcome.ensures.value clean one.index edition one.text one.stands one.cuts one.kept
    (λ live. seen g.S.Store c.self.inside.last (summary_shown c.self.inside.summary) c.self.inside.filing c.self.inside.conn before c.self.invariant.0 honest live
    (λ (db : Database). HoldsText db c.args.number one.text) (one.held before live))

pub returns-clause-looks : goal.returns-clause-looks
returns-clause-looks g c = λ clean M edition shown has all.
    let honest = clean_first c.hand_rows-outcome.ensures.reads clean in
    let ready = subst (λ (d : DeskState _). Shows g.S.Store d M) (sym c.self.view_is) shown in
    let one = served_one g.S.Store
    (record {
      conn = c.self.inside.conn;
      summary = summary_shown c.self.inside.summary;
      last = c.self.inside.last;
      indexes = c.self.inside.indexes;
      texts = c.self.inside.texts;
      counts = counted c.self.inside.rows_taken c.self.inside.is_log_long c.self.inside.orphans c.self.inside.draft c.self.inside.filing;
    }) M
    c.args.number edition has (ready.served honest) in
    let now = counted c.hand_rows-outcome.new.rows_taken c.self.inside.is_log_long c.self.inside.orphans c.self.inside.draft c.self.inside.filing in
    subst (λ (d : DeskState _). CountsLook d.counts now (count_of Entries c.args.strategy c.args.query.now edition)) c.self.view_is (record {
      taken = c.hand_rows-outcome.ensures.looks one.index edition one.stands (one.text, one.cuts) all;
      same = refl;
    })

pub returns-clause-reads : goal.returns-clause-reads
returns-clause-reads g c =
    let new : DeskState _ = record {
      conn = c.hand_rows-outcome.new.conn;
      summary = summary_shown c.self.inside.summary;
      last = c.last_by-self-inside.result;
      indexes = c.hand_rows-outcome.new.indexes;
      texts = c.forget_by.new.texts;
      counts = counted c.hand_rows-outcome.new.rows_taken c.self.inside.is_log_long c.self.inside.orphans c.self.inside.draft c.self.inside.filing;
    } in
    subst (λ (d : DeskState _). OnlyReads g.S.Store d new) c.self.view_is (record {
      survives = c.hand_rows-outcome.ensures.reads.survives;
      stays = found_stays g.S.Store c.args.number c.self.inside.conn c.hand_rows-outcome.new.conn c.hand_rows-outcome.result c.hand_rows-outcome.ensures.reads;
      same = ap (λ (indexes : List (ℕ × List Indexed)). record new { indexes = indexes }) c.hand_rows-outcome.ensures.indexes;
    })
