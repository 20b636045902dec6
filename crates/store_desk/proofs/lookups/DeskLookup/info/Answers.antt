use Rattle.std.proofs.Common.{◌≡◌, inr, ℕ, Bool, false, true, refl, sym, ap, subst, arith, rules}
use Rattle.std.specs.Prelude.{IsErr, IfErr, OnOk, Result, Ok, Err}
use Rattle.std.proofs.lemmas.Bool.{false≢true}
use Rattle.sqlite.specs.Effect.{Database}
use Rattle.dict_index.specs.Edition.{Edition}
use Rattle.sqlite.specs.State.{HasCleanDisk}
use Rattle.sqlite.specs.Held.{state}
use Rattle.dict_catalogue.specs.Views.{summary_shown}
use Rattle.store_holdings.specs.Holds.{Holds}
use Rattle.store_rows.specs.Versions.{known}
use Rattle.store_holdings.specs.Searches.{IsOfStore}
use Rattle.store_holdings.proofs.AskLemmas.{clean_first, reads_most}
use Rattle.store_holdings.proofs.HeldLemmas.{held_one, held_tables}
use Rattle.store_desk.specs.Desk.{DeskState, Shows, LeavesOneOf, is_closed, KeepsBeside}
use Rattle.store_desk.specs.Left.{CountsLook, counted}
use Rattle.store_desk.specs.OnlyReads.{OnlyReads}
use Rattle.store_desk.proofs.CauseLemmas.{found_gives_way}
use Rattle.store_desk.proofs.BesideLemmas.{beside_on}
use Rattle.store_desk.proofs.DeskLemmas.{found_stays, leaves_on, desk_on, handed_by, shows_on}
use Rattle.store_desk.proofs.SeenLemmas.{own_seen, seen}
use Rattle.dict_desk.specs.Handing.{Hands}
use Rattle.dict_index.specs.Found.{info_rows}
use Rattle.dict_desk.specs.declared.fault.Fault.{Fault}
use Rattle.dict_desk.specs.declared.lookup.End.{End}
use Rattle.dict_desk.specs.declared.lookup.End.TheVariants.{All}
use Rattle.store_holdings.specs.Taken.{more_taken, LooksAt}
use Rattle.store_desk.proofs.lookups.DeskLookup.info.Goals as goal

pub info-outcome-requires : goal.info-outcome-requires
info-outcome-requires g c = λ clean live.
    let before : is_closed c.self.inside.last ≡ false = search rules in
    held_tables (state g.S.Store c.self.inside.conn).now (own_seen g.S.Store c.self.inside.last (summary_shown c.self.inside.summary) c.self.inside.filing c.self.inside.conn before c.self.invariant.0 clean live)

pub invariant_of-self : goal.invariant_of-self
invariant_of-self g c =
    let before : is_closed c.self.inside.last ≡ false = search rules in
    desk_on g.S.Store c.self.inside.conn c.info-outcome.new.conn (summary_shown c.self.inside.summary) c.self.inside.filing c.self.inside.last c.last_by-self-inside.result before c.self.invariant.0 c.info-outcome.ensures.reads.survives
    (found_stays g.S.Store c.args.number c.self.inside.conn c.info-outcome.new.conn c.info-outcome.result (reads_most c.info-outcome.ensures.reads (λ fault h. inr h)))
    c.info-outcome.ensures.reads.mode c.self.inside.texts c.forget_by.new.texts c.forget_by.ensures c.self.invariant.1.made

pub returns-clause-keeps : goal.returns-clause-keeps
returns-clause-keeps g c =
    let before : is_closed c.self.inside.last ≡ false = search rules in
    let old : DeskState _ = record {
      conn = c.self.inside.conn;
      summary = summary_shown c.self.inside.summary;
      last = c.self.inside.last;
      indexes = c.self.inside.indexes;
      texts = c.self.inside.texts;
      counts = counted c.self.inside.rows_taken c.self.inside.is_log_long c.self.inside.orphans c.self.inside.draft c.self.inside.filing;
    } in
    let new : DeskState _ = record {
      conn = c.info-outcome.new.conn;
      summary = summary_shown c.self.inside.summary;
      last = c.last_by-self-inside.result;
      indexes = c.self.inside.indexes;
      texts = c.forget_by.new.texts;
      counts = counted c.info-outcome.new.rows_taken c.self.inside.is_log_long c.self.inside.orphans c.self.inside.draft c.self.inside.filing;
    } in
    let kinds : IfErr c.info-outcome.result IsOfStore = c.info-outcome.ensures.reads.kinds in
    record {
      trust = λ clean. subst (λ (d : DeskState _). HasCleanDisk (state g.S.Store d.conn)) c.self.view_is (clean_first c.info-outcome.ensures.reads clean);
      beside = λ db kept.
          beside_on g.S.Store old new c.info-outcome.ensures.reads.survives db (subst (λ (d : DeskState _). KeepsBeside g.S.Store d db) (sym c.self.view_is) kept);
      shows = λ clean M shown.
          shows_on g.S.Store c.self.inside.conn c.info-outcome.new.conn (summary_shown c.self.inside.summary) c.self.inside.filing c.self.inside.last c.last_by-self-inside.result before c.self.invariant.0
          c.info-outcome.ensures.reads.survives (found_stays g.S.Store c.args.number c.self.inside.conn c.info-outcome.new.conn c.info-outcome.result (reads_most c.info-outcome.ensures.reads (λ fault h. inr h)))
          c.self.inside.indexes c.self.inside.texts M (subst (λ (d : DeskState _). Shows g.S.Store d M) (sym c.self.view_is) shown) c.forget_by.new.texts c.forget_by.ensures;
      leaves = λ ms left.
          leaves_on g.S.Store old new c.info-outcome.ensures.reads.survives ms (subst (λ (d : DeskState _). LeavesOneOf g.S.Store d ms) (sym c.self.view_is) left);
      kinds = search rules;
      caused = found_gives_way g.S.Store c.args.self.now new c.self.inside.conn (ap (λ (d : DeskState _). d.conn) c.self.view_is) (summary_shown c.self.inside.summary) c.self.inside.filing
          c.self.inside.last before c.self.invariant.0 c.info-outcome.ensures.reads.survives
          c.args.number c.info-outcome.result (reads_most c.info-outcome.ensures.reads (λ fault h. inr h));
      failed = search rules;
      closes = search rules;
      closed = search rules;
    }

pub returns-clause-value : goal.returns-clause-value
returns-clause-value g c = λ clean M edition shown has.
    let before : is_closed c.self.inside.last ≡ false = search rules in
    let honest = clean_first c.info-outcome.ensures.reads clean in
    let ready = subst (λ (d : DeskState _). Shows g.S.Store d M) (sym c.self.view_is) shown in
    handed_by g.T.RowSink.takes g.T.RowSink.stops c.args.sink.now c.info-outcome.new.sink (info_rows edition) c.info-outcome.result (state g.S.Store c.self.inside.conn).is_open
    (λ live.
    let holds = seen g.S.Store c.self.inside.last (summary_shown c.self.inside.summary) c.self.inside.filing c.self.inside.conn before c.self.invariant.0 honest live (λ (db : Database). Holds known db M) (ready.holds before honest live) in
    let one = held_one (state g.S.Store c.self.inside.conn).now M c.args.number edition holds has in
    subst (λ (e : Edition). Hands g.T.RowSink.takes g.T.RowSink.stops c.args.sink.now c.info-outcome.new.sink (info_rows e) c.info-outcome.result) (sym one.2) (c.info-outcome.ensures.value clean one.0 one.1))
    (c.info-outcome.ensures.shut clean) (g.met.T.RowSink.none c.args.sink.now)

-- over a store that may be shut, one row was taken where all was handed out
one_taken : (old new : ℕ) (result : Result End Fault) (live : Bool) → (live ≡ true → OnOk result (new ≡ more_taken old 1)) → (live ≡ false → IsErr result) → result ≡ Ok All → LooksAt old new 1
one_taken old new (Ok end) true taken shut all = omega (arith, taken refl)
one_taken old new (Ok end) false taken shut all = absurd (false≢true (shut refl))
one_taken old new (Err fault) live taken shut all = absurd (let e = all in cc)

pub returns-clause-looks : goal.returns-clause-looks
returns-clause-looks g c = λ clean M edition shown has all.
    let before : is_closed c.self.inside.last ≡ false = search rules in
    let honest = clean_first c.info-outcome.ensures.reads clean in
    let ready = subst (λ (d : DeskState _). Shows g.S.Store d M) (sym c.self.view_is) shown in
    let now = counted c.info-outcome.new.rows_taken c.self.inside.is_log_long c.self.inside.orphans c.self.inside.draft c.self.inside.filing in
    subst (λ (d : DeskState _). CountsLook d.counts now 1) c.self.view_is (record {
      taken = one_taken c.self.inside.rows_taken c.info-outcome.new.rows_taken c.info-outcome.result (state g.S.Store c.self.inside.conn).is_open
          (λ live.
          let holds = seen g.S.Store c.self.inside.last (summary_shown c.self.inside.summary) c.self.inside.filing c.self.inside.conn before c.self.invariant.0 honest live
          (λ (db : Database). Holds known db M) (ready.holds before honest live) in
          let one = held_one (state g.S.Store c.self.inside.conn).now M c.args.number edition holds has in
          c.info-outcome.ensures.taken clean one.0 one.1)
          (λ dead. (c.info-outcome.ensures.shut clean dead).0) all;
      same = refl;
    })

pub returns-clause-reads : goal.returns-clause-reads
returns-clause-reads g c =
    let new : DeskState _ = record {
      conn = c.info-outcome.new.conn;
      summary = summary_shown c.self.inside.summary;
      last = c.last_by-self-inside.result;
      indexes = c.self.inside.indexes;
      texts = c.forget_by.new.texts;
      counts = counted c.info-outcome.new.rows_taken c.self.inside.is_log_long c.self.inside.orphans c.self.inside.draft c.self.inside.filing;
    } in
    subst (λ (d : DeskState _). OnlyReads g.S.Store d new) c.self.view_is (record {
      survives = c.info-outcome.ensures.reads.survives;
      stays = found_stays g.S.Store c.args.number c.self.inside.conn c.info-outcome.new.conn c.info-outcome.result (reads_most c.info-outcome.ensures.reads (λ fault h. inr h));
      same = refl;
    })
