use Rattle.std.proofs.Common.{◌≡◌, ◌<◌, ◌≤◌, ℕ, true, false, rules, length, get_or, arith, sym, ap, subst, ◌∙◌}
use Rattle.dict_session.specs.Desks.{condition}
use Rattle.http_service.specs.Foreseeing.{IsToldAnew}
use Rattle.net_connection.specs.Foreseen.{HoldsBack, KeepsOrder}
use Rattle.net_driver.specs.Turning.{first_of, is_other}
use Rattle.net_driver.proofs.BoolLemmas.{so_still, so_then}
use Rattle.net_connection.proofs.LeadLemmas.{led_as, led_joined, led_still}
use Rattle.net_driver.proofs.ListLemmas.{default_free, idle_more, ids_more, ids_same, taken_whole}
use Rattle.net_driver.proofs.LeaveLemmas.{only_turned}
use Rattle.net_driver.proofs.RoundLemmas.{keeps_more, keeps_whole, turn_none, turn_more, turn_whole}
use Rattle.net_driver.proofs.turning.turn_all.Goals.{then-turn, else-turn}
use Rattle.net_driver.proofs.turning.turn_all.Goals as goal

pub loop-one-init : goal.loop-one-init
loop-one-init g c =
    rw c.deref_mut-one-items.ensures.value (record {
      ids = ids_same c.args.all.now.items;
      idle = λ still k d before within. absurd (omega (arith, before));
      trust = λ trusted. trusted;
      beside = λ beside kept. kept;
      closed = λ is. is;
      others = λ other held apart has. has;
      led = led_still (
        turn_none (condition g.K.Lookup.has_failed g.K.Lookup.is_closed)
            (IsToldAnew g.K.Lookup.shows g.K.Lookup.leaves_one_of g.K.Lookup.keeps_beside g.K.Lookup.is_trusted g.K.Lookup.has_failed g.K.Lookup.is_closed g.K.Preparer.expects)
            g.K.Preparer.prepares g.T.Transport.taken g.T.Transport.coming g.T.Transport.made g.O.Opening.refuses c.args.hub.now
            c.args.desk.now c.args.all.now.items c.first_of-first.result
            (c.first_of-first.ensures ∙ ap (λ all. first_of all) c.as_slice.ensures.value),
        λ had. had,
      );
    })

pub loop-one-preserved : goal.loop-one-preserved
loop-one-preserved g c =
    let now = c.loop-one.one-items in
    let i = c.loop-one.one-index in
    let one = get_or now i c.one-item.result in
    let ids = c.loop-one.invariant.ids in
    let len : length now ≡ length c.args.all.now.items = ids.len in
    let in_now : i < length now = search rules in
    let within : i < length c.args.all.now.items = omega arith in
    let same : c.is_other-is_behind.result ≡ is_other c.loop-one.first one.id = c.is_other-is_behind.ensures ∙ ap (λ (i : ℕ). is_other c.loop-one.first i) c.id.ensures in
    let was : (d : _) → (get_or c.args.all.now.items i d).id ≡ one.id = λ d. sym (ids.same i d within) ∙ ap (λ it. it.id) (default_free now i d c.one-item.result in_now) in
    record {
      ids = ids_more c.args.all.now.items now i c.turn.new.self c.one-item.result ids in_now c.turn.ensures.id;
      idle = elim c.if-turn.branch [
        | then-turn w ↦ λ still. absurd (let never : true ≡ false = sym w.has_moved-is ∙ still in cc)
        | else-turn w ↦ λ still. idle_more now i c.turn.new.self in_now (c.loop-one.invariant.idle (sym w.has_moved-is ∙ still)) (c.turn.ensures.idle w.if-turn.false)
      ];
      trust = λ trusted. c.loop-one.invariant.trust (c.turn.ensures.trust trusted);
      beside = λ beside kept. c.turn.ensures.beside beside (c.loop-one.invariant.beside beside kept);
      closed = λ is. c.turn.ensures.closed (c.loop-one.invariant.closed is);
      others = keeps_more c.args.all.now.items i one c.args.hub.now c.loop-one.hub c.turn.new.hub within was c.loop-one.invariant.others c.turn.ensures.others;
      led = led_joined c.loop-one.invariant.led c.turn.ensures.led c.turn.ensures.trust
          (λ es fs all turns. (
            turn_more (condition g.K.Lookup.has_failed g.K.Lookup.is_closed)
                (IsToldAnew g.K.Lookup.shows g.K.Lookup.leaves_one_of g.K.Lookup.keeps_beside g.K.Lookup.is_trusted g.K.Lookup.has_failed g.K.Lookup.is_closed g.K.Preparer.expects)
                g.K.Preparer.prepares g.T.Transport.taken g.T.Transport.coming g.T.Transport.made g.O.Opening.refuses
                c.args.hub.now c.loop-one.hub c.args.desk.now c.loop-one.desk c.turn.new.desk c.args.all.now.items now i one c.turn.new.self c.loop-one.first _ c.loop-one.has_moved c.turn.result _ es fs c.requires within
                (default_free now i one c.one-item.result in_now)
                c.first_since-first.ensures
                (elim c.if-turn.branch [
                  | then-turn w ↦ so_then _ c.loop-one.has_moved c.turn.result w.has_moved-is w.if-turn.true
                  | else-turn w ↦ so_still _ c.loop-one.has_moved c.turn.result w.has_moved-is w.if-turn.false
                ])
                c.loop-one.invariant.others turns.0 turns.1 turns.2
                (subst (λ b. KeepsOrder b one.held.kind c.loop-one.hub fs) same turns.3) (subst (λ b. HoldsBack
                (IsToldAnew g.K.Lookup.shows g.K.Lookup.leaves_one_of g.K.Lookup.keeps_beside g.K.Lookup.is_trusted g.K.Lookup.has_failed g.K.Lookup.is_closed g.K.Preparer.expects)
                g.K.Preparer.prepares b c.loop-one.hub c.loop-one.desk c.turn.new.desk one c.turn.new.self) same
                c.turn.ensures.prepared)
                c.turn.ensures.closed all.0,
            λ had. only_turned c.loop-one.hub c.turn.new.hub now i one c.turn.new.self in_now (default_free now i one c.one-item.result in_now) c.turn.ensures.id c.turn.ensures.others turns.4 (all.1 had),
          ));
    }

pub returns-clause-led : goal.returns-clause-led
returns-clause-led g c =
    let whole : c.args.all.now.len ≡ length c.loop-one.one-items = search rules in
    let all : length c.deref_mut-one-items.result.now ≡ length c.args.all.now.items = ap length c.deref_mut-one-items.ensures.value in
    let done : length c.args.all.now.items ≤ c.loop-one.one-index = omega (arith, all, c.loop-one-test.false) in
    rw taken_whole
    (led_as c.loop-one.invariant.led
    (λ events up_to. (
      turn_whole (condition g.K.Lookup.has_failed g.K.Lookup.is_closed)
          (IsToldAnew g.K.Lookup.shows g.K.Lookup.leaves_one_of g.K.Lookup.keeps_beside g.K.Lookup.is_trusted g.K.Lookup.has_failed g.K.Lookup.is_closed g.K.Preparer.expects)
          g.K.Preparer.prepares g.T.Transport.taken g.T.Transport.coming g.T.Transport.made g.O.Opening.refuses c.args.hub.now
          c.args.desk.now _ c.args.all.now.items c.loop-one.one-items c.loop-one.one-index c.loop-one.first c.loop-one.has_moved events done up_to.0,
      up_to.1,
    )))

pub returns-clause-others : goal.returns-clause-others
returns-clause-others g c =
    let all : length c.deref_mut-one-items.result.now ≡ length c.args.all.now.items = ap length c.deref_mut-one-items.ensures.value in
    let done : length c.args.all.now.items ≤ c.loop-one.one-index = omega (arith, all, c.loop-one-test.false) in
    keeps_whole c.args.all.now.items c.loop-one.one-index c.args.hub.now c.loop-one.hub done c.loop-one.invariant.others

pub returns-clause-idle : goal.returns-clause-idle
returns-clause-idle g c =
    let whole : c.args.all.now.len ≡ length c.loop-one.one-items = search rules in
    let ids = c.loop-one.invariant.ids in
    let len : length c.loop-one.one-items ≡ length c.args.all.now.items = ids.len in
    let all : length c.deref_mut-one-items.result.now ≡ length c.args.all.now.items = ap length c.deref_mut-one-items.ensures.value in
    rw taken_whole (λ still k d within. c.loop-one.invariant.idle still k d (omega (arith, len, all, within, c.loop-one-test.false)) within)

pub returns-clause-ids : goal.returns-clause-ids
returns-clause-ids g c =
    let ids = c.loop-one.invariant.ids in
    let len : length c.loop-one.one-items ≡ length c.args.all.now.items = ids.len in
    let whole : c.args.all.now.len ≡ length c.loop-one.one-items = search rules in
    rw taken_whole (λ k d within. ids.same k d (omega (arith, whole, len, within)))
