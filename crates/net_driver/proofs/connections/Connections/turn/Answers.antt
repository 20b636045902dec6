use Rattle.std.proofs.Common.{◌≡◌, ◌≢◌, ◌≤◌, ◌∙◌, All, ap, ◌++◌, length, rules, refl, false}
use Rattle.std.proofs.lemmas.List.Elements.{All-filter, filter_from_retain}
use Rattle.std.specs.List.{filter}
use Rattle.dict_session.specs.Desks.{condition}
use Rattle.http_service.specs.Foreseeing.{IsToldAnew}
use Rattle.net_connection.specs.Stages.{is_departing, is_held, is_open}
use Rattle.net_driver.specs.Rounds.{TurnEach, connections_fitting, latest}
use Rattle.net_connection.specs.Turns.{HasNothingToDo}
use Rattle.net_connection.proofs.LeadLemmas.{led_as}
use Rattle.net_driver.proofs.LeaveLemmas.{only_parted}
use Rattle.net_driver.proofs.ListLemmas.{HaveSameIds, apart_kept, ids_kept, rising_kept}
use Rattle.net_driver.proofs.RoundLemmas.{depart_ids, departed_closed, moves_turned}
use Rattle.net_driver.proofs.connections.Connections.turn.Goals as goal

pub returns-then-departed-clause-led : goal.returns-then-departed-clause-led
returns-then-departed-clause-led g c =
    led_as c.turn_all-turned.ensures.led (λ events turned.
    let each : TurnEach (condition g.K.Lookup.has_failed g.K.Lookup.is_closed)
    (IsToldAnew g.K.Lookup.shows g.K.Lookup.leaves_one_of g.K.Lookup.keeps_beside g.K.Lookup.is_trusted g.K.Lookup.has_failed g.K.Lookup.is_closed g.K.Preparer.expects)
    g.K.Preparer.prepares g.T.Transport.taken g.T.Transport.coming g.T.Transport.made g.O.Opening.refuses c.args.hub.now
    c.args.desk.now c.turn_all-turned.new.desk c.args.self.now c.settle.new.self c.depart_all-departed.result events = record {
      departed = c.depart_all-departed.new.all.items;
      by_departing = c.depart_all-departed.result;
      departs = c.depart_all-departed.ensures.departs;
      turned = c.turn_all-turned.new.all.items;
      by_open = c.turn_all-turned.result;
      turns = turned.0;
      opened = c.settle.ensures.opened;
      departing = c.settle.ensures.departing ∙ ap (λ l. connections_fitting 33554432 (latest 128 (l ++ filter (λ one. is_departing one.stage) c.turn_all-turned.new.all.items)))
          (filter_from_retain _ (λ one. is_held one.stage) (λ p x b q t. search rules) _ _ _ c.retain.ensures.filtered);
      last = c.settle.ensures.last;
      has_moved = rw c.if-departed.true refl;
    } in (
      moves_turned c.args.self.now c.settle.new.self c.depart_all-departed.result events each,
      turned.0.are_turns,
      turned.0.by_id,
      each,
      only_parted c.args.hub.now c.turn_all-turned.new.hub c.args.self.now.opened.items c.turn_all-turned.new.all.items c.settle.new.self.opened.items c.settle.ensures.opened turned.1,
    ))

pub returns-else-departed-clause-led : goal.returns-else-departed-clause-led
returns-else-departed-clause-led g c =
    led_as c.turn_all-turned.ensures.led (λ events turned.
    let each : TurnEach (condition g.K.Lookup.has_failed g.K.Lookup.is_closed)
    (IsToldAnew g.K.Lookup.shows g.K.Lookup.leaves_one_of g.K.Lookup.keeps_beside g.K.Lookup.is_trusted g.K.Lookup.has_failed g.K.Lookup.is_closed g.K.Preparer.expects)
    g.K.Preparer.prepares g.T.Transport.taken g.T.Transport.coming g.T.Transport.made g.O.Opening.refuses c.args.hub.now
    c.args.desk.now c.turn_all-turned.new.desk c.args.self.now c.settle.new.self c.turn_all-turned.result events = record {
      departed = c.depart_all-departed.new.all.items;
      by_departing = c.depart_all-departed.result;
      departs = c.depart_all-departed.ensures.departs;
      turned = c.turn_all-turned.new.all.items;
      by_open = c.turn_all-turned.result;
      turns = turned.0;
      opened = c.settle.ensures.opened;
      departing = c.settle.ensures.departing ∙ ap (λ l. connections_fitting 33554432 (latest 128 (l ++ filter (λ one. is_departing one.stage) c.turn_all-turned.new.all.items)))
          (filter_from_retain _ (λ one. is_held one.stage) (λ p x b q t. search rules) _ _ _ c.retain.ensures.filtered);
      last = c.settle.ensures.last;
      has_moved = rw c.if-departed.false refl;
    } in (
      moves_turned c.args.self.now c.settle.new.self c.turn_all-turned.result events each,
      turned.0.are_turns,
      turned.0.by_id,
      each,
      only_parted c.args.hub.now c.turn_all-turned.new.hub c.args.self.now.opened.items c.turn_all-turned.new.all.items c.settle.new.self.opened.items c.settle.ensures.opened turned.1,
    ))

pub returns-else-departed-clause-idle : goal.returns-else-departed-clause-idle
returns-else-departed-clause-idle g c = λ still. rw c.settle.ensures.opened (All-filter (λ one. is_open one.stage) (λ one. HasNothingToDo one) c.turn_all-turned.new.all.items (c.turn_all-turned.ensures.idle still))

-- the same ids in the same places
ids_turned : (g : _) (c : goal.After-turn_all-turned g) → HaveSameIds c.args.self.now.opened.items c.turn_all-turned.new.all.items
ids_turned g c =
    let len : length c.turn_all-turned.new.all.items ≡ length c.args.self.now.opened.items = search rules in
    let whole : c.args.self.now.opened.len ≡ length c.args.self.now.opened.items = search rules in
    record { len = len; same = λ k d within. c.turn_all-turned.ensures.ids k d (rw whole within) }

held : (g : _) (c : goal.After-turn_all-turned g) → c.retain.new.self.items ≡ filter (λ one. is_held one.stage) c.depart_all-departed.new.all.items
held g c = filter_from_retain _ (λ one. is_held one.stage) (λ p x b q t. search rules) _ _ _ c.retain.ensures.filtered

pub invariant_of-self-clause-rising : goal.invariant_of-self-clause-rising
invariant_of-self-clause-rising g c = rising_kept c.args.self.now.opened.items c.turn_all-turned.new.all.items (ids_turned g c) c.args.self.now.rising

pub invariant_of-self-clause-given_open : goal.invariant_of-self-clause-given_open
invariant_of-self-clause-given_open g c =
    ids_kept (λ i. i ≤ c.args.self.now.last) c.args.self.now.opened.items c.turn_all-turned.new.all.items (ids_turned g c) c.args.self.now.given_open

pub invariant_of-self-clause-given_departing : goal.invariant_of-self-clause-given_departing
invariant_of-self-clause-given_departing g c =
    let departing = c.args.self.now.departing.items in
    let departed = c.depart_all-departed.new.all.items in
    rw (held g c)
    (All-filter (λ one. is_held one.stage) (λ one. one.id ≤ c.args.self.now.last) departed
    (ids_kept (λ i. i ≤ c.args.self.now.last) departing departed (depart_ids departing departed c.depart_all-departed.ensures.departs) c.args.self.now.given_departing))

pub invariant_of-self-clause-closed : goal.invariant_of-self-clause-closed
invariant_of-self-clause-closed g c =
    let departing = c.args.self.now.departing.items in
    let departed = c.depart_all-departed.new.all.items in
    rw (held g c)
    (All-filter (λ one. is_held one.stage) (λ one. is_open one.stage ≡ false) departed (departed_closed departing departed c.depart_all-departed.ensures.departs c.args.self.now.closed))

pub invariant_of-self-clause-apart : goal.invariant_of-self-clause-apart
invariant_of-self-clause-apart g c =
    let departing = c.args.self.now.departing.items in
    let departed = c.depart_all-departed.new.all.items in
    let turned = c.turn_all-turned.new.all.items in
    rw (held g c)
    (All-filter (λ one. is_held one.stage) (λ b. All (λ a. a.id ≢ b.id) turned) departed
    (apart_kept c.args.self.now.opened.items turned departing departed (ids_turned g c) (depart_ids departing departed c.depart_all-departed.ensures.departs) c.args.self.now.apart))
