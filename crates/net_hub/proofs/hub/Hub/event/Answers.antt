use Rattle.std.proofs.Common.{◌≡◌, ◌∙◌, ap, sym, subst, refl}
use Rattle.std.specs.Prelude.{IfErr, IfOk, true, false}
use Rattle.dict_proto.specs.Streams.{change}
use Rattle.net_hub.specs.Books.{IsRefusal, opening}
use Rattle.net_hub.specs.Hubs.{HasHolding, connection_count, greatest_of}
use Rattle.net_hub.specs.Events.{happening, asks_desk, opened, came, ended, id_of, count_after, held_after}
use Rattle.net_hub.specs.Runs.{LeadsOn}
use Rattle.net_hub.specs.declared.fault.HubFault.TheVariants.{UnknownConnection}
use Rattle.net_hub.proofs.EventLemmas.{refusal_of, serves_piece, own_piece, through_piece, quiet_piece}
use Rattle.net_hub.proofs.RunLemmas.{leads_on, serves_opened, serves_ended, own_ended, on_ok, refused_unless, count_piece, count_ended, count_opened}
use Rattle.dict_session.specs.Desks.{condition}
use Rattle.net_hub.proofs.hub.Hub.event.Goals as goal

pub returns-in-Bytes-clause-serves : goal.returns-in-Bytes-clause-serves
returns-in-Bytes-clause-serves g c = λ trusted M shown held at.
    let e : happening c.args.event ≡ came c.in-Bytes.id c.in-Bytes.piece.now = ap happening c.in-Bytes.is in
    let there : HasHolding c.args.self.now c.in-Bytes.id held = subst (λ what. HasHolding c.args.self.now (id_of what) held) e at in
    serves_piece c.args.self.now.host.now (condition g.K.Lookup.has_failed g.K.Lookup.is_closed c.bytes.new.desk) (g.K.Lookup.shows c.bytes.new.desk) (g.K.Lookup.leaves_one_of c.args.desk.now) (g.K.Lookup.leaves_one_of c.bytes.new.desk) M
    held (happening c.args.event) c.in-Bytes.id c.in-Bytes.piece.now (g.S.Sink.stream c.args.sink.now) (g.S.Sink.stream c.bytes.new.sink) c.bytes.result e
    (λ none. c.bytes.ensures.unknown (subst (λ one. HasHolding c.args.self.now c.in-Bytes.id one) none there))
    (λ one some. c.bytes.ensures.gets trusted M shown one (subst (λ it. HasHolding c.args.self.now c.in-Bytes.id it) some there))

pub returns-in-Bytes-clause-own : goal.returns-in-Bytes-clause-own
returns-in-Bytes-clause-own g c = λ trusted M shown held at.
    let e : happening c.args.event ≡ came c.in-Bytes.id c.in-Bytes.piece.now = ap happening c.in-Bytes.is in
    let there : HasHolding c.args.self.now c.in-Bytes.id held = subst (λ what. HasHolding c.args.self.now (id_of what) held) e at in
    own_piece c.bytes.new.self held (happening c.args.event) c.in-Bytes.id c.in-Bytes.piece.now c.bytes.result e
    (λ none. c.bytes.ensures.unknown (subst (λ one. HasHolding c.args.self.now c.in-Bytes.id one) none there))
    (λ one some. c.bytes.ensures.own trusted M shown one (subst (λ it. HasHolding c.args.self.now c.in-Bytes.id it) some there))

pub returns-in-Opened-clause-leads : goal.returns-in-Opened-clause-leads
returns-in-Opened-clause-leads g c = λ trusted origin start events state stands leads at shown here.
    let what = opened c.in-Opened.id c.in-Opened.kind in
    let desk = condition g.K.Lookup.has_failed g.K.Lookup.is_closed c.args.desk.now in
    let put = change g.S.Sink.stream c.args.sink.now c.opened.new.sink in
    subst (λ it. IfOk c.opened.result (λ out. LeadsOn (g.K.Lookup.shows c.args.desk.now) (g.K.Lookup.leaves_one_of c.args.desk.now) origin start events state stands it out desk put c.opened.new.self))
    (sym (ap happening c.in-Opened.is))
    (leads_on (g.K.Lookup.shows c.args.desk.now) (g.K.Lookup.leaves_one_of c.args.desk.now) (g.K.Lookup.leaves_one_of c.args.desk.now) origin start events state stands
    what desk put c.args.self.now c.opened.new.self c.opened.result leads at here
    (λ held there. serves_opened c.args.self.now.host.now desk (g.K.Lookup.shows c.args.desk.now) (g.K.Lookup.leaves_one_of c.args.desk.now) (g.K.Lookup.leaves_one_of c.args.desk.now) stands.catalogue
    held c.in-Opened.id c.in-Opened.kind put.old put.new c.opened.result (record { shows = shown; leaves = λ ms before. before }) c.opened.ensures.greets)
    (λ held there. c.opened.ensures.own)
    c.opened.ensures.others c.opened.ensures.greatest c.opened.ensures.host
    (λ held there. c.opened.ensures.tests)
    (λ held there. count_opened c.args.self.now (connection_count c.opened.new.self) c.in-Opened.id c.in-Opened.kind held c.opened.result c.args.self.now.book.given there c.opened.ensures.tests c.opened.ensures.count))

pub returns-in-Bytes-clause-leads : goal.returns-in-Bytes-clause-leads
returns-in-Bytes-clause-leads g c = λ trusted origin start events state stands leads at shown here.
    let what = came c.in-Bytes.id c.in-Bytes.piece.now in
    let desk = condition g.K.Lookup.has_failed g.K.Lookup.is_closed c.bytes.new.desk in
    let put = change g.S.Sink.stream c.args.sink.now c.bytes.new.sink in
    subst (λ it. IfOk c.bytes.result (λ out. LeadsOn (g.K.Lookup.shows c.bytes.new.desk) (g.K.Lookup.leaves_one_of c.bytes.new.desk) origin start events state stands it out desk put c.bytes.new.self))
    (sym (ap happening c.in-Bytes.is))
    (leads_on (g.K.Lookup.shows c.bytes.new.desk) (g.K.Lookup.leaves_one_of c.args.desk.now) (g.K.Lookup.leaves_one_of c.bytes.new.desk) origin start events state stands
    what desk put c.args.self.now c.bytes.new.self c.bytes.result leads at here
    (λ held there. serves_piece c.args.self.now.host.now desk (g.K.Lookup.shows c.bytes.new.desk) (g.K.Lookup.leaves_one_of c.args.desk.now) (g.K.Lookup.leaves_one_of c.bytes.new.desk) stands.catalogue
    held what c.in-Bytes.id c.in-Bytes.piece.now put.old put.new c.bytes.result refl
    (λ none. c.bytes.ensures.unknown (subst (λ one. HasHolding c.args.self.now c.in-Bytes.id one) none there))
    (λ one some. c.bytes.ensures.gets trusted stands.catalogue shown one (subst (λ it. HasHolding c.args.self.now c.in-Bytes.id it) some there)))
    (λ held there. own_piece c.bytes.new.self held what c.in-Bytes.id c.in-Bytes.piece.now c.bytes.result refl
    (λ none. c.bytes.ensures.unknown (subst (λ one. HasHolding c.args.self.now c.in-Bytes.id one) none there))
    (λ one some. c.bytes.ensures.own trusted stands.catalogue shown one (subst (λ it. HasHolding c.args.self.now c.in-Bytes.id it) some there)))
    (on_ok c.bytes.result c.bytes.ensures.others) (on_ok c.bytes.result c.bytes.ensures.greatest) c.bytes.ensures.host
    (λ held there. refused_unless held c.bytes.result (λ none. c.bytes.ensures.unknown (subst (λ one. HasHolding c.args.self.now c.in-Bytes.id one) none there)))
    (λ held there. count_piece (connection_count c.args.self.now) (connection_count c.bytes.new.self) held c.in-Bytes.piece.now c.bytes.result
    (λ none. c.bytes.ensures.unknown (subst (λ one. HasHolding c.args.self.now c.in-Bytes.id one) none there))
    (λ one some. c.bytes.ensures.count one (subst (λ it. HasHolding c.args.self.now c.in-Bytes.id it) some there)) c.in-Bytes.id))

pub returns-in-Ended-clause-leads : goal.returns-in-Ended-clause-leads
returns-in-Ended-clause-leads g c = λ trusted origin start events state stands leads at shown here.
    let what = ended c.in-Ended.id in
    let desk = condition g.K.Lookup.has_failed g.K.Lookup.is_closed c.args.desk.now in
    let put = change g.S.Sink.stream c.args.sink.now c.args.sink.now in
    subst (λ it. IfOk c.ended.result (λ out. LeadsOn (g.K.Lookup.shows c.args.desk.now) (g.K.Lookup.leaves_one_of c.args.desk.now) origin start events state stands it out desk put c.ended.new.self))
    (sym (ap happening c.in-Ended.is))
    (leads_on (g.K.Lookup.shows c.args.desk.now) (g.K.Lookup.leaves_one_of c.args.desk.now) (g.K.Lookup.leaves_one_of c.args.desk.now) origin start events state stands
    what desk put c.args.self.now c.ended.new.self c.ended.result leads at here
    (λ held there. serves_ended c.args.self.now.host.now desk (g.K.Lookup.shows c.args.desk.now) (g.K.Lookup.leaves_one_of c.args.desk.now) (g.K.Lookup.leaves_one_of c.args.desk.now) stands.catalogue
    held c.in-Ended.id put.old UnknownConnection c.ended.result (record { shows = shown; leaves = λ ms before. before })
    (λ none. c.ended.ensures.unknown (subst (λ one. HasHolding c.args.self.now c.in-Ended.id one) none there))
    (λ one some. (c.ended.ensures.known one (subst (λ it. HasHolding c.args.self.now c.in-Ended.id it) some there)).0))
    (λ held there. own_ended c.ended.new.self held c.in-Ended.id UnknownConnection c.ended.result
    (λ none. c.ended.ensures.unknown (subst (λ one. HasHolding c.args.self.now c.in-Ended.id one) none there))
    (λ one some. (c.ended.ensures.known one (subst (λ it. HasHolding c.args.self.now c.in-Ended.id it) some there)).1))
    (on_ok c.ended.result c.ended.ensures.others) (on_ok c.ended.result c.ended.ensures.greatest) c.ended.ensures.host
    (λ held there. refused_unless held c.ended.result (λ none. c.ended.ensures.unknown (subst (λ one. HasHolding c.args.self.now c.in-Ended.id one) none there)))
    (λ held there. count_ended (connection_count c.args.self.now) (connection_count c.ended.new.self) held c.ended.result
    (λ none. c.ended.ensures.unknown (subst (λ one. HasHolding c.args.self.now c.in-Ended.id one) none there)) c.ended.ensures.count c.in-Ended.id))

pub returns-in-Opened-clause-opening : goal.returns-in-Opened-clause-opening
returns-in-Opened-clause-opening g c = λ id kind is.
    let same : c.in-Opened.id ≡ id = ap id_of (sym (ap happening c.in-Opened.is) ∙ is) in
    subst (λ i. IfErr c.opened.result (λ fault. IsRefusal (opening i (greatest_of c.args.self.now) (connection_count c.args.self.now)) fault)) same
    (refusal_of (opening c.in-Opened.id (greatest_of c.args.self.now) (connection_count c.args.self.now)) c.opened.result c.opened.ensures.tests c.opened.ensures.memory)

pub returns-in-Bytes-clause-opening : goal.returns-in-Bytes-clause-opening
returns-in-Bytes-clause-opening g c = λ id kind is. absurd (let never : came c.in-Bytes.id c.in-Bytes.piece.now ≡ opened id kind = sym (ap happening c.in-Bytes.is) ∙ is in cc)

pub returns-in-Ended-clause-opening : goal.returns-in-Ended-clause-opening
returns-in-Ended-clause-opening g c = λ id kind is. absurd (let never : ended c.in-Ended.id ≡ opened id kind = sym (ap happening c.in-Ended.is) ∙ is in cc)

pub returns-in-Opened-clause-count : goal.returns-in-Opened-clause-count
returns-in-Opened-clause-count g c = λ held at.
    let what = opened c.in-Opened.id c.in-Opened.kind in
    let e : happening c.args.event ≡ what = ap happening c.in-Opened.is in
    subst (λ it. IfOk c.opened.result (λ out. connection_count c.opened.new.self ≡ count_after (connection_count c.args.self.now) held (held_after held it out))) (sym e)
    (count_opened c.args.self.now (connection_count c.opened.new.self) c.in-Opened.id c.in-Opened.kind held c.opened.result c.args.self.now.book.given (subst (λ it. HasHolding c.args.self.now (id_of it) held) e at)
    c.opened.ensures.tests c.opened.ensures.count)

pub returns-in-Bytes-clause-count : goal.returns-in-Bytes-clause-count
returns-in-Bytes-clause-count g c = λ held at.
    let what = came c.in-Bytes.id c.in-Bytes.piece.now in
    let e : happening c.args.event ≡ what = ap happening c.in-Bytes.is in
    let there : HasHolding c.args.self.now c.in-Bytes.id held = subst (λ it. HasHolding c.args.self.now (id_of it) held) e at in
    subst (λ it. IfOk c.bytes.result (λ out. connection_count c.bytes.new.self ≡ count_after (connection_count c.args.self.now) held (held_after held it out))) (sym e)
    (count_piece (connection_count c.args.self.now) (connection_count c.bytes.new.self) held c.in-Bytes.piece.now c.bytes.result
    (λ none. c.bytes.ensures.unknown (subst (λ one. HasHolding c.args.self.now c.in-Bytes.id one) none there))
    (λ one some. c.bytes.ensures.count one (subst (λ it. HasHolding c.args.self.now c.in-Bytes.id it) some there)) c.in-Bytes.id)

pub returns-in-Ended-clause-count : goal.returns-in-Ended-clause-count
returns-in-Ended-clause-count g c = λ held at.
    let what = ended c.in-Ended.id in
    let e : happening c.args.event ≡ what = ap happening c.in-Ended.is in
    let there : HasHolding c.args.self.now c.in-Ended.id held = subst (λ it. HasHolding c.args.self.now (id_of it) held) e at in
    subst (λ it. IfOk c.ended.result (λ out. connection_count c.ended.new.self ≡ count_after (connection_count c.args.self.now) held (held_after held it out))) (sym e)
    (count_ended (connection_count c.args.self.now) (connection_count c.ended.new.self) held c.ended.result (λ none. c.ended.ensures.unknown (subst (λ one. HasHolding c.args.self.now c.in-Ended.id one) none there))
    c.ended.ensures.count c.in-Ended.id)

pub returns-in-Bytes-clause-unasked : goal.returns-in-Bytes-clause-unasked
returns-in-Bytes-clause-unasked g c = λ isnt. absurd (let never : true ≡ false = sym (ap (λ it. asks_desk (happening it)) c.in-Bytes.is) ∙ isnt in cc)

pub returns-in-Bytes-clause-through : goal.returns-in-Bytes-clause-through
returns-in-Bytes-clause-through g c = λ trusted M shown held at.
    let e : happening c.args.event ≡ came c.in-Bytes.id c.in-Bytes.piece.now = ap happening c.in-Bytes.is in
    let there : HasHolding c.args.self.now c.in-Bytes.id held = subst (λ what. HasHolding c.args.self.now (id_of what) held) e at in
    through_piece c.args.self.now.host.now M (g.K.Lookup.is_closed c.args.desk.now) (condition g.K.Lookup.has_failed g.K.Lookup.is_closed c.bytes.new.desk)
    held (happening c.args.event) c.in-Bytes.id c.in-Bytes.piece.now (g.S.Sink.stream c.args.sink.now) (g.S.Sink.stream c.bytes.new.sink) c.bytes.result e
    (λ none. c.bytes.ensures.unknown (subst (λ one. HasHolding c.args.self.now c.in-Bytes.id one) none there))
    (λ one some. c.bytes.ensures.through trusted M shown one (subst (λ it. HasHolding c.args.self.now c.in-Bytes.id it) some there))

pub returns-in-Bytes-clause-quiet : goal.returns-in-Bytes-clause-quiet
returns-in-Bytes-clause-quiet g c = λ trusted M shown held at quiet.
    let e : happening c.args.event ≡ came c.in-Bytes.id c.in-Bytes.piece.now = ap happening c.in-Bytes.is in
    let there : HasHolding c.args.self.now c.in-Bytes.id held = subst (λ what. HasHolding c.args.self.now (id_of what) held) e at in
    quiet_piece M held (happening c.args.event) c.in-Bytes.id c.in-Bytes.piece.now c.bytes.result e
    (λ none. c.bytes.ensures.unknown (subst (λ one. HasHolding c.args.self.now c.in-Bytes.id one) none there)) c.bytes.ensures.desk
    (λ one some. c.bytes.ensures.quiet trusted M shown one (subst (λ it. HasHolding c.args.self.now c.in-Bytes.id it) some there)) quiet
