use Rattle.std.proofs.Common.{◌≡◌, ◌++◌, [], ◌∷◌, refl, sym, ◌∙◌, ap, take, drop, length, append_assoc, take-append-drop}
use Rattle.net_outlet.specs.OutletCalls.{MakesCalls, sends}
use Rattle.net_outlet.specs.Queues.{waiting}
use Rattle.net_outlet.proofs.OutletLemmas.{offered, taken_more, taken_same, calls_more, gives_in_vain, none_taken, sent_in_vain, still_full, stuck_full, well_sent}
use Rattle.net_outlet.proofs.outlet.Outlet.send_once.Goals as goal

pub invariant_of-self : goal.invariant_of-self
invariant_of-self g c =
    let old = c.args.self.now in
    let sent = c.sent_by-sent.result in
    let made = g.T.Transport.made in
    let octets = c.as_slice-octets.result.now in
    let noted : c.note.new.self.octets ≡ old.taken.octets ++ take c.in-Ok.count octets = c.note.ensures ∙ ap (λ l. old.taken.octets ++ l) c.split_at.ensures.front in
    let whole : c.note.new.self.octets ++ waiting c.pass.new.self ≡ old.taken.octets ++ waiting old.queue
    = ap (λ l. l ++ waiting c.pass.new.self) noted ∙ append_assoc old.taken.octets (take c.in-Ok.count octets) (waiting c.pass.new.self)
    ∙ ap (λ l. old.taken.octets ++ (take c.in-Ok.count octets ++ l)) c.pass.ensures.waits
    ∙ ap (λ l. old.taken.octets ++ (take c.in-Ok.count l ++ drop c.in-Ok.count (waiting old.queue))) c.as_slice-octets.ensures
    ∙ ap (λ l. old.taken.octets ++ l) (take-append-drop c.in-Ok.count (waiting old.queue)) in
    let room : length c.pass.new.self.refused.octets ≡ g.B.Beginning.counts.refused = ap (λ t. length t.octets) c.pass.ensures.refused ∙ old.room c.requires.well in
    let calls : MakesCalls (made old.transport) (made c.send-outcome.new.self) (sends 1048576 sent ∷ [])
    = offered _ _ _ _ sent c.send-outcome.result c.as_slice-octets.ensures c.requires.full c.sent_by-sent.ensures c.send-outcome.ensures.made in
    record {
      takes = rw noted (taken_more _ _ _ _ _ old.takes (rw c.in-Ok.is at c.send-outcome.ensures.taken));
      keeps = taken_same _ _ _ _ old.keeps c.send-outcome.ensures.coming;
      makes = calls_more _ _ _ _ old.makes calls;
      asks = λ well. rw c.tries_after-self.ensures (well_sent old.tries sent _ _ _ (sym c.gives_up-self.ensures ∙ well) (old.asks c.requires.well) calls);
      stuck = λ failed.
          let gives = sym c.gives_up-self.ensures ∙ failed in
          let none = none_taken sent c.send-outcome.result c.in-Ok.count c.sent_by-sent.ensures c.in-Ok.is (gives_in_vain old.tries sent gives) in
          stuck_full _ _ _ c.pass.new.self (ap length (c.pass.ensures.waits ∙ ap (λ n. drop n (waiting old.queue)) none) ∙ c.requires.full) room
          (sent_in_vain old.tries sent _ _ _ gives (old.asks c.requires.well) calls);
      counts = λ _. c.pass.ensures.failures ∙ old.counts c.requires.well;
      room = λ _. room;
      lazy = λ few. absurd (still_full _ _ _ _ whole c.requires.full few);
    }

pub invariant_of-self-in_default : goal.invariant_of-self-in_default
invariant_of-self-in_default g c =
    let old = c.args.self.now in
    let sent = c.sent_by-sent.result in
    let made = g.T.Transport.made in
    let calls : MakesCalls (made old.transport) (made c.send-outcome.new.self) (sends 1048576 sent ∷ [])
    = offered _ _ _ _ sent c.send-outcome.result c.as_slice-octets.ensures c.requires.full c.sent_by-sent.ensures c.send-outcome.ensures.made in
    record {
      takes = taken_same _ _ _ _ old.takes (rw c.in_default.is at c.send-outcome.ensures.taken);
      keeps = taken_same _ _ _ _ old.keeps c.send-outcome.ensures.coming;
      makes = calls_more _ _ _ _ old.makes calls;
      asks = λ well. rw c.tries_after-self.ensures (well_sent old.tries sent _ _ _ (sym c.gives_up-self.ensures ∙ well) (old.asks c.requires.well) calls);
      stuck = λ failed. stuck_full _ _ _ old.queue c.requires.full (old.room c.requires.well) (sent_in_vain old.tries sent _ _ _ (sym c.gives_up-self.ensures ∙ failed) (old.asks c.requires.well) calls);
      counts = λ _. old.counts c.requires.well;
      room = λ _. old.room c.requires.well;
      lazy = λ few. absurd (still_full _ _ _ _ refl c.requires.full few);
    }
