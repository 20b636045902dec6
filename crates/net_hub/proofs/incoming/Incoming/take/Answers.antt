use Rattle.std.proofs.Common.{◌≡◌, ◌<◌, ◌++◌, ℕ, List, length, refl, sym, ap, ◌∙◌, subst, arith, append_assoc, inl, inr}
use Rattle.std.specs.Prelude.{◌⊎◌, Result, Ok, Err}
use Rattle.dict_proto.specs.Streams.{Stream, Puts, PutsAll, PutsFront}
use Rattle.http_service.specs.Answers.{answer_octets}
use Rattle.http_service.specs.Foreseeing.{AsksForCommand}
use Rattle.http_service.specs.Responding.{Responds}
use Rattle.http_service.specs.Settling.{Settles}
use Rattle.std.proofs.lemmas.Grind.{common_steps}
use Rattle.http_request.specs.Heads.{Needs}
use Rattle.http_request.specs.Requests.{IsAwaited, IsReading}
use Rattle.http_request.specs.declared.kinds.Need.TheVariants as needs
use Rattle.http_request.specs.declared.kinds.RequestReading.{RequestReading}
use Rattle.http_request.specs.declared.kinds.RequestReading.TheVariants as readings
use Rattle.http_request.proofs.LawLemmas.{awaits, one}
use Rattle.net_hub.specs.Asking.{IsAwaitedIn}
use Rattle.net_hub.proofs.incoming.Incoming.take.Goals as goal

-- what is awaited of these octets is awaited of them and more
awaited_on : (x y whole : List ℕ) (size : ℕ) → whole ≡ x ++ y → IsAwaitedIn x size → IsAwaitedIn whole size
awaited_on x y whole size is awaited more fewer =
    let same : whole ++ more ≡ x ++ (y ++ more) = ap (λ (l : List ℕ). l ++ more) is ∙ append_assoc x y more in
    subst (λ (o : List ℕ). Needs o needs.More) (sym same) (awaited (y ++ more) (subst (λ (o : List ℕ). length o < size) same fewer))

-- octets that were read otherwise need no more
needs_no_more : (octets : List ℕ) (reading : RequestReading) → IsReading octets reading → ((size : ℕ) → reading ≡ readings.More size → ⊥) → Needs octets needs.More → ⊥
needs_no_more octets (readings.More size) is other given = other size refl
needs_no_more octets (readings.Whole told) is other given = let never : needs.Whole told.len ≡ needs.More = one octets (needs.Whole told.len) needs.More is.0 given in cc
needs_no_more octets (readings.Refused status) is other given = let never : needs.Refused status ≡ needs.More = one octets (needs.Refused status) needs.More is given in cc

pub returns-then-is_err-clause-awaited : goal.returns-then-is_err-clause-awaited
returns-then-is_err-clause-awaited g c = λ awaited. subst (λ o. IsAwaitedIn o c.args.self.now.awaited) (sym c.reserve.ensures.items) awaited

pub returns-then-len-self-clause-awaited : goal.returns-then-len-self-clause-awaited
returns-then-len-self-clause-awaited g c =
    let whole : c.extend_from_slice.new.self.items ≡ c.args.self.now.octets.items ++ c.args.piece.now
    = grind (arith, common_steps, c.extend_from_slice.ensures.items, c.reserve.ensures.items, c.if-is_err-2.ensures.value) in
    λ awaited. awaited_on c.args.self.now.octets.items c.args.piece.now c.extend_from_slice.new.self.items c.args.self.now.awaited whole awaited

pub returns-in-More-clause-awaits : goal.returns-in-More-clause-awaits
returns-in-More-clause-awaits g c = λ so awaited.
    let whole : c.extend_from_slice.new.self.items ≡ c.args.self.now.octets.items ++ c.args.piece.now
    = grind (arith, common_steps, c.extend_from_slice.ensures.items, c.reserve.ensures.items, c.if-is_err-2.ensures.value) in
    record { more = subst (λ o. Needs o needs.More) (c.deref.ensures.value ∙ whole) c.in-More.ensures.0; held_all = whole; nothing = refl }

pub returns-in-More-clause-awaited : goal.returns-in-More-clause-awaited
returns-in-More-clause-awaited g c = λ before more fewer.
    awaits c.extend_from_slice.new.self.items more c.in-More.awaited (subst (λ o. IsAwaited o c.in-More.awaited) c.deref.ensures.value c.in-More.ensures.1) fewer

pub respond-answer-requires : goal.respond-answer-requires
respond-answer-requires g c = record {
  whole = λ given. needs_no_more c.deref.result.now c.read_request.result c.read_request.ensures c.in_default.not-More
      (subst (λ o. Needs o needs.More) (c.deref-2.ensures.value ∙ sym c.deref.ensures.value) given);
}

-- a call put all, or where it failed a front
puts_either : {T E : Type 0} (result : Result T E) (old new : Stream) (octets : List ℕ) → Puts result old new octets → PutsAll old new octets ⊎ PutsFront old new octets
puts_either (Ok value) old new octets puts = inl puts
puts_either (Err fault) old new octets puts = inr puts

pub returns-clause-answers : goal.returns-clause-answers
returns-clause-answers g c = λ close trusted M shown.
    let whole : c.extend_from_slice.new.self.items ≡ c.args.self.now.octets.items ++ c.args.piece.now
    = grind (arith, common_steps, c.extend_from_slice.ensures.items, c.reserve.ensures.items, c.if-is_err-2.ensures.value) in
    let desk = c.respond-answer.new.desk in
    record {
      whole = λ given. needs_no_more c.deref.result.now c.read_request.result c.read_request.ensures c.in_default.not-More (subst (λ o. Needs o needs.More) (sym (c.deref.ensures.value ∙ whole)) given);
      answer = answer_octets c.respond-answer.result;
      responds = subst (λ o. Responds (g.K.Lookup.is_closed desk) (g.K.Lookup.shows desk) (g.K.Lookup.leaves_one_of c.args.desk.now) (g.K.Lookup.leaves_one_of desk) M (Settles M o) (answer_octets c.respond-answer.result))
          (c.deref-2.ensures.value ∙ whole) (c.respond-answer.ensures.responds trusted M shown);
      puts = puts_either c.put.result (g.S.Sink.stream c.args.sink.now) (g.S.Sink.stream c.put.new.sink) (answer_octets c.respond-answer.result) c.put.ensures;
    }

pub returns-clause-shut : goal.returns-clause-shut
returns-clause-shut g c = λ close M shut settled is kind.
    let whole : c.extend_from_slice.new.self.items ≡ c.args.self.now.octets.items ++ c.args.piece.now
    = grind (arith, common_steps, c.extend_from_slice.ensures.items, c.reserve.ensures.items, c.if-is_err-2.ensures.value) in
    let told = c.respond-answer.ensures.shut M shut settled (subst (λ o. Settles M o settled) (sym (c.deref-2.ensures.value ∙ whole)) is) kind in
    let old = g.S.Sink.stream c.args.sink.now in
    let new = g.S.Sink.stream c.put.new.sink in
    subst (λ (o : List ℕ). PutsAll old new o ⊎ PutsFront old new o) told (puts_either c.put.result old new (answer_octets c.respond-answer.result) c.put.ensures)

pub returns-clause-quiet : goal.returns-clause-quiet
returns-clause-quiet g c = λ none.
    let whole : c.extend_from_slice.new.self.items ≡ c.args.self.now.octets.items ++ c.args.piece.now
    = grind (arith, common_steps, c.extend_from_slice.ensures.items, c.reserve.ensures.items, c.if-is_err-2.ensures.value) in
    c.respond-answer.ensures.quiet (subst (λ (o : List ℕ). ¬ AsksForCommand o) (sym (c.deref-2.ensures.value ∙ whole)) none)
