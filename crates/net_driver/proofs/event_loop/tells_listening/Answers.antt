use Rattle.std.proofs.Common.{◌<◌, ◌∙◌, sym, add-one, length, rules}
use Rattle.std.proofs.lemmas.Bool.{eq-eqb, ne_eqb}
use Rattle.net_driver.proofs.LookLemmas.{tells_at, tells_not}
use Rattle.net_driver.proofs.event_loop.tells_listening.Goals as goal

pub returns-then-told_at-eq0 : goal.returns-then-told_at-eq0
returns-then-told_at-eq0 g c =
    let told = g.S.Sockets.told c.args.sockets.now in
    let within : c.loop-place.place < length told = search rules in
    sym (tells_at told c.loop-place.place 0 0 within (eq-eqb 0 _ (sym (c.if-told_at-eq0.true) ∙ c.told_at.ensures 0)))

pub loop-place-preserved : goal.loop-place-preserved
loop-place-preserved g c =
    let told = g.S.Sockets.told c.args.sockets.now in
    let within : c.loop-place.place < length told = search rules in
    rw add-one (tells_not told c.loop-place.place 0 0 within c.loop-place.invariant (ne_eqb 0 _ (λ same. c.if-told_at-eq0.false (c.told_at.ensures 0 ∙ sym same))))
