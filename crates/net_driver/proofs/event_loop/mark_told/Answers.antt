use Rattle.std.proofs.Common.{◌≡◌, ◌==◌, ◌+◌, ◌<◌, ◌∙◌, ℕ, refl, sym, ap, take, length, add-one, rules}
use Rattle.std.specs.Prelude.{◌||◌}
use Rattle.net_driver.specs.Looking.{tells}
use Rattle.net_driver.proofs.LookLemmas.{mark_joined, mark_none, tells_more}
use Rattle.net_driver.proofs.event_loop.mark_told.Goals as goal

pub loop-place-init : goal.loop-place-init
loop-place-init g c = record { opened = mark_none c.args.connections.now.opened.items; departing = mark_none c.args.connections.now.departing.items; last = refl }

pub loop-place-preserved : goal.loop-place-preserved
loop-place-preserved g c =
    let told = g.S.Sockets.told c.args.sockets.now in
    let i = c.loop-place.place in
    let within : i < length told = search rules in
    let more : (id : ℕ) → tells (take (i + 1) told) id ≡ tells (take i told) id || (id == c.told_at.result)
    = λ id. rw add-one (tells_more told i id 0 within ∙ ap (λ (n : ℕ). tells (take i told) id || (id == n)) (sym (c.told_at.ensures 0))) in
    record {
      opened = mark_joined (tells (take i told)) (λ one. one == c.told_at.result) (tells (take (i + 1) told)) _ _ _ more c.loop-place.invariant.opened c.mark_readable.ensures.opened;
      departing = mark_joined (tells (take i told)) (λ one. one == c.told_at.result) (tells (take (i + 1) told)) _ _ _ more c.loop-place.invariant.departing c.mark_readable.ensures.departing;
      last = c.mark_readable.ensures.last ∙ c.loop-place.invariant.last;
    }
