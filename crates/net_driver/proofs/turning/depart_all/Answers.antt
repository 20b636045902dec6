use Rattle.std.proofs.Common.{◌≡◌, ◌<◌, ◌≤◌, ap, arith, length, get_or, rules}
use Rattle.net_connection.specs.Turns.{Departs}
use Rattle.net_driver.proofs.BoolLemmas.{so_still, so_then}
use Rattle.net_driver.proofs.ListLemmas.{default_free, move_more, move_none, taken_whole}
use Rattle.net_driver.proofs.turning.depart_all.Goals.{then-linger, else-linger}
use Rattle.net_driver.proofs.turning.depart_all.Goals as goal

pub loop-one-init : goal.loop-one-init
loop-one-init g c =
    rw c.deref_mut-one-items.ensures.value (move_none (Departs g.T.Transport.taken g.T.Transport.coming g.T.Transport.made) c.args.all.now.items)

pub loop-one-preserved : goal.loop-one-preserved
loop-one-preserved g c =
    let now = c.loop-one.one-items in
    let i = c.loop-one.one-index in
    let one = get_or now i c.one-item.result in
    let in_now : i < length now = search rules in
    move_more (Departs g.T.Transport.taken g.T.Transport.coming g.T.Transport.made) c.args.all.now.items now i one c.linger.new.self c.loop-one.has_moved c.linger.result _ in_now
    (default_free now i one c.one-item.result in_now)
    (elim c.if-linger.branch [
      | then-linger w ↦ so_then _ c.loop-one.has_moved c.linger.result w.has_moved-is w.if-linger.true
      | else-linger w ↦ so_still _ c.loop-one.has_moved c.linger.result w.has_moved-is w.if-linger.false
    ])
    c.linger.ensures c.loop-one.invariant

pub returns-clause-departs : goal.returns-clause-departs
returns-clause-departs g c =
    let all = c.loop-one.invariant in
    let whole : c.args.all.now.len ≡ length c.loop-one.one-items = search rules in
    let every : length c.deref_mut-one-items.result.now ≡ length c.args.all.now.items = ap length c.deref_mut-one-items.ensures.value in
    let done : length c.args.all.now.items ≤ c.loop-one.one-index = omega (arith, every, c.loop-one-test.false) in
    rw taken_whole
    (record {
      len = all.len;
      moves = all.moves;
      count = let count = all.count in let within = all.within in omega (arith, done, count, within);
      departs = λ k d within. all.changes k d (omega (arith, done, within)) within;
      has_moved = all.has_moved;
    })
