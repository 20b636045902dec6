use Rattle.std.proofs.Common.{◌≡◌, ◌==◌, ◌<◌, ◌≤◌, ap, arith, length, get_or, rules}
use Rattle.net_connection.specs.Turns.{marked}
use Rattle.net_driver.proofs.ListLemmas.{change_none, change_more, change_whole, default_free, taken_whole}
use Rattle.net_driver.proofs.turning.mark_one.Goals as goal

pub loop-one-init : goal.loop-one-init
loop-one-init g c = rw c.deref_mut-one-items.ensures.value (change_none (λ old new. new ≡ marked (old.id == c.args.id) old) c.args.all.now.items)

pub loop-one-preserved : goal.loop-one-preserved
loop-one-preserved g c =
    let now = c.loop-one.one-items in
    let i = c.loop-one.one-index in
    let one = get_or now i c.one-item.result in
    let in_now : i < length now = search rules in
    change_more (λ old new. new ≡ marked (old.id == c.args.id) old) c.args.all.now.items now i one c.mark_if.new.self in_now (default_free now i one c.one-item.result in_now)
    c.mark_if.ensures c.loop-one.invariant

pub returns-clause-marks : goal.returns-clause-marks
returns-clause-marks g c =
    let whole : c.args.all.now.len ≡ length c.loop-one.one-items = search rules in
    let all : length c.deref_mut-one-items.result.now ≡ length c.args.all.now.items = ap length c.deref_mut-one-items.ensures.value in
    let done : length c.args.all.now.items ≤ c.loop-one.one-index = omega (arith, all, c.loop-one-test.false) in
    rw taken_whole
    (record { len = c.loop-one.invariant.len; marks = change_whole (λ old new. new ≡ marked (old.id == c.args.id) old) c.args.all.now.items c.loop-one.one-items c.loop-one.one-index done c.loop-one.invariant })
