use Rattle.std.proofs.Common.{◌≡◌, ◌≤◌, ◌++◌, length, ◌∙◌, ap, arith}
use Rattle.net_outlet.specs.Outlets.{carried}
use Rattle.net_outlet.specs.Queues.{waiting}
use Rattle.net_outlet.proofs.OutletLemmas.{cut_short, halves, joined, on_err, on_err_of}
use Rattle.net_outlet.proofs.outlet.Outlet.put_all.Goals as goal

pub returns-in_err-append-clause-some : goal.returns-in_err-append-clause-some
returns-in_err-append-clause-some g c =
    let l = c.loop-rest in
    let after = c.append.new.self in
    let same : carried after.taken after.queue ≡ carried l.self.taken l.self.queue = ap (λ t. t.octets ++ waiting after.queue) c.append.ensures.taken ∙ ap (λ w. l.self.taken.octets ++ w) c.in_err-append.ensures.none in
    let put = cut_short _ _ l.rest.now c.args.bytes.now (ap (λ w. w ++ l.rest.now) same ∙ l.invariant.whole) l.invariant.within in
    on_err c.from_residual.result _ put

pub returns-then-not-send-clause-some : goal.returns-then-not-send-clause-some
returns-then-not-send-clause-some g c =
    let l = c.loop-rest in
    let a = c.split_at.result.0.now in
    let b = c.split_at.result.1.now in
    let w = c.in_ok-append.ensures.all in
    let now : carried c.send.new.self.taken c.send.new.self.queue ≡ l.self.taken.octets ++ (waiting l.self.queue ++ a)
    = c.send.ensures.carried ∙ ap (λ t. t.octets ++ waiting c.append.new.self.queue) c.append.ensures.taken ∙ ap (λ x. l.self.taken.octets ++ x) w in
    let rest : a ++ b ≡ l.rest.now = halves _ a b l.rest.now c.split_at.ensures.front c.split_at.ensures.back in
    let whole : carried c.send.new.self.taken c.send.new.self.queue ++ b ≡ carried c.args.self.now.taken c.args.self.now.queue ++ c.args.bytes.now
    = ap (λ x. x ++ b) now ∙ joined l.self.taken.octets (waiting l.self.queue) a b l.rest.now rest ∙ l.invariant.whole in
    let fits : length b ≤ length c.args.bytes.now = omega (arith, l.invariant.within, c.split_at.ensures.back_len) in
    let put = cut_short _ _ b c.args.bytes.now whole fits in
    put

pub returns-clause-some : goal.returns-clause-some
returns-clause-some g c =
    let l = c.loop-rest in
    let after = c.append-2.new.self in
    on_err_of c.append-2.result _ _
    (λ same. cut_short _ _ l.rest.now c.args.bytes.now (ap (λ t. (t.octets ++ waiting after.queue) ++ l.rest.now) c.append-2.ensures.taken ∙ ap (λ w. (l.self.taken.octets ++ w) ++ l.rest.now) same ∙ l.invariant.whole) l.invariant.within)
    c.append-2.ensures.none
