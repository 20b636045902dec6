use Rattle.std.proofs.Common.{refl}
use Rattle.matchit.proofs.OnLiterals.{matchit_on_literals}
use Rattle.http_request.proofs.finding.router.Goals as goal

pub returns : goal.returns
unfolding matchit_on_literals
returns c =
    let a = c.in_ok-insert.ensures in
    let b = c.in_ok-insert-2.ensures in
    let d = c.in_ok-insert-3.ensures in
    let e = c.in_ok-insert-4.ensures in
    let f = c.in_ok-insert-5.ensures in
    rw (f.1, e.1, d.1, b.1, a.1, c.new-router.ensures) refl
