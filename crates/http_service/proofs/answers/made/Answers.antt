use Rattle.std.proofs.Common.{◌++◌, ◌∙◌, ap, append_assoc}
use Rattle.http_service.proofs.answers.made.Goals as goal

pub returns : goal.returns
returns c =
    c.in_ok-extend_from_slice.ensures.items ∙ (ap (λ v. v.items ++ c.args.body.now) c.into_bytes-octets.ensures.value
    ∙ (ap (λ l. l ++ c.args.body.now) c.in_ok-head.ensures.ok ∙ simp (c.code-code.ensures, c.reason-reason.ensures, append_assoc)))
