use Rattle.std.proofs.Common.{◌≤◌, ◌+◌, length, take, inl, inr, refl, ap, ◌∙◌, subst, arith, codes}
use Rattle.http_request.specs.Fields.{AreValues, values_of}
use Rattle.http_request.proofs.HeadLemmas.{awaited_with_head, needs_with_head, is_request, parsed, all_after, whole_bound}
use Rattle.http_request.proofs.parsing.with_head.Goals as goal

pub returns-in-Refused : goal.returns-in-Refused
returns-in-Refused c =
    needs_with_head c.args.octets.now c.args.front.now c.args.headers.now c.args.head.now _ _ c.requires.front c.requires.room
    c.requires.within c.requires.of c.in-Refused.ensures refl

pub returns-then-rest-size : goal.returns-then-rest-size
returns-then-rest-size c = (
  needs_with_head c.args.octets.now c.args.front.now c.args.headers.now c.args.head.now _ _ c.requires.front c.requires.room
      c.requires.within c.requires.of c.in-Body.ensures (inl (omega (arith, c.if-rest-size.true), refl)),
  awaited_with_head c.args.octets.now c.args.front.now c.args.headers.now c.args.head.now c.in-Body.size c.requires.front c.requires.room c.requires.within c.requires.of c.in-Body.ensures,
)

pub returns : goal.returns
returns c =
    let fits : c.args.head.now.len + c.in-Body.size ≤ length c.args.octets.now = omega (arith, c.if-rest-size.false) in (
      needs_with_head c.args.octets.now c.args.front.now c.args.headers.now c.args.head.now _ _ c.requires.front c.requires.room
          c.requires.within c.requires.of c.in-Body.ensures (inr (fits, refl)),
      parsed c.args.octets.now c.args.front.now c.args.headers.now c.args.head.now c.requires.of c.in-Body.size,
      is_request c.args.octets.now c.args.front.now c.args.headers.now c.args.head.now c.in-Body.size c.requires.front c.requires.room c.requires.within c.requires.of c.in-Body.ensures fits,
      record {
        method = c.of-2.ensures ∙ c.requires.of.1.method;
        target = c.in-Ok.ensures.cases.0 ∙ (c.of.ensures ∙ c.requires.of.1.path);
        ids = subst (λ x. AreValues c.values_of.result (values_of (codes "request-id") x)) c.requires.of.1.fields c.values_of.ensures;
        body = ap (take c.in-Body.size) (all_after c.args.octets.now c.args.head.now.len);
      },
    )

pub overflow_add-result : goal.overflow_add-result
overflow_add-result c =
    let small = whole_bound c.args.octets.now c.args.front.now c.args.headers.now c.args.head.now c.in-Body.size c.requires.front c.requires.within c.in-Body.ensures in
    omega (arith, small)
