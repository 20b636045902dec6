use Rattle.std.proofs.Common.{rules, ◌≡◌, ◌∙◌, sym, Some, codes, arith}
use Rattle.serde_json.specs.Find.{get, as_object}
use Rattle.serde_json.specs.View.{view, members_view}
use Rattle.http_service.proofs.BodyLemmas.{one_count, one_is, unsigned_of}
use Rattle.http_service.proofs.bodies.place_of.Goals as goal

pub returns-then-len-ne1 : goal.returns-then-len-ne1
returns-then-len-ne1 c n place =
    let e : Some (members_view c.in_ok-as_object.field-0.now.entries) ≡ as_object (view c.args.value.now) = rw c.in_ok-as_object.was at c.as_object.ensures in
    c.if-len-ne1.true (c.len.ensures.len ∙ one_count (codes "place") _ _ n e place.is)

pub returns : goal.returns
returns c =
    let e : Some (members_view c.in_ok-as_object.field-0.now.entries) ≡ as_object (view c.args.value.now) = rw c.in_ok-as_object.was at c.as_object.ensures in
    let h : unsigned_of (get (codes "place") (view c.args.value.now)) ≡ Some c.in_ok-number.number = search rules in
    record {
      is = one_is (codes "place") _ _ _ e (sym c.len.ensures.len ∙ c.if-len-ne1.false) h;
      fits = omega (arith, c.if-number-from.false, c.from.ensures);
    }
