use Rattle.std.proofs.Common.{rules, ◌≡◌, ◌∙◌, sym, ap, Some, codes, option_and_then}
use Rattle.serde_json.specs.Find.{get, as_object, as_array, as_str}
use Rattle.serde_json.specs.View.{view, members_view, items_view}
use Rattle.http_service.proofs.BodyLemmas.{array_is, string_is, count_is, two_is}
use Rattle.http_service.proofs.bodies.virtual_of.Goals as goal

pub returns-then-len-ne2 : goal.returns-then-len-ne2
returns-then-len-ne2 c items title v =
    let e : Some (members_view c.in_ok-as_object.field-0.now.entries) ≡ as_object (view c.args.value.now) = rw c.in_ok-as_object.was at c.as_object.ensures in
    c.if-len-ne2.true (c.len.ensures.len ∙ two_is _ _ items title e v)

pub returns : goal.returns
returns c =
    let e : Some (members_view c.in_ok-as_object.field-0.now.entries) ≡ as_object (view c.args.value.now) = rw c.in_ok-as_object.was at c.as_object.ensures in
    let m : option_and_then as_array (get (codes "members") (view c.args.value.now)) ≡ Some (items_view c.as_slice-members.result.now) = search rules in
    let t : option_and_then as_str (get (codes "title") (view c.args.value.now)) ≡ Some c.in_ok-title.title.now = search rules in
    record {
      two = count_is _ _ e ∙ ap Some (sym c.len.ensures.len ∙ c.if-len-ne2.false);
      members = array_is _ _ m;
      title_is = string_is _ _ t;
    }
