use Rattle.std.proofs.Common.{◌+◌, ◌∷◌, ◌++◌, take, drop, get_or, sym, ap, ◌∙◌, add-one}
use Rattle.std.specs.List.{flat_map}
use Rattle.std.proofs.lemmas.List.{take_rest}
use Rattle.dict_proto.specs.Text.{escaped}
use Rattle.dict_proto.proofs.QuotedLemmas.{flat_map-escaped_some, flat_map-escaped_none}
use Rattle.dict_proto.proofs.quoted.cut_to_escape.Goals as goal

pub returns-in_err-i-clause-octets : goal.returns-in_err-i-clause-octets
returns-in_err-i-clause-octets c = rw c.from_residual.ensures (flat_map-escaped_none c.args.octets.now (sym c.first_to_escape.ensures.place ∙ c.in_err-i.was))

pub returns-clause-octets : goal.returns-clause-octets
returns-clause-octets c =
    let octets = c.args.octets.now in
    let i = c.in_ok-i.i in
    flat_map-escaped_some octets i (sym c.first_to_escape.ensures.place ∙ c.in_ok-i.was)
    ∙ ap (λ l. take i octets ++ (92 ∷ get_or octets i 0 ∷ flat_map escaped l)) (ap (λ n. drop n octets) (sym (add-one i)) ∙ sym (take_rest octets (i + 1)))
