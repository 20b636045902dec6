use Rattle.std.proofs.Common.{◌+◌, ◌++◌, take, drop, get_or, sym, ap, ◌∙◌, add-one}
use Rattle.std.proofs.lemmas.List.{take_rest}
use Rattle.json.specs.Print.{escape, escape_byte}
use Rattle.http_service.proofs.EscapeLemmas.{escape_some, escape_none}
use Rattle.http_service.proofs.putting.cut_to_escape.Goals as goal

pub returns-in_err-i-clause-octets : goal.returns-in_err-i-clause-octets
returns-in_err-i-clause-octets c = rw c.from_residual.ensures (escape_none c.args.octets.now (sym c.first_to_escape.ensures.place ∙ c.in_err-i.was))

pub returns-clause-octets : goal.returns-clause-octets
returns-clause-octets c =
    let octets = c.args.octets.now in
    let i = c.in_ok-i.i in
    escape_some octets i (sym c.first_to_escape.ensures.place ∙ c.in_ok-i.was)
    ∙ ap (λ l. take i octets ++ (escape_byte (get_or octets i 0) ++ escape l)) (ap (λ n. drop n octets) (sym (add-one i)) ∙ sym (take_rest octets (i + 1)))
