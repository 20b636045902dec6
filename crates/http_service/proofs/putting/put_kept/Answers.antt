use Rattle.dict_catalogue.specs.Views.{kept_shown}
use Rattle.dict_proto.proofs.PutLemmas.{puts_err}
use Rattle.http_service.proofs.EscapeLemmas.{after_edition, after_name, after_number, after_verb}
use Rattle.http_service.proofs.putting.put_kept.Goals as goal

pub returns-in_err-put_edition : goal.returns-in_err-put_edition
returns-in_err-put_edition g c =
    puts_err _ _ _ _ c.from_residual.ensures.0 (after_edition (kept_shown c.args.kept.now) _ _ c.in_err-put_edition.ensures)

pub returns-in_err-put_name : goal.returns-in_err-put_name
returns-in_err-put_name g c =
    puts_err _ _ _ _ c.from_residual-in_err-put_name.ensures.0
    (after_name (kept_shown c.args.kept.now) _ _ _ c.in_ok-put_edition.ensures (rw c.as_str.ensures.value at c.in_err-put_name.ensures))

pub returns-in_err-put_number : goal.returns-in_err-put_number
returns-in_err-put_number g c =
    puts_err _ _ _ _ c.from_residual-in_err-put_number.ensures.0
    (after_number (kept_shown c.args.kept.now) _ _ _ _ c.in_ok-put_edition.ensures (rw c.as_str.ensures.value at c.in_ok-put_name.ensures) c.in_err-put_number.ensures)

pub returns : goal.returns
returns g c =
    after_verb (kept_shown c.args.kept.now) c.put_all.result _ _ _ _ _ c.in_ok-put_edition.ensures (rw c.as_str.ensures.value at c.in_ok-put_name.ensures)
    c.in_ok-put_number.ensures (rw (← c.verb_text-verb.ensures, ← c.as_bytes.ensures.value) c.put_all.ensures)
