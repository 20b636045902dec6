use Rattle.std.proofs.Common.{◌≡◌, true, ◌&&◌, sym, ap, ◌∙◌}
use Rattle.std.specs.Str.{is_utf8}
use Rattle.std.proofs.lemmas.Str.{is_utf8-from_IsUtf8}
use Rattle.dict_text.specs.Names.{is_title}
use Rattle.store_rows.proofs.lawful.is_text_title.Goals as goal

pub returns : goal.returns
returns c =
    let text = c.args.title.now in
    let utf8 : is_utf8 text ≡ true = is_utf8-from_IsUtf8 text c.utf8.title in
    c.is_title.ensures ∙ sym (ap (λ b. b && is_title text) utf8)
