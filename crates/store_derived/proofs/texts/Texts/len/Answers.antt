use Rattle.std.proofs.Common.{◌≡◌, length, ap, sym, ◌∙◌, rules}
use Rattle.store_derived.proofs.RunLemmas.{size}
use Rattle.store_derived.proofs.texts.Texts.len.Goals as goal

pub returns : goal.returns
returns c =
    let many : c.len.result ≡ length c.self.inside.begins = search rules in
    many ∙ sym (size c.self.inside.octets.items c.self.inside.begins) ∙ ap length c.self.view_is
