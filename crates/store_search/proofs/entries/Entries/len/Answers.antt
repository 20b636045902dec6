use Rattle.std.proofs.Common.{◌≡◌, length, ap, sym, ◌∙◌, rules}
use Rattle.store_search.proofs.StoredLemmas.{size_stored}
use Rattle.store_search.proofs.entries.Entries.len.Goals as goal

pub returns : goal.returns
returns c =
    let here = c.self.inside in
    let many : c.len.result ≡ length here.spans = search rules in
    many ∙ sym (size_stored here.keys here.shown here.spans c.self.invariant.keys_size c.self.invariant.texts_size) ∙ ap length c.self.view_is
