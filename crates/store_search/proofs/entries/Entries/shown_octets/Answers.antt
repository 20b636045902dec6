use Rattle.std.proofs.Common.{ap, ◌∙◌}
use Rattle.store_search.specs.Entries.{Indexed, entry_at}
use Rattle.store_search.proofs.StoredLemmas.{shown_at}
use Rattle.store_search.proofs.entries.Entries.shown_octets.Goals as goal

pub returns : goal.returns
returns c =
    let here = c.self.inside in
    c.get.ensures ∙ shown_at here.keys here.shown here.spans c.args.at c.self.invariant.keys_size c.self.invariant.texts_size
    ∙ ap (λ (e : Indexed). e.shown) (ap (λ l. entry_at l c.args.at) c.self.view_is)
