use Rattle.std.proofs.Common.{ap, ◌∙◌}
use Rattle.store_search.specs.Entries.{Indexed, entry_at}
use Rattle.store_derived.specs.declared.spans.Span.{Span}
use Rattle.store_search.proofs.StoredLemmas.{any_span_at}
use Rattle.store_search.proofs.entries.Entries.span.Goals as goal

pub returns : goal.returns
returns c =
    let here = c.self.inside in
    let there = any_span_at here.keys here.shown here.spans c.args.at c.self.invariant.keys_size c.self.invariant.texts_size in
    let seen = ap (λ l. entry_at l c.args.at) c.self.view_is in
    record {
      start = ap (λ (s : Span). s.start) c.get.ensures ∙ there.0 ∙ ap (λ (e : Indexed). e.start) seen;
      size = ap (λ (s : Span). s.size) c.get.ensures ∙ there.1 ∙ ap (λ (e : Indexed). e.size) seen;
    }
