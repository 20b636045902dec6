use Rattle.std.proofs.Common.{[], ap, sym, ◌∙◌, subst}
use Rattle.std.specs.Str.{IsUtf8}
use Rattle.std.proofs.lemmas.Str.{IsUtf8-nil}
use Rattle.store_search.specs.Entries.{Indexed, entry_at}
use Rattle.store_search.proofs.StoredLemmas.{shown_at, text_at}
use Rattle.store_search.proofs.entries.Entries.shown.Goals as goal

pub returns-in-Ok : goal.returns-in-Ok
returns-in-Ok c =
    let here = c.self.inside in
    c.in-Ok.ensures.cases.0 ∙ c.get.ensures ∙ shown_at here.keys here.shown here.spans c.args.at c.self.invariant.keys_size c.self.invariant.texts_size
    ∙ ap (λ (e : Indexed). e.shown) (ap (λ l. entry_at l c.args.at) c.self.view_is)

pub returns-in-Err : goal.returns-in-Err
returns-in-Err c =
    let here = c.self.inside in
    let none : IsUtf8 [] = IsUtf8-nil in
    absurd (c.in-Err.ensures.cases.0 (subst IsUtf8 (sym c.get.ensures) (text_at here.shown c.args.at c.self.invariant.texts_text none)))
