use Rattle.std.proofs.Common.{ap, ◌∙◌, subst}
use Rattle.std.specs.List.{All}
use Rattle.std.specs.Str.{IsUtf8}
use Rattle.store_search.specs.Entries.{keys_of}
use Rattle.store_search.proofs.StoredLemmas.{keys_stored}
use Rattle.store_search.proofs.entries.Entries.keys.Goals as goal

pub returns-clause-keys : goal.returns-clause-keys
returns-clause-keys c =
    let here = c.self.inside in
    keys_stored here.keys here.shown here.spans c.self.invariant.keys_size c.self.invariant.texts_size ∙ ap keys_of c.self.view_is

pub returns-clause-text : goal.returns-clause-text
returns-clause-text c = subst (All IsUtf8) (returns-clause-keys c) c.self.invariant.keys_text
