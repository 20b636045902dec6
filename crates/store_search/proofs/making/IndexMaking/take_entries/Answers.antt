use Rattle.std.proofs.Common.{sym, subst}
use Rattle.std.specs.List.{All}
use Rattle.std.specs.Str.{IsUtf8}
use Rattle.store_search.specs.Entries.{keys_of}
use Rattle.store_search.proofs.making.IndexMaking.take_entries.Goals as goal

pub returns-clause-text : goal.returns-clause-text
returns-clause-text c = subst (λ entries. All IsUtf8 (keys_of entries)) (sym c.replace.ensures.value) c.keys-known.ensures.text
