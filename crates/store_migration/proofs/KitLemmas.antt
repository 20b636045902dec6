-- What the proofs of this crate name most: of calls and what they leave, and of tables.
use Rattle.std.proofs.Common.{◌≡◌, ℤ, arith}
use Rattle.std.proofs.lemmas.Int.{to_z-of_z}
use mir.Syntax.{w64}
use mir.Val.{SFits, to_z, of_z}
use Rattle.sqlite.specs.Tree.{Trees}
use Rattle.sqlite.specs.State.{State, HasCleanDisk, Survives}
use Rattle.sqlite.proofs.StateLemmas.{survives_then}
pub use Rattle.sqlite.specs.Effect.{Database, IsDatabase}
pub use Rattle.sqlite.specs.Held.{Held, state}
pub use Rattle.sqlite.specs.Schema.{Schema}
pub use Rattle.sqlite.specs.State.{State, HasCleanDisk, KeepsCommit, Survives}
pub use Rattle.sqlite.specs.Table.{Table}
pub use Rattle.sqlite.specs.Order.{Row}
pub use Rattle.store_tables.specs.Records.{HeaderRecord, EntryRecord, EditionRecord, Mark, Part, header_of}
pub use Rattle.store_tables.specs.Definitions.{IsDefinition}
pub use Rattle.store_tables.specs.Found.{HasOwn}
pub use Rattle.store_tables.specs.Tables.{mark, item, member, kept, edition, table_of}
pub use Rattle.store_tables.proofs.MadeLemmas.{store_defined, name_in, tree_in}
pub use Rattle.store_tables.specs.Added.{AreAdded}
pub use Rattle.store_tables.specs.Creates.{IsFree, IsMade, MadeInTurn}
pub use Rattle.store_tables.specs.Effects.{seen, rows_of, IsAdded, SameOthers, HasApartRowids, equals_number}
pub use Rattle.store_tables.proofs.Callers.{apart_none, own_has, still_has}
pub use Rattle.store_older_sql.proofs.DroppedLemmas.{own_in}
pub use Rattle.store_tables.proofs.MakeLemmas.{one_keeps, one_own, one_rows, keeps_then, goes_keeps}
pub use Rattle.store_sql.proofs.StreamLemmas.{passed_on}
pub use Rattle.store_sql.specs.Encodings.{mark_row, edition_row}
pub use Rattle.store_sql.specs.HeaderTable.{header}
pub use Rattle.store_sql.proofs.HeaderDefinitionLemmas.{header_defined}
pub use Rattle.store_sql.specs.PartTable.{part}
pub use Rattle.store_sql.proofs.PartDefinitionLemmas.{part_defined}
pub use Rattle.store_sql.specs.PartRecords.{part_row, lent_part}
pub use Rattle.store_older_sql.specs.Entries.{entry_table_of}
pub use Rattle.store_older_sql.proofs.CopyLemmas.{keeps_none, none_more, unchanged_keeps, list_keeps}
pub use Rattle.store_older_sql.proofs.MigrationDefinitionLemmas.{form_defined, word_defined, gram_defined}
pub use Rattle.store_rows.specs.Written.{mark_record}

-- a column gives a number back
pub signed_back : (n : ℤ) → SFits w64 n → to_z w64 (of_z w64 n) ≡ n
signed_back n fits = to_z-of_z w64 n fits

-- a disk that is clean was so before
pub was_clean : {old new : State} {Commits : Trees → Type 0} → Survives old new Commits → HasCleanDisk new → HasCleanDisk old
was_clean s clean = omega (arith, s.clean)

pub two_survive : (a b c : State) → Survives a b (λ _. ⊥) → Survives b c (λ _. ⊥) → Survives a c (λ _. ⊥)
two_survive a b c one two = survives_then a b c (λ _. ⊥) (λ _. ⊥) (λ _. ⊥) (λ _ db none. none) (λ _ db none. none) one two

pub three_survive : (a b c d : State) → Survives a b (λ _. ⊥) → Survives b c (λ _. ⊥) → Survives c d (λ _. ⊥) → Survives a d (λ _. ⊥)
three_survive a b c d one two three = two_survive a c d (two_survive a b c one two) three
