-- The texts that drop the tables.
use Rattle.std.proofs.Common.{◌≡◌, ◌⊎◌, ◌≤◌, ℕ, [], length, Ok, Err, refl, lit≤}
use Rattle.sqlite.specs.State.{State, Executes, ExecutesInside, Fails, IsUnchanged}
use Rattle.sqlite.specs.declared.error.Error.{Error}
use Rattle.sqlite.specs.Compile.{first}
use Rattle.sqlite_tied.specs.Compute.{everything}
use Rattle.sqlite_syntax.specs.declared.statement.Parsed.{Parsed}
use Rattle.store_tables.specs.Effects.{Has}
use Rattle.store_older_sql.specs.Drops.{IsDropped}
use Rattle.store_tables.specs.Refusals.{RefusesToDrop}
use Rattle.store_tables.proofs.TextLemmas.{parsed_or}
use Rattle.store_older_sql.proofs.DropLemmas.{ReadsDrop, drops, fails}
use Rattle.store_tables.specs.Keyed.{entry_with_keys, word, gram, keyed_table_of}
use Rattle.store_older_sql.specs.Texts.{keyed_drop_text}
use Rattle.store_tables.specs.declared.keyed.KeyedTable.{KeyedTable}
use Rattle.store_tables.specs.declared.keyed.KeyedTable.TheVariants as keyed

-- all of the text is read, and it names no value
abbrev IsRead : KeyedTable → Parsed → Type 0
IsRead table p = (length (keyed_drop_text table) ≤ p.tail) × (0 ≡ length p.names)

unfoldable pub read_entry : Parsed
unfolding everything
read_entry = parsed_or (first (keyed_drop_text keyed.Entry))

reads_entry : ReadsDrop (keyed_drop_text keyed.Entry) read_entry entry_with_keys
unfolding everything read_entry
reads_entry = record { read = refl; statement = λ tree. refl; formats = refl; unreserved = λ tree. refl; uncounted = λ tree. refl; named = λ tree. refl }

whole_entry : IsRead keyed.Entry read_entry
unfolding everything read_entry
whole_entry = (lit≤ tt, refl)

unfoldable pub read_word : Parsed
unfolding everything
read_word = parsed_or (first (keyed_drop_text keyed.Word))

reads_word : ReadsDrop (keyed_drop_text keyed.Word) read_word word
unfolding everything read_word
reads_word = record { read = refl; statement = λ tree. refl; formats = refl; unreserved = λ tree. refl; uncounted = λ tree. refl; named = λ tree. refl }

whole_word : IsRead keyed.Word read_word
unfolding everything read_word
whole_word = (lit≤ tt, refl)

unfoldable pub read_gram : Parsed
unfolding everything
read_gram = parsed_or (first (keyed_drop_text keyed.Gram))

reads_gram : ReadsDrop (keyed_drop_text keyed.Gram) read_gram gram
unfolding everything read_gram
reads_gram = record { read = refl; statement = λ tree. refl; formats = refl; unreserved = λ tree. refl; uncounted = λ tree. refl; named = λ tree. refl }

whole_gram : IsRead keyed.Gram read_gram
unfolding everything read_gram
whole_gram = (lit≤ tt, refl)

pub drops_table : (t : KeyedTable) (old new : State) (count : ℕ) → Has (keyed_table_of t) old.now → Executes (keyed_drop_text t) [] old new (Ok count) → IsDropped (keyed_table_of t 0).name old.now new.now
drops_table keyed.Entry old new count = drops (keyed_drop_text keyed.Entry) read_entry entry_with_keys reads_entry old new count
drops_table keyed.Word old new count = drops (keyed_drop_text keyed.Word) read_word word reads_word old new count
drops_table keyed.Gram old new count = drops (keyed_drop_text keyed.Gram) read_gram gram reads_gram old new count

pub drop_fails_in : (t : KeyedTable) (old new : State) (e : Error) → Has (keyed_table_of t) old.now → ExecutesInside 0 (keyed_drop_text t) [] old new (Err e) → (RefusesToDrop (keyed_table_of t 0).name old e × IsUnchanged old new)
    ⊎ Fails old new ⊥ e
drop_fails_in keyed.Entry old new e has = fails (keyed_drop_text keyed.Entry) read_entry entry_with_keys reads_entry whole_entry.0 whole_entry.1 old new has.0 has.1 has.2 e
drop_fails_in keyed.Word old new e has = fails (keyed_drop_text keyed.Word) read_word word reads_word whole_word.0 whole_word.1 old new has.0 has.1 has.2 e
drop_fails_in keyed.Gram old new e has = fails (keyed_drop_text keyed.Gram) read_gram gram reads_gram whole_gram.0 whole_gram.1 old new has.0 has.1 has.2 e
