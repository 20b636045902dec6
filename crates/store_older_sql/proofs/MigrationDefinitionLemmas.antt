-- The forms of `entry`, and the tables of words and grams, are defined for whichever tree they are made in.
use Rattle.std.proofs.Common.{◌≡◌, ◌==◌, ℕ, true, refl, arith}
use Rattle.store_tables.specs.Definitions.{IsDefinition}
use Rattle.store_tables.specs.Keyed.{word, gram}
use Rattle.store_older_sql.specs.Entries.{entry_table_of}
use Rattle.store_older_sql.specs.declared.entries.EntryForm.{EntryForm}
use Rattle.store_older_sql.specs.declared.entries.EntryForm.TheVariants.{Plain, Keyed, Shown}

itself : (n : ℕ) → (n == n) ≡ true
itself n = search arith

pub form_defined : (form : EntryForm) → IsDefinition (entry_table_of form)
form_defined Plain = record { same = λ n. refl; unreferring = refl; keyed = λ n m. (rw (itself n) refl, tt) }
form_defined Keyed = record { same = λ n. refl; unreferring = refl; keyed = λ n m. (rw (itself n) refl, tt) }
form_defined Shown = record { same = λ n. refl; unreferring = refl; keyed = λ n m. (rw (itself n) refl, tt) }

pub word_defined : IsDefinition word
word_defined = record { same = λ n. refl; unreferring = refl; keyed = λ n m. (rw (itself n) refl, tt) }

pub gram_defined : IsDefinition gram
gram_defined = record { same = λ n. refl; unreferring = refl; keyed = λ n m. (rw (itself n) refl, tt) }
