-- Rows that are added to a table one after another.
use Rattle.std.proofs.Common.{◌≡◌, ◌≢◌, ◌++◌, ◌∙◌, ℕ, List, [], ◌∷◌, map, drop, refl, sym, ap, subst, append_assoc, append-nil, IsPermutation}
use Rattle.std.proofs.lemmas.List.Sorted.{IsPermutation-refl, IsPermutation-map, IsPermutation-trans, IsPermutation-sym, IsPermutation-push_more, IsPermutation-append}
use Rattle.std.specs.List.{AllByRecursion}
use Rattle.sqlite.specs.Effect.{Database}
use Rattle.sqlite.specs.Order.{Row}
use Rattle.sqlite.specs.Schema.{Schema}
use Rattle.sqlite.specs.Table.{Table}
use Rattle.store_tables.specs.Found.{found_table}
use Rattle.store_tables.specs.Added.{AreAdded}
use Rattle.store_tables.specs.Effects.{IsAdded, rows_of}
use Rattle.store_tables.proofs.Callers.{apart_added}
use Rattle.store_tables.proofs.KitLemmas.{all_from}
use Rattle.store_tables.proofs.RemoveLemmas.{both_all}

pub none_added : (name : List ℕ) (db : Database) → AreAdded name [] db db
none_added name db = record {
  schema = refl;
  rows = subst (λ (l : List Row). IsPermutation l (map (drop 1) (rows_of name db))) (sym (append-nil (map (drop 1) (rows_of name db)))) (IsPermutation-refl (map (drop 1) (rows_of name db)));
  apart = λ h. h;
  others = λ table is. all_from _ db.schema.tables (λ t listed _. refl);
  sound = λ h. h;
}

-- one row is a list of one
pub one_is_added : (name : List ℕ) (row : Row) (old new : Database) → IsAdded name row old new → AreAdded name (row ∷ []) old new
one_is_added name row old new one = record {
  schema = one.schema;
  rows = IsPermutation-push_more (map (drop 1) (rows_of name old)) (map (drop 1) (rows_of name old)) (map (drop 1) (rows_of name new)) row (IsPermutation-refl (map (drop 1) (rows_of name old))) (IsPermutation-map (drop 1) _ _ one.rows);
  apart = apart_added name row old new one;
  others = one.others;
  sound = λ _. one.sound;
}

module _ (name : List ℕ) (done more : List Row) (old mid new : Database) (before : AreAdded name done old mid) (then : AreAdded name more mid new) where
  pub more_added : AreAdded name (done ++ more) old new
  more_added = record {
    schema = then.schema ∙ before.schema;
    rows = subst (λ (l : List Row). IsPermutation l (map (drop 1) (rows_of name new))) (append_assoc (map (drop 1) (rows_of name old)) done more)
        (IsPermutation-trans _ _ _ (IsPermutation-append (map (drop 1) (rows_of name old) ++ done) (map (drop 1) (rows_of name mid)) more more before.rows (IsPermutation-refl more)) then.rows);
    apart = λ h. then.apart (before.apart h);
    others = λ table is.
        let first = before.others table is in
        let second = then.others table (ap (λ (s : Schema). found_table s name) before.schema ∙ is) in
        both_all (λ (t : Table). t.tree ≢ table.tree → mid.trees t.tree ≡ old.trees t.tree) (λ t. t.tree ≢ table.tree → new.trees t.tree ≡ mid.trees t.tree) (λ t. t.tree ≢ table.tree → new.trees t.tree ≡ old.trees t.tree)
        (λ t a b other. b other ∙ a other) old.schema.tables first
        (subst (λ (s : Schema). AllByRecursion (λ (t : Table). t.tree ≢ table.tree → new.trees t.tree ≡ mid.trees t.tree) s.tables) before.schema second);
    sound = λ h. then.sound (before.sound h);
  }

pub one_added : (name : List ℕ) (done : List Row) (row : Row) (old mid new : Database) → AreAdded name done old mid → IsAdded name row mid new → AreAdded name (done ++ row ∷ []) old new
one_added name done row old mid new before one = more_added name done (row ∷ []) old mid new before (one_is_added name row mid new one)

-- in whatever order the rows are listed
pub added_as : (name : List ℕ) (rows same : List Row) (old new : Database) → IsPermutation rows same → AreAdded name rows old new → AreAdded name same old new
added_as name rows same old new are it = record {
  schema = it.schema;
  rows = IsPermutation-trans _ _ _ (IsPermutation-append (map (drop 1) (rows_of name old)) (map (drop 1) (rows_of name old)) same rows (IsPermutation-refl (map (drop 1) (rows_of name old))) (IsPermutation-sym _ _ are)) it.rows;
  apart = it.apart;
  others = it.others;
  sound = it.sound;
}
