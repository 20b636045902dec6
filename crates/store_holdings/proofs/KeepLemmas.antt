-- What a statement makes of the records that the tables keep.
use Rattle.std.proofs.Common.{◌≡◌, ◌≢◌, ℕ, zero, suc, List, [], ◌∷◌, ◌++◌, map, drop, find, ◌==◌, slice_get, option_and_then, Some, refl, sym, ap, subst, ◌∙◌}
use Rattle.std.specs.List.{AllByRecursion}
use Rattle.std.specs.List.Sorted.{IsPermutation}
use Rattle.std.proofs.lemmas.List.Sorted.{IsPermutation-map, IsPermutation-push_more, IsPermutation-refl}
use Rattle.std.proofs.lemmas.List.{map-append}
use Rattle.sqlite.specs.Effect.{Database}
use Rattle.sqlite.specs.Order.{Row}
use Rattle.sqlite.specs.Table.{Table}
use Rattle.sqlite.specs.Schema.{Schema}
use Rattle.sqlite_schema.specs.Names.{table_named}
use Rattle.store_tables.specs.Found.{HasOwn, HasTable}
use Rattle.store_tables.specs.Effects.{HasApartRowids, IsAdded, SameOthers, rows_of, shown, table_in}
use Rattle.store_tables.proofs.Callers.{apart_added, apart_none}
use Rattle.store_sql.specs.Readings.{Keeps}

at_place : {X : Type 0} (P : X → Type 0) (xs : List X) (at : ℕ) (x : X) → AllByRecursion P xs → slice_get xs at ≡ Some x → P x
at_place P [] at x h e = absurd (cc)
at_place P (y ∷ ys) zero x h e = let same : y ≡ x = cc in subst P same h.0
at_place P (y ∷ ys) (suc at) x h e = at_place P ys at x h.1 e

table_is : (name : List ℕ) (db : Database) (at : ℕ) (t : Table) → table_named db.schema name ≡ Some at → slice_get db.schema.tables at ≡ Some t → table_in name db ≡ Some t
table_is name db at t named is = rw (named) is

rows_are : (name : List ℕ) (db : Database) (t : Table) → table_in name db ≡ Some t → rows_of name db ≡ map (shown t) (db.trees t.tree)
rows_are name db t is = rw is refl

-- two tables of two names are in two trees
trees_apart : (s : Schema) (i k : ℕ) (a b : Table) → HasTable s i a → HasTable s k b → a.name ≢ b.name → b.tree ≢ a.tree
trees_apart s i k a b one two other same =
    let found : find (λ t. t.tree == a.tree) s.tables ≡ Some b = subst (λ n. find (λ t. t.tree == n) s.tables ≡ Some b) same two.alone in
    other (let e : a ≡ b = let f = one.alone in cc in ap (λ (t : Table). t.name) e)

-- another table's rows are as they were
pub unmoved : (name other : List ℕ) (a b : ℕ → Table) (old new : Database) → ((t : ℕ) → (a t).name ≡ name) → ((t : ℕ) → (b t).name ≡ other) → ((t : ℕ) → (a t).tree ≡ t) → name ≢ other
    → HasOwn old.schema a → HasOwn old.schema b → new.schema ≡ old.schema → SameOthers name old new → rows_of other new ≡ rows_of other old
unmoved name other a b old new names others trees apart one two same rest =
    let x : Table = a one.tree in
    let y : Table = b two.tree in
    let there : table_in name old ≡ Some x = table_is name old one.at x (subst (λ n. table_named old.schema n ≡ Some one.at) (names one.tree) one.has.named) one.has.is in
    let was : table_in other old ≡ Some y = table_is other old two.at y (subst (λ n. table_named old.schema n ≡ Some two.at) (others two.tree) two.has.named) two.has.is in
    let now : table_in other new ≡ Some y = subst (λ s. option_and_then (slice_get s.tables) (table_named s other) ≡ Some y) (sym same) was in
    let differ : y.tree ≢ x.tree = trees_apart old.schema one.at two.at x y one.has two.has (λ e. apart (sym (names one.tree) ∙ e ∙ others two.tree)) in
    let still : new.trees y.tree ≡ old.trees y.tree = at_place (λ t. t.tree ≢ x.tree → new.trees t.tree ≡ old.trees t.tree) old.schema.tables two.at y (rest x there) two.has.is differ in
    rows_are other new y now ∙ ap (map (shown y)) still ∙ sym (rows_are other old y was)

-- no row, no record
pub keeps_none : {R : Type 0} (name : List ℕ) (encode : R → Row) (db : Database) → rows_of name db ≡ [] → Keeps name encode db []
keeps_none name encode db empty = record {
  rows = subst (λ (l : List Row). IsPermutation [] (map (drop 1) l)) (sym empty) (IsPermutation-refl []);
  apart = subst HasApartRowids (sym empty) apart_none;
}

-- one record more, at the end
pub keeps_added : {R : Type 0} (name : List ℕ) (encode : R → Row) (old new : Database) (records : List R) (r : R) → IsAdded name (encode r) old new → Keeps name encode old records → Keeps name encode new (records ++ r ∷ [])
keeps_added name encode old new records r one k = record {
  rows = subst (λ l. IsPermutation l (map (drop 1) (rows_of name new))) (sym (map-append encode records (r ∷ []))) (IsPermutation-push_more (map encode records) _ _ (encode r) k.rows (IsPermutation-map (drop 1) _ _ one.rows));
  apart = apart_added name (encode r) old new one k.apart;
}
