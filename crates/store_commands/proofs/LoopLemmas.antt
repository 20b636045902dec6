-- What a loop has written so far, where each of its rounds writes more.
use Rattle.std.proofs.Common.{◌≡◌, ℕ, ◌+◌, ◌<◌, ◌≤◌, List, [], ◌∷◌, ◌++◌, length, take, drop, map, get_or, arith, ◌∙◌, ap, sym, subst, append_assoc, append-nil}
use Rattle.std.specs.Prelude.{flat_map, Result, Ok, Err, IfErr}
use Rattle.std.proofs.lemmas.List.{length-map, length-take-le, map-append, take_more, take-append-drop}
use Rattle.std.proofs.lemmas.Grind.{flat_map-append}
use Rattle.sqlite.specs.Effect.{Database}
use Rattle.sqlite.specs.Held.{Held}
use Rattle.sqlite.specs.declared.error.Error.{Error}
use Rattle.sqlite_trees.specs.declared.store.Store.{Ghosts}
use Rattle.store_sql.specs.Statements.{Statement}
use Rattle.store_holdings.specs.AllTables.{AllTables}
use Rattle.store_rows.specs.Written.{numbered}
use Rattle.store_rows.proofs.ListLemmas.{numbered_append, numbered_push, map_next}
use Rattle.store_commands.specs.KeptRecords.{HasRecords}
use Rattle.store_tables.specs.Records.{ItemRecord, Member, Part}
use Rattle.store_commands.specs.Changes.{with_more_items, with_more_members, with_more_parts}
use Rattle.store_commands.specs.Writes.{WroteStatements, FailsToWrite, CommitsNothing}
use Rattle.store_commands.proofs.WriteLemmas.{wrote_none, wrote_then, wrote_as, failed_before, failed_after}

pub each_err : {X E : Type 0} (result : Result X E) (P Q : E → Type 0) → ((e : E) → P e → Q e) → IfErr result P → IfErr result Q
each_err (Ok x) P Q f h = h
each_err (Err e) P Q f h = f e h

-- ---- lists that grow by a loop

-- what more elements make comes behind
abbrev pub Grows : {X Y : Type 0} → (List X → List Y) → Type 0
Grows {X} {Y} rows = (front back : List X) → (more : List Y) × (rows (front ++ back) ≡ rows front ++ more)

-- with what is made of each of them
pub map_grows : {X Y Z : Type 0} (h : Y → Z) (rows : List X → List Y) → Grows rows → Grows (λ l. map h (rows l))
map_grows h rows grows front back = let more = grows front back in (map h more.0, ap (map h) more.1 ∙ map-append h (rows front) more.0)

pub numbered_grows : {X Y Z : Type 0} (g : X → Y) (f : ℕ → Y → Z) → Grows (λ (l : List X). numbered f 0 (map g l))
numbered_grows g f front back = (
  numbered f (0 + length (map g front)) (map g back),
  ap (numbered f 0) (map-append g front back) ∙ numbered_append f 0 (map g front) (map g back),
)

pub joined_grows : {X Y Z : Type 0} (g : X → Y) (f : Y → List Z) → Grows (λ (l : List X). flat_map f (map g l))
joined_grows g f front back = (flat_map f (map g back), ap (flat_map f) (map-append g front back) ∙ flat_map-append f (map g front) (map g back))

pub mapped_grows : {X Y : Type 0} (f : X → Y) → Grows (map f)
mapped_grows f front back = (map f back, map-append f front back)

-- one more, as it is read
pub mapped_at : {X Y : Type 0} (f : X → Y) (xs : List X) (i : ℕ) (x : X) → i < length xs → map f (take i xs) ++ f (get_or xs i x) ∷ [] ≡ map f (take (i + 1) xs)
mapped_at f xs i x lt = sym (ap (map f) (take_more xs i x lt) ∙ map-append f (take i xs) (get_or xs i x ∷ []))

module _ {X Y : Type 0} (g : X → Y) (xs : List X) (i : ℕ) (x : X) (lt : i < length xs) (is : x ≡ get_or xs i x) where
  so_many : length (map g (take i xs)) ≡ i
  so_many = length-map (take i xs) g ∙ length-take-le i xs (let le : i ≤ length xs = omega arith in le)

  -- one more with its place
  pub numbered_next : {Z : Type 0} (f : ℕ → Y → Z) → numbered f 0 (map g (take i xs)) ++ f i (g x) ∷ [] ≡ numbered f 0 (map g (take (i + 1) xs))
  numbered_next f = sym (ap (numbered f 0) (map_next g xs i x lt is) ∙ numbered_push f (map g (take i xs)) (g x) ∙ ap (λ k. numbered f 0 (map g (take i xs)) ++ f k (g x) ∷ []) so_many)

  -- some more of each
  pub joined_next : {Z : Type 0} (f : Y → List Z) → flat_map f (map g (take i xs)) ++ f (g x) ≡ flat_map f (map g (take (i + 1) xs))
  joined_next f = sym (ap (flat_map f) (map_next g xs i x lt is) ∙ flat_map-append f (map g (take i xs)) (g x ∷ []) ∙ ap (λ l. flat_map f (map g (take i xs)) ++ l) (append-nil (f (g x))))

-- ---- what a loop has written

module _ {S : Type 0} (g : Ghosts S) {X : Type 0} (F : List X → List Statement) (T : List X → AllTables → AllTables) (xs : List X) (i : ℕ) (some : List Statement) (f : AllTables → AllTables)
    (next : F (take i xs) ++ some ≡ F (take (i + 1) xs))
    (old mid new : Held S) (so_far : WroteStatements g (F (take i xs)) (T (take i xs)) old mid) (spares : CommitsNothing g mid new) where
  pub loop_wrote : ((db : Database) (all : AllTables) → HasRecords db (f (T (take i xs) all)) → HasRecords db (T (take (i + 1) xs) all)) → WroteStatements g some f mid new
      → WroteStatements g (F (take (i + 1) xs)) (T (take (i + 1) xs)) old new
  loop_wrote turn h =
      wrote_as g (F (take (i + 1) xs)) (λ all. f (T (take i xs) all)) (T (take (i + 1) xs)) old new turn
      (subst (λ l. WroteStatements g l (λ all. f (T (take i xs) all)) old new) next (wrote_then g (F (take i xs)) some (T (take i xs)) f old mid new so_far h spares))

  pub loop_failed : Grows F → (e : Error) → FailsToWrite g some mid new e → FailsToWrite g (F xs) old new e
  loop_failed grows e h =
      let so_much = subst (λ l. FailsToWrite g l old new e) next (failed_after g (F (take i xs)) some (T (take i xs)) old mid new e so_far spares h) in
      let more = grows (take (i + 1) xs) (drop (i + 1) xs) in
      let whole = subst (λ l. FailsToWrite g l old new e) (sym more.1) (failed_before g (F (take (i + 1) xs)) more.0 old new e so_much) in
      subst (λ l. FailsToWrite g (F l) old new e) (take-append-drop (i + 1) xs) whole

-- ---- what a loop has added to one table

-- records that come last one after the other
abbrev pub ComesLast : {R : Type 0} → (List R → AllTables → AllTables) → Type 0
ComesLast {R} put = (front back : List R) (all : AllTables) → put back (put front all) ≡ put (front ++ back) all

module _ {S : Type 0} (g : Ghosts S) {R : Type 0} (add : R → Statement) (put : List R → AllTables → AllTables) where
  -- nothing yet
  pub adding_none : ((all : AllTables) → put [] all ≡ all) → (a : Held S) → WroteStatements g (map add []) (put []) a a
  adding_none none a = wrote_as g [] (λ all. all) (put []) a a (λ db all it. subst (λ (t : AllTables). HasRecords db t) (sym (none all)) it) (wrote_none g a)

module _ {S : Type 0} (g : Ghosts S) {X R : Type 0} (add : R → Statement) (put : List R → AllTables → AllTables) (last : ComesLast put) (rows : List X → List R) (xs : List X) (i : ℕ) (some : List R)
    (next : rows (take i xs) ++ some ≡ rows (take (i + 1) xs)) (old mid new : Held S) (so_far : WroteStatements g (map add (rows (take i xs))) (put (rows (take i xs))) old mid) (spares : CommitsNothing g mid new) where
  added_next : map add (rows (take i xs)) ++ map add some ≡ map add (rows (take (i + 1) xs))
  added_next = sym (map-append add (rows (take i xs)) some) ∙ ap (map add) next

  pub adding_wrote : WroteStatements g (map add some) (put some) mid new → WroteStatements g (map add (rows (take (i + 1) xs))) (put (rows (take (i + 1) xs))) old new
  adding_wrote h =
      loop_wrote g (λ (l : List X). map add (rows l)) (λ (l : List X). put (rows l)) xs i (map add some) (put some) added_next old mid new so_far spares
      (λ db all it. subst (λ l. HasRecords db (put l all)) next (subst (λ (t : AllTables). HasRecords db t) (last (rows (take i xs)) some all) it)) h

  pub adding_failed : Grows rows → (e : Error) → FailsToWrite g (map add some) mid new e → FailsToWrite g (map add (rows xs)) old new e
  adding_failed grows e h =
      loop_failed g (λ (l : List X). map add (rows l)) (λ (l : List X). put (rows l)) xs i (map add some) (put some) added_next old mid new so_far spares (map_grows add rows grows) e h

-- the tables' lists grow so
pub items_last : ComesLast with_more_items
items_last front back all = ap (λ (l : List ItemRecord). record all { items = l }) (append_assoc all.items front back)

pub members_last : ComesLast with_more_members
members_last front back all = ap (λ (l : List Member). record all { members = l }) (append_assoc all.members front back)

pub parts_last : ComesLast with_more_parts
parts_last front back all = ap (λ (l : List Part). record all { parts = l }) (append_assoc all.parts front back)

pub items_none : (all : AllTables) → with_more_items [] all ≡ all
items_none all = ap (λ (l : List ItemRecord). record all { items = l }) (append-nil all.items)

pub members_none : (all : AllTables) → with_more_members [] all ≡ all
members_none all = ap (λ (l : List Member). record all { members = l }) (append-nil all.members)

pub parts_none : (all : AllTables) → with_more_parts [] all ≡ all
parts_none all = ap (λ (l : List Part). record all { parts = l }) (append-nil all.parts)
