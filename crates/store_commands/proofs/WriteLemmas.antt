-- What one statement has written, and what two calls have, one after the other.
use Rattle.std.proofs.Common.{◌≡◌, ◌++◌, ℕ, ℤ, Bool, true, List, [], ◌∷◌, inl, refl, arith, ◌∙◌, subst}
use Rattle.std.specs.Prelude.{Result, Ok, Err, IfErr, OnOk}
use Rattle.std.proofs.lemmas.Result.{on_ok_weaker, IfErr-weaker}
use Rattle.sqlite.specs.Effect.{Database}
use Rattle.sqlite.specs.Order.{Row}
use Rattle.sqlite.specs.Schema.{Schema}
use Rattle.sqlite.specs.Table.{Table}
use Rattle.std.specs.List.{AllByRecursion}
use Rattle.sqlite.specs.Tree.{Trees}
use Rattle.sqlite.specs.State.{State, HasCleanDisk, KeepsCommit, Survives}
use Rattle.sqlite.proofs.StateLemmas.{survives_then}
use Rattle.sqlite.specs.Held.{Held, state}
use Rattle.sqlite.specs.declared.error.Error.{Error}
use Rattle.sqlite_trees.specs.declared.store.Store.{Ghosts}
use Rattle.store_tables.specs.Effects.{WhileOpen, IsAdded, IsRemoved, GoesOn}
use Rattle.store_sql.specs.Inserts.{Inserts, FailsToInsert}
use Rattle.store_sql.specs.Deletes.{Removes, FailsToRemove}
use Rattle.store_sql.specs.Statements.{Statement, add, remove, Succeeds, FailsTo}
use Rattle.store_sql.proofs.TurnLemmas.{run_one, run_then, fails_one, fails_before, fails_after}
use Rattle.store_holdings.specs.AllTables.{AllTables}
use Rattle.store_commands.specs.KeptRecords.{HasRecords, IsUsable, IsOther, SparesTablesOfOthers, TurnsRecords}
use Rattle.store_commands.specs.Writes.{WroteStatements, FailsToWrite, CommitsNothing}

-- ---- states

-- what was committed stays, over two calls
pub keeps_then : (a b c : State) → KeepsCommit a b → KeepsCommit b c → KeepsCommit a c
keeps_then a b c one two = record { was_open = λ h. one.was_open (two.was_open h); committed = λ h. two.committed h ∙ one.committed (two.was_open h) }

pub none_more : (a : State) → Survives a a (λ _. ⊥)
none_more a = record { clean = omega arith; shield = λ h. h; counts = omega arith; limit = refl; closes = λ clean h. inl h; crash = λ clean db left. inl left }

-- the disk was clean before
pub clean_before : {Commits : Trees → Type 0} (a b : State) → Survives a b Commits → HasCleanDisk b → HasCleanDisk a
clean_before a b s clean = omega (arith, s.clean)

-- one statement, which succeeded or failed, keeps what was committed
kept_on : (old new : State) → GoesOn old new → KeepsCommit old new
kept_on old new on = record { was_open = λ h. on.was_open; committed = λ h. on.committed_is }

-- ---- tables that are none of the product's

same_all : (tables : List Table) → (trees : Trees) (P : Table → Type 0) → AllByRecursion (λ t. P t → trees t.tree ≡ trees t.tree) tables
same_all [] trees P = tt
same_all (t ∷ tables) trees P = (λ other. refl, same_all tables trees P)

pub others_none : (a : Database) → SparesTablesOfOthers a a
others_none a = record { schema = refl; others = same_all a.schema.tables a.trees (IsOther a.schema) }

both_same : (P : Table → Type 0) (a b c : Trees) (tables : List Table) → AllByRecursion (λ t. P t → b t.tree ≡ a t.tree) tables → AllByRecursion (λ t. P t → c t.tree ≡ b t.tree) tables → AllByRecursion
    (λ t. P t → c t.tree ≡ a t.tree) tables
both_same P a b c [] one two = tt
both_same P a b c (t ∷ tables) one two = (λ other. two.0 other ∙ one.0 other, both_same P a b c tables one.1 two.1)

pub others_then : (a b c : Database) → SparesTablesOfOthers a b → SparesTablesOfOthers b c → SparesTablesOfOthers a c
others_then a b c one two = record {
  schema = two.schema ∙ one.schema;
  others = both_same (IsOther a.schema) a.trees b.trees c.trees a.schema.tables one.others (subst (λ (s : Schema). AllByRecursion (λ t. IsOther s t → c.trees t.tree ≡ b.trees t.tree) s.tables) one.schema two.others);
}

-- ---- calls

module _ {S : Type 0} (g : Ghosts S) where
  pub spares_none : (a : Held S) → CommitsNothing g a a
  spares_none a = record { keeps = λ clean. record { was_open = λ h. h; committed = λ h. refl }; survives = none_more (state g a) }

  pub spares_then : (a b c : Held S) → CommitsNothing g a b → CommitsNothing g b c → CommitsNothing g a c
  spares_then a b c one two = record {
    keeps = λ clean. keeps_then (state g a) (state g b) (state g c) (one.keeps (clean_before (state g b) (state g c) two.survives clean)) (two.keeps clean);
    survives = survives_then (state g a) (state g b) (state g c) (λ _. ⊥) (λ _. ⊥) (λ _. ⊥) (λ _ db none. none) (λ _ db none. none) one.survives two.survives;
  }

  -- tables that keep records keep some after what was written
  pub usable_then : (statements : List Statement) (f : AllTables → AllTables) (old new : Held S) → WhileOpen (state g old) IsUsable → WroteStatements g statements f old new → CommitsNothing g old new → WhileOpen (state g new) IsUsable
  usable_then statements f old new ready wrote spares = λ clean lives.
      let some = ready (clean_before (state g old) (state g new) spares.survives clean) ((spares.keeps clean).was_open lives) in
      (f some.0, (wrote.turns clean some.0 some.1).0)

  -- These statements were to be run, and the call that ran them, or calls one after the other, ended so.
  pub record Ends {X : Type 0} (statements : List Statement) (f : AllTables → AllTables) (old new : Held S) (result : Result X Error) : Type 0 where
    pub wrote : OnOk result (WroteStatements g statements f old new)
    pub failed : IfErr result (FailsToWrite g statements old new)
    pub spares : CommitsNothing g old new

  -- ---- nothing, and one statement

  pub wrote_none : (a : Held S) → WroteStatements g [] (λ all. all) a a
  wrote_none a = record { turns = λ clean all it. (it, others_none (state g a).now); ran = λ clean. refl; inside = λ clean begun. begun }

  module _ (one : Statement) (old new : Held S) (survives : Survives (state g old) (state g new) (λ _. ⊥)) where
    wrote_one : (f : AllTables → AllTables) → (HasCleanDisk (state g new) → Succeeds one (state g old) (state g new) × GoesOn (state g old) (state g new) × TurnsRecords f (state g old).now (state g new).now)
        → WroteStatements g (one ∷ []) f old new
    wrote_one f did = record {
      turns = λ clean. (did clean).2;
      ran = λ clean. run_one g Succeeds one old new (did clean).0 survives;
      inside = λ clean begun. (did clean).1.mode;
    }

    pub failed_one : (e : Error) → (HasCleanDisk (state g new) → FailsTo one (state g old) (state g new) e) → FailsToWrite g (one ∷ []) old new e
    failed_one e h = λ clean. fails_one g Succeeds FailsTo one old new e (h clean) survives

  module _ (name : List ℕ) (row : Row) (old new : Held S) (survives : Survives (state g old) (state g new) (λ _. ⊥)) where
    pub wrote_added : (f : AllTables → AllTables) → ((a b : Database) → IsAdded name row a b → TurnsRecords f a b) → (HasCleanDisk (state g new) → Inserts name row (state g old) (state g new))
        → WroteStatements g (add name row ∷ []) f old new
    wrote_added f turns did = wrote_one (add name row) old new survives f (λ clean. (did clean, (did clean).1, turns (state g old).now (state g new).now (did clean).0))

    spared_added : {X : Type 0} (result : Result X Error) → OnOk result (Inserts name row (state g old) (state g new)) → IfErr result (FailsToInsert name row (state g old) (state g new)) → KeepsCommit (state g old) (state g new)
    spared_added (Ok x) on off = kept_on (state g old) (state g new) on.1
    spared_added (Err e) on off = off.keeps

    pub spares_added : {X : Type 0} (result : Result X Error) → (HasCleanDisk (state g new) → OnOk result (Inserts name row (state g old) (state g new)))
        → (HasCleanDisk (state g new) → IfErr result (FailsToInsert name row (state g old) (state g new))) → CommitsNothing g old new
    spares_added result on off = record { keeps = λ clean. spared_added result (on clean) (off clean); survives = survives }

  module _ (name : List ℕ) (test : Row → Bool) (old new : Held S) (survives : Survives (state g old) (state g new) (λ _. ⊥)) where
    pub wrote_removed : (f : AllTables → AllTables) → ((a b : Database) → IsRemoved name test a b → TurnsRecords f a b) → (HasCleanDisk (state g new) → Removes name test (state g old) (state g new))
        → WroteStatements g (remove name test ∷ []) f old new
    wrote_removed f turns did = wrote_one (remove name test) old new survives f (λ clean. (did clean, (did clean).1, turns (state g old).now (state g new).now (did clean).0))

    spared_removed : {X : Type 0} (result : Result X Error) → OnOk result (Removes name test (state g old) (state g new)) → IfErr result (FailsToRemove name test (state g old) (state g new)) → KeepsCommit (state g old) (state g new)
    spared_removed (Ok x) on off = kept_on (state g old) (state g new) on.1
    spared_removed (Err e) on off = off.keeps

    pub spares_removed : {X : Type 0} (result : Result X Error) → (HasCleanDisk (state g new) → OnOk result (Removes name test (state g old) (state g new)))
        → (HasCleanDisk (state g new) → IfErr result (FailsToRemove name test (state g old) (state g new))) → CommitsNothing g old new
    spares_removed result on off = record { keeps = λ clean. spared_removed result (on clean) (off clean); survives = survives }

  -- ---- a record that was added, as what it is

  module _ {R : Type 0} (name : List ℕ) (encode : R → Row) (f : R → AllTables → AllTables) (given wanted : R) (is : given ≡ wanted) (old new : Held S) (survives : Survives (state g old) (state g new) (λ _. ⊥)) where
    pub wrote_record : ((r : R) (a b : Database) → IsAdded name (encode r) a b → TurnsRecords (f r) a b) → (HasCleanDisk (state g new) → Inserts name (encode given) (state g old) (state g new)) → WroteStatements g
        (add name (encode wanted) ∷ []) (f wanted) old new
    wrote_record turns did = subst (λ r. WroteStatements g (add name (encode r) ∷ []) (f r) old new) is (wrote_added name (encode given) old new survives (f given) (turns given) did)

    pub failed_record : (e : Error) → (HasCleanDisk (state g new) → FailsToInsert name (encode given) (state g old) (state g new) e) → FailsToWrite g (add name (encode wanted) ∷ []) old new e
    failed_record e h = subst (λ r. FailsToWrite g (add name (encode r) ∷ []) old new e) is (failed_one (add name (encode given)) old new survives e h)

    pub ends_record : {X : Type 0} → ((r : R) (a b : Database) → IsAdded name (encode r) a b → TurnsRecords (f r) a b) → (result : Result X Error)
        → (HasCleanDisk (state g new) → OnOk result (Inserts name (encode given) (state g old) (state g new))) → (HasCleanDisk (state g new) → IfErr result (FailsToInsert name (encode given) (state g old) (state g new)))
        → Ends (add name (encode wanted) ∷ []) (f wanted) old new result
    ends_record {X} turns (Ok x) on off = record { wrote = wrote_record turns on; failed = tt; spares = spares_added name (encode given) old new survives (Ok x) on off }
    ends_record {X} turns (Err e) on off = record { wrote = tt; failed = failed_record e off; spares = spares_added name (encode given) old new survives {X = X} (Err e) on off }

  -- rows that were taken out by a number, as it is
  module _ (name : List ℕ) (test : ℤ → Row → Bool) (given wanted : ℤ) (is : given ≡ wanted) (old new : Held S) (survives : Survives (state g old) (state g new) (λ _. ⊥)) where
    pub wrote_taken : (f : AllTables → AllTables) → ((a b : Database) → IsRemoved name (test wanted) a b → TurnsRecords f a b) → (HasCleanDisk (state g new) → Removes name (test given) (state g old) (state g new)) → WroteStatements g
        (remove name (test wanted) ∷ []) f old new
    wrote_taken f turns did = wrote_removed name (test wanted) old new survives f turns (λ clean. subst (λ n. Removes name (test n) (state g old) (state g new)) is (did clean))

    pub failed_taken : (e : Error) → (HasCleanDisk (state g new) → FailsToRemove name (test given) (state g old) (state g new) e) → FailsToWrite g (remove name (test wanted) ∷ []) old new e
    failed_taken e h = subst (λ n. FailsToWrite g (remove name (test n) ∷ []) old new e) is (failed_one (remove name (test given)) old new survives e h)

  -- ---- one call after another

  pub wrote_then : (front back : List Statement) (f h : AllTables → AllTables) (old mid new : Held S) → WroteStatements g front f old mid → WroteStatements g back h mid new → CommitsNothing g mid new
      → WroteStatements g (front ++ back) (λ all. h (f all)) old new
  wrote_then front back f h old mid new one two spares = record {
    turns = λ clean all it.
        let first = one.turns (clean_before (state g mid) (state g new) spares.survives clean) all it in
        let second = two.turns clean (f all) first.0 in
        (second.0, others_then (state g old).now (state g mid).now (state g new).now first.1 second.1);
    ran = λ clean. run_then g Succeeds front back old mid new (one.ran (clean_before (state g mid) (state g new) spares.survives clean)) (two.ran clean);
    inside = λ clean begun. two.inside clean (one.inside (clean_before (state g mid) (state g new) spares.survives clean) begun);
  }

  -- the same records, told otherwise
  pub wrote_as : (statements : List Statement) (f h : AllTables → AllTables) (old new : Held S) → ((db : Database) (all : AllTables) → HasRecords db (f all) → HasRecords db (h all)) → WroteStatements g statements f old new
      → WroteStatements g statements h old new
  wrote_as statements f h old new same wrote = record { turns = λ clean all it. (same (state g new).now all (wrote.turns clean all it).0, (wrote.turns clean all it).1); ran = wrote.ran; inside = wrote.inside }

  -- more would have come after what failed
  pub failed_before : (front back : List Statement) (old new : Held S) (e : Error) → FailsToWrite g front old new e → FailsToWrite g (front ++ back) old new e
  failed_before front back old new e h = λ clean. fails_before g Succeeds FailsTo front back old new e (h clean)

  -- others ran before it
  pub failed_after : (front back : List Statement) (f : AllTables → AllTables) (old mid new : Held S) (e : Error) → WroteStatements g front f old mid → CommitsNothing g mid new → FailsToWrite g back mid new e
      → FailsToWrite g (front ++ back) old new e
  failed_after front back f old mid new e one spares h = λ clean. fails_after g Succeeds FailsTo front back old mid new e (one.ran (clean_before (state g mid) (state g new) spares.survives clean)) (h clean)

  -- ---- a call, and the run behind it

  -- it failed, and more would have come
  pub cut : (front back : List Statement) (old new : Held S) (e : Error) → FailsToWrite g front old new e → CommitsNothing g old new → Ends {X = Unit {0}} (front ++ back) (λ all. all) old new (Err e)
  cut front back old new e failed spares = record { wrote = tt; failed = failed_before front back old new e failed; spares = spares }

  -- another came before it, and did what it says
  module _ {X : Type 0} {front back : List Statement} {f h : AllTables → AllTables} {old mid new : Held S} {result : Result X Error} (one : WroteStatements g front f old mid) (first : CommitsNothing g old mid)
      (rest : Ends back h mid new result) where
    pub behind : Ends (front ++ back) (λ all. h (f all)) old new result
    behind = record {
      wrote = on_ok_weaker result (λ two. wrote_then front back f h old mid new one two rest.spares) rest.wrote;
      failed = IfErr-weaker result (FailsToWrite g back mid new) (FailsToWrite g (front ++ back) old new) (λ e failed. failed_after front back f old mid new e one rest.spares failed) rest.failed;
      spares = spares_then old mid new first rest.spares;
    }

  -- a table was cleared before it
  module _ (name : List ℕ) (f : AllTables → AllTables) (old mid : Held S) (survives : Survives (state g old) (state g mid) (λ _. ⊥)) (turns : (a b : Database) → IsRemoved name (λ _. true) a b → TurnsRecords f a b)
      (did : HasCleanDisk (state g mid) → Removes name (λ _. true) (state g old) (state g mid)) where
    cleared : WroteStatements g (remove name (λ _. true) ∷ []) f old mid
    cleared = wrote_removed name (λ _. true) old mid survives f turns did

    spares_cleared : CommitsNothing g old mid
    spares_cleared = record { keeps = λ clean. kept_on (state g old) (state g mid) (did clean).1; survives = survives }

    pub usable_cleared : WhileOpen (state g old) IsUsable → WhileOpen (state g mid) IsUsable
    usable_cleared ready = usable_then (remove name (λ _. true) ∷ []) f old mid ready cleared spares_cleared

    pub behind_cleared : {X : Type 0} {back : List Statement} {h : AllTables → AllTables} {new : Held S} {result : Result X Error} → Ends back h mid new result → Ends (remove name (λ _. true) ∷ back) (λ all. h (f all)) old new result
    behind_cleared rest = behind cleared spares_cleared rest
