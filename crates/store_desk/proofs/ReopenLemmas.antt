-- From one run to the next: what is opened over the files that a stop left, or that were left with no stop; and what is left of them.
use Rattle.std.proofs.Common.{◌≡◌, ℕ, List, IsTrue, inl, inr, take, refl, sym, subst, ◌∙◌, arith}
use Rattle.std.specs.Prelude.{Option, Some, None, Contains}
use Rattle.std.proofs.lemmas.Bool.{and_parts, and_from}
use Rattle.std.proofs.Math.Logic.{∥∥₁_map, ∥∥₁_elim}
use Rattle.sqlite_disk.specs.declared.Disk.{Ghosts}
use Rattle.sqlite_disk.specs.declared.Files.{Files}
use Rattle.sqlite_wal.proofs.LogLemmas.{SeenMayStay}
use Rattle.sqlite.specs.FileStore.{state, view, recovers, files as files_in}
use Rattle.sqlite.specs.Recovery.{Image}
use Rattle.sqlite.specs.Tree.{Trees}
use Rattle.sqlite_catalog.specs.Listing.{IsSound}
use Rattle.sqlite.specs.View.{IsClean}
use Rattle.sqlite.specs.State.{HasCleanDisk, Survives}
use Rattle.sqlite.specs.Effect.{Database}
use Rattle.sqlite.specs.Held.{Held, AreDatabases}
use Rattle.sqlite.specs.Files.{HoldsDatabase, file_state, image_of, over_files, Finds, IsOpened}
use Rattle.sqlite.specs.WalFiles.{outcomes}
use Rattle.sqlite.specs.WalReads.{AreClean}
use Rattle.sqlite_store.specs.Laws.{settled_at}
use Rattle.sqlite_store.specs.declared.store.FileStore.{FileStore}
use Rattle.sqlite_pool.proofs.StateLemmas.{clean_is, may_leave_is}
use Rattle.sqlite_trees.proofs.Doubt.{no_doubt}
use Rattle.sqlite.proofs.Theorems.{next_run, opens_again}
use Rattle.dict_catalogue.specs.Steps.{Catalogue, CommandRequest, after}
use Rattle.dict_desk.specs.declared.fault.Fault.{Fault}
use Rattle.store_holdings.specs.Committed.{IsTreesOf}
use Rattle.store_holdings.specs.Holds.{IsLeft}
use Rattle.store_holdings.proofs.OneLemmas.{database_once}
use Rattle.store_migration.specs.Spared.{SparesOthers}
use Rattle.store_migration.proofs.OtherLemmas.{others_then}
use Rattle.store_opening.specs.Reading.{IsOfOpening}
use Rattle.store_desk.specs.Adopted.{MayCommitBeside}
use Rattle.store_desk.specs.Desk.{DeskState, HasBeside, IsOneOf, KeepsBeside, LeavesOneOf, StandsFor}
use Rattle.store_desk.specs.Promise.{HoldsFront}
use Rattle.store_desk.specs.Reopened.{AreTreesIn, HoldsFrontIn, IsNoFaultOfContents, IsLetGo, IsOpenedOver, IsStopped, LeavesFront, ShowsFront, ShowsOneOf}
use Rattle.store_desk.specs.Unopened.{IsRejected, IsUnopenedOver, IsUnopenedAgain, IsExcused, HandsBack, TellsNoHolding}
use Rattle.store_desk.specs.declared.reopening.Unopened.{Unopened}
use Rattle.store_desk.specs.declared.reopening.Unopened.TheVariants as left
use Rattle.store_desk.proofs.UnopenedLemmas.{AreSealedIn, opens_sealed, all_ready, rest_leaves, excused_by}
use Rattle.store_migration.specs.Migrated.{MayMigrate}
use Rattle.store_migration.proofs.StopLemmas.{stands_still}

-- what a stop leaves of two files is a database that holds what its trees stand for
pub front_in : {D : Type 0} {g : Ghosts D} (it : FileStore D g) (before : Catalogue) (requests : List CommandRequest) (answered : ℕ) (left : Image)
    → IsTrue (view it).is_numbered → ((trees : Trees) → recovers it trees → HoldsFront before requests answered trees) → (state it).may_leave left → ∥ HoldsFrontIn before requests answered left ∥₁
front_in it before requests answered left numbered each may =
    let sound : AreDatabases (recovers it) = λ trees found. let whole = (each trees found).3.left in (whole.0.schema, subst (IsSound whole.0.schema) (sym whole.1) whole.2) in
    ∥∥₁_map (opens_again it numbered sound left may) (λ db. let h = each db.0 db.1 in (h.0, h.1, h.2, (db.0, db.2, h.3.left)))

-- what a stop leaves of a database that was handed back stands for what was committed
pub stands_after : {D : Type 0} {g : Ghosts D} → SeenMayStay g → (conn now : Held (FileStore D g)) → IsOpened conn → Survives (file_state (record conn { step_limit = None })) (file_state now) (MayMigrate (file_state conn))
    → HasCleanDisk (file_state now) → (m : Option Catalogue) → StandsFor m (file_state conn).committed.trees → (trees : Trees) → (file_state now).may_leave trees → StandsFor m trees
stands_after stays conn now opened survives honest m stands trees stop =
    stands_still (file_state (record conn { step_limit = None })) (file_state now) (λ live. (opened.1 live).1) (λ trees live may. settled_at conn.store stays trees live may) opened.0.is_open survives honest m stands trees stop

-- and has the tables of others as they were
pub others_after : {D : Type 0} {g : Ghosts D} → SeenMayStay g → (conn now : Held (FileStore D g)) → IsOpened conn → Survives (file_state (record conn { step_limit = None })) (file_state now) (MayCommitBeside (file_state conn))
    → HasCleanDisk (file_state now) → (db : Database) → IsTreesOf (SparesOthers db) (file_state conn).committed.trees → (trees : Trees) → (file_state now).may_leave trees → IsTreesOf (SparesOthers db) trees
others_after stays conn now opened survives honest db was trees stop = elim (survives.crash honest trees stop) as (λ _. IsTreesOf (SparesOthers db) trees) [
  | inl same ↦ subst (IsTreesOf (SparesOthers db)) (sym (settled_at conn.store stays trees opened.0.is_open same)) was
  | inr made ↦
      let first : Database = (file_state conn).committed in
      let spared : SparesOthers db first = subst (SparesOthers db) (database_once was.0 first was.2 (opened.1 made.0).1 (sym was.1)) was.3 in
      (made.1.0, made.1.1, made.1.2, others_then db first made.1.0 spared made.1.3)
]

-- two files after a stop of each
pub stopped_by : {D : Type 0} {g : Ghosts D} (was stopped : Files D) → outcomes g was.log was.db (image_of g stopped)
    → ((octets : List ℕ) → g.may_leave stopped.log octets → g.may_leave was.log octets) × ((octets : List ℕ) → g.may_leave stopped.db octets → g.may_leave was.db octets)
    → (IsTrue (g.is_clean stopped.log) → IsTrue (g.is_clean was.log)) × (IsTrue (g.is_clean stopped.db) → IsTrue (g.is_clean was.db)) → IsStopped g was stopped
stopped_by {D} {g} was stopped left crash clean = record {
  left = left;
  crash = λ image out. (crash.0 image.log out.0, crash.1 image.db out.1);
  clean = λ both.
      let parts = and_parts (g.is_clean stopped.log) (g.is_clean stopped.db) both in
      and_from (g.is_clean was.log) (g.is_clean was.db) (clean.0 parts.0) (clean.1 parts.1);
}

-- The two files that a desk let go of, as they are now, with a stop between or none: they leave nothing new.
module _ {D : Type 0} {g : Ghosts D} (stays : SeenMayStay g) (desk : DeskState (FileStore D g)) (files now : Files D) (gone : IsLetGo desk.conn files)
    (back : (image : Image) → outcomes g now.log now.db image → outcomes g files.log files.db image) (sure : AreClean g now.log now.db → AreClean g files.log files.db) where
  stay : outcomes g now.log now.db (image_of g now)
  stay = (stays now.log, stays now.db)

  as_stored : AreClean g now.log now.db → AreClean g (files_in gone.store).0 (files_in gone.store).1
  as_stored clean = subst (λ p. AreClean g p.0 p.1) gone.closed (sure clean)

  none : AreClean g now.log now.db → IsClean (view gone.store)
  none clean = no_doubt _ (clean_is gone.store.pool ∙ as_stored clean)

  early_desk : AreClean g now.log now.db → HasCleanDisk (file_state desk.conn)
  early_desk clean = let sound = none clean in omega (arith, gone.quiet.clean, sound)

  may_be : (clean : AreClean g now.log now.db) (image : Image) → outcomes g now.log now.db image → (state gone.store).may_leave image
  may_be clean image out = may_leave_is gone.store.pool image (as_stored clean) (subst (λ p. outcomes g p.0 p.1 image) gone.closed (back image out))

  -- what is opened over them was one of those that a stop could leave
  pub may : (conn : Held (FileStore D g)) → (HasCleanDisk (file_state conn) → IsOpened conn × Finds now conn) → HasCleanDisk (file_state conn)
      → ∥ HasCleanDisk (file_state desk.conn) × (file_state desk.conn).may_leave (file_state conn).committed.trees ∥₁
  may conn opened honest =
      let found = (opened honest).1 in
      let clean = found.honest in
      ∥∥₁_map (next_run gone.store (gone.numbered (none clean)) (gone.sound (none clean)) (image_of g now) (may_be clean (image_of g now) stay) (file_state conn) (record { holds = found.holds; reads = found.reads }))
      (λ trees. (early_desk clean, gone.quiet.outcomes (file_state conn).committed.trees trees))

  -- whatever a stop leaves of them is a database, and one of these
  opens : AreClean g now.log now.db → (image : Image) → outcomes g now.log now.db image → ∥ ((db : Trees) × recovers gone.store db × HoldsDatabase image db) ∥₁
  opens clean image out = opens_again gone.store (gone.numbered (none clean)) (gone.sound (none clean)) image (may_be clean image out)

  -- such trees are in them, of which a stop of the desk leaves none other
  module _ (P : Trees → Type 0) (leaves : HasCleanDisk (file_state desk.conn) → (trees : Trees) → (file_state desk.conn).may_leave trees → ∥ P trees ∥₁) (clean : AreClean g now.log now.db) where
    -- and no page of them waits for its sum
    sealed_is : ∥ AreSealedIn P (image_of g now) ∥₁
    sealed_is = ∥∥₁_elim (opens_sealed gone.store (gone.numbered (none clean)) (gone.sound (none clean)) (image_of g now) (may_be clean (image_of g now) stay)) squash₁
        (λ db. ∥∥₁_map (leaves (early_desk clean) db.0 (gone.quiet.outcomes db.0 db.1)) (λ h. (db.0, db.2, h)))

    each_is : (image : Image) → outcomes g now.log now.db image → ∥ AreTreesIn P image ∥₁
    each_is image out = ∥∥₁_elim (opens clean image out) squash₁ (λ db. ∥∥₁_map (leaves (early_desk clean) db.0 (gone.quiet.outcomes db.0 db.1)) (λ h. (db.0, db.2, h)))

  -- ---- a desk over them

  module _ (next : DeskState (FileStore D g)) (over : IsOpenedOver now next) (honest : HasCleanDisk (file_state next.conn)) where
    early : HasCleanDisk (file_state over.conn)
    early = omega (arith, over.adopted.migrated.clean, honest)

    -- what was opened is a catalogue
    opened : (M : Catalogue) × IsLeft M (file_state over.conn).committed.trees
    opened =
        let it = over.adopted.shows honest in
        let db = (file_state over.conn).committed in
        let whole = (over.opened early).0 in (it.0, (db, refl, (whole.1 whole.0.is_open).1, (over.adopted.same honest it.0).1 it.1.holds))

    shows_as : (ms : List (Option Catalogue)) (m : Option Catalogue) → Contains ms m → StandsFor m (file_state over.conn).committed.trees → ShowsOneOf over_files next ms
    shows_as ms (Some M) is stands = (M, is, over.left honest M stands)
    shows_as ms None is stands = absurd (stands opened.0 opened.1)

    pub shows_one_of : (ms : List (Option Catalogue)) → LeavesOneOf over_files desk ms → ∥ ShowsOneOf over_files next ms ∥₁
    shows_one_of ms leaves =
        ∥∥₁_map (may over.conn over.opened early) (λ both. let h = leaves both.0 (file_state over.conn).committed.trees both.1 in shows_as ms h.0 h.1 h.2)

    pub shows_front : (before : Catalogue) (requests : List CommandRequest) (answered : ℕ) → LeavesFront over_files desk before requests answered → ∥ ShowsFront over_files next before requests answered ∥₁
    shows_front before requests answered leaves =
        ∥∥₁_map (may over.conn over.opened early)
        (λ both. let h = leaves both.0 (file_state over.conn).committed.trees both.1 in (h.0, h.1, h.2, over.left honest (after before (take h.0 requests)) h.3.left))

  -- ---- and what was beside the catalogue is so still

  pub still_beside : (next : DeskState (FileStore D g)) → IsOpenedOver now next → (db : Database) → KeepsBeside over_files desk db → KeepsBeside over_files next db
  still_beside next over db keeps = over.adopted.keeps db (λ first trees could.
      let is : trees ≡ (file_state over.conn).committed.trees = settled_at over.conn.store stays trees (over.opened first).0.0.is_open could in
      ∥∥₁_elim (may over.conn over.opened first) squash₁ (λ both. subst (HasBeside db) (sym is) (keeps both.0 (file_state over.conn).committed.trees both.1)))

  -- ---- or none

  -- what stands for one of these, of which each is a catalogue, is left of that
  left_as : (trees : Trees) (ms : List (Option Catalogue)) (m : Option Catalogue) → Contains ms m → StandsFor m trees → (Contains ms None → ⊥) → (M : Catalogue) × IsLeft M trees
  left_as trees ms (Some M) is stands never = (M, stands)
  left_as trees ms None is stands never = absurd (never is)

  module _ (conn : Held (FileStore D g)) (fault : Fault) (over : IsRejected now conn fault) (honest : HasCleanDisk (file_state conn)) where
    first_clean : HasCleanDisk (file_state over.conn)
    first_clean = omega (arith, over.adopted.crash.clean, honest)

    -- no fault tells of what was opened, where a stop always leaves a catalogue
    is_of_store : (HasCleanDisk (file_state desk.conn) → (trees : Trees) → (file_state desk.conn).may_leave trees → (M : Catalogue) × IsLeft M trees) → IsNoFaultOfContents fault
    is_of_store leaves =
        let first = over.conn in
        let whole = (over.opened first_clean).0.0 in
        let never = λ (both : HasCleanDisk (file_state desk.conn) × (file_state desk.conn).may_leave (file_state first).committed.trees).
        let h = leaves both.0 (file_state first).committed.trees both.1 in
        over.not_left honest whole.is_open h.0 (subst (λ (db : Database). IsLeft h.0 db.trees) (sym whole.clean) h.1) in
        let found = may first over.opened first_clean in
        (λ is. ∥∥₁_elim found (λ x y. absurd x) (λ both. (never both).0 is), λ is. ∥∥₁_elim found (λ x y. absurd x) (λ both. (never both).1 is), λ is. ∥∥₁_elim found (λ x y. absurd x) (λ both. (never both).2 is))

    -- and a stop leaves nothing new of it
    rejected_leaves : (ms : List (Option Catalogue)) → LeavesOneOf over_files desk ms → (trees : Trees) → (file_state conn).may_leave trees → ∥ IsOneOf ms trees ∥₁
    rejected_leaves ms leaves trees stop =
        ∥∥₁_map (may over.conn over.opened first_clean)
        (λ both. let h = leaves both.0 (file_state over.conn).committed.trees both.1 in (h.0, h.1, stands_after stays over.conn conn (over.opened first_clean).0 over.adopted.crash honest h.0 h.2 trees stop))

    -- with the tables of others that were kept
    rejected_keeps : (db : Database) → KeepsBeside over_files desk db → (trees : Trees) → (file_state conn).may_leave trees → HasBeside db trees
    rejected_keeps db keeps trees stop = ∥∥₁_elim (may over.conn over.opened first_clean) squash₁
        (λ both. ∥∥₁_map (keeps both.0 (file_state over.conn).committed.trees both.1) (λ was. others_after stays over.conn conn (over.opened first_clean).0 over.adopted.beside honest db was trees stop))

  pub tells_none : (it : Unopened D g) (fault : Fault) → IsUnopenedOver now it fault → (ms : List (Option Catalogue)) → LeavesOneOf over_files desk ms → (Contains ms None → ⊥) → TellsNoHolding it fault
  tells_none (left.Files some) fault h = λ ms leaves never. tt
  tells_none (left.Spent both) fault h = λ ms leaves never. tt
  tells_none (left.Database conn) fault h = λ ms leaves never honest. is_of_store conn fault h honest (λ clean trees stop. let it = leaves clean trees stop in left_as trees ms it.0 it.1 it.2 never)

  pub tells_none_of_front : (it : Unopened D g) (fault : Fault) → IsUnopenedOver now it fault → (before : Catalogue) (requests : List CommandRequest) (answered : ℕ) → LeavesFront over_files desk before requests answered
      → TellsNoHolding it fault
  tells_none_of_front (left.Files some) fault h = λ before requests answered leaves. tt
  tells_none_of_front (left.Spent both) fault h = λ before requests answered leaves. tt
  tells_none_of_front (left.Database conn) fault h = λ before requests answered leaves honest.
      is_of_store conn fault h honest (λ clean trees stop. let f = leaves clean trees stop in (after before (take f.0 requests), f.3.left))

  module _ (P : Trees → Type 0) (leaves : HasCleanDisk (file_state desk.conn) → (trees : Trees) → (file_state desk.conn).may_leave trees → ∥ P trees ∥₁) where
    hands_by : (it : Unopened D g) (fault : Fault) → IsUnopenedOver now it fault
        → ((conn : Held (FileStore D g)) → IsRejected now conn fault → HasCleanDisk (file_state conn) → (trees : Trees) → (file_state conn).may_leave trees → ∥ P trees ∥₁) → HandsBack now P it
    hands_by (left.Files None) fault h rejected = absurd h
    hands_by (left.Files (Some rest)) fault h rejected = λ clean still.
        rest_leaves now P (each_is P leaves clean) stay rest (all_ready now P (each_is P leaves clean) stay rest (sealed_is P leaves clean)) (h.unharmed still)
    hands_by (left.Spent both) fault h rejected = absurd h
    hands_by (left.Database conn) fault h rejected = rejected conn h

    -- both as they are
    pub hands_spent : HandsBack {D = D} {d = g} now P (left.Spent now)
    hands_spent = λ clean image out. each_is P leaves clean image out

  pub leaves_some : (ms : List (Option Catalogue)) → LeavesOneOf over_files desk ms → HasCleanDisk (file_state desk.conn) → (trees : Trees) → (file_state desk.conn).may_leave trees → ∥ IsOneOf ms trees ∥₁
  leaves_some ms leaves = λ clean trees could. ∣ (leaves clean trees could) ∣₁

  pub keeps_some : (db : Database) → KeepsBeside over_files desk db → HasCleanDisk (file_state desk.conn) → (trees : Trees) → (file_state desk.conn).may_leave trees → ∥ HasBeside db trees ∥₁
  keeps_some db keeps = λ clean trees could. ∣ (keeps clean trees could) ∣₁

  pub hands_back : (it : Unopened D g) (fault : Fault) → IsUnopenedOver now it fault → (ms : List (Option Catalogue)) → LeavesOneOf over_files desk ms → HandsBack now (IsOneOf ms) it
  hands_back it fault h ms leaves = hands_by (IsOneOf ms) (leaves_some ms leaves) it fault h (λ conn over honest trees stop. rejected_leaves conn fault over honest ms leaves trees stop)

  pub hands_beside : (it : Unopened D g) (fault : Fault) → IsUnopenedOver now it fault → (db : Database) → KeepsBeside over_files desk db → HandsBack now (HasBeside db) it
  hands_beside it fault h db keeps = hands_by (HasBeside db) (keeps_some db keeps) it fault h (λ conn over honest trees stop. ∣ (rejected_keeps conn fault over honest db keeps trees stop) ∣₁)

  pub excused : (it : Unopened D g) (fault : Fault) → IsUnopenedOver now it fault → IsExcused now it fault
  excused (left.Files None) fault h = absurd h
  excused (left.Files (Some rest)) fault h = λ clean still. excused_by now rest h.error fault (∥∥₁_map (opens clean (image_of g now) stay) (λ db. (db.0, db.2))) h.told (h.cause still)
  excused (left.Spent both) fault h = absurd h
  excused (left.Database conn) fault h = tt

-- they are not opened, for no failed sync
pub unopened_again : {D : Type 0} {g : Ghosts D} (files : Files D) (it : Unopened D g) (fault : Fault) → IsUnopenedOver files it fault → IsUnopenedAgain files it fault
unopened_again files (left.Files now) fault h = h
unopened_again files (left.Spent both) fault h = absurd h
unopened_again files (left.Database conn) fault h = h

-- the fault is one of an opening
pub kind_of : {D : Type 0} {g : Ghosts D} (files : Files D) (it : Unopened D g) (fault : Fault) → IsUnopenedOver files it fault → IsOfOpening fault
kind_of files (left.Files None) fault h = absurd h
kind_of files (left.Files (Some rest)) fault h = h.kind
kind_of files (left.Spent both) fault h = absurd h
kind_of files (left.Database conn) fault h = h.adopted.kind
