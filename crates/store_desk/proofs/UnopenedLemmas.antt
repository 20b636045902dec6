-- What is left of two files that were not opened.
use Rattle.std.proofs.Common.{◌≡◌, ◌≢◌, ◌⊎◌, inl, inr, ℕ, ◌%◌, ◌≤◌, IsTrue, false, refl, sym, ap, subst, ◌∙◌, arith, take_all}
use Rattle.std.proofs.lemmas.Bool.{cases_eq, eq-eqb, ne_eqb, true≢false}
use Rattle.std.proofs.Math.Logic.{∥∥₁_map, ∥∥₁_elim}
use Rattle.sqlite_disk.specs.Disk.{MoreFaults}
use Rattle.sqlite_disk.specs.declared.Disk.{Ghosts}
use Rattle.sqlite_disk.specs.declared.Files.{Files}
use Rattle.sqlite_wal.specs.Recovery as raw
use Rattle.sqlite.specs.Recovery.{Image}
use Rattle.sqlite_wal.specs.Recovery.{Pages, AreWhole}
use Rattle.sqlite.specs.Tree.{Trees}
use Rattle.sqlite.specs.WalFiles.{outcomes}
use Rattle.sqlite_pool.specs.Stored.{reserved, is_summed, stored_size, sealed, trimmed, AreSealed, Recovers, StandsAs}
use Rattle.sqlite_pool.specs.StoredLaws.{RecoversAs-from, shown, carried}
use Rattle.sqlite_pool.proofs.ResealLemmas.{adopts_of, plain_adopts}
use Rattle.sqlite_pool.proofs.StateLemmas.{size_is_allowed}
use Rattle.sqlite_store.specs.Listing.{IsOurs}
use Rattle.sqlite_store.specs.declared.store.FileStore.{FileStore}
use Rattle.sqlite.specs.FileStore.{state, view, recovers}
use Rattle.sqlite_store.specs.FileStore.{schema_in, reading}
use Rattle.sqlite.specs.Held.{AreDatabases}
use Rattle.sqlite_pool.proofs.ProbeLemmas.{size_by_log, size_by_file, reserved_word}
use Rattle.sqlite.specs.Files.{HoldsDatabase, NamesSize, SaysSums, FailsToOpenFiles, IsFullLeft, LeavesFiles, faults_of, faults_left, image_of}
use Rattle.sqlite.specs.declared.error.Error.{Error}
use Rattle.sqlite.specs.declared.file.Leftover.{Leftover}
use Rattle.sqlite.specs.declared.file.Leftover.TheVariants as rest
use Rattle.sqlite.proofs.FileLemmas.{is_something}
use Rattle.sqlite_store.specs.Unopened.{state_of}
use Rattle.dict_desk.specs.declared.fault.Fault.{Fault}
use Rattle.dict_desk.specs.declared.fault.Fault.TheVariants.{Memory}
use Rattle.store_desk.specs.Reopened.{AreTreesIn}
use Rattle.store_desk.specs.Unopened.{fault_of_files, IsSealed, RestLeaves}

-- ---- the size of pages

-- octets that hold a database name the size of its pages
module _ (image : Image) (db : Trees) (held : HoldsDatabase image db) (n : ℕ) (names : NamesSize image (stored_size n)) (says : IsTrue (is_summed n) → SaysSums (stored_size n) image) where
  large : 504 ≤ held.0
  large = let few : reserved held.0 ≤ 8 = grind arith in omega (arith, held.1.0)

  stored_same : stored_size held.0 ≡ stored_size n
  stored_same = elim (cases_eq (stored_size held.0) (stored_size n)) [
    | inl same ↦ same
    | inr other ↦
        let unread : ¬ raw.IsIgnored image.log = λ ignored. other (sym (names.1 ignored ∙ size_by_file held.0 image held.2.pages held.2.found large held.2.ours.file.sound ignored)) in
        absurd (other (sym (names.0 unread ∙ size_by_log held.0 image held.2.pages held.2.found unread)))
  ]

  -- and it is that of the other, unless this takes sums for a part of the pages
  same_or_plain : (held.0 ≡ n) ⊎ (n % 16 ≢ 8)
  same_or_plain = elim (cases_eq (n % 16) 8) [
    | inl eight ↦
        let mine : reserved n ≡ 8 = rw (eq-eqb (n % 16) 8 eight) in
        let word = reserved_word held.0 image held.2.pages held.2.found large held.2.ours.file.sound in
        let sums = says (eq-eqb (reserved n) 8 mine) held.2.found.stored word.0 (subst (λ s. raw.Recovers s image held.2.found.stored) stored_same held.2.found.found) word.1 (word.2 ∙ stored_same) in
        inl (omega (arith, sums, word.3, stored_same, mine))
    | inr other ↦ inr other
  ]

-- pages of a size without sums end in none
plain_sealed : (n : ℕ) (stored : Pages) → n % 16 ≢ 8 → AreWhole (stored_size n) stored → AreSealed n stored
unfolding sealed
plain_sealed n stored plain whole m bytes is =
    let all : stored_size n ≡ n = rw (ne_eqb (n % 16) 8 plain) (omega arith) in
    let len = whole.sized m bytes is ∙ all in
    rw (take_all n bytes (omega arith), len, ne_eqb (n % 16) 8 plain)

-- what stands as such octets holds the same database
still_held : (image left : Image) (db : Trees) (held : HoldsDatabase image db) (n : ℕ) → held.0 ≡ n → StandsAs n image left → HoldsDatabase left db
still_held image left db held n same stands =
    let it = held.2 in
    let adopts = subst (λ s. StandsAs s image left) (sym same) stands in
    (held.0, held.1, record { pages = it.pages; wanted = it.wanted; schema = it.schema; found = adopts.1 it.pages it.found; ours = it.ours; reads = it.reads; sound = it.sound })

-- so does what stands as them where the sums are taken for a part of the pages, if no page waited for its sum
still_sealed : (image left : Image) (db : Trees) (held : HoldsDatabase image db) → Recovers held.0 image held.2.pages → (n : ℕ) → stored_size held.0 ≡ stored_size n → n % 16 ≢ 8 → StandsAs n image left → HoldsDatabase left db
still_sealed image left db held whole n stored plain stands =
    let it = held.2 in
    let old : Recovers n image (trimmed n whole.stored) =
    shown n image whole.stored (subst (λ s. raw.Recovers s image whole.stored) stored whole.found) (subst (λ s. AreWhole s whole.stored) stored whole.whole)
    (plain_sealed n whole.stored plain (subst (λ s. AreWhole s whole.stored) stored whole.whole)) in
    let new = plain_adopts n left (trimmed n whole.stored) plain (stands.1 (trimmed n whole.stored) (adopts_of n image (trimmed n whole.stored) old)) in
    let as_stored = RecoversAs-from n image left (trimmed n whole.stored) old new in
    let now = carried held.0 image left (subst (λ s. raw.RecoversAs s image left) (sym stored) as_stored) it.pages whole in
    (held.0, held.1, record { pages = it.pages; wanted = it.wanted; schema = it.schema; found = adopts_of held.0 left it.pages now; ours = it.ours; reads = it.reads; sound = it.sound })

-- files without sums wait for none
pub plain_is_sealed : (image : Image) → ((db : Trees) (held : HoldsDatabase image db) → is_summed held.0 ≡ false) → IsSealed image
plain_is_sealed image plain db held =
    let other : held.0 % 16 ≢ 8 = λ e. let eight : reserved held.0 ≡ 8 = rw (eq-eqb (held.0 % 16) 8 e) in true≢false (sym (eq-eqb (reserved held.0) 8 eight) ∙ plain db held) in
    plain_adopts held.0 image held.2.pages other held.2.found

-- ---- what is opened again

-- such trees are in the octets, of which no page waits for its sum
abbrev pub AreSealedIn : (Trees → Type 0) → Image → Type 0
AreSealedIn P image = (db : Trees) × ((held : HoldsDatabase image db) × Recovers held.0 image held.2.pages) × P db

-- no page waits for its sum in what a stop leaves of a store
pub opens_sealed : {D : Type 0} {g : Ghosts D} (it : FileStore D g) → IsTrue (view it).is_numbered → AreDatabases (recovers it)
    → (left : Image) → (state it).may_leave left → ∥ ((db : Trees) × recovers it db × ((held : HoldsDatabase left db) × Recovers held.0 left held.2.pages)) ∥₁
opens_sealed it numbered sound left may = ∥∥₁_elim it.safe squash₁ (λ all.
    let found = all left may in
    let db = reading it found.0 in
    let allowed : recovers it db = (left, found.0, may, ∣ found.1 ∣₁, refl) in
    let schema = sound db allowed in
    ∥∥₁_elim (size_is_allowed it.pool) squash₁ (λ size. ∥∥₁_map found.2 (λ ours.
    let held : HoldsDatabase left db = (
      (state it).page_size,
      size,
      record {
        pages = found.0;
        wanted = schema_in it found.0;
        schema = schema.0;
        found = adopts_of _ left found.0 found.1;
        reads = refl;
        sound = schema.1;
        ours = subst (λ b. IsOurs (state it).page_size b (schema_in it found.0) found.0) numbered ours;
      },
    ) in
    let r : (x : Trees) × recovers it x × ((h : HoldsDatabase left x) × Recovers h.0 left h.2.pages) = (db, allowed, (held, found.1)) in r)))

-- ---- two files, of which a stop leaves such trees
module _ {D : Type 0} {g : Ghosts D} (files : Files D) (P : Trees → Type 0) (each : (left : Image) → outcomes g files.log files.db left → ∥ AreTreesIn P left ∥₁) (stay : outcomes g files.log files.db (image_of g files)) where
  -- where `sqlite` had begun to write them
  abbrev pub IsReady : Leftover D g → Type 0
  IsReady (rest.Files now) = Unit {0}
  IsReady (rest.Unopened now) = ∥ AreSealedIn P (image_of g files) ∥₁
  IsReady (rest.Store now) = Unit {0}

  pub all_ready : (now : Leftover D g) → ∥ AreSealedIn P (image_of g files) ∥₁ → IsReady now
  all_ready (rest.Files now) one = tt
  all_ready (rest.Unopened now) one = one
  all_ready (rest.Store now) one = tt

  pub rest_leaves : (now : Leftover D g) → IsReady now → LeavesFiles files now → RestLeaves P now
  rest_leaves (rest.Files now) ready left = λ image out. each image (left image out)
  rest_leaves (rest.Unopened now) ready left = λ image may. ∥∥₁_elim ready squash₁ (λ one.
      let db = one.0 in
      let held = one.1.0 in
      elim left as (λ _. ∥ AreTreesIn P image ∥₁) [
        | inl nothing ↦ absurd (is_something (image_of g files) db held nothing.0)
        | inr begun ↦ elim (begun.4 image may).same as (λ _. ∥ AreTreesIn P image ∥₁) [
          | inl out ↦ each image out
          | inr stands ↦
              let n = (state_of now).page_size in
              let same = stored_same (image_of g files) db held n begun.1 begun.3 in
              let there : HoldsDatabase image db = elim (same_or_plain (image_of g files) db held n begun.1 begun.3) [
                | inl is ↦ still_held (image_of g files) image db held n is stands
                | inr plain ↦ still_sealed (image_of g files) image db held one.1.1 n same plain stands
              ] in
              ∣ (db, there, one.2) ∣₁
        ]
      ])
  rest_leaves (rest.Store now) ready left = λ trees found. ∥∥₁_map (each (image_of g files) stay) (λ one.
      let same : trees ≡ one.0 = (left trees found).1 one.0 one.1 in
      subst P (sym same) one.2)

-- files that hold a database are refused for memory, a failure of the disk, or a limit
pub excused_by : {D : Type 0} {g : Ghosts D} (files : Files D) (now : Leftover D g) (error : Error) (fault : Fault) → ∥ ((db : Trees) × HoldsDatabase (image_of g files) db) ∥₁ → fault ≡ fault_of_files error
    → FailsToOpenFiles files now error → (fault ≡ Memory) ⊎ (MoreFaults (faults_of g files) (faults_left now) ⊎ IsFullLeft now)
excused_by files now error fault found told (inl memory) = inl (told ∙ ap fault_of_files memory)
excused_by files now error fault found told (inr (inl refused)) = absurd (∥∥₁_elim found (λ x y. absurd x) (λ db. refused.1 (inl db)))
excused_by files now error fault found told (inr (inr (inl failed))) = inr (inl failed.1)
excused_by files now error fault found told (inr (inr (inr full))) = inr (inr full.1)
