-- What a desk is behind a commit that changes nothing that is held.
use Rattle.std.proofs.Common.{◌≡◌, inl, inr, ℕ, ◌≤◌, Bool, true, false, List, [], ◌∷◌, refl, sym, ap, subst, ◌∙◌, arith}
use Rattle.std.specs.Prelude.{IsTrue, IsPermutation, Option, Some, None, Contains, Result, Ok, Err, OnErr, IfErr}
use Rattle.std.specs.List.{AllByRecursion}
use Rattle.sqlite.proofs.StateLemmas.{survives_weaker}
use Rattle.sqlite.specs.Disk.{MoreFaults}
use Rattle.sqlite.specs.Effect.{Database}
use Rattle.sqlite.specs.Tree.{Trees}
use Rattle.sqlite.specs.State.{State, HasCleanDisk, IsLive, KeepsCommit, Survives}
use Rattle.sqlite.specs.Held.{Held, state}
use Rattle.sqlite_trees.specs.declared.store.Store.{Ghosts}
use Rattle.dict_text.proofs.AllLemmas.{all_weaker}
use Rattle.dict_index.specs.Edition.{Edition}
use Rattle.dict_catalogue.specs.Items.{Stored, Item, editions_of, edition_numbers}
use Rattle.dict_catalogue.specs.Steps.{Catalogue}
use Rattle.dict_catalogue.specs.Tests.{Holdings}
use Rattle.dict_desk.specs.declared.fault.Fault.{Fault}
use Rattle.dict_desk.specs.declared.fault.Fault.TheVariants.{Refused, Memory, Disk, Closed as Shut, NotACatalogue, Damaged, NewerSchema}
use Rattle.store_holdings.specs.Holds.{IsLeft}
use Rattle.store_holdings.specs.HeldTexts.{text_rows}
use Rattle.store_holdings.proofs.OneLemmas.{held_known, one_left}
use Rattle.store_holdings.specs.CutTexts.{ArePartsOf}
use Rattle.store_holdings.specs.KeptTexts.{PartNumbers}
use Rattle.store_search.specs.Entries.{Indexed}
use Rattle.store_commands.specs.Answers.{HoldsBy}
use Rattle.store_holdings.specs.Committed.{IsTreesOf}
use Rattle.store_commands.specs.Committed.{IsOfStore, StaysCommitted}
use Rattle.store_commands.specs.KeptRecords.{SparesTablesOfOthers}
use Rattle.store_commands.specs.Marking.{Remains}
use Rattle.store_commands.proofs.AboveLemmas.{above_same}
use Rattle.store_commands.proofs.WriteLemmas.{others_none}
use Rattle.store_desk.specs.Causes.{FailsToPrepare}
use Rattle.store_desk.specs.Desk.{DeskState, HasFiled, IsAtRest, ServesEdition, Shows, KeepsBeside, LeavesOneOf, StandsFor, has_failed, is_closed}
use Rattle.store_desk.specs.KeptParts.{KeepsTexts, texts_behind}
use Rattle.store_desk.specs.Prepared.{KeepsDesk, last_behind}
use Rattle.store_desk.specs.declared.last.LastCall.{LastCall}
use Rattle.store_desk.specs.Left.{ComingState, Counts}
use Rattle.store_desk.proofs.BesideLemmas.{beside_by}
use Rattle.store_desk.proofs.PreparingLemmas.{behind_closed, behind_failed, lookup_kind, open_closed, parts_behind}
use Rattle.store_desk.proofs.IndexedLemmas.{each_both, each_low}
use Rattle.store_desk.proofs.TextLemmas.{text_carried, texts_stay}

-- ---- a connection

pub remains_itself : (summary : Holdings (List ℕ)) (db : Database) → Remains summary db db
remains_itself summary db = record { holds = λ M held is. held; texts = above_same summary.installs (edition_numbers summary.items) db db refl; others = others_none db }

-- what was committed is so still
pub remains_still : (summary : Holdings (List ℕ)) (old new : State) → StaysCommitted old new → IsTrue new.is_open → Remains summary old.committed new.committed
remains_still summary old new stays live = subst (λ (db : Database). Remains summary old.committed db) (sym (stays.committed live)) (remains_itself summary old.committed)

-- ---- a desk

-- what holds of each where something is so
all_where : {X : Type 0} (A : Type 0) (P : X → Type 0) (xs : List X) → (A → AllByRecursion P xs) → AllByRecursion (λ x. A → P x) xs
all_where A P [] h = tt
all_where A P (x ∷ xs) h = ((λ a. (h a).0), all_where A P xs (λ a. (h a).1))

each_where : (A : Type 0) (P : Stored Edition → Type 0) (items : List (Item Edition)) → (A → AllByRecursion (λ item. AllByRecursion P (editions_of item)) items)
    → AllByRecursion (λ item. AllByRecursion (λ stored. A → P stored) (editions_of item)) items
each_where A P items h =
    all_weaker (λ (item : Item Edition). A → AllByRecursion P (editions_of item)) (λ item. AllByRecursion (λ stored. A → P stored) (editions_of item)) (λ item p. all_where A P (editions_of item) p) items
    (all_where A (λ item. AllByRecursion P (editions_of item)) items h)

-- what a stop may leave of such a commit
abbrev pub CommitsSame : {S : Type 0} → Ghosts S → Holdings (List ℕ) → Held S → Trees → Type 0
CommitsSame g summary h trees = IsTrue (state g h).is_open × IsTreesOf (Remains summary (state g h).committed) trees

module _ {S : Type 0} (g : Ghosts S) (old new : Held S) (summary : Holdings (List ℕ)) (filing : Option ComingState) (before : LastCall) (fine : is_closed before ≡ false) (rest : IsAtRest g before summary filing old)
    (crash : Survives (state g old) (state g new) (CommitsSame g summary old)) (lives : HasCleanDisk (state g new) → IsTrue (state g new).is_open → IsTrue (state g old).is_open)
    (remains : HasCleanDisk (state g new) → IsTrue (state g new).is_open → Remains summary (state g old).committed (state g new).committed) where
  copied_first : HasCleanDisk (state g new) → HasCleanDisk (state g old)
  copied_first clean = omega (arith, crash.clean)

  pub copied_rests : (after : LastCall) (left : Option ComingState) → (HasCleanDisk (state g new) → IsTrue (state g new).is_open → (state g new).now ≡ (state g new).committed) → new.in_transaction ≡ false
      → HasFiled left (state g new) → IsAtRest g after summary left new
  copied_rests after left settled ended filed = record {
    limit = crash.limit ∙ rest.limit;
    ended = ended;
    range = rest.range;
    holds = λ _ clean live.
        let it = rest.holds fine (copied_first clean) (lives clean live) in
        (it.0, record { is_open = live; settled = settled clean live; holds = (remains clean live).holds it.0 it.1.holds it.2 }, it.2);
    filed = λ _. filed;
  }

  copied_shows : {T : Type 0} {taken later : Counts} (result : Result T Fault) (after : LastCall) (indexes : List (ℕ × List Indexed)) (kept texts : List (PartNumbers × List ℕ)) → texts ≡ texts_behind result kept → (M : Catalogue)
      → Shows g (record { conn = old; summary = summary; last = before; indexes = indexes; texts = kept; counts = taken }) M
      → Shows g (record { conn = new; summary = summary; last = after; indexes = indexes; texts = texts; counts = later }) M
  copied_shows {taken = taken} {later = later} result after indexes kept texts is M shown = record {
    summary = shown.summary;
    well_formed = shown.well_formed;
    holds = λ open' clean live. (remains clean live).holds M (shown.holds fine (copied_first clean) (lives clean live)) (sym shown.summary);
    served = λ clean.
        let TextStays : Stored Edition → Type 0 = λ stored. stored.number ≤ summary.installs → IsPermutation (text_rows stored.number (state g old).committed) (text_rows stored.number (state g new).committed) in
        let WhileOpen : Stored Edition → Type 0 = λ stored. IsTrue (state g new).is_open → TextStays stored in
        let Low : Stored Edition → Type 0 = λ stored. stored.number ≤ M.installs in
        let stay = each_where (IsTrue (state g new).is_open) TextStays M.items
        (λ live. texts_stay M summary (sym shown.summary) summary.installs (state g old).committed (state g new).committed (remains clean live).texts) in
        each_both (ServesEdition g (record { conn = old; summary = summary; last = before; indexes = indexes; texts = kept; counts = taken })) (λ stored. WhileOpen stored × Low stored)
        (ServesEdition g (record { conn = new; summary = summary; last = after; indexes = indexes; texts = texts; counts = later }))
        (λ stored one both. record {
          index = one.index;
          stands = one.stands;
          text = one.text;
          cuts = one.cuts;
          kept = subst (ArePartsOf stored.number one.text) (sym is) (parts_behind result stored.number one.text kept one.kept);
          held = λ open' live. text_carried (state g old).committed (state g new).committed stored.number one.text
              (both.0 live (subst (λ (s : Holdings (List ℕ)). stored.number ≤ s.installs) (sym shown.summary) both.1)) (one.held fine (lives clean live));
        })
        M.items (shown.served (copied_first clean)) (each_both WhileOpen Low (λ stored. WhileOpen stored × Low stored) (λ stored a b. (a, b)) M.items stay (each_low M shown.well_formed));
  }

-- the texts that are kept
pub copied_keeps : {T : Type 0} (summary : Holdings (List ℕ)) (before : LastCall) (result : Result T Fault) (after : LastCall) → after ≡ last_behind before result → (kept texts : List (PartNumbers × List ℕ)) → texts
    ≡ texts_behind result kept
    → KeepsTexts before summary kept → KeepsTexts after summary texts
copied_keeps summary before (Ok value) after by kept texts is keeps = subst (KeepsTexts after summary) (sym is) (subst (λ (l : LastCall). KeepsTexts l summary kept) (sym by) keeps)
copied_keeps summary before (Err fault) after by kept texts is keeps = subst (KeepsTexts after summary) (sym is) (record { made = tt; none = λ failed. refl })

-- of the desk the connection alone is another, and what is counted
pub copied_same : {S : Type 0} (old : DeskState S) (conn : Held S) (last : LastCall) (texts : List (PartNumbers × List ℕ)) (later : Counts) (result : Result Bool Fault) → last ≡ last_behind old.last result
    → texts ≡ texts_behind result old.texts → result ≡ Ok true
    → record { conn = conn; summary = old.summary; last = last; indexes = old.indexes; texts = texts; counts = later } ≡ record old { conn = conn; counts = later }
copied_same old conn last texts later (Ok more) by is ok = λ i. record { conn = conn; summary = old.summary; last = by i; indexes = old.indexes; texts = is i; counts = later }
copied_same old conn last texts later (Err fault) by is ok = absurd (let e = ok in cc)

-- why it failed
copied_caused : {S T : Type 0} (g : Ghosts S) (old new : DeskState S) (result : Result T Fault) → IfErr result IsOfStore → OnErr result (KeepsCommit (state g old.conn) (state g new.conn))
    → IfErr result (λ fault. fault ≡ Disk → MoreFaults (state g old.conn).faults (state g new.conn).faults) → IfErr result (FailsToPrepare g old new)
copied_caused g old new (Ok value) kind keeps more = tt
copied_caused g old new (Err (Refused refusal)) kind keeps more = absurd kind
copied_caused g old new (Err Memory) kind keeps more = keeps
copied_caused g old new (Err Disk) kind keeps more = (keeps, more refl)
copied_caused g old new (Err Shut) kind keeps more = absurd kind
copied_caused g old new (Err NotACatalogue) kind keeps more = absurd kind
copied_caused g old new (Err Damaged) kind keeps more = absurd kind
copied_caused g old new (Err NewerSchema) kind keeps more = absurd kind

-- ---- what a stop may leave

stands_on : (m : Option Catalogue) (M : Catalogue) (before after : Trees) → IsLeft M before → IsLeft M after → StandsFor m before → StandsFor m after
stands_on None M before after was is stands = absurd (stands M was)
stands_on (Some N) M before after was is stands = subst (λ (one : Catalogue). IsLeft one after) (one_left before M N was stands) is

copied_leaves : {S : Type 0} (g : Ghosts S) (old new : DeskState S) → HoldsBy old.summary (state g old.conn) → IsLive (state g old.conn)
    → (IsTrue (state g old.conn).is_open → (state g old.conn).may_leave (state g old.conn).committed.trees) → Survives (state g old.conn) (state g new.conn) (CommitsSame g old.summary old.conn)
    → (ms : List (Option Catalogue)) → LeavesOneOf g old ms → LeavesOneOf g new ms
copied_leaves g old new holds sound stays crash ms left clean trees may =
    let early : HasCleanDisk (state g old.conn) = omega (arith, crash.clean) in
    elim (crash.crash clean trees may) as (λ _. (m : Option Catalogue) × Contains ms m × StandsFor m trees) [
      | inl h ↦ left early trees h
      | inr h ↦ (
          let db : Database = (state g old.conn).committed in
          let it = holds early h.0 in
          let one = left early db.trees (stays h.0) in
          let was : IsLeft it.0 db.trees = (db, refl, (sound h.0).1, held_known db it.0 it.1.holds) in
          let is : IsLeft it.0 trees = (h.1.0, h.1.1, h.1.2, held_known h.1.0 it.0 (h.1.3.holds it.0 it.1.holds it.2)) in
          (one.0, one.1, stands_on one.0 it.0 db.trees trees was is one.2)
          )
    ]

copied_beside : {S : Type 0} (g : Ghosts S) (old new : DeskState S) → HoldsBy old.summary (state g old.conn) → IsLive (state g old.conn)
    → (IsTrue (state g old.conn).is_open → (state g old.conn).may_leave (state g old.conn).committed.trees) → Survives (state g old.conn) (state g new.conn) (CommitsSame g old.summary old.conn)
    → (db : Database) → KeepsBeside g old db → KeepsBeside g new db
copied_beside g old new holds sound stays crash =
    beside_by g old new holds sound stays
    (survives_weaker (state g old.conn) (state g new.conn) (CommitsSame g old.summary old.conn) (λ trees. IsTrue (state g old.conn).is_open × IsTreesOf (SparesTablesOfOthers (state g old.conn).committed) trees)
    (λ clean trees h. (h.0, (h.1.0, h.1.1, h.1.2, h.1.3.others))) crash)

-- ---- all that a call that prepares leaves

pub copied_whole : {S : Type 0} (g : Ghosts S) (old : DeskState S) (conn : Held S) (last : LastCall) (texts : List (PartNumbers × List ℕ)) (later : Counts) (filing : Option ComingState) → is_closed old.last ≡ false
    → IsAtRest g old.last old.summary filing old.conn → IsLive (state g old.conn) → (IsTrue (state g old.conn).is_open → (state g old.conn).may_leave (state g old.conn).committed.trees)
    → Survives (state g old.conn) (state g conn) (CommitsSame g old.summary old.conn) → (HasCleanDisk (state g conn) → IsTrue (state g conn).is_open → IsTrue (state g old.conn).is_open)
    → (HasCleanDisk (state g conn) → IsTrue (state g conn).is_open → Remains old.summary (state g old.conn).committed (state g conn).committed) → (result : Result Bool Fault) → last ≡ last_behind old.last result
    → texts ≡ texts_behind result old.texts → IfErr result IsOfStore → (HasCleanDisk (state g conn) → OnErr result (KeepsCommit (state g old.conn) (state g conn)))
    → (HasCleanDisk (state g conn) → IfErr result (λ fault. fault ≡ Disk → MoreFaults (state g old.conn).faults (state g conn).faults))
    → KeepsDesk g old (record { conn = conn; summary = old.summary; last = last; indexes = old.indexes; texts = texts; counts = later }) result
copied_whole g old conn last texts later filing fine rest sound stays crash lives remains result by is kinds keeps faulted =
    let new : DeskState _ = record { conn = conn; summary = old.summary; last = last; indexes = old.indexes; texts = texts; counts = later } in
    record {
      trust = copied_first g old.conn conn old.summary filing old.last fine rest crash lives remains;
      beside = copied_beside g old new (rest.holds fine) sound stays crash;
      shows = λ clean M shown. copied_shows g old.conn conn old.summary filing old.last fine rest crash lives remains result last old.indexes old.texts texts is M shown;
      leaves = copied_leaves g old new (rest.holds fine) sound stays crash;
      kinds = lookup_kind result kinds;
      caused = λ clean. copied_caused g old new result kinds (keeps clean) (faulted clean);
      failed = ap has_failed by ∙ behind_failed old.last result kinds;
      closes = ap is_closed by ∙ behind_closed old.last result fine kinds;
      closed = open_closed old.last result fine kinds;
    }
