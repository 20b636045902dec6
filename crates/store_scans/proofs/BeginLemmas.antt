-- A scan that was begun, and then taken whole; behind it the connection is handed back.
use Rattle.std.proofs.Common.{◌≡◌, false, [], IfErr, IsTrue, OnOk, Result, Ok, Err, sym, subst}
use Rattle.sqlite.specs.Effect.{Database, IsDatabase}
use Rattle.sqlite.specs.State.{HasCleanDisk, Survives, IsUnchanged, IsLive}
use Rattle.sqlite.specs.Held.{Held, state}
use Rattle.sqlite_trees.specs.declared.store.Store.{Ghosts}
use Rattle.store_tables.specs.Effects.{WhileOpen}
use Rattle.store_scans.specs.Cursors.{Cursor, CursorHasGiven}
use Rattle.store_scans.specs.declared.fault.ReadingFault.{ReadingFault}
use Rattle.store_scans.specs.declared.fault.ReadingFault.TheVariants.{Damaged}
use Rattle.store_scans.specs.Reading.{StaysUnlessShut, OnlyReads, IsExcusedReading}
use Rattle.store_scans.proofs.CauseLemmas.{cause_then}
use Rattle.store_scans.proofs.StateLemmas.{clean_before, same_as, same_stays, reads_then}

module _ {S : Type 0} (g : Ghosts S) (what : Cursor) (old mid end new : Held S) (handed : end ≡ new) (begun : HasCleanDisk (state g mid) → CursorHasGiven g what mid [] × IsUnchanged (state g old) (state g mid))
    (later : Survives (state g mid) (state g end) (λ _. ⊥)) where
  late : HasCleanDisk (state g new) → HasCleanDisk (state g end)
  late clean = subst (λ h. HasCleanDisk (state g h)) (sym handed) clean

  early : HasCleanDisk (state g end) → HasCleanDisk (state g mid)
  early = clean_before (state g old) (state g mid) (state g end) later

  pub reads_on : (old.in_transaction ≡ false → mid.in_transaction ≡ false) → Survives (state g old) (state g mid) (λ _. ⊥) → (mid.in_transaction ≡ false → end.in_transaction ≡ false) →
      (HasCleanDisk (state g end) → (any : Cursor) → CursorHasGiven g any mid [] → StaysUnlessShut (state g mid) (state g end)) → OnlyReads (state g old) (state g new)
  reads_on mode survives mode_later stays = subst (λ h. OnlyReads (state g old) (state g h)) handed (record {
    mode = (λ m. mode_later (mode m));
    survives = both.survives;
    stays = both.stays;
  })
    where
      first : OnlyReads (state g old) (state g mid)
      first = record { mode = mode; survives = survives; stays = (λ clean. same_stays (state g old) (state g mid) (same_as (state g old) (state g mid) (begun clean).1)) }

      both : OnlyReads (state g old) (state g end)
      both = reads_then (state g old) (state g mid) (state g end) first (record { mode = mode_later; survives = later; stays = (λ clean. stays clean what (begun (early clean)).0) })

  pub whole_on : {T E : Type 0} (result : Result T E) (P : Cursor → Database → Type 0) → (HasCleanDisk (state g end) → OnOk result ((any : Cursor) → CursorHasGiven g any mid [] → P any (state g mid).now))
      → HasCleanDisk (state g new) → OnOk result (P what (state g old).now)
  whole_on (Err e) P h clean = tt
  whole_on (Ok x) P h clean = subst (P what) (begun (early (late clean))).1.0.now_is (h (late clean) what (begun (early (late clean))).0)

  pub damaged_on : {T : Type 0} (result : Result T ReadingFault) (P : Cursor → Database → Type 0)
      → (HasCleanDisk (state g end) → IfErr result (λ fault. fault ≡ Damaged → (any : Cursor) → CursorHasGiven g any mid [] → P any (state g mid).now)) → HasCleanDisk (state g new) →
      IfErr result (λ fault. fault ≡ Damaged → P what (state g old).now)
  damaged_on (Ok x) P h clean = tt
  damaged_on (Err e) P h clean = λ is. subst (P what) (begun (early (late clean))).1.0.now_is (h (late clean) is what (begun (early (late clean))).0)

  module _ (survives : Survives (state g old) (state g mid) (λ _. ⊥)) where
    pub cause_on : {T : Type 0} (result : Result T ReadingFault) → (HasCleanDisk (state g end) → IfErr result (λ fault. (any : Cursor) → CursorHasGiven g any mid [] → IsExcusedReading (state g mid) (state g end) fault))
        → HasCleanDisk (state g new) → IfErr result (IsExcusedReading (state g old) (state g new))
    cause_on (Ok x) h clean = tt
    cause_on (Err fault) h clean =
        let first = begun (early (late clean)) in
        subst (λ h. IsExcusedReading (state g old) (state g h) fault) handed
        (cause_then (state g old) (state g mid) (state g end) survives (same_as (state g old) (state g mid) first.1) fault (h (late clean) what first.0))

    -- what was asked of an open connection was so
    pub found_live : (P : Database → Type 0) → WhileOpen (state g old) P → IsLive (state g old) → HasCleanDisk (state g new) → IsDatabase (state g old).now × P (state g old).now
    found_live P has live clean =
        let open' : IsTrue (state g old).is_open = (begun (early (late clean))).1.0.was_open in
        ((live open').0, has (clean_before (state g old) (state g old) (state g mid) survives (early (late clean))) open')
