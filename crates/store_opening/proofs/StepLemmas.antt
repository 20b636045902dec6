-- Of calls that only read, one after another: what the first has left, and why the next fails.
use Rattle.std.proofs.Common.{◌≡◌}
use Rattle.sqlite.specs.State.{State, HasCleanDisk}
use Rattle.store_scans.specs.Reading.{Same, OnlyReads, IsExcusedReading}
use Rattle.store_scans.specs.declared.fault.ReadingFault.{ReadingFault}
use Rattle.store_scans.proofs.CauseLemmas.{cause_then}
use Rattle.store_scans.proofs.StateLemmas.{clean_before, same_then}

module _ {old mid new : State} (then : OnlyReads mid new) (same : HasCleanDisk mid → Same old mid) where
  -- before the next the disk was clean, and what was shown at first was shown
  pub before : HasCleanDisk new → HasCleanDisk mid × (mid.now ≡ old.now)
  before clean = let early = clean_before old mid new then.survives clean in (early, (same early).now)

  -- behind both it is shown
  pub both_same : (HasCleanDisk new → Same mid new) → HasCleanDisk new → Same old new
  both_same so clean = same_then old mid new (same (before clean).0) (so clean)

  -- the next fails
  pub fails_then : OnlyReads old mid → HasCleanDisk new → (fault : ReadingFault) → IsExcusedReading mid new fault → IsExcusedReading old new fault
  fails_then first clean = cause_then old mid new first.survives (same (before clean).0)
