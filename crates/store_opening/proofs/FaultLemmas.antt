-- A fault of a reading, as a desk tells it.
use Rattle.std.proofs.Common.{◌≡◌, refl}
use Rattle.store_scans.specs.declared.fault.ReadingFault.{ReadingFault}
use Rattle.store_scans.specs.declared.fault.ReadingFault.TheVariants.{Damaged, Memory, Disk}
use Rattle.store_scans.specs.Reading.{fault_told}

pub told_once : (f g : ReadingFault) → fault_told f ≡ fault_told g → f ≡ g
told_once Damaged Damaged e = refl
told_once Memory Memory e = refl
told_once Disk Disk e = refl
told_once f g e = absurd (cc)
