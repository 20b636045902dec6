-- What a desk owes of its ghosts.
use Rattle.std.proofs.Common.{◌≡◌, false, refl, sym}
use Rattle.std.proofs.lemmas.Bool.{false≢true}
use Rattle.store_desk.specs.Desk.{is_closed, has_failed}
use Rattle.store_desk.specs.declared.last.LastCall.{LastCall}
use Rattle.store_desk.specs.declared.last.LastCall.TheVariants.{Fine, Failed, Closed}

pub open_unless_failed : (last : LastCall) → has_failed last ≡ false → is_closed last ≡ false
open_unless_failed Fine e = refl
open_unless_failed Failed e = refl
open_unless_failed Closed e = absurd (false≢true (sym e))
