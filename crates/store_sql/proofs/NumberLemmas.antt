-- Integers as they are handed on: by their bits.
use Rattle.std.proofs.Common.{◌≡◌, ℤ, ap, ◌∙◌}
use Rattle.std.proofs.lemmas.Int.{to_z-of_z}
use mir.Syntax.{w64}
use mir.Val.{to_z, of_z, SFits}
use Rattle.sqlite.specs.declared.types.Value.{Value}
use Rattle.sqlite.specs.declared.types.Value.TheVariants.{Int}

-- the value that is bound for an integer
pub bound_int : (v : Value) (z : ℤ) → SFits w64 z → v ≡ Int (to_z w64 (of_z w64 z)) → v ≡ Int z
bound_int v z fits e = e ∙ ap Int (to_z-of_z w64 z fits)
