-- A line that is tested as the first, behind others.
use Rattle.std.proofs.Common.{ℕ, inl, inr, List, [], refl}
use Rattle.dict_index.specs.Refusals.{line_tests}
use Rattle.dict_index.specs.Refused.{PassesEach, LineFailsFirst}
use Rattle.dict_index.specs.Tests.{PassesLine}
use Rattle.dict_index.specs.declared.fault.EditionRefusal.{EditionRefusal}
use Rattle.dict_index.specs.declared.fault.EditionRefusal.TheVariants.{ReservedTwice}
use Rattle.dict_reading.specs.Gathered.{IsTwice}
use Rattle.dict_reading.specs.Lines.{FailsBehind, FailsAlone}
use Rattle.dict_reading.specs.declared.line.EditionLineFault.{EditionLineFault}
use Rattle.dict_reading.specs.declared.line.EditionLineFault.TheVariants.{Refused, Memory}

module _ (text : List ℕ) (lines : List (List ℕ)) (line : List ℕ) where
  -- all tests but that of a reserved key that an earlier line has are the same behind others
  pub passes_behind : PassesEach line_tests text [] line → PassesLine ReservedTwice text lines line → PassesEach line_tests text lines line
  passes_behind p once = (p.0, (p.1.0, (p.1.1.0, (p.1.1.1.0, (p.1.1.1.1.0, (p.1.1.1.1.1.0, (p.1.1.1.1.1.1.0, (p.1.1.1.1.1.1.1.0, (once, tt)))))))))

  -- and that one doesn't fail of the first line
  first_fails : (refusal : EditionRefusal) → LineFailsFirst line_tests refusal text [] line → LineFailsFirst line_tests refusal text lines line
  first_fails refusal (inl f) = inl f
  first_fails refusal (inr (a, inl f)) = inr (a, inl f)
  first_fails refusal (inr (a, inr (b, inl f))) = inr (a, inr (b, inl f))
  first_fails refusal (inr (a, inr (b, inr (c, inl f)))) = inr (a, inr (b, inr (c, inl f)))
  first_fails refusal (inr (a, inr (b, inr (c, inr (d, inl f))))) = inr (a, inr (b, inr (c, inr (d, inl f))))
  first_fails refusal (inr (a, inr (b, inr (c, inr (d, inr (e, inl f)))))) = inr (a, inr (b, inr (c, inr (d, inr (e, inl f)))))
  first_fails refusal (inr (a, inr (b, inr (c, inr (d, inr (e, inr (g, inl f))))))) = inr (a, inr (b, inr (c, inr (d, inr (e, inr (g, inl f))))))
  first_fails refusal (inr (a, inr (b, inr (c, inr (d, inr (e, inr (g, inr (h, inl f)))))))) = inr (a, inr (b, inr (c, inr (d, inr (e, inr (g, inr (h, inl f)))))))
  first_fails refusal (inr (a, inr (b, inr (c, inr (d, inr (e, inr (g, inr (h, inr (i, inl f))))))))) = absurd (f.1 (λ said is known. tt))
  first_fails refusal (inr (a, inr (b, inr (c, inr (d, inr (e, inr (g, inr (h, inr (i, inr (j, f)))))))))) = absurd f

  pub fails_behind : (fault : EditionLineFault) → FailsAlone fault text line → FailsBehind fault text lines line
  fails_behind (Refused refusal) h = first_fails refusal h
  fails_behind Memory h = tt

  pub twice_behind : (fault : EditionLineFault) → PassesEach line_tests text [] line → IsTwice fault text lines line → FailsBehind fault text lines line
  twice_behind (Refused ReservedTwice) p h =
      inr (p.0, inr (p.1.0, inr (p.1.1.0, inr (p.1.1.1.0, inr (p.1.1.1.1.0, inr (p.1.1.1.1.1.0, inr (p.1.1.1.1.1.1.0, inr (p.1.1.1.1.1.1.1.0, inl (refl, h)))))))))
  twice_behind (Refused _) p h = absurd h
  twice_behind Memory p h = tt
