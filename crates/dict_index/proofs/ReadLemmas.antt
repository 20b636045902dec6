-- The tests that a line passes by each step of reading it, and those that it fails.
use Rattle.std.proofs.Common.{ℕ, List, ◌∷◌, ◌++◌, refl, sym, subst, arith}
use Rattle.std.specs.Prelude.{Option, Some, None, IfSome}
use Rattle.std.specs.Str.{IsUtf8}
use Rattle.dict_text.specs.Number.{Spells}
use Rattle.dict_index.specs.Cuts.{AreColumns}
use Rattle.dict_index.specs.Line.{Line, IsLine, behind_tab}
use Rattle.dict_index.specs.Tests.{IfSays, IfFourth, PassesLine}
use Rattle.dict_index.specs.declared.fault.EditionRefusal.TheVariants.{Number}
use Rattle.dict_index.proofs.CutLemmas.{utf8_parts}
use Rattle.dict_index.proofs.LineLemmas.{columns_of_line}

-- columns that aren't both spelled say nothing
pub number_fails : (text : List ℕ) (before : List (List ℕ)) (line h o s : List ℕ) (f : Option (List ℕ)) → AreColumns line h o s f → ((m n : ℕ) → Spells o m → Spells s n → ⊥) → ¬ PassesLine Number text before line
number_fails text before line h o s f c none found = let parts = columns_of_line line h o s f found.0 c found.1 in none found.0.offset found.0.size parts.1 parts.2

-- what doesn't hold of what a line says, and of its fourth column
pub says_not : (line : List ℕ) (said : Line) (P : Line → Type 0) → IsLine line said → ¬ P said → ¬ IfSays line P
says_not line said P l bad passes = bad (passes said l)

pub fourth_not : (line h o s : List ℕ) (f : Option (List ℕ)) (P : List ℕ → Type 0) (said : Line) → AreColumns line h o s f → IsLine line said → ¬ IfSome f P → ¬ IfFourth line P
fourth_not line h o s f P said c l bad passes = bad (subst (λ g. IfSome g P) (columns_of_line line h o s f said c l).3 (passes said l))

pub fourth_passes : (line h o s : List ℕ) (f : Option (List ℕ)) (P : List ℕ → Type 0) → AreColumns line h o s f → IfSome f P → IfFourth line P
fourth_passes line h o s f P c p said l = subst (λ g. IfSome g P) (sym (columns_of_line line h o s f said c l).3) p

-- the headword and the fourth column of a line of text are text
pub headword_utf8 : (line h o s : List ℕ) (f : Option (List ℕ)) → IsUtf8 line → AreColumns line h o s f → IsUtf8 h
headword_utf8 line h o s f u c = (utf8_parts line h (o ++ (9 ∷ s ++ behind_tab f)) 9 c.whole (omega arith) u).0

pub fourth_utf8 : (line h o s : List ℕ) (f : Option (List ℕ)) → IsUtf8 line → AreColumns line h o s f → IfSome f IsUtf8
fourth_utf8 line h o s None u c = tt
fourth_utf8 line h o s (Some column) u c =
    let rest = (utf8_parts line h (o ++ (9 ∷ s ++ 9 ∷ column)) 9 c.whole (omega arith) u).1 in
    let last = (utf8_parts (o ++ (9 ∷ s ++ 9 ∷ column)) o (s ++ 9 ∷ column) 9 refl (omega arith) rest).1 in
    (utf8_parts (s ++ 9 ∷ column) s column 9 refl (omega arith) last).1
