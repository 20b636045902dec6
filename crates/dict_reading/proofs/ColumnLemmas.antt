-- What the columns of a line say, or that it says nothing.
use Rattle.std.proofs.Common.{◌≡◌, ◌≢◌, ℕ, List, inl, inr, sym, subst, Bor}
use Rattle.std.specs.Prelude.{Option, Some, None, MatchOption, count_by, ◌==◌}
use Rattle.dict_text.specs.Number.{Spells}
use Rattle.dict_index.specs.Cuts.{AreColumns}
use Rattle.dict_index.specs.Line.{Line, IsLine}
use Rattle.dict_index.specs.Views.{octets_of}
use Rattle.dict_index.proofs.CutLemmas.{count_columns}
use Rattle.dict_index.proofs.LineLemmas.{columns_of_line, columns_from_line}
use Rattle.dict_reading.specs.Columns.{AreSaidBy}
use Rattle.dict_reading.specs.declared.columns.Said.{Said}

pub no_line : (line : List ℕ) (said : Line) → count_by (λ octet. octet == 9) line ≢ 2 → count_by (λ octet. octet == 9) line ≢ 3 → IsLine line said → ⊥
no_line line said not_two not_three is =
    elim (count_columns line said.headword is.offset_text is.size_text is.fourth (columns_from_line line said is)) [ inl two ↦ not_two two | inr three ↦ not_three three ]

-- what is found of columns that are the line's is what the line says
pub said_of : (line : List ℕ) (h : Bor (List ℕ)) (o s : List ℕ) (f : Option (Bor (List ℕ))) (found : Option Said) → AreColumns line h.now o s (octets_of f) →
    MatchOption found ((m n : ℕ) → Spells o m → Spells s n → ⊥) (λ said. (said.headword ≡ h) × (said.fourth ≡ f) × Spells o said.offset × Spells s said.size) →
    MatchOption found ((said : Line) → IsLine line said → ⊥) (λ said. AreSaidBy line said)
said_of line h o s f None columns none = λ said is. let parts = columns_of_line line h.now o s (octets_of f) said columns is in none said.offset said.size parts.1 parts.2
said_of line h o s f (Some said) columns is = record {
  offset_text = o;
  size_text = s;
  are = subst (λ g. AreColumns line said.headword.now o s (octets_of g)) (sym is.1) (subst (λ (b : Bor (List ℕ)). AreColumns line b.now o s (octets_of f)) (sym is.0) columns);
  offset = is.2;
  size = is.3;
}
