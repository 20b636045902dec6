-- Lines cut at their tabs.
use Rattle.std.proofs.Common.{◌≡◌, ℕ, List, ◌∷◌, ◌++◌, sym, ◌∙◌, subst, append-nil}
use Rattle.std.specs.Prelude.{Option, Some, None}
use Rattle.dict_index.specs.Line.{behind_tab}
use Rattle.dict_index.specs.Cuts.{HasNo, IsCutAt, AreLast, AreColumns}
use Rattle.dict_index.proofs.CutLemmas.{one_cut}
use Rattle.store_rows.proofs.OctetLemmas.{no_seam}

-- a list that lacks an octet isn't cut at it, and what is cut twice has no fourth column
pub lacks_no_cut : (b : ℕ) (line xs ys : List ℕ) → HasNo b line → line ≡ xs ++ b ∷ ys → ⊥
lacks_no_cut b line xs ys h e = no_seam b xs ys (subst (HasNo b) e h)

pub no_last : (rest s shown a b : List ℕ) → IsCutAt 9 rest s shown → IsCutAt 9 shown a b → (third : List ℕ) (fourth : Option (List ℕ)) → AreLast rest third fourth → ⊥
no_last rest s shown a b first second third None last = lacks_no_cut 9 rest s shown (subst (HasNo 9) (sym (last.whole ∙ append-nil third)) last.third_none) first.whole
no_last rest s shown a b first second third (Some column) last =
    let same = one_cut 9 s shown third column first.none last.third_none (sym first.whole ∙ last.whole) in
    lacks_no_cut 9 column a b last.fourth_none (sym same.1 ∙ second.whole)

-- of a line that is cut, the columns behind
pub columns_behind : (line h rest x o t : List ℕ) (f : Option (List ℕ)) → IsCutAt 9 line h rest → AreColumns line x o t f → rest ≡ o ++ (9 ∷ t ++ behind_tab f)
columns_behind line h rest x o t f cut c = (one_cut 9 h rest x (o ++ (9 ∷ t ++ behind_tab f)) cut.none c.first_none (sym cut.whole ∙ c.whole)).1

pub last_behind : (line h rest o more x p t : List ℕ) (f : Option (List ℕ)) → IsCutAt 9 line h rest → IsCutAt 9 rest o more → AreColumns line x p t f → AreLast more t f
last_behind line h rest o more x p t f cut again c = record {
  whole = (one_cut 9 o more p (t ++ behind_tab f) again.none c.second_none (sym again.whole ∙ columns_behind line h rest x p t f cut c)).1;
  third_none = c.third_none;
  fourth_none = c.fourth_none;
}
