-- What an edition says at a place.
use Rattle.std.proofs.Common.{◌≡◌, ℕ, zero, suc, List, [], ◌∷◌, length, get_or, map, refl, subst, sym, ap, ◌∙◌, true, ltb}
use Rattle.std.proofs.lemmas.Bool.{ltb-true}
use Rattle.std.proofs.lemmas.Option.{slice_get-map, slice_get_read}
use Rattle.std.specs.Prelude.{Some, slice_get}
use Rattle.std.specs.List.{AllByRecursion}
use Rattle.std.specs.Option.{option_map}
use Rattle.dict_index.specs.Edition.{entry_in}
use Rattle.dict_index.specs.WellFormed.{IsWellFormedEntry}
use Rattle.dict_reading.specs.Places.{line_in}
use Rattle.dict_reading.specs.declared.places.EntryPlace.{EntryPlace}

-- what a look-up finds
pub there : (places : List EntryPlace) (i : ℕ) (place : EntryPlace) → true ≡ ltb i (length places) → place ≡ get_or places i place → slice_get places i ≡ Some place
there places i place lt is = slice_get_read places (length places) i place refl (ltb-true i (length places) (sym lt)) is

pub entry_at : (index text : List ℕ) (places : List EntryPlace) (i : ℕ) (place : EntryPlace) → slice_get places i ≡ Some place →
    AllByRecursion IsWellFormedEntry (map (entry_in text) (map (line_in index) places)) → IsWellFormedEntry (entry_in text (line_in index place))
entry_at index text [] i place e all = absurd (cc)
entry_at index text (p ∷ places) zero place e all = let same : p ≡ place = cc in subst (λ q. IsWellFormedEntry (entry_in text (line_in index q))) same all.0
entry_at index text (p ∷ places) (suc i) place e all = entry_at index text places i place e all.1

pub line_of_place : (index : List ℕ) (places : List EntryPlace) (i : ℕ) (place : EntryPlace) → slice_get places i ≡ Some place → slice_get (map (line_in index) places) i ≡ Some (line_in index place)
line_of_place index places i place e = slice_get-map (line_in index) places i ∙ ap (λ o. option_map (line_in index) o) e
