-- The lines of a stream of octets: only a CR with an LF behind it ends a line (RFC 2229, section 2.3).
use Rattle.std.specs.Prelude.{◌≡◌, ◌≢◌, ℕ, suc, List, [], ◌∷◌, ◌++◌, drop, slice_index, ◌==◌, ◌&&◌, Bool, if◌then◌else◌}
use Rattle.std.specs.List.{flat_map, AllByRecursion}
use Rattle.dict_proto.specs.Text.{crlf}

-- no CR has an LF behind it
abbrev pub HasNoLineEnd : List ℕ → Type 0
HasNoLineEnd l = (i : ℕ) → slice_index l i ≡ 13 → slice_index l (suc i) ≢ 10

-- the octets are these lines, each with its line end, and then an unfinished rest
pub record AreLines (b : List ℕ) (ls : List (List ℕ)) (rest : List ℕ) : Type 0 where
  pub whole : b ≡ flat_map (λ l. l ++ crlf) ls ++ rest
  pub each : AllByRecursion HasNoLineEnd ls
  pub unfinished : HasNoLineEnd rest

-- the same as functions of the octets
pub record Cut : Type 0 where
  pub lines : List (List ℕ)
  pub rest : List ℕ

-- x followed by l begins with a line end
abbrev pub ends_line : ℕ → List ℕ → Bool
ends_line x l = (x == 13) && (slice_index l 0 == 10)

-- the cut of x and then what has these lines and this rest
abbrev pub put_before : ℕ → List (List ℕ) → List ℕ → Cut
put_before x [] rest = if ends_line x rest then record { lines = [] ∷ []; rest = drop 1 rest } else record { lines = []; rest = x ∷ rest }
put_before x (l ∷ ls) rest = if ends_line x l then record { lines = [] ∷ drop 1 l ∷ ls; rest = rest } else record { lines = (x ∷ l) ∷ ls; rest = rest }

abbrev pub cut : List ℕ → Cut
cut [] = record { lines = []; rest = [] }
cut (x ∷ b) = put_before x (cut b).lines (cut b).rest
