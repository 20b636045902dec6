-- The pieces in which the hub is handed what was read: a reader's octets are cut behind each LF, so that none has two ends of lines;
-- an editor's aren't cut.
use Rattle.std.specs.Prelude.{ℕ, ◌==◌, List, [], ◌∷◌, if◌then◌else◌}
use Rattle.net_hub.specs.declared.kind.Kind.{Kind}
use Rattle.net_hub.specs.declared.kind.Kind.TheVariants.{Dict, Http}

-- the octets up to and with the first LF, or all of them where there is none
abbrev pub first_line : List ℕ → List ℕ
first_line [] = []
first_line (b ∷ bs) = if b == 10 then b ∷ [] else b ∷ first_line bs

-- those behind it
abbrev pub behind_line : List ℕ → List ℕ
behind_line [] = []
behind_line (b ∷ bs) = if b == 10 then bs else behind_line bs

-- the piece of these octets that is handed first
abbrev pub next_piece : Kind → List ℕ → List ℕ
next_piece Dict octets = first_line octets
next_piece Http octets = octets

-- those behind it
abbrev pub behind_piece : Kind → List ℕ → List ℕ
behind_piece Dict octets = behind_line octets
behind_piece Http octets = []
