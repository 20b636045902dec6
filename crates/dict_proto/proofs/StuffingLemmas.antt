-- Lines that begin with a period, and lists of rows.
use Rattle.std.proofs.Common.{◌≡◌, ℕ, List, [], ◌∷◌, ◌++◌, Bool, true, false, map, refl, sym, ap, ◌∙◌, append_assoc, codes}
use Rattle.std.specs.Prelude.{slice_index, ◌==◌, if◌then◌else◌}
use Rattle.std.specs.List.{flat_map}
use Rattle.dict_proto.specs.Text.{crlf, stuffed, sent_line, block, quoted}
use Rattle.dict_proto.specs.Replies.{list_row, list_line_octets, list_end_octets}

-- what is put before a line
abbrev pub before : List ℕ → List ℕ
before line = if slice_index line 0 == 46 then 46 ∷ [] else []

by_test : (line : List ℕ) (test : Bool) → (slice_index line 0 == 46) ≡ test → before line ++ line ≡ stuffed line
by_test line true e = rw e refl
by_test line false e = rw e refl

-- a line as it is sent
before-line : (line : List ℕ) → before line ++ (line ++ (crlf ++ [])) ≡ sent_line line
unfolding sent_line
before-line line = sym (append_assoc (before line) line crlf) ∙ ap (λ l. l ++ crlf) (by_test line _ refl)

-- the same where what is put before it is told
pub line-told : (front line : List ℕ) → front ≡ before line → front ++ (line ++ (crlf ++ [])) ≡ sent_line line
line-told front line e = ap (λ l. l ++ (line ++ (crlf ++ []))) e ∙ before-line line

-- a row begins as its name does
before-name : (name text : List ℕ) → before name ≡ before (list_row name text)
before-name [] text = refl
before-name (c ∷ name) text = refl

row_ended : (name text : List ℕ) → name ++ (codes " " ++ (quoted text ++ (crlf ++ []))) ≡ list_row name text ++ (crlf ++ [])
row_ended name text = sym (append_assoc name (codes " " ++ quoted text) crlf)

-- the parts of a line of a list
list_line-parts : (name text : List ℕ) → before name ++ (name ++ (codes " " ++ (quoted text ++ (crlf ++ [])))) ≡ list_line_octets name text
unfolding list_line_octets
list_line-parts name text =
    ap (λ l. before name ++ l) (row_ended name text) ∙ (ap (λ l. l ++ (list_row name text ++ (crlf ++ []))) (before-name name text) ∙ before-line (list_row name text))

-- the same of octets that are told to be these
pub list_line-told : (front begun shown name text : List ℕ) → front ≡ before begun → begun ≡ name → shown ≡ name → front ++ (shown ++ (codes " " ++ (quoted text ++ (crlf ++ [])))) ≡ list_line_octets name text
list_line-told front begun shown name text e f g =
    ap (λ l. l ++ (shown ++ (codes " " ++ (quoted text ++ (crlf ++ []))))) (e ∙ ap before f) ∙ (ap (λ l. before name ++ (l ++ (codes " " ++ (quoted text ++ (crlf ++ []))))) g ∙ list_line-parts name text)

lines_of_rows : (rows : List (List ℕ × List ℕ)) → flat_map (λ row. list_line_octets row.0 row.1) rows ≡ flat_map sent_line (map (λ row. list_row row.0 row.1) rows)
unfolding list_line_octets
lines_of_rows [] = refl
lines_of_rows (row ∷ rows) = ap (λ l. sent_line (list_row row.0 row.1) ++ l) (lines_of_rows rows)

-- rows that are put one after the other, and the end of a list, are a text
pub rows_are_a_block : (rows : List (List ℕ × List ℕ)) → flat_map (λ row. list_line_octets row.0 row.1) rows ++ list_end_octets ≡ block (map (λ row. list_row row.0 row.1) rows)
unfolding list_end_octets
rows_are_a_block rows = ap (λ l. l ++ (46 ∷ crlf)) (lines_of_rows rows)
