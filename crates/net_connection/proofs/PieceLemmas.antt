-- Pieces, and what is held behind them.
use Rattle.std.proofs.Common.{◌≡◌, ◌≢◌, ℕ, zero, suc, ◌+◌, ◌<◌, ◌≤◌, true, false, List, [], ◌∷◌, ◌++◌, length, length-append, take, drop, get_or, refl, ap, sym, ◌∙◌, arith, add-one, eqb, eq-eqb, eqb-true, inl, inr, append-nil}
use Rattle.std.proofs.lemmas.Bool.Decides.{nat_tests, eqb_tells}
use Rattle.std.proofs.Math.Seq.{drop-length}
use Rattle.std.proofs.lemmas.List.{nil_from_length}
use Rattle.memchr.specs.Find.{NoneBefore, Nowhere, Passes, is_byte}
use Rattle.net_hub.specs.declared.kind.Kind.{Kind}
use Rattle.net_hub.specs.declared.kind.Kind.TheVariants.{Dict, Http}
use Rattle.net_connection.specs.Pieces.{first_line, behind_line, next_piece, behind_piece}
use Rattle.net_connection.specs.Handing.{held_in, is_handed}
use Rattle.net_connection.specs.declared.held.Held.{Held}

-- what holds of each place after the first holds of each place of the rest
none_later : (b : ℕ) (bs : List ℕ) (n : ℕ) → ((k : ℕ) → k < suc n → get_or (b ∷ bs) k 0 ≢ 10) → (k : ℕ) → k < n → get_or bs k 0 ≢ 10
none_later b bs n none k lt = none (suc k) (omega arith)

line_at : (bs : List ℕ) (n : ℕ) → n < length bs → ((k : ℕ) → k < n → get_or bs k 0 ≢ 10) → get_or bs n 0 ≡ 10 → first_line bs ≡ take (suc n) bs
line_at [] n lt none here = absurd (omega arith)
line_at (b ∷ bs) zero lt none here = let test : eqb b 10 ≡ true = eq-eqb b 10 here in rw test refl
line_at (b ∷ bs) (suc n) lt none here =
    let other : b ≢ 10 = none 0 (omega arith) in
    let test : eqb b 10 ≡ false = grind (arith, nat_tests, other) in
    rw test (ap (λ (l : List ℕ). b ∷ l) (line_at bs n (omega arith) (none_later b bs n none) here))

line_whole : (bs : List ℕ) → ((k : ℕ) → k < length bs → get_or bs k 0 ≢ 10) → first_line bs ≡ bs
line_whole [] none = refl
line_whole (b ∷ bs) none =
    let other : b ≢ 10 = none 0 (omega arith) in
    let test : eqb b 10 ≡ false = grind (arith, nat_tests, other) in
    rw test (ap (λ (l : List ℕ). b ∷ l) (line_whole bs (none_later b bs (length bs) none)))

-- the first line, by what a search for the first LF answers
pub line_found : (bs : List ℕ) (n : ℕ) → NoneBefore (Passes (is_byte 10) bs) 0 (length bs) n → Passes (is_byte 10) bs n → take (n + 1) bs ≡ first_line bs
line_found bs n none here =
    ap (λ (m : ℕ). take m bs) (add-one n) ∙ sym (line_at bs n none.high (λ k lt ten. none.before k (omega arith) lt (eq-eqb _ _ ten)) (eqb-true _ _ here))

pub line_not_found : (bs : List ℕ) → Nowhere (Passes (is_byte 10) bs) 0 (length bs) → bs ≡ first_line bs
line_not_found bs none = sym (line_whole bs (λ k lt ten. none k (omega arith) lt (eq-eqb _ _ ten)))

line_and_rest : (bs : List ℕ) → first_line bs ++ behind_line bs ≡ bs
line_and_rest [] = refl
line_and_rest (b ∷ bs) = elim (eqb_tells b 10) [
  | inl same ↦ rw same.0 refl
  | inr other ↦ rw other.0 (ap (λ (l : List ℕ). b ∷ l) (line_and_rest bs))
]

-- no octet is lost between them
pub piece_and_rest : (kind : Kind) (octets : List ℕ) → next_piece kind octets ++ behind_piece kind octets ≡ octets
piece_and_rest Dict octets = line_and_rest octets
piece_and_rest Http octets = append-nil octets

behind_dropped : (bs : List ℕ) → drop (length (first_line bs)) bs ≡ behind_line bs
behind_dropped [] = refl
behind_dropped (b ∷ bs) = elim (eqb_tells b 10) [
  | inl same ↦ rw same.0 refl
  | inr other ↦ rw other.0 (behind_dropped bs)
]

-- what is left where the piece is taken off
pub piece_dropped : (kind : Kind) (octets : List ℕ) → drop (length (next_piece kind octets)) octets ≡ behind_piece kind octets
piece_dropped Dict octets = behind_dropped octets
piece_dropped Http octets = drop-length octets

pub piece_within : (kind : Kind) (octets : List ℕ) → length (next_piece kind octets) ≤ length octets
piece_within kind octets = omega (arith, ap length (piece_and_rest kind octets), length-append (next_piece kind octets) (behind_piece kind octets))

pub none_held : (held : Held) → is_handed held ≡ true → held_in held ≡ []
none_held held is = nil_from_length (held_in held) (eqb-true (length (held_in held)) 0 is)
