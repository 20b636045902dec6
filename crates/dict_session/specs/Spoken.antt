-- What a session writes, by what it answers to what a line asks. RFC 2229, section 3.1 (the greeting) and 3.9 (QUIT).
use Rattle.std.specs.Prelude.{◌≡◌, ◌≢◌, ℕ, ◌⊎◌, List, [], ◌∷◌, ◌++◌, Bool, true, false, MatchBool, if◌then◌else◌}
use Rattle.std.specs.List.{list_any}
use Rattle.dict_proto.specs.Meaning.{Meaning, meaning}
use Rattle.dict_proto.specs.Replies.{unavailable_octets}
use Rattle.dict_session.specs.Lines.{cut}
use Rattle.dict_session.specs.Answers.{is_quit, need_of, MayBreak, may_be_unavailable}

-- the answers to the lines in order, up to and with that of the first QUIT
abbrev pub answers : (Meaning → List ℕ) → List (List ℕ) → List ℕ
answers answer [] = []
answers answer (l ∷ ls) = answer (meaning l) ++ (if is_quit l then [] else answers answer ls)

abbrev pub has_quit : List (List ℕ) → Bool
has_quit ls = list_any is_quit ls

-- what a session writes that reads these octets: the greeting, and the answers to their lines
abbrev pub session : (Meaning → List ℕ) → List ℕ → List ℕ → List ℕ
session answer greeting octets = greeting ++ answers answer (cut octets).lines

-- the octets o answer the lines in order, up to and with the first QUIT: each by its answer, or where that may be
-- unavailable by the 420 line in its place; `closed` tells whether the desk is closed in the end, and ended whether a QUIT
-- was answered
abbrev pub Speaks : (Meaning → List ℕ) → Bool → List (List ℕ) → List ℕ → Bool → Type 0
Speaks answer closed [] o ended = (o ≡ []) × (ended ≡ false)
Speaks answer closed (l ∷ ls) o ended = (rest : List ℕ) ×
    (((o ≡ answer (meaning l) ++ rest) × MatchBool (is_quit l) ((rest ≡ []) × (ended ≡ true)) (Speaks answer closed ls rest ended))
    ⊎ ((may_be_unavailable closed (meaning l) ≡ true) × (o ≡ unavailable_octets ++ rest) × Speaks answer closed ls rest ended))

-- the first of these lines are answered, none of which is a QUIT, and in place of the answer to the next, which may be
-- unavailable, stands the 420 line
pub record HasUnavailable (answer : Meaning → List ℕ) (closed : Bool) (lines : List (List ℕ)) (octets : List ℕ) : Type 0 where
  pub front : List (List ℕ)
  pub line : List ℕ
  pub behind : List (List ℕ)
  pub rest : List ℕ
  pub are : lines ≡ front ++ line ∷ behind
  pub no_quit : has_quit front ≡ false
  pub needs : may_be_unavailable closed (meaning line) ≡ true
  pub is : octets ≡ answers answer front ++ (unavailable_octets ++ rest)

-- the first octets of others: one of them at least, and not all
pub record IsBeginning (part whole : List ℕ) : Type 0 where
  pub rest : List ℕ
  pub are : whole ≡ part ++ rest
  pub some : part ≢ []
  pub more : rest ≢ []

-- the octets o answer the first of these lines, of which no QUIT was answered, and then they are a beginning of the answer
-- to the next, behind what the desk had to tell before its first octet
pub record BreaksOff (answer : Meaning → List ℕ) (closed : Bool) (lines : List (List ℕ)) (o : List ℕ) : Type 0 where
  pub front : List (List ℕ)
  pub line : List ℕ
  pub behind : List (List ℕ)
  pub said : List ℕ
  pub part : List ℕ
  pub are : lines ≡ front ++ line ∷ behind
  pub spoken : Speaks answer closed front said false
  pub begins : IsBeginning part (answer (meaning line))
  pub behind_told : MayBreak (need_of (meaning line)) part begins.rest
  pub is : o ≡ said ++ part
