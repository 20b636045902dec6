-- What a line means that is passed over, and one that is read.
use Rattle.std.proofs.Common.{◌≡◌, ℕ, ◌+◌, ◌<◌, List, Bool, true, false, ◌&&◌, nat_le, refl, sym, ap, ◌∙◌, arith, length}
use Rattle.std.specs.Prelude.{if◌then◌else◌}
use Rattle.std.specs.Str.{IsUtf8, is_utf8}
use Rattle.std.proofs.lemmas.Bool.Decides.{nat_tests}
use Rattle.std.proofs.lemmas.Str.{IsUtf8-from_is_utf8}
use Rattle.dict_proto.specs.LineWords.{line_words}
use Rattle.dict_proto.specs.Meaning.{Meaning, meaning, asked, is_readable, not_recognized}
use Rattle.dict_proto.proofs.LineWordsLemmas.{both_true}
use Rattle.dict_proto.proofs.EncodingLemmas.{line_words-octets}

fails : (a b : Bool) (x y : Meaning) → a ≡ false → (if a && b then x else y) ≡ y
fails a b x y e = rw e refl

-- a line of more than 6,144 octets, its CR LF counted, is no command
pub meaning-overlong : (line : List ℕ) → 6144 < length line + 2 → meaning line ≡ not_recognized
unfolding meaning
meaning-overlong line h =
    let long : nat_le (length line + 2) 6144 ≡ false = grind (arith, nat_tests, h) in
    fails (nat_le (length line + 2) 6144) _ _ _ long

holds : (a : Bool) (x y : Meaning) → a ≡ true → (if a then x else y) ≡ x
holds a x y e = rw e refl

not_held : (a : Bool) (x y : Meaning) → a ≡ false → (if a then x else y) ≡ y
not_held a x y e = rw e refl

pub readable-utf8 : (line : List ℕ) → is_readable line ≡ true → IsUtf8 line
readable-utf8 line h = IsUtf8-from_is_utf8 line (both_true (is_utf8 line) _ (both_true _ _ h).1).0

-- a readable line means what its words ask for
pub meaning-readable : (line : List ℕ) → is_readable line ≡ true → meaning line ≡ asked (line_words line)
unfolding meaning
meaning-readable line h = holds _ _ _ h ∙ ap asked (sym (line_words-octets line (readable-utf8 line h)))

pub meaning-unreadable : (line : List ℕ) → is_readable line ≡ false → meaning line ≡ not_recognized
unfolding meaning
meaning-unreadable line h = not_held _ _ _ h
