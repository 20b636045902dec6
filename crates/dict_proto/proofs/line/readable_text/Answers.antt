use Rattle.std.proofs.Common.{◌≡◌, ℕ, ◌+◌, ◌≤◌, List, length, Bool, true, false, nat_le, ◌&&◌, refl, sym, ◌∙◌, ap, arith}
use Rattle.std.proofs.lemmas.Bool.Decides.{nat_tests}
use Rattle.std.proofs.lemmas.Str.{IsUtf8-from_is_utf8, is_utf8-from_IsUtf8}
use Rattle.std.specs.Str.{IsUtf8, is_utf8, chars}
use Rattle.std.specs.List.{list_all}
use Rattle.dict_proto.proofs.line.readable_text.Goals as goal

second_fails : (a b c : Bool) → b ≡ false → (a && (b && c)) ≡ false
second_fails true b c e = rw e refl
second_fails false b c e = refl

all_hold : (a b c d : Bool) → a ≡ true → b ≡ true → c ≡ true → d ≡ true → (a && (b && (c && d))) ≡ true
all_hold a b c d e f g h = rw (e, f, g, h) refl

not_utf8 : (line : List ℕ) (test : Bool) → is_utf8 line ≡ test → ¬ IsUtf8 line → test ≡ false
not_utf8 line true e none = absurd (none (IsUtf8-from_is_utf8 line e))
not_utf8 line false e none = refl

at_most : (m n : ℕ) → m + 2 ≤ n → nat_le (m + 2) n ≡ true
at_most m n h = grind (arith, nat_tests, h)

pub returns-in_default : goal.returns-in_default
returns-in_default c = second_fails _ _ _ (not_utf8 c.args.line.now _ refl c.in_default.ensures.cases.0)

pub returns-then-has_only_text_characters : goal.returns-then-has_only_text_characters
returns-then-has_only_text_characters c =
    let same : c.in-Ok.text.now ≡ c.args.line.now = c.in-Ok.ensures.cases.0 in
    let count : length (chars c.args.line.now) ≡ c.character_count.result = sym (c.character_count.ensures ∙ ap (λ l. length (chars l)) same) in (
      same,
      all_hold _ _ _ _
          (at_most _ _ (omega arith))
          (is_utf8-from_IsUtf8 _ c.in-Ok.ensures.cases.1)
          (at_most _ _ (omega arith))
          (ap (list_all _) (ap chars (sym same)) ∙ sym c.has_only_text_characters.ensures ∙ c.if-has_only_text_characters.true),
    )
