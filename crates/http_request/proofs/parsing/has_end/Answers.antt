use Rattle.std.proofs.Common.{◌≡◌, ◌<◌, ◌≤◌, ◌-◌, ℕ, Option, Some, None, List, length, take, drop, sym, subst}
use Rattle.std.specs.Prelude.{MatchBool, is_some, slice_index}
use Rattle.std.proofs.lemmas.List.{length-drop}
use Rattle.std.proofs.Math.Seq.{take-length}
use Rattle.memchr.specs.Find.{FindsNeedle}
use Rattle.http_request.specs.Heads.{HasEnd, IsLineEnd}
use Rattle.http_request.proofs.EndLemmas.{needle, ends, no_end}
use Rattle.http_request.proofs.parsing.has_end.Goals as goal

tells : (xs : List ℕ) (s : ℕ) (r : Option ℕ) → s ≤ length xs → ((k : ℕ) → k < s → IsLineEnd (slice_index xs k)) → (s < length xs → ¬ IsLineEnd (slice_index xs s))
    → FindsNeedle (drop s xs) needle 0 r → MatchBool (is_some r) (HasEnd xs) (HasEnd xs → ⊥)
tells xs s (Some k) within before other h = ends xs s k within other h.1
tells xs s None within before other h = no_end xs s within before h

take_all : (xs : List ℕ) (s : ℕ) → take (length xs - s) (drop s xs) ≡ drop s xs
take_all xs s = subst (λ n. take n (drop s xs) ≡ drop s xs) (length-drop s xs) (take-length (drop s xs))

pub returns : goal.returns
returns c =
    let f : FindsNeedle (drop c.first_other.result c.args.octets.now) needle 0 c.find.result =
    subst (λ t. FindsNeedle t needle 0 c.find.result) (take_all c.args.octets.now c.first_other.result) c.find.ensures in
    subst (λ b. MatchBool b (HasEnd c.args.octets.now) (HasEnd c.args.octets.now → ⊥)) (sym c.is_some.ensures)
    (tells c.args.octets.now c.first_other.result c.find.result c.first_other.ensures.within c.first_other.ensures.before c.first_other.ensures.other f)
