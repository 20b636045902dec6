use Rattle.std.specs.Prelude.{filter}
use Rattle.std.specs.String.{string_bytes}
use Rattle.dict_match.specs.Key.{in_ascii_lower_case, is_kept_first}
use Rattle.dict_match.specs.Joined.{AreJoinedSoFar}
use Rattle.dict_match.proofs.key.lower_ascii.Given as goal

abbrev pub invariant-loop-c : goal.invariant-loop-c
invariant-loop-c l = AreJoinedSoFar (filter is_kept_first (in_ascii_lower_case l.yielded)) (string_bytes l.joined.written) l.joined.between_words
