-- Kinds of characters (RFC 2229, section 2.2).
use Rattle.std.specs.Prelude.{ℕ, Bool, List, nat_lt, ◌==◌, ◌||◌}
use Rattle.std.specs.List.{list_any}

-- a space or a tab
abbrev pub is_blank : ℕ → Bool
is_blank c = (c == 32) || (c == 9)

-- U+0000 to U+001F, or U+007F
abbrev pub is_control : ℕ → Bool
is_control c = nat_lt c 32 || (c == 127)

-- a control character stands in it
abbrev pub has_control : List ℕ → Bool
has_control octets = list_any is_control octets
