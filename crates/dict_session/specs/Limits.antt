-- The names of hosts, under which each line of a session is short.
use Rattle.dict_proto.specs.Streams.{Stream, AppendsFront}
use Rattle.dict_proto.specs.ReplyLines.{AreShortLines}
use Rattle.std.specs.Prelude.{ℕ, Bool, ◌||◌, ◌&&◌, ◌==◌, List}
use Rattle.std.specs.List.{list_all}
use Rattle.dict_text.specs.Names.{has_size, is_capital_letter, is_small_letter, is_digit}

-- A-Z a-z 0-9 . -
abbrev pub is_host_octet : ℕ → Bool
is_host_octet octet = is_capital_letter octet || (is_small_letter octet || (is_digit octet || ((octet == 46) || (octet == 45))))

-- the name of a host: 1 to 253 of these
unfoldable pub is_host : List ℕ → Bool
is_host text = has_size 253 text && list_all is_host_octet text

-- a front of short lines was put
abbrev pub PutsShort : Stream → Stream → Type 0
PutsShort old new = (lines : List ℕ) × AreShortLines lines × AppendsFront old.octets new.octets lines
