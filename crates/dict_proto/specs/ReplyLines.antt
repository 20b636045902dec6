-- The lines of a reply. RFC 2229, section 2.3, bounds command lines by 1,024; replies keep it too.
use Rattle.std.specs.Prelude.{◌≡◌, ◌≢◌, ℕ, ◌+◌, ◌^◌, ◌<◌, ◌≤◌, List, ◌++◌, length, ⊤}
use Rattle.std.specs.List.{flat_map, AllByRecursion}
use Rattle.dict_text.specs.Lines.{text_lines}
use Rattle.dict_proto.specs.Text.{crlf}
use Rattle.dict_proto.specs.declared.reply.Reply.{Reply}
use Rattle.dict_proto.specs.declared.reply.Reply.TheVariants.{Banner, DefinitionCount, Definition, MatchCount, DatabaseCount, StrategyCount, ListLine, ListEnd, InfoHeading, InfoText, Help, ServerInformation, Status}
use Rattle.dict_proto.specs.declared.reply.Reply.TheVariants.{Done, Closing, Unavailable, NotRecognized, InvalidDatabase, InvalidStrategy, NoMatch, NoDatabases, IllegalParameters, NotImplemented}

-- no octet is a CR
abbrev pub HasNoReturn : List ℕ → Type 0
HasNoReturn octets = AllByRecursion (λ octet. octet ≢ 13) octets

-- the octets are lines, each ended by CR LF; none of them has a CR in it, or more than 1,024 octets, its CR LF
-- counted
abbrev pub AreShortLines : List ℕ → Type 0
AreShortLines octets = (lines : List (List ℕ)) × (octets ≡ flat_map (λ line. line ++ crlf) lines)
    × AllByRecursion (λ line. (length line + 2 ≤ 1024) × HasNoReturn line) lines

-- a text of at most so many octets, without a CR
abbrev pub IsShort : ℕ → List ℕ → Type 0
IsShort limit octets = (length octets ≤ limit) × HasNoReturn octets

-- what a reply shows keeps the limits of hosts, headwords, names, titles and texts
abbrev pub IsWithinLimits : Reply → Type 0
IsWithinLimits (Banner host connection) = IsShort 253 host.now × (connection < 2 ^ 64)
IsWithinLimits (DefinitionCount count) = count < 2 ^ 64
IsWithinLimits (Definition headword name title body) = IsShort 255 headword.now × IsShort 32 name.now × IsShort 200 title.now
    × AllByRecursion (IsShort 1021) (text_lines body.now)
IsWithinLimits (MatchCount count) = count < 2 ^ 64
IsWithinLimits (DatabaseCount count) = count < 2 ^ 64
IsWithinLimits (StrategyCount count) = count < 2 ^ 64
IsWithinLimits (ListLine name text) = IsShort 32 name.now × IsShort 255 text.now
IsWithinLimits ListEnd = ⊤
IsWithinLimits InfoHeading = ⊤
IsWithinLimits (InfoText text) = AllByRecursion (IsShort 1021) (text_lines text.now)
IsWithinLimits Help = ⊤
IsWithinLimits (ServerInformation host count) = IsShort 253 host.now × (count < 2 ^ 64)
IsWithinLimits (Status count) = count < 2 ^ 64
IsWithinLimits Done = ⊤
IsWithinLimits Closing = ⊤
IsWithinLimits Unavailable = ⊤
IsWithinLimits NotRecognized = ⊤
IsWithinLimits IllegalParameters = ⊤
IsWithinLimits NotImplemented = ⊤
IsWithinLimits InvalidDatabase = ⊤
IsWithinLimits InvalidStrategy = ⊤
IsWithinLimits NoMatch = ⊤
IsWithinLimits NoDatabases = ⊤
