-- The JSON of answers, octet by octet: compact, with the keys in the order of their octets. RFC 8259; which members
-- there are is this server's.
use Rattle.std.specs.Prelude.{ℕ, Bool, ◌==◌, ◌||◌, nat_lt, List, ◌++◌, map, option_map, Option, Some, None, codes, decimal}
use Rattle.std.specs.List.{join_with_byte}
use Rattle.json.specs.Print.{quoted}
use Rattle.dict_catalogue.specs.Items.{Item, regular, virtual}
use Rattle.dict_catalogue.specs.Effects.{KeptReply}
use Rattle.dict_catalogue.specs.Refusals.{command_refusal_number, command_refusal_name}
use Rattle.dict_catalogue.specs.declared.fault.CommandRefusal.{CommandRefusal}
use Rattle.dict_catalogue.specs.declared.reply.Verb.{Verb}
use Rattle.dict_catalogue.specs.declared.reply.Verb.TheVariants.{Install, Rollback, Retire, Virtual, Place}
use Rattle.dict_index.specs.Refusals.{refusal_number as edition_refusal_number, refusal_name as edition_refusal_name}
use Rattle.dict_index.specs.declared.fault.EditionRefusal as editions

-- an octet that can't stand for itself in a string. RFC 8259, section 7: a quotation mark, a backslash, a control character
abbrev pub needs_escape : ℕ → Bool
needs_escape octet = ((octet == 34) || (octet == 92)) || nat_lt octet 32

-- a number, or `null`
abbrev pub number_or_null_text : Option ℕ → List ℕ
number_or_null_text (Some number) = decimal number
number_or_null_text None = codes "null"

-- texts, with a comma between two
abbrev pub with_commas : List (List ℕ) → List ℕ
with_commas texts = join_with_byte 44 texts

abbrev pub verb_text : Verb → List ℕ
verb_text Install = codes "install"
verb_text Rollback = codes "rollback"
verb_text Retire = codes "retire"
verb_text Virtual = codes "virtual"
verb_text Place = codes "place"

-- the reply to an accepted command
abbrev pub kept_text : KeptReply → List ℕ
kept_text kept =
    codes "{\"edition\":" ++ (number_or_null_text kept.edition ++ (codes ",\"name\":" ++ (quoted kept.name
    ++ (codes ",\"number\":" ++ (decimal kept.number ++ (codes ",\"verb\":" ++ (quoted (verb_text kept.verb) ++ codes "}")))))))

-- why a command is refused
abbrev pub refused_command_text : CommandRefusal → List ℕ
refused_command_text refusal =
    codes "{\"reason\":" ++ (quoted (command_refusal_name refusal) ++ (codes ",\"refusal\":" ++ (decimal (command_refusal_number refusal) ++ codes "}")))

-- why an edition is refused, and at which line
abbrev pub refused_edition_text : editions.EditionRefusal → Option ℕ → List ℕ
refused_edition_text refusal line =
    codes "{\"fault\":" ++ (decimal (edition_refusal_number refusal) ++ (codes ",\"line\":" ++ (number_or_null_text line
    ++ (codes ",\"reason\":" ++ (quoted (edition_refusal_name refusal) ++ codes "}")))))

-- an item of the list
abbrev pub item_text : Item (List ℕ) → List ℕ
item_text (regular name current former) =
    codes "{\"current\":" ++ (decimal current.number
    ++ (codes ",\"former\":" ++ (number_or_null_text (option_map (λ edition. edition.number) former)
    ++ (codes ",\"kind\":\"regular\",\"name\":" ++ (quoted name ++ (codes ",\"title\":" ++ (quoted current.content ++ codes "}")))))))
item_text (virtual name title members) =
    codes "{\"kind\":\"virtual\",\"members\":[" ++ (with_commas (map quoted members)
    ++ (codes "],\"name\":" ++ (quoted name ++ (codes ",\"title\":" ++ (quoted title ++ codes "}")))))

-- the list of a catalogue's items
abbrev pub list_text : List (Item (List ℕ)) → List ℕ
list_text items = codes "[" ++ (with_commas (map item_text items) ++ codes "]")
