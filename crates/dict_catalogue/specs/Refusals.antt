-- The number and the name of each refusal, as users see them.
use Rattle.std.specs.Prelude.{ℕ, List, codes}
use Rattle.dict_catalogue.specs.declared.fault.CommandRefusal.{CommandRefusal}
use Rattle.dict_catalogue.specs.declared.fault.CommandRefusal.TheVariants.{BadName, Unknown, IsVirtual, NoFormer, Listed, CatalogueFull, BadMember, MemberTwice, MemberCount, BadTitle, BadPlace, BadRequestId, IsRegular}
use Rattle.dict_index.specs.Refusals.{RefusalText}

abbrev pub command_refusal_text : CommandRefusal → RefusalText
command_refusal_text BadName = record { number = 20; name = codes "BadName" }
command_refusal_text Unknown = record { number = 21; name = codes "Unknown" }
command_refusal_text IsVirtual = record { number = 22; name = codes "IsVirtual" }
command_refusal_text NoFormer = record { number = 23; name = codes "NoFormer" }
command_refusal_text Listed = record { number = 24; name = codes "Listed" }
command_refusal_text CatalogueFull = record { number = 25; name = codes "CatalogueFull" }
command_refusal_text BadMember = record { number = 26; name = codes "BadMember" }
command_refusal_text MemberTwice = record { number = 27; name = codes "MemberTwice" }
command_refusal_text MemberCount = record { number = 28; name = codes "MemberCount" }
command_refusal_text BadTitle = record { number = 29; name = codes "BadTitle" }
command_refusal_text BadPlace = record { number = 30; name = codes "BadPlace" }
command_refusal_text BadRequestId = record { number = 31; name = codes "BadRequestId" }
command_refusal_text IsRegular = record { number = 32; name = codes "IsRegular" }

abbrev pub command_refusal_number : CommandRefusal → ℕ
command_refusal_number refusal = (command_refusal_text refusal).number

abbrev pub command_refusal_name : CommandRefusal → List ℕ
command_refusal_name refusal = (command_refusal_text refusal).name
