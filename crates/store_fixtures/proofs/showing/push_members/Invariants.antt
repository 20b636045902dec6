use Rattle.std.proofs.Common.{◌≡◌, ◌++◌, take}
use Rattle.std.specs.Prelude.{string_bytes}
use Rattle.dict_catalogue.specs.Views.{texts_shown}
use Rattle.store_fixtures.specs.Listed.{members_text}
use Rattle.store_fixtures.proofs.showing.push_members.Given as goal

abbrev pub invariant-loop-member : goal.invariant-loop-member
invariant-loop-member l = string_bytes l.text ≡ string_bytes l.fn.text ++ members_text (texts_shown (take l.member-index l.members))
