-- The tests that a command has to pass, in order, and the refusal of the first that fails.
use Rattle.std.specs.Prelude.{ℕ, Bool, not, ◌&&◌, ◌||◌, nat_lt, nat_le, List, [], ◌∷◌, ◌++◌, length, Option, Some, None, if◌then◌else◌}
use Rattle.dict_text.specs.Names.{is_name, is_title}
use Rattle.dict_catalogue.specs.Items.{Item, is_known, names_regular, names_virtual, names_former, is_listed, is_among, item_as}
use Rattle.dict_catalogue.specs.Commands.{Command, install, rollback, retire, put_virtual, place}
use Rattle.dict_catalogue.specs.declared.fault.CommandRefusal.{CommandRefusal}
use Rattle.dict_catalogue.specs.declared.fault.CommandRefusal.TheVariants.{BadName, Unknown, IsVirtual, NoFormer, Listed, CatalogueFull, BadMember, MemberTwice, MemberCount, BadTitle, BadPlace, IsRegular}
use Rattle.std.specs.Prelude.{map}

-- what the commands read and change of a catalogue: its items, the count of installs and the count of all
-- accepted commands
pub record Holdings (A : Type 0) : Type 0 where
  pub items : List (Item A)
  pub installs : ℕ
  pub accepted : ℕ

-- the same holdings with another content of their editions
abbrev pub holdings_as : {A B : Type 0} → (A → B) → Holdings A → Holdings B
holdings_as f before = record { items = map (item_as f) before.items; installs = before.installs; accepted = before.accepted }

-- whether a test is passed, and the refusal where it isn't
pub record Test : Type 0 where
  pub holds : Bool
  pub refusal : CommandRefusal

abbrev pub wants : Bool → CommandRefusal → Test
wants holds refusal = record { holds = holds; refusal = refusal }

-- the refusal of the first test that isn't passed
abbrev pub first_failing : List Test → Option CommandRefusal
first_failing [] = None
first_failing (test ∷ tests) = if test.holds then first_failing tests else Some test.refusal

-- fewer than 9,223,372,036,854,775,807 commands were accepted
abbrev pub has_turn : {A : Type 0} → Holdings A → Bool
has_turn before = nat_lt before.accepted 9223372036854775807

-- and the name is not a new one where 64 items stand
abbrev pub has_room : {A : Type 0} → Holdings A → List ℕ → Bool
has_room before name = (is_known before.items name || nat_lt (length before.items) 64) && has_turn before

-- 1 to 64 members
abbrev pub has_member_count : List (List ℕ) → Bool
has_member_count members = nat_le 1 (length members) && nat_le (length members) 64

-- each member in order names a regular item, and no earlier member is equal
abbrev pub member_tests : {A : Type 0} → List (Item A) → List (List ℕ) → List (List ℕ) → List Test
member_tests items earlier [] = []
member_tests items earlier (member ∷ later) =
    wants (names_regular items member) BadMember
    ∷ wants (not (is_among earlier member)) MemberTwice
    ∷ member_tests items (earlier ++ member ∷ []) later

-- the tests of each command, in order
abbrev pub install_tests : {A : Type 0} → Holdings A → List ℕ → List Test
install_tests before name =
    wants (is_name name) BadName
    ∷ wants (not (names_virtual before.items name)) IsVirtual
    ∷ wants (has_room before name) CatalogueFull ∷ []

abbrev pub rollback_tests : {A : Type 0} → Holdings A → List ℕ → List Test
rollback_tests before name =
    wants (is_name name) BadName
    ∷ wants (is_known before.items name) Unknown
    ∷ wants (not (names_virtual before.items name)) IsVirtual
    ∷ wants (names_former before.items name) NoFormer
    ∷ wants (has_turn before) CatalogueFull ∷ []

abbrev pub retire_tests : {A : Type 0} → Holdings A → List ℕ → List Test
retire_tests before name =
    wants (is_name name) BadName
    ∷ wants (is_known before.items name) Unknown
    ∷ wants (not (is_listed before.items name)) Listed
    ∷ wants (has_turn before) CatalogueFull ∷ []

abbrev pub put_virtual_tests : {A : Type 0} → Holdings A → List ℕ → List ℕ → List (List ℕ) → List Test
put_virtual_tests before name title members =
    wants (is_name name) BadName
    ∷ wants (not (names_regular before.items name)) IsRegular
    ∷ wants (is_title title) BadTitle
    ∷ wants (has_member_count members) MemberCount
    ∷ (member_tests before.items [] members ++ wants (has_room before name) CatalogueFull ∷ [])

abbrev pub place_tests : {A : Type 0} → Holdings A → List ℕ → ℕ → List Test
place_tests before name at =
    wants (is_name name) BadName
    ∷ wants (is_known before.items name) Unknown
    ∷ wants (nat_lt at (length before.items)) BadPlace
    ∷ wants (has_turn before) CatalogueFull ∷ []

abbrev pub tests_of : {A : Type 0} → Holdings A → Command A → List Test
tests_of before (install name content) = install_tests before name
tests_of before (rollback name) = rollback_tests before name
tests_of before (retire name) = retire_tests before name
tests_of before (put_virtual name title members) = put_virtual_tests before name title members
tests_of before (place name at) = place_tests before name at

-- why the command is refused, if it is
abbrev pub refusal_of : {A : Type 0} → Holdings A → Command A → Option CommandRefusal
refusal_of before command = first_failing (tests_of before command)
