use Rattle.std.proofs.Common.{◌≡◌, Bool, true, false, ◌&&◌, refl, sym, ◌∙◌}
use Rattle.std.specs.Prelude.{map}
use Rattle.std.specs.List.{list_all}
use Rattle.store_tables.specs.Records as spec
use Rattle.dict_catalogue.specs.Items.{is_known}
use Rattle.dict_catalogue.specs.Views.{item_shown}
use Rattle.store_rows.specs.Given.{marks_given, items_given, members_given}
use Rattle.store_rows.specs.Tests.{has_lawful_items}
use Rattle.store_rows.proofs.BeginLemmas.{begun_refused, begun_taken}
use Rattle.store_rows.proofs.reader.Reader.begin.Goals as goal
use Rattle.store_rows.proofs.reader.Reader.begin.Goals.{then-not-branch-via-then-not-branch, then-not-branch-via-else-not-branch+then-not-are_owned}

one_false : (a b : Bool) → a ≡ false → (a && b) ≡ false
one_false true b e = absurd (cc)
one_false false b e = refl

other_false : (a b : Bool) → b ≡ false → (a && b) ≡ false
other_false true b e = e
other_false false b e = refl

pub returns-then-not-branch-clause-damaged : goal.returns-then-not-branch-clause-damaged
returns-then-not-branch-clause-damaged c =
    let items = map item_shown c.in_ok-items.items.items in
    let members = members_given c.args.members.now in
    let tested = rw c.deref.ensures.value at c.in_ok-has_lawful_items.ensures in
    let refused : (has_lawful_items c.in_ok-installs.installs items && list_all (λ (row : spec.Member). is_known items row.owner) members) ≡ false = elim c.then-not-branch.branch [
      | then-not-branch-via-then-not-branch w ↦ one_false (has_lawful_items c.in_ok-installs.installs items) (list_all (λ (row : spec.Member). is_known items row.owner) members) (sym tested ∙ w.if-not-branch.true)
      | then-not-branch-via-else-not-branch+then-not-are_owned w ↦ other_false (has_lawful_items c.in_ok-installs.installs items) (list_all (λ (row : spec.Member). is_known items row.owner) members)
          (let owned = rw w.deref-else-not-branch.ensures.value at w.are_owned.ensures in sym owned ∙ w.if-not-are_owned.true)
    ] in
    begun_refused c.args.version c.in_ok-installs.installs (marks_given c.args.marks.now) (items_given c.args.items.now) members items c.in_ok-installs.ensures.told c.in_ok-items.ensures.read refused

pub returns-clause-taken : goal.returns-clause-taken
returns-clause-taken c =
    let tested = rw c.deref.ensures.value at c.in_ok-has_lawful_items.ensures in
    let owned = rw c.deref-else-not-branch.ensures.value at c.are_owned.ensures in
    begun_taken c.args.version _ (marks_given c.args.marks.now) (items_given c.args.items.now) (members_given c.args.members.now) c.in_ok-installs.ensures.told c.in_ok-items.ensures.read (sym tested ∙ c.if-not-branch.false)
    (sym owned ∙ c.if-not-are_owned.false) refl refl refl
