use Rattle.std.proofs.Common.{◌≡◌, pos, length, arith, sym, ◌∙◌}
use Rattle.std.proofs.lemmas.Grind.{common_steps}
use Rattle.std.proofs.lemmas.Bool.{false≢true}
use Rattle.std.proofs.lemmas.Result.{IfErr-weaker}
use Rattle.store_tables.specs.Typed.{owned_item}
use Rattle.dict_catalogue.specs.Views.{texts_shown}
use Rattle.store_rows.specs.Given.{members_given, OnDamage, IsNotRegular, IsNotVirtual, IsNoItem}
use Rattle.store_rows.proofs.ItemLemmas.{virtual_told, regular_told, members_told}
use Rattle.store_rows.proofs.items.item_of.Goals as goal

pub returns-then-not-is_number-clause-damaged : goal.returns-then-not-is_number-clause-damaged
returns-then-not-is_number-clause-damaged c =
    let other : (owned_item c.args.row.now).kind ≡ pos 0 → ⊥ = λ e. false≢true (sym c.if-not-is_number.true ∙ c.is_number.ensures.same.1 e) in
    IfErr-weaker c.virtual_of.result (λ fault. OnDamage fault (IsNotVirtual c.args.place (owned_item c.args.row.now))) (λ fault. OnDamage fault (IsNoItem c.args.place (owned_item c.args.row.now) (members_given c.args.members.now)))
    (virtual_told c.args.place (owned_item c.args.row.now) (members_given c.args.members.now) other) c.virtual_of.ensures.damaged

pub returns-then-not-is_empty-clause-damaged : goal.returns-then-not-is_empty-clause-damaged
returns-then-not-is_empty-clause-damaged c =
    let regular : (owned_item c.args.row.now).kind ≡ pos 0 = c.is_number.ensures.same.0 c.if-not-is_number.false in
    let many : length (texts_shown c.in_ok-members.members.items) ≡ 0 → ⊥ = grind (arith, common_steps) in
    members_told c.args.place (owned_item c.args.row.now) (members_given c.args.members.now) (texts_shown c.in_ok-members.members.items) regular (grind (arith, common_steps)) many

pub returns-clause-damaged : goal.returns-clause-damaged
returns-clause-damaged c =
    IfErr-weaker c.regular_of.result (λ fault. OnDamage fault (IsNotRegular c.args.place (owned_item c.args.row.now))) (λ fault. OnDamage fault (IsNoItem c.args.place (owned_item c.args.row.now) (members_given c.args.members.now)))
    (regular_told c.args.place (owned_item c.args.row.now) (members_given c.args.members.now) (c.is_number.ensures.same.0 c.if-not-is_number.false)) c.regular_of.ensures.damaged
