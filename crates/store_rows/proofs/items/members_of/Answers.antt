use Rattle.std.proofs.Common.{rules, ◌≡◌, string_bytes, true, false, ◌∙◌}
use Rattle.std.specs.Prelude.{bytes_eq}
use Rattle.std.proofs.lemmas.Result.{err_from_is_err_and}
use Rattle.dict_catalogue.specs.Views.{texts_shown}
use Rattle.dict_catalogue.proofs.ItemLemmas.{same_text}
use Rattle.store_rows.proofs.GivenLemmas.{other_owner, next_member, wrong_member_told}
use Rattle.store_rows.proofs.items.members_of.Goals as goal
use Rattle.store_rows.proofs.items.members_of.Goals.{then-eq+in_ok-add_member, else-eq}

pub returns-in_err-add_member-clause-damaged : goal.returns-in_err-add_member-clause-damaged
returns-in_err-add_member-clause-damaged c =
    let p = err_from_is_err_and c.from_residual.result c.from_residual.ensures.1 in
    let named : bytes_eq (string_bytes c.row-item.result.value.owner) c.args.owner.now ≡ true = search rules in
    rw (p.1, p.2) (wrong_member_told _ c.args.rows.now c.loop-row.row-index c.row-item.result c.args.owner.now (texts_shown c.loop-row.members.items) c.loop-row-test.true c.row-item.is named c.loop-row.invariant
    c.in_err-add_member.ensures.damaged)

pub loop-row-preserved : goal.loop-row-preserved
loop-row-preserved c = elim c.if-eq.branch [
  | then-eq+in_ok-add_member w ↦
      (let named : bytes_eq (string_bytes c.row-item.result.value.owner) c.args.owner.now ≡ true = search rules in
      rw w.members-is (next_member c.args.rows.now c.loop-row.row-index c.row-item.result c.args.owner.now (texts_shown c.loop-row.members.items) _ c.loop-row-test.true c.row-item.is named (same_text _ _ named) c.loop-row.invariant
      w.in_ok-add_member.ensures.place w.in_ok-add_member.ensures.name))
  | else-eq w ↦
      (let named : bytes_eq (string_bytes c.row-item.result.value.owner) c.args.owner.now ≡ false = search rules in
      rw w.members-is (other_owner c.args.rows.now c.loop-row.row-index c.row-item.result c.args.owner.now c.loop-row-test.true c.row-item.is named ∙ c.loop-row.invariant))
]
