use Rattle.std.proofs.Common.{◌≡◌, ◌++◌, ◌∷◌, [], ◌+◌, ◌≤◌, length, arith, ap, ◌∙◌}
use Rattle.std.specs.Prelude.{map}
use Rattle.std.proofs.lemmas.Grind.{common_steps}
use Rattle.std.proofs.lemmas.Result.{err_from_is_err_and}
use Rattle.std.proofs.lemmas.List.{length-take-le, length-append}
use Rattle.dict_catalogue.specs.Views.{item_shown}
use Rattle.store_rows.specs.Given.{members_given}
use Rattle.store_rows.proofs.ItemLemmas.{no_item_told, next_item}
use Rattle.store_rows.proofs.items.items_of.Goals as goal

pub returns-in_err-item_of-clause-damaged : goal.returns-in_err-item_of-clause-damaged
returns-in_err-item_of-clause-damaged c =
    let p = err_from_is_err_and c.from_residual.result c.from_residual.ensures.1 in
    let there : c.loop-place.place ≤ length c.args.rows.now = omega arith in
    rw (p.1, p.2) (no_item_told _ c.args.rows.now (members_given c.args.members.now) c.loop-place.place c.index-rows-place.result (omega arith) c.index-rows-place.is (length-take-le c.loop-place.place c.args.rows.now there)
    c.in_err-item_of.ensures.damaged)

pub loop-place-preserved : goal.loop-place-preserved
loop-place-preserved c =
    let push : map item_shown c.push.new.self.items ≡ map item_shown c.loop-place.items.items ++ item_shown c.in_ok-item_of.field-0 ∷ [] = grind (arith, common_steps) in
    record {
      read = next_item c.args.rows.now (members_given c.args.members.now) c.loop-place.place c.index-rows-place.result (map item_shown c.loop-place.items.items) _ (item_shown c.in_ok-item_of.field-0) (omega arith)
          c.index-rows-place.is c.loop-place.invariant.many push c.loop-place.invariant.read c.in_ok-item_of.ensures.read;
      many = ap length push ∙ length-append (map item_shown c.loop-place.items.items) (item_shown c.in_ok-item_of.field-0 ∷ []) ∙ ap (λ k. k + 1) c.loop-place.invariant.many;
    }
