use Rattle.std.proofs.Common.{◌≡◌, ◌∙◌, ◌+◌, List, [], ◌∷◌, map, take, get_or, pos, refl, sym, ap, subst, rules, inl, inr}
use Rattle.std.proofs.lemmas.List.{map-append}
use mir.Syntax.{w64}
use mir.Val.{SFits, to_z, of_z}
use Rattle.sqlite.specs.declared.error.Error.TheVariants.{SqliteFailure}
use Rattle.sqlite.specs.declared.error.ErrorCode.TheVariants.{OutOfMemory}
use Rattle.store_tables.specs.Typed.{owned_header}
use Rattle.store_sql.specs.declared.records.ReadError.TheVariants.{Store}
use Rattle.store_migration.specs.Steps.{AreParted}
use Rattle.store_migration.proofs.KitLemmas.{HasCleanDisk, state, keeps_then, passed_on, keeps_none, none_more, was_clean, two_survive, signed_back, HeaderRecord}
use Rattle.store_migration.proofs.FailLemmas.{fails_by, fails_later, number_placed, keeping}
use Rattle.store_migration.proofs.FlowLemmas.{number_parted, parted_schema, three_still}
use Rattle.store_migration.proofs.editions.part_editions.Goals as goal

pub each-init : goal.each-init
each-init g c = record {
  same_reference = refl;
  parted = λ clean. (let none : c.new-headers.result.items ≡ [] = search rules in ap (map owned_header) none, refl);
  inside = λ clean h. h;
  keeps = λ clean. keeps_none _;
  survives = none_more _;
}

pub part_edition-requires : goal.part_edition-requires
part_edition-requires g c clean open' =
    let had = c.requires (was_clean c.each.invariant.survives clean) ((c.each.invariant.keeps clean).was_open open') in
    three_still c.args.layout _ (state g.S.Store (g.T.OpenTransaction.held c.each.tx)).now (parted_schema c.args.layout _ _ _ _ (c.each.invariant.parted clean)) had

pub each-preserved : goal.each-preserved
each-preserved g c =
    let new = state g.S.Store (g.T.OpenTransaction.held c.part_edition.new.tx) in
    let all = c.args.numbers.now in
    let i = c.each.number-index in
    let fits : SFits w64 (get_or all i (pos 0)) = search rules in
    let was = λ (clean : HasCleanDisk new). was_clean c.part_edition.ensures.survives clean in
    let pushed = ap (map owned_header) c.in_ok-push.ensures.items ∙ map-append owned_header c.each.headers.items (c.in_ok-header.header ∷ []) in
    record {
      same_reference = c.part_edition.ensures.same_reference ∙ c.each.invariant.same_reference;
      parted = λ clean. subst (λ (l : List HeaderRecord). AreParted c.args.layout (take (i + 1) all) l (state g.S.Store (g.T.OpenTransaction.held c.args.tx.now)).now new.now) (sym pushed)
          (number_parted c.args.layout all i (pos 0) _ c.each-test.true (signed_back (get_or all i (pos 0)) fits) _ _ _ _ _ (c.each.invariant.parted (was clean)) (c.in_ok-header.ensures.parted clean));
      inside = λ clean h. c.in_ok-header.ensures.inside clean (c.each.invariant.inside (was clean) h);
      keeps = λ clean. keeps_then _ _ _ (c.each.invariant.keeps (was clean)) (c.part_edition.ensures.keeps clean);
      survives = two_survive _ _ _ c.each.invariant.survives c.part_edition.ensures.survives;
    }

pub returns-in_err-header-clause-failed : goal.returns-in_err-header-clause-failed
returns-in_err-header-clause-failed g c clean =
    let early = was_clean c.part_edition.ensures.survives clean in
    let n = get_or c.args.numbers.now c.each.number-index (pos 0) in
    let fits : SFits w64 n = search rules in
    passed_on _ _ _ c.from_residual.ensures.1 (fails_later c.each.invariant.survives (c.each.invariant.inside early)
    (λ part at it. number_placed c.args.numbers.now c.each.number-index (pos 0) (to_z w64 (of_z w64 n)) c.each-test.true (signed_back n fits) _ (inl (_, c.each.invariant.parted early, it))) (c.in_err-header.ensures.failed clean))

pub returns-in_err-push-clause-failed : goal.returns-in_err-push-clause-failed
returns-in_err-push-clause-failed g c clean =
    let early = was_clean c.part_edition.ensures.survives clean in
    let n = get_or c.args.numbers.now c.each.number-index (pos 0) in
    passed_on _ (Store (SqliteFailure OutOfMemory)) _ c.from_residual-in_err-push.ensures.1
    (fails_by (g.T.OpenTransaction.held c.part_edition.new.tx) keeping (two_survive _ _ _ c.each.invariant.survives c.part_edition.ensures.survives) (λ begun. c.in_ok-header.ensures.inside clean (c.each.invariant.inside early begun))
    (number_placed c.args.numbers.now c.each.number-index (pos 0) n c.each-test.true refl [] (inr refl)) refl)
