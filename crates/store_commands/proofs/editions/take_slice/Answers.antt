use Rattle.std.proofs.Common.{refl, subst, ap, sym, codes, get_or, pos, take, ◌≡◌, ◌+◌, ◌≤◌, arith, true, false, not, ◌||◌, [], ◌∷◌, ◌∙◌, inl, inr, rules}
use Rattle.std.proofs.lemmas.Bool.{false≢true}
use Rattle.std.proofs.lemmas.Int.{to_z-of_z}
use Rattle.std.proofs.lemmas.List.{take_all}
use mir.Val.{to_z, SFits}
use mir.Syntax.{w64}
use Rattle.sqlite.specs.Held.{state}
use Rattle.sqlite.specs.State.{HasCleanDisk}
use Rattle.store_tables.specs.Effects.{equals_number}
use Rattle.store_sql.proofs.StreamLemmas.{passed_on}
use Rattle.store_tables.specs.Records.{Part}
use Rattle.store_rows.specs.After.{is_gone}
use Rattle.store_commands.specs.Statements.{taking_from, taking_parts}
use Rattle.store_commands.specs.Orphans.{rows_left_under}
use Rattle.store_commands.specs.Writes.{WroteStatements, FailsToWrite}
use Rattle.store_commands.proofs.GoneLemmas.{handed}
use Rattle.store_commands.proofs.PartLemmas.{behind, last_ones, late_fewer, sum_fewer, parts_none, late_wrote, late_failed, parts_wrote, parts_failed, all_wrote, all_failed}
use Rattle.store_commands.proofs.TableLemmas.{parts_to_remove}
use Rattle.store_commands.proofs.TakingLemmas.{behind_stays, behind_others}
use Rattle.store_commands.proofs.WriteLemmas.{spares_none, spares_removed, spares_then, usable_then}
use Rattle.store_commands.proofs.editions.take_slice.Goals as goal

pub delete_parts_from-requires : goal.delete_parts_from-requires
delete_parts_from-requires g c = λ clean lives. parts_to_remove (state g.S.Store (g.T.OpenTransaction.held c.each.tx)).now (c.each.invariant.usable clean lives)

pub delete_parts-requires : goal.delete_parts-requires
delete_parts-requires g c = λ clean lives. parts_to_remove (state g.S.Store (g.T.OpenTransaction.held c.each.tx)).now (c.each.invariant.usable clean lives)

pub each-init : goal.each-init
each-init g c =
    let first = (g.T.OpenTransaction.held c.args.tx.now) in
    let n = c.args.number in
    record {
      same_reference = refl;
      wrote = parts_none g.S.Store n first;
      usable = c.requires.usable;
      fewer = λ clean. omega (arith);
      spares = spares_none g.S.Store first;
    }

pub each-preserved : goal.each-preserved
each-preserved g c =
    let first = (g.T.OpenTransaction.held c.args.tx.now) in
    let mid = (g.T.OpenTransaction.held c.each.tx) in
    let new = (g.T.OpenTransaction.held c.delete_parts_from.new.tx) in
    let n = c.args.number in
    let all = c.args.bounds.now in
    let i = c.each.file-index in
    let spares = spares_removed g.S.Store (codes "dictcat_part") _ mid new c.delete_parts_from.ensures.survives c.delete_parts_from.result c.delete_parts_from.ensures.removed c.delete_parts_from.ensures.failed in
    let bound = get_or all i (pos 0, pos 0) in
    let file : SFits w64 bound.0 = search rules in
    let from : SFits w64 bound.1 = search rules in
    let one = late_wrote g.S.Store n bound _ _ _ (handed n c.requires.number) (to_z-of_z w64 bound.0 file) (to_z-of_z w64 bound.1 from) mid new c.delete_parts_from.ensures.survives c.in_ok-taken.ensures.removed in
    let less : HasCleanDisk (state g.S.Store new) → rows_left_under n (state g.S.Store new).now + c.in_ok-taken.taken ≡ rows_left_under n (state g.S.Store mid).now = λ clean.
    late_fewer n bound _ _ _ (handed n c.requires.number) (to_z-of_z w64 bound.0 file) (to_z-of_z w64 bound.1 from) (state g.S.Store mid).now (state g.S.Store new).now _
    (c.in_ok-taken.ensures.removed clean).0 (c.in_ok-taken.ensures.counted clean) in
    let fewer : HasCleanDisk (state g.S.Store new) → rows_left_under n (state g.S.Store new).now + c.saturating_add-all.result ≤ rows_left_under n (state g.S.Store first).now = λ clean.
    sum_fewer c.each.all c.in_ok-taken.taken c.saturating_add-all.result _ _ _ c.saturating_add-all.ensures (less clean) (c.each.invariant.fewer (omega (arith, c.delete_parts_from.ensures.survives.clean, clean))) in
    record {
      same_reference = c.delete_parts_from.ensures.same_reference ∙ c.each.invariant.same_reference;
      wrote = parts_wrote g.S.Store n all i (pos 0, pos 0) c.each-test.true first mid new c.each.invariant.wrote spares one;
      usable = usable_then g.S.Store (taking_from n bound ∷ []) _ mid new c.each.invariant.usable one spares;
      fewer = fewer;
      spares = spares_then g.S.Store first mid new c.each.invariant.spares spares;
    }

pub returns-in_err-taken-clause-spares : goal.returns-in_err-taken-clause-spares
returns-in_err-taken-clause-spares g c =
    let first = (g.T.OpenTransaction.held c.args.tx.now) in
    let mid = (g.T.OpenTransaction.held c.each.tx) in
    let new = (g.T.OpenTransaction.held c.delete_parts_from.new.tx) in
    let spares = spares_removed g.S.Store (codes "dictcat_part") _ mid new c.delete_parts_from.ensures.survives c.delete_parts_from.result c.delete_parts_from.ensures.removed c.delete_parts_from.ensures.failed in
    spares_then g.S.Store first mid new c.each.invariant.spares spares

pub returns-in_err-taken-clause-failed : goal.returns-in_err-taken-clause-failed
returns-in_err-taken-clause-failed g c =
    let first = (g.T.OpenTransaction.held c.args.tx.now) in
    let mid = (g.T.OpenTransaction.held c.each.tx) in
    let new = (g.T.OpenTransaction.held c.delete_parts_from.new.tx) in
    let n = c.args.number in
    let all = c.args.bounds.now in
    let i = c.each.file-index in
    let spares = spares_removed g.S.Store (codes "dictcat_part") _ mid new c.delete_parts_from.ensures.survives c.delete_parts_from.result c.delete_parts_from.ensures.removed c.delete_parts_from.ensures.failed in
    let bound = get_or all i (pos 0, pos 0) in
    let file : SFits w64 bound.0 = search rules in
    let from : SFits w64 bound.1 = search rules in
    let e = c.in_err-taken.field-0.0 in
    passed_on (FailsToWrite g.S.Store (taking_parts n all) first new) e c.from_residual.result c.from_residual.ensures.1
    (parts_failed g.S.Store n all i (pos 0, pos 0) c.each-test.true first mid new c.each.invariant.wrote spares e
    (late_failed g.S.Store n bound _ _ _ (handed n c.requires.number) (to_z-of_z w64 bound.0 file) (to_z-of_z w64 bound.1 from) mid new c.delete_parts_from.ensures.survives e c.in_err-taken.ensures.failed))

pub returns : goal.returns
returns g c =
    let first = (g.T.OpenTransaction.held c.args.tx.now) in
    let mid = (g.T.OpenTransaction.held c.each.tx) in
    let new = (g.T.OpenTransaction.held c.delete_parts.new.tx) in
    let n = c.args.number in
    let all = c.args.bounds.now in
    let one = spares_removed g.S.Store (codes "dictcat_part") (equals_number 1 (to_z w64 n)) mid new c.delete_parts.ensures.survives c.delete_parts.result c.delete_parts.ensures.removed c.delete_parts.ensures.failed in
    let so_far = subst (λ l. WroteStatements g.S.Store (last_ones g.S.Store n l) (behind g.S.Store n l) first mid) (take_all c.each.file-index all c.each-test.false) c.each.invariant.wrote in
    let wrote = all_wrote g.S.Store n all (to_z w64 n) (handed n c.requires.number) first mid new so_far c.delete_parts.ensures.survives one c.in_ok-delete_parts.ensures.removed in
    let spares = spares_then g.S.Store first mid new c.each.invariant.spares one in
    record {
      same_reference = c.delete_parts.ensures.same_reference ∙ c.each.invariant.same_reference;
      taken = record {
        statements = taking_parts n all;
        are = inr refl;
        stays = λ (r : Part). not (is_gone (n ∷ []) r.edition);
        wrote = wrote;
        others = λ part other. ap (λ b. not (b || false)) other;
        fewer = λ clean some. absurd (false≢true some);
        its = λ none part it. ap (λ b. not (b || false)) it;
      };
      all = λ none. wrote;
      whole = λ none. refl;
      usable = usable_then g.S.Store (taking_parts n all) _ first new c.requires.usable wrote spares;
      lives = λ clean. (spares.keeps clean).was_open (c.in_ok-delete_parts.ensures.removed clean).1.is_open;
      sound = λ clean. (c.in_ok-delete_parts.ensures.removed clean).0.sound;
      inside = λ clean. (c.in_ok-delete_parts.ensures.removed clean).1.mode;
      failed = tt;
      spares = spares;
    }

pub returns-then-are_enough : goal.returns-then-are_enough
returns-then-are_enough g c =
    let first = (g.T.OpenTransaction.held c.args.tx.now) in
    let mid = (g.T.OpenTransaction.held c.each.tx) in
    let new = (g.T.OpenTransaction.held c.delete_parts_from.new.tx) in
    let n = c.args.number in
    let all = c.args.bounds.now in
    let i = c.each.file-index in
    let so : c.are_enough.result ≡ true = search rules in
    let round = spares_removed g.S.Store (codes "dictcat_part") _ mid new c.delete_parts_from.ensures.survives c.delete_parts_from.result c.delete_parts_from.ensures.removed c.delete_parts_from.ensures.failed in
    let bound = get_or all i (pos 0, pos 0) in
    let file : SFits w64 bound.0 = search rules in
    let from : SFits w64 bound.1 = search rules in
    let one = late_wrote g.S.Store n bound _ _ _ (handed n c.requires.number) (to_z-of_z w64 bound.0 file) (to_z-of_z w64 bound.1 from) mid new c.delete_parts_from.ensures.survives c.in_ok-taken.ensures.removed in
    let less : HasCleanDisk (state g.S.Store new) → rows_left_under n (state g.S.Store new).now + c.in_ok-taken.taken ≡ rows_left_under n (state g.S.Store mid).now = λ clean.
    late_fewer n bound _ _ _ (handed n c.requires.number) (to_z-of_z w64 bound.0 file) (to_z-of_z w64 bound.1 from) (state g.S.Store mid).now (state g.S.Store new).now _
    (c.in_ok-taken.ensures.removed clean).0 (c.in_ok-taken.ensures.counted clean) in
    let fewer : HasCleanDisk (state g.S.Store new) → rows_left_under n (state g.S.Store new).now + c.saturating_add-all.result ≤ rows_left_under n (state g.S.Store first).now = λ clean.
    sum_fewer c.each.all c.in_ok-taken.taken c.saturating_add-all.result _ _ _ c.saturating_add-all.ensures (less clean) (c.each.invariant.fewer (omega (arith, c.delete_parts_from.ensures.survives.clean, clean))) in
    let spares = spares_then g.S.Store first mid new c.each.invariant.spares round in
    record {
      same_reference = c.delete_parts_from.ensures.same_reference ∙ c.each.invariant.same_reference;
      taken = record {
        statements = last_ones g.S.Store n (take (i + 1) all);
        are = inl (i + 1, refl);
        stays = behind_stays n (take (i + 1) all);
        wrote = parts_wrote g.S.Store n all i (pos 0, pos 0) c.each-test.true first mid new c.each.invariant.wrote round one;
        others = behind_others n (take (i + 1) all);
        fewer = λ clean some. omega (arith, fewer clean, c.are_enough.ensures.some (search rules));
        its = λ none part it. absurd (false≢true (sym none));
      };
      all = λ none. absurd (false≢true (sym none));
      whole = λ none. sym so ∙ c.are_enough.ensures.none none;
      usable = usable_then g.S.Store (taking_from n bound ∷ []) _ mid new c.each.invariant.usable one round;
      lives = λ clean. (spares.keeps clean).was_open (c.in_ok-taken.ensures.removed clean).1.is_open;
      sound = λ clean. (c.in_ok-taken.ensures.removed clean).0.sound;
      inside = λ clean. (c.in_ok-taken.ensures.removed clean).1.mode;
      failed = tt;
      spares = spares;
    }

pub returns-in_err-delete_parts-clause-spares : goal.returns-in_err-delete_parts-clause-spares
returns-in_err-delete_parts-clause-spares g c =
    let first = (g.T.OpenTransaction.held c.args.tx.now) in
    let mid = (g.T.OpenTransaction.held c.each.tx) in
    let new = (g.T.OpenTransaction.held c.delete_parts.new.tx) in
    let n = c.args.number in
    let spares = spares_removed g.S.Store (codes "dictcat_part") (equals_number 1 (to_z w64 n)) mid new c.delete_parts.ensures.survives c.delete_parts.result c.delete_parts.ensures.removed c.delete_parts.ensures.failed in
    spares_then g.S.Store first mid new c.each.invariant.spares spares

pub returns-in_err-delete_parts-clause-failed : goal.returns-in_err-delete_parts-clause-failed
returns-in_err-delete_parts-clause-failed g c =
    let first = (g.T.OpenTransaction.held c.args.tx.now) in
    let mid = (g.T.OpenTransaction.held c.each.tx) in
    let new = (g.T.OpenTransaction.held c.delete_parts.new.tx) in
    let n = c.args.number in
    let all = c.args.bounds.now in
    let spares = spares_removed g.S.Store (codes "dictcat_part") (equals_number 1 (to_z w64 n)) mid new c.delete_parts.ensures.survives c.delete_parts.result c.delete_parts.ensures.removed c.delete_parts.ensures.failed in
    let so_far = subst (λ l. WroteStatements g.S.Store (last_ones g.S.Store n l) (behind g.S.Store n l) first mid) (take_all c.each.file-index all c.each-test.false) c.each.invariant.wrote in
    let e = c.in_err-delete_parts.field-0.0 in
    passed_on (FailsToWrite g.S.Store (taking_parts n all) first new) e c.from_residual-in_err-delete_parts.result c.from_residual-in_err-delete_parts.ensures.1
    (all_failed g.S.Store n all (to_z w64 n) (handed n c.requires.number) first mid new so_far c.delete_parts.ensures.survives spares e c.in_err-delete_parts.ensures.failed)
