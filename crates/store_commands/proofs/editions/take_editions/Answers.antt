use Rattle.std.proofs.Common.{subst, refl, get_or, [], ◌∷◌, ◌∙◌}
use Rattle.std.specs.Prelude.{flat_map}
use Rattle.std.proofs.lemmas.List.{take_all}
use Rattle.store_sql.proofs.StreamLemmas.{passed_on}
use Rattle.store_commands.specs.Changes.{without_editions}
use Rattle.store_commands.specs.Statements.{taking}
use Rattle.store_commands.specs.Writes.{WroteStatements, FailsToWrite}
use Rattle.store_commands.proofs.WriteLemmas.{wrote_as, wrote_none, spares_none, spares_then}
use Rattle.store_commands.proofs.LoopLemmas.{loop_wrote, loop_failed}
use Rattle.store_commands.proofs.GoneLemmas.{none_gone, next_gone, taken_next, taken_grows}
use Rattle.store_commands.proofs.editions.take_editions.Goals as goal

pub each-init : goal.each-init
each-init g c =
    let first = (g.T.OpenTransaction.held c.args.tx.now) in
    record {
      same_reference = refl;
      wrote = wrote_as g.S.Store (flat_map taking []) (λ all. all) (without_editions []) first first none_gone (wrote_none g.S.Store first);
      usable = c.requires.usable;
      spares = spares_none g.S.Store first;
    }

pub each-preserved : goal.each-preserved
each-preserved g c =
    let first = (g.T.OpenTransaction.held c.args.tx.now) in
    let mid = (g.T.OpenTransaction.held c.each.tx) in
    let new = (g.T.OpenTransaction.held c.take_edition.new.tx) in
    let gone = c.args.gone.now in
    let i = c.each.number-index in
    record {
      same_reference = c.take_edition.ensures.same_reference ∙ c.each.invariant.same_reference;
      wrote = loop_wrote g.S.Store (flat_map taking) without_editions gone i (taking (get_or gone i 0)) (without_editions (get_or gone i 0 ∷ [])) (taken_next gone i c.each-test.true) first mid new c.each.invariant.wrote
          c.take_edition.ensures.spares
          (λ db all it. next_gone db gone i c.each-test.true all it) c.in_ok-take_edition.ensures.wrote;
      usable = c.in_ok-take_edition.ensures.usable;
      spares = spares_then g.S.Store first mid new c.each.invariant.spares c.take_edition.ensures.spares;
    }

pub returns-clause-wrote : goal.returns-clause-wrote
returns-clause-wrote g c =
    subst (λ l. WroteStatements g.S.Store (flat_map taking l) (without_editions l) (g.T.OpenTransaction.held c.args.tx.now) (g.T.OpenTransaction.held c.each.tx)) (take_all c.each.number-index c.args.gone.now c.each-test.false)
    c.each.invariant.wrote

pub returns-in_err-take_edition-clause-spares : goal.returns-in_err-take_edition-clause-spares
returns-in_err-take_edition-clause-spares g c =
    spares_then g.S.Store (g.T.OpenTransaction.held c.args.tx.now) (g.T.OpenTransaction.held c.each.tx) (g.T.OpenTransaction.held c.take_edition.new.tx) c.each.invariant.spares c.take_edition.ensures.spares

pub returns-in_err-take_edition-clause-failed : goal.returns-in_err-take_edition-clause-failed
returns-in_err-take_edition-clause-failed g c =
    let first = (g.T.OpenTransaction.held c.args.tx.now) in
    let mid = (g.T.OpenTransaction.held c.each.tx) in
    let new = (g.T.OpenTransaction.held c.take_edition.new.tx) in
    let gone = c.args.gone.now in
    let i = c.each.number-index in
    let e = c.in_err-take_edition.field-0.0 in
    passed_on (FailsToWrite g.S.Store (flat_map taking gone) first new) e c.from_residual.result c.from_residual.ensures.1
    (loop_failed g.S.Store (flat_map taking) without_editions gone i (taking (get_or gone i 0)) (without_editions (get_or gone i 0 ∷ [])) (taken_next gone i c.each-test.true) first mid new c.each.invariant.wrote
    c.take_edition.ensures.spares taken_grows e c.in_err-take_edition.ensures.failed)
