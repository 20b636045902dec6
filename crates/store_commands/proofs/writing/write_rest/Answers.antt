use Rattle.std.proofs.Common.{◌≡◌, map, ◌++◌, ◌∙◌}
use Rattle.std.specs.Prelude.{flat_map, Option, option_map, option_copied}
use Rattle.dict_catalogue.specs.Steps.{KeptFor}
use Rattle.dict_catalogue.specs.Views.{item_shown, kept_shown}
use Rattle.store_tables.specs.Typed.{lent_header}
use Rattle.store_rows.specs.After.{Installed, installed_editions}
use Rattle.store_rows.specs.Versions.{known}
use Rattle.store_commands.specs.Changes.{installed_header, without_editions, with_reply}
use Rattle.store_commands.specs.Statements.{summary_anew, taking, adding_edition, replying}
use Rattle.store_commands.specs.Writes.{WroteStatements}
use Rattle.store_commands.proofs.WriteLemmas.{Ends, behind, cut, failed_before, spares_then}
use Rattle.store_commands.proofs.writing.write_rest.Goals as goal

pub returns : goal.returns
returns g c =
    let s0 = (g.T.OpenTransaction.held c.write_summary.new.tx) in
    let s1 = (g.T.OpenTransaction.held c.take_editions.new.tx) in
    let s2 = (g.T.OpenTransaction.held c.add_header.new.tx) in
    let s3 = (g.T.OpenTransaction.held c.add_reply.new.tx) in
    let kept : KeptFor = record { id = c.args.id.now; reply = kept_shown c.args.change.now.kept } in
    let numbers = c.args.change.now.gone.items in
    let gone : WroteStatements g.S.Store (flat_map taking numbers) (without_editions numbers) s0 s1 = rw c.deref.ensures.value at c.in_default-take_editions.ensures.wrote in
    let last : Ends g.S.Store (replying kept) (with_reply kept) s2 s3 c.add_reply.result = record { wrote = c.add_reply.ensures.wrote; failed = c.add_reply.ensures.failed; spares = c.add_reply.ensures.spares } in
    let all = λ (edition : Option Installed) (is : installed_header edition ≡ option_map lent_header (option_copied c.args.header)). behind g.S.Store c.in_default.ensures.wrote c.write_summary.ensures.spares
    (behind g.S.Store gone c.take_editions.ensures.spares (behind g.S.Store (c.in_default-add_header.ensures.wrote edition is) c.add_header.ensures.spares last)) in
    record {
      same_reference = c.add_reply.ensures.same_reference ∙ (c.add_header.ensures.same_reference ∙ (c.take_editions.ensures.same_reference ∙ c.write_summary.ensures.same_reference));
      wrote = λ edition is. (all edition is).wrote;
      sound = c.add_reply.ensures.sound;
      inside = c.add_reply.ensures.inside;
      failed = λ edition is. (all edition is).failed;
      spares = spares_then g.S.Store (g.T.OpenTransaction.held c.args.tx.now) s0 s3 c.write_summary.ensures.spares
          (spares_then g.S.Store s0 s1 s3 c.take_editions.ensures.spares (spares_then g.S.Store s1 s2 s3 c.add_header.ensures.spares c.add_reply.ensures.spares));
    }

-- ---- one of them failed

pub returns-in-Err-clause-failed : goal.returns-in-Err-clause-failed
returns-in-Err-clause-failed g c = λ edition is.
    let change = c.args.change.now in
    failed_before g.S.Store (summary_anew known change.summary.installs (map item_shown change.summary.items.items))
    (flat_map taking change.gone.items ++ (map adding_edition (installed_editions edition) ++ replying (record { id = c.args.id.now; reply = kept_shown change.kept })))
    (g.T.OpenTransaction.held c.args.tx.now) (g.T.OpenTransaction.held c.write_summary.new.tx) c.in-Err.error c.in-Err.ensures.failed

pub returns-in-Err-take_editions-clause-failed : goal.returns-in-Err-take_editions-clause-failed
returns-in-Err-take_editions-clause-failed g c = λ edition is.
    let change = c.args.change.now in
    (behind g.S.Store c.in_default.ensures.wrote c.write_summary.ensures.spares
    (cut g.S.Store (flat_map taking change.gone.items) (map adding_edition (installed_editions edition) ++ replying (record { id = c.args.id.now; reply = kept_shown change.kept }))
    (g.T.OpenTransaction.held c.write_summary.new.tx) (g.T.OpenTransaction.held c.take_editions.new.tx) c.in-Err-take_editions.error (rw c.deref.ensures.value at c.in-Err-take_editions.ensures.failed)
    c.take_editions.ensures.spares)).failed

pub returns-in-Err-take_editions-clause-spares : goal.returns-in-Err-take_editions-clause-spares
returns-in-Err-take_editions-clause-spares g c =
    spares_then g.S.Store (g.T.OpenTransaction.held c.args.tx.now) (g.T.OpenTransaction.held c.write_summary.new.tx) (g.T.OpenTransaction.held c.take_editions.new.tx) c.write_summary.ensures.spares
    c.take_editions.ensures.spares

pub returns-in-Err-add_header-clause-failed : goal.returns-in-Err-add_header-clause-failed
returns-in-Err-add_header-clause-failed g c = λ edition is.
    let change = c.args.change.now in
    let gone : WroteStatements g.S.Store (flat_map taking change.gone.items) (without_editions change.gone.items) (g.T.OpenTransaction.held c.write_summary.new.tx) (g.T.OpenTransaction.held c.take_editions.new.tx) =
    rw c.deref.ensures.value at c.in_default-take_editions.ensures.wrote in
    (behind g.S.Store c.in_default.ensures.wrote c.write_summary.ensures.spares (behind g.S.Store gone c.take_editions.ensures.spares
    (cut g.S.Store (map adding_edition (installed_editions edition)) (replying (record { id = c.args.id.now; reply = kept_shown change.kept })) (g.T.OpenTransaction.held c.take_editions.new.tx)
    (g.T.OpenTransaction.held c.add_header.new.tx) c.in-Err-add_header.error (c.in-Err-add_header.ensures.failed edition is) c.add_header.ensures.spares))).failed

pub returns-in-Err-add_header-clause-spares : goal.returns-in-Err-add_header-clause-spares
returns-in-Err-add_header-clause-spares g c =
    let s0 = (g.T.OpenTransaction.held c.write_summary.new.tx) in
    let s1 = (g.T.OpenTransaction.held c.take_editions.new.tx) in
    let s2 = (g.T.OpenTransaction.held c.add_header.new.tx) in
    spares_then g.S.Store (g.T.OpenTransaction.held c.args.tx.now) s0 s2 c.write_summary.ensures.spares (spares_then g.S.Store s0 s1 s2 c.take_editions.ensures.spares c.add_header.ensures.spares)
