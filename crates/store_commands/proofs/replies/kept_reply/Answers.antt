use Rattle.std.proofs.Common.{arith, sym, string_bytes, ◌≤◌, length, subst, inl, inr}
use Rattle.dict_catalogue.specs.Views.{kept_shown}
use Rattle.store_commands.proofs.KeptLemmas.{kept_alone, holds_replies, none_told, first_told, reply_told}
use Rattle.sqlite.specs.Held.{state}
use Rattle.store_tables.specs.Effects.{equals_text}
use Rattle.store_holdings.specs.Faults.{FailsToReadCatalogue}
use Rattle.store_commands.proofs.KeptLemmas.{replies_fail}
use Rattle.store_commands.proofs.UnreadLemmas.{refused_memory}
use Rattle.store_commands.proofs.replies.kept_reply.Goals as goal
use Rattle.store_rows.specs.Versions.{known}

pub returns-in_default-clause-alone : goal.returns-in_default-clause-alone
returns-in_default-clause-alone g c = λ clean kept h.
    let few : length c.deref.result.now ≤ 0 = grind arith in
    sym (none_told c.args.id.now kept c.in-Ok.rows.items (rw c.deref.ensures.value at few) (kept_alone c.args.id.now _ kept c.in-Ok.rows.items h (c.in-Ok.ensures.selected clean).0))

pub returns-in_default-clause-value : goal.returns-in_default-clause-value
returns-in_default-clause-value g c = λ clean version M h. returns-in_default-clause-alone g c clean M.kept (holds_replies version _ M h)

pub returns-in-Some-2-clause-alone : goal.returns-in-Some-2-clause-alone
returns-in-Some-2-clause-alone g c = λ clean kept h.
    let row = c.in-Some.row.now in
    let all = kept_alone c.args.id.now _ kept c.in-Ok.rows.items h (c.in-Ok.ensures.selected clean).0 in
    let one = first_told c.args.id.now kept c.in-Ok.rows.items row (rw c.deref.ensures.value at (c.in-Some.ensures.item.3.0)) (rw c.deref.ensures.value at (c.in-Some.ensures.item.1)) all in
    reply_told c.args.id.now kept row.value one.0 (record { id = string_bytes row.value.id; reply = kept_shown c.in-Some-2.reply }) (rw c.in-Some-2.is at c.in_ok-reply.ensures.told) one.1 one.2

pub returns-in-Some-2-clause-value : goal.returns-in-Some-2-clause-value
returns-in-Some-2-clause-value g c = λ clean version M h. returns-in-Some-2-clause-alone g c clean M.kept (holds_replies version _ M h)

pub returns-in-Err-clause-failed : goal.returns-in-Err-clause-failed
returns-in-Err-clause-failed g c clean =
    let old = state g.S.Store c.args.conn.now in
    let new = state g.S.Store c.kept_replies_of.new.conn in
    subst (FailsToReadCatalogue old new) (sym c.fault_of_read.ensures.is)
    (replies_fail (equals_text 1 c.args.id.now) old new c.in-Err.error (c.in-Err.ensures.failed clean))

pub returns-in_err-reply-clause-failed : goal.returns-in_err-reply-clause-failed
returns-in_err-reply-clause-failed g c clean =
    let old = state g.S.Store c.args.conn.now in
    let new = state g.S.Store c.kept_replies_of.new.conn in
    refused_memory old new c.from_residual.result c.from_residual.ensures.1 (c.in-Ok.ensures.selected clean).1

pub returns-clause-failed : goal.returns-clause-failed
returns-clause-failed g c clean =
    let row = c.in-Some.row.now in
    inl (
      (c.in-Ok.ensures.selected clean).1,
      inr (λ M holds.
          let all = kept_alone c.args.id.now _ M.kept c.in-Ok.rows.items (holds_replies known _ M holds) (c.in-Ok.ensures.selected clean).0 in
          let one = first_told c.args.id.now M.kept c.in-Ok.rows.items row (rw c.deref.ensures.value at (c.in-Some.ensures.item.3.0)) (rw c.deref.ensures.value at (c.in-Some.ensures.item.1)) all in
          (rw c.in-None.is at c.in_ok-reply.ensures.none) one.0 one.1),
    )
