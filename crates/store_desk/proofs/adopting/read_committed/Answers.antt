use Rattle.sqlite.specs.Held.{state}
use Rattle.sqlite.proofs.StateLemmas.{survives_then}
use Rattle.store_commands.proofs.ApplyLemmas.{holds_now, rests_unchanged}
use Rattle.store_desk.proofs.AuditLemmas.{store_told, reply_failed, told_still, not_held_still, failed_still, stays_then}
use Rattle.store_desk.proofs.AppliedLemmas.{err_weaker}
use Rattle.store_desk.proofs.DeskLemmas.{clean_behind}
use Rattle.store_desk.proofs.PreparedLemmas.{kept_there}
use Rattle.store_desk.proofs.adopting.read_committed.Goals as goal

pub kept_reply-requires : goal.kept_reply-requires
kept_reply-requires g c = λ clean live.
    let it = c.requires.holds clean live in
    kept_there (state g.S.Store c.args.conn.now).now (holds_now (state g.S.Store c.args.conn.now) it.0 it.1).own

pub read_again-requires-clause-holds : goal.read_again-requires-clause-holds
read_again-requires-clause-holds g c = λ clean live.
    let old = state g.S.Store c.args.conn.now in
    let mid = state g.S.Store c.kept_reply.new.conn in
    let same = c.in-Ok.ensures.same clean in
    let it = c.requires.holds (clean_behind old mid c.kept_reply.ensures.survives clean) same.0.was_open in
    (it.0, rests_unchanged old mid it.0 same it.1)

pub returns-clause-failed : goal.returns-clause-failed
returns-clause-failed g c clean =
    let old = state g.S.Store c.args.conn.now in
    let mid = state g.S.Store c.kept_reply.new.conn in
    let new = state g.S.Store c.read_again.new.conn in
    let same = c.in-Ok.ensures.same (clean_behind mid new c.read_again.ensures.survives clean) in
    err_weaker _ _ c.read_again.result (λ fault h is. failed_still old mid new same c.kept_reply.ensures.survives (h is)) (c.read_again.ensures.failed clean)

pub returns-clause-told : goal.returns-clause-told
returns-clause-told g c clean =
    let old = state g.S.Store c.args.conn.now in
    let mid = state g.S.Store c.kept_reply.new.conn in
    let new = state g.S.Store c.read_again.new.conn in
    let honest = clean_behind mid new c.read_again.ensures.survives clean in
    let same = c.in-Ok.ensures.same honest in
    let it = c.requires.holds (clean_behind old mid c.kept_reply.ensures.survives honest) same.0.was_open in
    err_weaker _ _ c.read_again.result (told_still old mid new same it.1.settled) (c.read_again.ensures.told clean)

pub returns-clause-not_held : goal.returns-clause-not_held
returns-clause-not_held g c clean =
    let old = state g.S.Store c.args.conn.now in
    let mid = state g.S.Store c.kept_reply.new.conn in
    let new = state g.S.Store c.read_again.new.conn in
    let honest = clean_behind mid new c.read_again.ensures.survives clean in
    let same = c.in-Ok.ensures.same honest in
    let it = c.requires.holds (clean_behind old mid c.kept_reply.ensures.survives honest) same.0.was_open in
    err_weaker _ _ c.read_again.result (not_held_still old mid new same it.1.settled) (c.read_again.ensures.not_held clean)

pub returns-clause-stays : goal.returns-clause-stays
returns-clause-stays g c clean =
    let old = state g.S.Store c.args.conn.now in
    let mid = state g.S.Store c.kept_reply.new.conn in
    let new = state g.S.Store c.read_again.new.conn in
    stays_then old mid new (c.in-Ok.ensures.same (clean_behind mid new c.read_again.ensures.survives clean)) (c.read_again.ensures.now clean) (c.read_again.ensures.committed clean)

pub returns-clause-survives : goal.returns-clause-survives
returns-clause-survives g c = survives_then _ _ _ (λ _. ⊥) (λ _. ⊥) (λ _. ⊥) (λ _ db none. none) (λ _ db none. none) c.kept_reply.ensures.survives c.read_again.ensures.survives

pub returns-in-Err-clause-failed : goal.returns-in-Err-clause-failed
returns-in-Err-clause-failed g c clean is =
    let old = state g.S.Store c.args.conn.now in
    let new = state g.S.Store c.kept_reply.new.conn in
    reply_failed old new c.in-Err.fault (c.requires.holds (clean_behind old new c.kept_reply.ensures.survives clean)) (c.in-Err.ensures.failed clean) is

pub returns-in-Err-clause-told : goal.returns-in-Err-clause-told
returns-in-Err-clause-told g c clean = (store_told (state g.S.Store c.args.conn.now).committed c.in-Err.fault c.in-Err.ensures.kinds).0

pub returns-in-Err-clause-not_held : goal.returns-in-Err-clause-not_held
returns-in-Err-clause-not_held g c clean = (store_told (state g.S.Store c.args.conn.now).committed c.in-Err.fault c.in-Err.ensures.kinds).1
