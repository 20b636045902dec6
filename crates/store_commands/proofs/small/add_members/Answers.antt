use Rattle.std.proofs.Common.{refl, subst, arith, map, codes, [], ◌∷◌, ◌∙◌, ◌<◌, length}
use Rattle.std.proofs.lemmas.List.{take_all}
use Rattle.sqlite.specs.Held.{state}
use Rattle.store_sql.proofs.StreamLemmas.{passed_on}
use Rattle.store_commands.specs.Writes.{WroteStatements, FailsToWrite}
use Rattle.std.proofs.Common.{string_bytes}
use Rattle.store_sql.specs.Encodings.{member_row}
use Rattle.store_tables.specs.Typed.{lent_member}
use Rattle.dict_catalogue.specs.Views.{texts_shown}
use Rattle.store_rows.specs.Written.{numbered, member_record}
use Rattle.store_commands.proofs.LoopLemmas.{adding_none, adding_wrote, adding_failed, members_none, members_last, numbered_next, numbered_grows}
use Rattle.store_commands.specs.Changes.{with_more_members}
use Rattle.store_commands.specs.Statements.{adding_member}
use Rattle.store_commands.proofs.TableLemmas.{has_members, members_added}
use Rattle.store_commands.proofs.WriteLemmas.{wrote_record, failed_record, spares_none, spares_added, spares_then, usable_then}
use Rattle.store_commands.proofs.small.add_members.Goals as goal

pub loop-ord-preserved : goal.loop-ord-preserved
loop-ord-preserved g c =
    let first = (g.T.OpenTransaction.held c.args.tx.now) in
    let mid = (g.T.OpenTransaction.held c.loop-ord.tx) in
    let new = (g.T.OpenTransaction.held c.insert_member.new.tx) in
    let low : c.loop-ord.ord < length c.args.members.now = omega arith in
    let spares = spares_added g.S.Store (codes "member") (member_row (lent_member c.member_row-row.result)) mid new c.insert_member.ensures.survives c.insert_member.result c.insert_member.ensures.added c.insert_member.ensures.failed in
    let one = wrote_record g.S.Store (codes "member") member_row (λ r. with_more_members (r ∷ [])) (lent_member c.member_row-row.result)
    (member_record c.args.owner.now c.loop-ord.ord (string_bytes c.index-members-ord.result)) (rw c.deref.ensures at c.member_row-row.ensures) mid new c.insert_member.ensures.survives members_added
    c.in_ok-insert_member.ensures.added in
    record {
      same_reference = c.insert_member.ensures.same_reference ∙ c.loop-ord.invariant.same_reference;
      wrote = adding_wrote g.S.Store adding_member with_more_members members_last (λ l. numbered (member_record c.args.owner.now) 0 (texts_shown l)) c.args.members.now c.loop-ord.ord
          (member_record c.args.owner.now c.loop-ord.ord (string_bytes c.index-members-ord.result) ∷ [])
          (numbered_next string_bytes c.args.members.now c.loop-ord.ord c.index-members-ord.result low c.index-members-ord.is (member_record c.args.owner.now)) first mid new c.loop-ord.invariant.wrote spares one;
      usable = usable_then g.S.Store (map adding_member (member_record c.args.owner.now c.loop-ord.ord (string_bytes c.index-members-ord.result) ∷ []))
          (with_more_members (member_record c.args.owner.now c.loop-ord.ord (string_bytes c.index-members-ord.result) ∷ [])) mid new c.loop-ord.invariant.usable one spares;
      spares = spares_then g.S.Store first mid new c.loop-ord.invariant.spares spares;
    }

pub loop-ord-init : goal.loop-ord-init
loop-ord-init g c =
    let first = (g.T.OpenTransaction.held c.args.tx.now) in
    record {
      same_reference = refl;
      wrote = adding_none g.S.Store adding_member with_more_members members_none first;
      usable = c.requires.usable;
      spares = spares_none g.S.Store first;
    }

pub returns-clause-wrote : goal.returns-clause-wrote
returns-clause-wrote g c =
    subst (λ l. WroteStatements g.S.Store (map adding_member (numbered (member_record c.args.owner.now) 0 (texts_shown l))) (with_more_members (numbered (member_record c.args.owner.now) 0 (texts_shown l)))
    (g.T.OpenTransaction.held c.args.tx.now) (g.T.OpenTransaction.held c.loop-ord.tx)) (take_all c.loop-ord.ord c.args.members.now (omega arith)) c.loop-ord.invariant.wrote

pub returns-in_err-insert_member-clause-spares : goal.returns-in_err-insert_member-clause-spares
returns-in_err-insert_member-clause-spares g c =
    let first = (g.T.OpenTransaction.held c.args.tx.now) in
    let mid = (g.T.OpenTransaction.held c.loop-ord.tx) in
    let new = (g.T.OpenTransaction.held c.insert_member.new.tx) in
    let spares = spares_added g.S.Store (codes "member") (member_row (lent_member c.member_row-row.result)) mid new c.insert_member.ensures.survives c.insert_member.result c.insert_member.ensures.added c.insert_member.ensures.failed in
    spares_then g.S.Store first mid new c.loop-ord.invariant.spares spares

pub returns-in_err-insert_member-clause-failed : goal.returns-in_err-insert_member-clause-failed
returns-in_err-insert_member-clause-failed g c =
    let first = (g.T.OpenTransaction.held c.args.tx.now) in
    let mid = (g.T.OpenTransaction.held c.loop-ord.tx) in
    let new = (g.T.OpenTransaction.held c.insert_member.new.tx) in
    let low : c.loop-ord.ord < length c.args.members.now = omega arith in
    let spares = spares_added g.S.Store (codes "member") (member_row (lent_member c.member_row-row.result)) mid new c.insert_member.ensures.survives c.insert_member.result c.insert_member.ensures.added c.insert_member.ensures.failed in
    let e = c.in_err-insert_member.field-0.0 in
    let two = failed_record g.S.Store (codes "member") member_row (λ r. with_more_members (r ∷ [])) (lent_member c.member_row-row.result)
    (member_record c.args.owner.now c.loop-ord.ord (string_bytes c.index-members-ord.result)) (rw c.deref.ensures at c.member_row-row.ensures) mid new c.insert_member.ensures.survives e
    c.in_err-insert_member.ensures.failed in
    passed_on (FailsToWrite g.S.Store (map adding_member (numbered (member_record c.args.owner.now) 0 (texts_shown c.args.members.now))) first new) e c.from_residual.result c.from_residual.ensures.1
    (adding_failed g.S.Store adding_member with_more_members members_last (λ l. numbered (member_record c.args.owner.now) 0 (texts_shown l)) c.args.members.now c.loop-ord.ord
    (member_record c.args.owner.now c.loop-ord.ord (string_bytes c.index-members-ord.result) ∷ [])
    (numbered_next string_bytes c.args.members.now c.loop-ord.ord c.index-members-ord.result low c.index-members-ord.is (member_record c.args.owner.now)) first mid new c.loop-ord.invariant.wrote spares
    (numbered_grows string_bytes (member_record c.args.owner.now)) e two)

pub insert_member-requires : goal.insert_member-requires
insert_member-requires g c = λ clean lives. has_members (state g.S.Store (g.T.OpenTransaction.held c.loop-ord.tx)).now (c.loop-ord.invariant.usable clean lives)
