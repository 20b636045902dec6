use Rattle.std.proofs.Common.{◌∙◌, refl, sym}
use Rattle.std.proofs.lemmas.Bool.{and_parts}
use Rattle.std.proofs.lemmas.Result.{IfOk-weaker, IfErr-weaker}
use Rattle.store_desk.specs.Desk.{HasBeside, IsOneOf}
use Rattle.store_desk.proofs.ReopenLemmas.{shows_one_of, still_beside, tells_none, hands_back, hands_beside, hands_spent, keeps_some, leaves_some, excused, unopened_again, kind_of}
use Rattle.store_desk.proofs.reopening.Desk+FileStore+D.reopen.Goals as goal

pub returns-clause-reopened : goal.returns-clause-reopened
returns-clause-reopened g c = IfOk-weaker c.open_over.result _ _ (λ next over. record { files = c.files_of-files.result; let_go = c.files_of-files.ensures; over = over }) c.open_over.ensures.opened

pub returns-clause-follows : goal.returns-clause-follows
returns-clause-follows g c =
    let files = c.files_of-files.result in
    IfOk-weaker c.open_over.result _ _ (λ next over clean ms leaves. shows_one_of g.met.D.Disk.seen_may_stay c.args.self files files c.files_of-files.ensures (λ image out. out)
    (λ clean. clean) next over clean ms leaves) c.open_over.ensures.opened

pub returns-clause-beside : goal.returns-clause-beside
returns-clause-beside g c =
    let files = c.files_of-files.result in
    IfOk-weaker c.open_over.result _ _ (λ next over db keeps. still_beside g.met.D.Disk.seen_may_stay c.args.self files files c.files_of-files.ensures (λ image out. out)
    (λ clean. clean) next over db keeps) c.open_over.ensures.opened

pub returns-clause-unopened : goal.returns-clause-unopened
returns-clause-unopened g c =
    let files = c.files_of-files.result in
    let gone = c.files_of-files.ensures in
    let stays = g.met.D.Disk.seen_may_stay in
    IfErr-weaker c.open_over.result _ _ (λ left over. record {
      files = files;
      let_go = gone;
      why = unopened_again files left.0 left.1 over;
      kind = kind_of files left.0 left.1 over;
      excused = excused stays c.args.self files files gone (λ image out. out) (λ clean. clean) left.0 left.1 over;
      leaves = hands_back stays c.args.self files files gone (λ image out. out) (λ clean. clean) left.0 left.1 over;
      beside = hands_beside stays c.args.self files files gone (λ image out. out) (λ clean. clean) left.0 left.1 over;
      of_store = tells_none stays c.args.self files files gone (λ image out. out) (λ clean. clean) left.0 left.1 over;
    }) c.open_over.ensures.unopened

pub returns-then-not-may_be_used-clause-unopened : goal.returns-then-not-may_be_used-clause-unopened
returns-then-not-may_be_used-clause-unopened g c =
    let files = c.files_of-files.result in
    let gone = c.files_of-files.ensures in
    let stays = g.met.D.Disk.seen_may_stay in
    record {
      files = files;
      let_go = gone;
      why = (refl, refl, sym c.may_be_used.ensures ∙ c.if-not-may_be_used.true);
      kind = tt;
      excused = tt;
      leaves = λ ms leaves. hands_spent stays c.args.self files files gone (λ image out. out) (λ clean. clean) (IsOneOf ms) (leaves_some stays c.args.self files files gone (λ image out. out) (λ clean. clean) ms leaves);
      beside = λ db keeps. hands_spent stays c.args.self files files gone (λ image out. out) (λ clean. clean) (HasBeside db) (keeps_some stays c.args.self files files gone (λ image out. out) (λ clean. clean) db keeps);
      of_store = λ ms leaves never. tt;
    }

pub open_over-requires-clause-log : goal.open_over-requires-clause-log
open_over-requires-clause-log g c = (and_parts (g.D.Disk.is_usable c.files_of-files.result.log) (g.D.Disk.is_usable c.files_of-files.result.db) (sym c.may_be_used.ensures ∙ c.if-not-may_be_used.false)).0

pub open_over-requires-clause-db : goal.open_over-requires-clause-db
open_over-requires-clause-db g c = (and_parts (g.D.Disk.is_usable c.files_of-files.result.log) (g.D.Disk.is_usable c.files_of-files.result.db) (sym c.may_be_used.ensures ∙ c.if-not-may_be_used.false)).1
