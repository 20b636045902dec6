use Rattle.std.proofs.lemmas.Result.{IfOk-weaker, IfErr-weaker}
use Rattle.sqlite_disk.specs.declared.Files.{Files}
use Rattle.store_desk.specs.Reopened.{IsStopped}
use Rattle.store_desk.proofs.ReopenLemmas.{shows_front, shows_one_of, tells_none, tells_none_of_front, hands_back, hands_beside, excused, kind_of, still_beside, stopped_by}
use Rattle.store_desk.proofs.reopening.Desk+FileStore+D.restart.Goals as goal

pub returns-clause-only : goal.returns-clause-only
returns-clause-only g c = IfOk-weaker c.open_over.result _ _ (λ next over. over.adopted.only) c.open_over.ensures.opened

pub returns-clause-restarted : goal.returns-clause-restarted
returns-clause-restarted g c =
    let d = g.D.Disk in
    let was = c.files_of-files.result in
    let stopped : Files _ = record { log = c.crash.new.self; db = c.crash-2.new.self } in
    let stop : IsStopped d was stopped = stopped_by was stopped (c.crash.ensures.left, c.crash-2.ensures.left) (c.crash.ensures.crash, c.crash-2.ensures.crash) (c.crash.ensures.clean, c.crash-2.ensures.clean) in
    IfOk-weaker c.open_over.result _ _ (λ next over. record {
      files = was;
      let_go = c.files_of-files.ensures;
      stopped = stopped;
      stop = stop;
      over = over;
    }) c.open_over.ensures.opened

pub returns-clause-shows : goal.returns-clause-shows
returns-clause-shows g c =
    let d = g.D.Disk in
    let was = c.files_of-files.result in
    let stopped : Files _ = record { log = c.crash.new.self; db = c.crash-2.new.self } in
    let stop : IsStopped d was stopped = stopped_by was stopped (c.crash.ensures.left, c.crash-2.ensures.left) (c.crash.ensures.crash, c.crash-2.ensures.crash) (c.crash.ensures.clean, c.crash-2.ensures.clean) in
    IfOk-weaker c.open_over.result _ _ (λ next over clean before requests answered leaves.
    shows_front g.met.D.Disk.seen_may_stay c.args.self was stopped c.files_of-files.ensures stop.crash stop.clean next over clean before requests answered leaves) c.open_over.ensures.opened

pub returns-clause-beside : goal.returns-clause-beside
returns-clause-beside g c =
    let d = g.D.Disk in
    let was = c.files_of-files.result in
    let stopped : Files _ = record { log = c.crash.new.self; db = c.crash-2.new.self } in
    let stop : IsStopped d was stopped = stopped_by was stopped (c.crash.ensures.left, c.crash-2.ensures.left) (c.crash.ensures.crash, c.crash-2.ensures.crash) (c.crash.ensures.clean, c.crash-2.ensures.clean) in
    IfOk-weaker c.open_over.result _ _ (λ next over db keeps.
    still_beside g.met.D.Disk.seen_may_stay c.args.self was stopped c.files_of-files.ensures stop.crash stop.clean next over db keeps) c.open_over.ensures.opened

pub returns-clause-follows : goal.returns-clause-follows
returns-clause-follows g c =
    let d = g.D.Disk in
    let was = c.files_of-files.result in
    let stopped : Files _ = record { log = c.crash.new.self; db = c.crash-2.new.self } in
    let stop : IsStopped d was stopped = stopped_by was stopped (c.crash.ensures.left, c.crash-2.ensures.left) (c.crash.ensures.crash, c.crash-2.ensures.crash) (c.crash.ensures.clean, c.crash-2.ensures.clean) in
    IfOk-weaker c.open_over.result _ _ (λ next over clean ms leaves. shows_one_of g.met.D.Disk.seen_may_stay c.args.self was stopped c.files_of-files.ensures stop.crash stop.clean next over clean ms leaves) c.open_over.ensures.opened

pub returns-clause-unopened : goal.returns-clause-unopened
returns-clause-unopened g c =
    let d = g.D.Disk in
    let was = c.files_of-files.result in
    let gone = c.files_of-files.ensures in
    let stays = g.met.D.Disk.seen_may_stay in
    let stopped : Files _ = record { log = c.crash.new.self; db = c.crash-2.new.self } in
    let stop : IsStopped d was stopped = stopped_by was stopped (c.crash.ensures.left, c.crash-2.ensures.left) (c.crash.ensures.crash, c.crash-2.ensures.crash) (c.crash.ensures.clean, c.crash-2.ensures.clean) in
    IfErr-weaker c.open_over.result _ _ (λ left over. record {
      files = was;
      let_go = gone;
      stopped = stopped;
      stop = stop;
      why = over;
      kind = kind_of stopped left.0 left.1 over;
      excused = excused stays c.args.self was stopped gone stop.crash stop.clean left.0 left.1 over;
      leaves = hands_back stays c.args.self was stopped gone stop.crash stop.clean left.0 left.1 over;
      beside = hands_beside stays c.args.self was stopped gone stop.crash stop.clean left.0 left.1 over;
      of_store = tells_none stays c.args.self was stopped gone stop.crash stop.clean left.0 left.1 over;
      of_front = tells_none_of_front stays c.args.self was stopped gone stop.crash stop.clean left.0 left.1 over;
    }) c.open_over.ensures.unopened
