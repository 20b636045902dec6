use Rattle.std.proofs.Common.{List, [], ◌∷◌, ◌++◌, Some, None, inl, sym, subst}
use Rattle.sqlite.specs.Order.{Row}
use Rattle.sqlite.specs.Given as kit
use Rattle.store_sql.specs.Streams.{Scan, HasGiven, FailsToGive, FailsToMove}
use Rattle.store_sql.proofs.ScanLemmas.{gives_on, fails_to_advance}
use Rattle.store_sql.proofs.StreamLemmas.{reads, fails_to_decode, stops_at, passed_on}
use Rattle.store_sql.specs.declared.records.ReadError.TheVariants.{Store}
use Rattle.store_sql.proofs.stream.next_record.Goals as goal

pub returns-in_err-advance-clause-failed : goal.returns-in_err-advance-clause-failed
returns-in_err-advance-clause-failed g c clean =
    let old = c.args.rows.now.conn.now in
    let new = c.advance.new.self.conn.now in
    let e = c.in_err-advance.field-0.0 in
    let why = c.in_err-advance.ensures in
    let fails : (what : Scan) (given : List Row) → HasGiven g.S.Store what old given → FailsToGive g.S.Store g.R.Record.columns what old new given (Store e) = λ what given h.
    inl (fails_to_advance (reads what) g.S.Store old new given e h (why.err clean), why.ends why.failed) in
    passed_on (λ e. (what : Scan) (given : List Row) → HasGiven g.S.Store what old given → FailsToGive g.S.Store g.R.Record.columns what old new given e) (Store e) c.from_residual.result c.from_residual.ensures.1 fails

pub returns-in_err-from_row-in-Some-clause-failed : goal.returns-in_err-from_row-in-Some-clause-failed
returns-in_err-from_row-in-Some-clause-failed g c clean =
    let old = c.args.rows.now.conn.now in
    let new = c.advance.new.self.conn.now in
    let row = c.in-Some.row.now in
    let e = c.in_err-from_row-in-Some.field-0.0 in
    let same = c.in_ok-advance.ensures.same clean in
    let moved = subst (kit.Advances g.S.Store old new) (sym c.in-Some.ensures) (c.in_ok-advance.ensures.ok clean) in
    let fails : (what : Scan) (given : List Row) → HasGiven g.S.Store what old given → FailsToGive g.S.Store g.R.Record.columns what old new given e =
    λ what given h. fails_to_decode g.S.Store what g.R.Record.columns old new given row e (same, gives_on (reads what) g.S.Store old new given (Some row) same h moved) c.in_err-from_row-in-Some.ensures.refused in
    passed_on (λ e. (what : Scan) (given : List Row) → HasGiven g.S.Store what old given → FailsToGive g.S.Store g.R.Record.columns what old new given e) e c.from_residual-in_err-from_row-in-Some.result
    c.from_residual-in_err-from_row-in-Some.ensures.1 fails

pub returns-in_ok-from_row-in-Some-clause-given : goal.returns-in_ok-from_row-in-Some-clause-given
returns-in_ok-from_row-in-Some-clause-given g c clean what given h =
    let old = c.args.rows.now.conn.now in
    let new = c.advance.new.self.conn.now in
    let moved = subst (kit.Advances g.S.Store old new) (sym c.in-Some.ensures) (c.in_ok-advance.ensures.ok clean) in
    subst (λ r. HasGiven g.S.Store what new (given ++ r ∷ [])) c.in_ok-from_row-in-Some.ensures.read (gives_on (reads what) g.S.Store old new given (Some c.in-Some.row.now) (c.in_ok-advance.ensures.same clean) h moved)

pub returns-in-None-clause-given : goal.returns-in-None-clause-given
returns-in-None-clause-given g c clean what given h =
    let old = c.args.rows.now.conn.now in
    let new = c.advance.new.self.conn.now in
    gives_on (reads what) g.S.Store old new given None (c.in_ok-advance.ensures.same clean) h (subst (kit.Advances g.S.Store old new) (sym c.in-None.ensures) (c.in_ok-advance.ensures.ok clean))

pub returns-in_err-advance-clause-stopped : goal.returns-in_err-advance-clause-stopped
returns-in_err-advance-clause-stopped g c clean =
    let old = c.args.rows.now.conn.now in
    let new = c.advance.new.self.conn.now in
    let e = c.in_err-advance.field-0.0 in
    let why = c.in_err-advance.ensures in
    let stops : FailsToMove g.S.Store g.R.Record.columns old new (Store e) = inl (why.err clean, why.ends why.failed) in
    passed_on (FailsToMove g.S.Store g.R.Record.columns old new) (Store e) c.from_residual.result c.from_residual.ensures.1 stops

pub returns-in_err-from_row-in-Some-clause-stopped : goal.returns-in_err-from_row-in-Some-clause-stopped
returns-in_err-from_row-in-Some-clause-stopped g c clean =
    let old = c.args.rows.now.conn.now in
    let new = c.advance.new.self.conn.now in
    let row = c.in-Some.row.now in
    let e = c.in_err-from_row-in-Some.field-0.0 in
    let same = c.in_ok-advance.ensures.same clean in
    let moved = subst (kit.Advances g.S.Store old new) (sym c.in-Some.ensures) (c.in_ok-advance.ensures.ok clean) in
    passed_on (FailsToMove g.S.Store g.R.Record.columns old new) e c.from_residual-in_err-from_row-in-Some.result c.from_residual-in_err-from_row-in-Some.ensures.1
    (stops_at g.S.Store g.R.Record.columns old new row e same moved c.in_err-from_row-in-Some.ensures.refused)

pub returns-in_ok-from_row-in-Some-clause-moved : goal.returns-in_ok-from_row-in-Some-clause-moved
returns-in_ok-from_row-in-Some-clause-moved g c clean =
    let old = c.args.rows.now.conn.now in
    let new = c.advance.new.self.conn.now in
    let moved = subst (kit.Advances g.S.Store old new) (sym c.in-Some.ensures) (c.in_ok-advance.ensures.ok clean) in
    subst (λ r. kit.Advances g.S.Store old new (Some r)) c.in_ok-from_row-in-Some.ensures.read moved

pub returns-in-None-clause-moved : goal.returns-in-None-clause-moved
returns-in-None-clause-moved g c clean =
    let old = c.args.rows.now.conn.now in
    let new = c.advance.new.self.conn.now in
    subst (kit.Advances g.S.Store old new) (sym c.in-None.ensures) (c.in_ok-advance.ensures.ok clean)
