use Rattle.std.proofs.Common.{◌≡◌, ◌∙◌, false, inr, sym, subst}
use Rattle.sqlite.specs.Closing.{IsCopied}
use Rattle.sqlite.specs.Files.{FailsToClose}
use Rattle.sqlite.specs.FileStore.{view, faults, recovers, is_shielded}
use Rattle.sqlite.specs.Held.{Held}
use Rattle.sqlite.specs.View.{IsQuiet}
use Rattle.sqlite_store.specs.declared.store.FileStore.{FileStore}
use Rattle.store_holdings.specs.Holds.{IsLeft}
use Rattle.store_desk.specs.Desk.{HasBeside, IsOneOf, is_closed}
use Rattle.store_desk.proofs.CloseLemmas.{copy_holds, store_leaves}
use Rattle.store_desk.proofs.closing.Desk+FileStore+D.close.Goals as goal

pub returns-then-is_closed-clause-left : goal.returns-then-is_closed-clause-left
returns-then-is_closed-clause-left g c ms leaves =
    store_leaves c.args.self.conn c.store_of.result
    (subst (λ (conn : Held (FileStore _ _)). IsQuiet view faults recovers is_shielded conn.store c.store_of.result) c.let_go_of_files-conn.ensures.same c.store_of.ensures.quiet) (IsOneOf ms) leaves

pub returns-then-is_closed-clause-kept : goal.returns-then-is_closed-clause-kept
returns-then-is_closed-clause-kept g c db keeps =
    store_leaves c.args.self.conn c.store_of.result
    (subst (λ (conn : Held (FileStore _ _)). IsQuiet view faults recovers is_shielded conn.store c.store_of.result) c.let_go_of_files-conn.ensures.same c.store_of.ensures.quiet) (HasBeside db) keeps

pub returns-in-Ok-clause-alone : goal.returns-in-Ok-clause-alone
returns-in-Ok-clause-alone g c honest M shown =
    let copied = subst (λ (conn : Held (FileStore _ _)). IsCopied conn c.in-Ok.files) c.let_go_of_files-conn.ensures.same (c.in-Ok.ensures.copied honest) in
    let fine : is_closed c.args.self.last ≡ false = sym c.let_go_of_files-conn.ensures.closed ∙ c.if-is_closed.false in
    copy_holds c.args.self.conn c.in-Ok.files (IsLeft M) copied (c.let_go_of_files-conn.ensures.holds fine copied.was_clean copied.was_open M shown)

pub returns-in-Ok-clause-beside : goal.returns-in-Ok-clause-beside
returns-in-Ok-clause-beside g c honest db keeps =
    let copied = subst (λ (conn : Held (FileStore _ _)). IsCopied conn c.in-Ok.files) c.let_go_of_files-conn.ensures.same (c.in-Ok.ensures.copied honest) in
    copy_holds c.args.self.conn c.in-Ok.files (HasBeside db) copied (c.let_go_of_files-conn.ensures.beside copied.was_clean copied.was_open db keeps)

pub returns-in-Ok-clause-clean : goal.returns-in-Ok-clause-clean
returns-in-Ok-clause-clean g c honest = (subst (λ (conn : Held (FileStore _ _)). IsCopied conn c.in-Ok.files) c.let_go_of_files-conn.ensures.same (c.in-Ok.ensures.copied honest)).was_clean

pub returns-in-Err-clause-left : goal.returns-in-Err-clause-left
returns-in-Err-clause-left g c ms leaves =
    store_leaves c.args.self.conn c.in-Err.store
    (subst (λ (conn : Held (FileStore _ _)). IsQuiet view faults recovers is_shielded conn.store c.in-Err.store) c.let_go_of_files-conn.ensures.same c.in-Err.ensures.err.0.quiet) (IsOneOf ms) leaves

pub returns-in-Err-clause-kept : goal.returns-in-Err-clause-kept
returns-in-Err-clause-kept g c db keeps =
    store_leaves c.args.self.conn c.in-Err.store
    (subst (λ (conn : Held (FileStore _ _)). IsQuiet view faults recovers is_shielded conn.store c.in-Err.store) c.let_go_of_files-conn.ensures.same c.in-Err.ensures.err.0.quiet) (HasBeside db) keeps

pub returns-in-Err-clause-kinds : goal.returns-in-Err-clause-kinds
returns-in-Err-clause-kinds g c = c.fault_of_copy.ensures.kinds

pub returns-in-Err-clause-failed : goal.returns-in-Err-clause-failed
returns-in-Err-clause-failed g c clean =
    inr (c.in-Err.error, c.fault_of_copy.ensures.value, subst (λ (conn : Held (FileStore _ _)). FailsToClose conn c.in-Err.store c.in-Err.error) c.let_go_of_files-conn.ensures.same (c.in-Err.ensures.err.1 clean))
