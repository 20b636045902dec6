use Rattle.std.proofs.Common.{subst}
use Rattle.sqlite.specs.FileStore.{view, faults, recovers, is_shielded}
use Rattle.sqlite.specs.Held.{Held}
use Rattle.sqlite.specs.View.{IsQuiet}
use Rattle.sqlite_store.specs.declared.store.FileStore.{FileStore}
use Rattle.store_desk.proofs.reopening.files_of.Goals as goal

pub returns : goal.returns
returns g c = record {
  store = c.store_of.result;
  numbered = c.store_of.ensures.numbered;
  sound = c.store_of.ensures.sound;
  quiet = subst (λ (conn : Held (FileStore _ _)). IsQuiet view faults recovers is_shielded conn.store c.store_of.result) c.let_go_of_files-conn.ensures.same c.store_of.ensures.quiet;
  closed = c.close.ensures;
}
