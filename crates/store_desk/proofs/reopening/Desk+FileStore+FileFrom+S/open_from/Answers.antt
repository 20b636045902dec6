use Rattle.std.proofs.Common.{◌∙◌, ap, inl, subst, sym, refl, arith}
use Rattle.std.proofs.lemmas.Option.{IfSome_then}
use Rattle.std.proofs.lemmas.Result.{IfOk-weaker, IfErr-weaker}
use Rattle.sqlite.specs.State.{HasCleanDisk}
use Rattle.sqlite.specs.Files.{file_state}
use Rattle.sqlite.specs.WalFiles.{image_at}
use Rattle.store_holdings.specs.Holds.{IsLeft}
use Rattle.store_desk.specs.Unopened.{fault_of_files}
use Rattle.store_desk.proofs.HandedLemmas.{handed_from}
use Rattle.store_desk.proofs.FreshLemmas.{seen_is, left_is, honest_is, octets_by, unopened_from}
use Rattle.store_desk.proofs.reopening.Desk+FileStore+FileFrom+S.open_from.Goals as goal

pub returns-clause-adopted : goal.returns-clause-adopted
returns-clause-adopted g c = IfOk-weaker c.adopt_files.result _ _ (λ desk it. record {
  conn = c.in-Ok.conn;
  opened = λ clean. (c.in-Ok.ensures.opened clean, c.in-Ok.ensures.found clean);
  new = c.in-Ok.ensures.fresh;
  adopted = it.0;
}) c.adopt_files.ensures.adopted

pub returns-clause-rests : goal.returns-clause-rests
returns-clause-rests g c = IfOk-weaker c.adopt_files.result _ _ (λ desk it. it.0.shows) c.adopt_files.ensures.adopted

pub returns-clause-only : goal.returns-clause-only
returns-clause-only g c = IfOk-weaker c.adopt_files.result _ _ (λ desk it. it.0.only) c.adopt_files.ensures.adopted

pub returns-clause-shows : goal.returns-clause-shows
returns-clause-shows g c = IfOk-weaker c.adopt_files.result _ _ (λ desk it clean M held.
    let early : HasCleanDisk (file_state c.in-Ok.conn) = omega (arith, it.0.migrated.clean, clean) in
    let found = c.in-Ok.ensures.found early in
    it.1 clean M (subst (IsLeft M) (sym (found.holds held.0 held.1)) held.2)) c.adopt_files.ensures.adopted

pub returns-clause-unopened : goal.returns-clause-unopened
returns-clause-unopened g c = IfErr-weaker c.adopt_files.result _ _ (λ left it.
    handed_from c.in-Ok.conn (λ _. inl refl) (image_at g.S.Start) (λ clean. (c.in-Ok.ensures.opened clean, c.in-Ok.ensures.found clean)) left.0 left.1 it) c.adopt_files.ensures.rejected

pub returns-in-Err-clause-unopened : goal.returns-in-Err-clause-unopened
returns-in-Err-clause-unopened g c =
    let start = g.S.Start in
    unopened_from (image_at start) (λ _. inl refl) c.in-Err.error _ c.fault_of_files.ensures.value c.fault_of_files.ensures.kind c.in-Err.ensures.named c.in-Err.left c.in-Err.ensures.unopened
    (IfSome_then c.in-Err.left c.in-Err.ensures.cause (λ now it.
    let log = it.1 in
    let db = it.2 in (
      it.0,
      octets_by it.0 (image_at start) (seen_is start.log start.db _ _ _ _ log.0 log.1) (seen_is start.log start.db _ _ _ _ db.0 db.1)
          (left_is start.log start.db _ _ _ _ log.0 log.1 _) (left_is start.log start.db _ _ _ _ db.0 db.1 _)
          (honest_is start.log start.db _ _ _ _ log.0 log.1) (honest_is start.log start.db _ _ _ _ db.0 db.1),
      it.3,
    )))

pub returns-in-Err-clause-memory : goal.returns-in-Err-clause-memory
returns-in-Err-clause-memory g c named = c.fault_of_files.ensures.value ∙ ap fault_of_files (c.in-Err.ensures.memory named)
