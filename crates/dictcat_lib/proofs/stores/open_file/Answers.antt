use Rattle.std.proofs.Common.{inl, inr, refl, sym, subst, true}
use Rattle.std.specs.Prelude.{Some}
use Rattle.sqlite.specs.Files.{IsBlankAs, file_state}
use Rattle.sqlite.specs.Start.{FindsIn}
use Rattle.store_desk.proofs.FreshLemmas.{unopened_from}
use Rattle.dictcat_lib.proofs.stores.open_file.Goals as goal

pub returns-in-Err-clause-unopened : goal.returns-in-Err-clause-unopened
returns-in-Err-clause-unopened g c = inl (inr (c.in-Err.fault, c.in-Err.ensures.refused, c.told_unhad.ensures), c.take.ensures.after, refl)

pub returns-in-Ok-open_cached-clause-opened : goal.returns-in-Ok-open_cached-clause-opened
returns-in-Ok-open_cached-clause-opened g c =
    let opened = c.in-Ok-open_cached.ensures in
    let same = c.in-Ok.ensures.octets.seen in
    record {
      live = λ clean. (opened.opened clean, let found = opened.found clean in subst (λ i. FindsIn i (file_state c.in-Ok-open_cached.conn)) same (record { holds = found.holds; reads = found.reads }));
      sums = λ clean blank. opened.sums clean (subst (IsBlankAs true) (sym same) blank);
      new = opened.fresh;
    }

pub returns-in-Err-open_cached-clause-unopened : goal.returns-in-Err-open_cached-clause-unopened
returns-in-Err-open_cached-clause-unopened g c =
    let failed = c.in-Err-open_cached.ensures in
    inr (
      c.in-Err-open_cached.rest,
      c.fault_of_files-fault.result,
      c.hold.ensures,
      c.take.ensures.after,
      unopened_from g.O.FileOpener.image g.met.O.FileOpener.stays c.in-Err-open_cached.error _ c.fault_of_files-fault.ensures.value c.fault_of_files-fault.ensures.kind failed.named (Some c.in-Err-open_cached.rest)
          (λ none. absurd (let e = none in cc)) (c.in-Ok.had.0, c.in-Ok.ensures.octets, λ clean. (failed.cause clean, failed.unharmed clean)),
      c.told_unhad-in-Err-open_cached.ensures,
    )
