use Rattle.std.proofs.Common.{◌≡◌, ◌+◌, sym, subst, ◌∙◌}
use Rattle.std.specs.Prelude.{Some, slice_get}
use Rattle.dict_desk.proofs.LinkLemmas.{read_at}
use Rattle.dict_desk.proofs.HitLemmas.{Counts, counts_same, counts_more}
use Rattle.dict_desk.proofs.entries.hits_among.Goals as goal
use Rattle.dict_desk.proofs.entries.hits_among.Goals.{then-finds, else-finds}

pub loop-place-preserved : goal.loop-place-preserved
loop-place-preserved c =
    let strategy = c.args.strategy in
    let query = c.args.query.now in
    let entries = c.args.entries.now in
    let i = c.loop-place.place in
    let entry = c.index-entries-place.result in
    let at : slice_get entries i ≡ Some entry = read_at entries i entry c.loop-place-test.true c.index-entries-place.is in
    elim c.if-finds.branch [
      | then-finds w ↦
          subst (Counts strategy query entries (i + 1)) (sym w.hits-is)
          (counts_more strategy query entries i entry at c.loop-place.hits c.loop-place.invariant (sym c.finds.ensures ∙ w.if-finds.true) w.is_repeated-is_repeated.result w.is_repeated-is_repeated.ensures
          w.with-hits.result w.with-hits.ensures.entries w.with-hits.ensures.headwords w.with-hits.ensures.first w.with-hits.ensures.end)
      | else-finds w ↦ subst (Counts strategy query entries (i + 1)) (sym w.hits-is) (counts_same strategy query entries i entry at c.loop-place.hits c.loop-place.invariant (sym c.finds.ensures ∙ w.if-finds.false))
    ]
