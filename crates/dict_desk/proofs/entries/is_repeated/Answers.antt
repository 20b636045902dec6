use Rattle.std.proofs.Common.{◌≡◌, sym, ap, ◌∙◌, subst, arith}
use Rattle.std.specs.Prelude.{Some, slice_get}
use Rattle.dict_desk.specs.PlainEntries.{shown_by, is_hit_of, up_to}
use Rattle.dict_desk.specs.declared.entries.SaidEntry.{SaidEntry}
use Rattle.dict_desk.proofs.LinkLemmas.{read_at, Walks, walk_begins, walk_on, walk_back, walk_found}
use Rattle.dict_desk.proofs.entries.is_repeated.Goals as goal

pub loop-last-init : goal.loop-last-init
loop-last-init c =
    let entry = c.args.entry.now in
    subst (λ (said : SaidEntry). Walks (is_hit_of c.args.strategy c.args.query.now) c.args.entries.now (shown_by entry) c.args.place said.earlier) (sym c.deref.ensures)
    (walk_begins (is_hit_of c.args.strategy c.args.query.now) c.args.entries.now c.args.place entry c.requires.links c.requires.here)

pub returns-then-finds : goal.returns-then-finds
returns-then-finds c =
    let p = is_hit_of c.args.strategy c.args.query.now in
    let entries = c.args.entries.now in
    let i = c.in-Some.earlier in
    let before = c.index-entries-earlier.result in
    let walk = subst (Walks p entries (shown_by c.args.entry.now) c.args.place) c.in-Some.is c.loop-last.invariant in
    let at : slice_get entries i ≡ Some before = read_at entries i before (omega (arith, walk.within)) c.index-entries-earlier.is in
    walk_found p entries (shown_by c.args.entry.now) c.args.place i before at (sym c.finds.ensures ∙ c.if-finds.true) walk

pub loop-last-smaller : goal.loop-last-smaller
loop-last-smaller c =
    let p = is_hit_of c.args.strategy c.args.query.now in
    let entries = c.args.entries.now in
    let i = c.in-Some.earlier in
    let before = c.index-entries-earlier.result in
    let walk = subst (Walks p entries (shown_by c.args.entry.now) c.args.place) c.in-Some.is c.loop-last.invariant in
    let at : slice_get entries i ≡ Some before = read_at entries i before (omega (arith, walk.within)) c.index-entries-earlier.is in
    omega (arith, ap up_to c.in-Some.is, ap (λ (said : SaidEntry). up_to said.earlier) c.deref-in-Some.ensures, walk_back p entries i before c.requires.links at)

pub loop-last-preserved : goal.loop-last-preserved
loop-last-preserved c =
    let p = is_hit_of c.args.strategy c.args.query.now in
    let entries = c.args.entries.now in
    let i = c.in-Some.earlier in
    let before = c.index-entries-earlier.result in
    let walk = subst (Walks p entries (shown_by c.args.entry.now) c.args.place) c.in-Some.is c.loop-last.invariant in
    let at : slice_get entries i ≡ Some before = read_at entries i before (omega (arith, walk.within)) c.index-entries-earlier.is in
    subst (λ (said : SaidEntry). Walks p entries (shown_by c.args.entry.now) c.args.place said.earlier) (sym c.deref-in-Some.ensures)
    (walk_on p entries (shown_by c.args.entry.now) c.args.place i before c.requires.links at (sym c.finds.ensures ∙ c.if-finds.false) walk)
