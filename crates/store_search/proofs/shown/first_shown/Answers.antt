use Rattle.std.proofs.Common.{◌≡◌, ℕ, ◌∷◌, ◌++◌, [], cond, get_or, Vec, Global, ap, sym, ◌∙◌}
use Rattle.std.proofs.lemmas.List.{take_all}
use Rattle.dict_index.specs.Found.{distinct}
use Rattle.store_search.proofs.ShownLemmas.{texts_of, same_texts, turned_texts, none_shown, one_shown}
use Rattle.store_search.proofs.shown.first_shown.Goals as goal
use Rattle.store_search.proofs.shown.first_shown.Goals.{then-branch+in_ok-push, else-branch}

pub loop-place-init : goal.loop-place-init
loop-place-init c = none_shown same_texts c.args.entries.now c.args.places.now c.in_ok-seen.seen.keys c.in_ok-firsts.firsts.items c.in_ok-seen.ensures.empty c.in_ok-firsts.ensures.items

pub loop-place-preserved : goal.loop-place-preserved
loop-place-preserved c =
    let entries = c.args.entries.now in
    let places = c.args.places.now in
    let i = c.loop-place.place-index in
    let old = c.loop-place.firsts.items in
    let more = old ++ get_or places i 0 ∷ [] in
    let new : c.if-branch.firsts.items ≡ cond c.in_ok-insert.field-0 more old = elim c.if-branch.branch [
      | then-branch+in_ok-push w ↦ ap (λ (v : Vec ℕ Global). v.items) w.firsts-is ∙ w.in_ok-push.ensures.items ∙ sym (ap (λ b. cond b more old) w.if-branch.true)
      | else-branch w ↦ ap (λ (v : Vec ℕ Global). v.items) w.firsts-is ∙ sym (ap (λ b. cond b more old) w.if-branch.false)
    ] in
    one_shown same_texts entries places i c.loop-place.seen.keys c.insert.new.self.keys old c.if-branch.firsts.items c.shown_octets.result c.in_ok-insert.field-0
    c.distinct_law.ensures c.loop-place-test.true c.loop-place.invariant c.shown_octets.ensures (turned_texts c.shown_octets.result) c.in_ok-insert.ensures.updates.0 c.in_ok-insert.ensures.added new

pub returns : goal.returns
returns c = c.loop-place.invariant.firsts_are ∙ ap (λ l. distinct (texts_of c.args.entries.now l)) (take_all c.loop-place.place-index c.args.places.now c.loop-place-test.false)
