use Rattle.store_search.proofs.ShownLemmas.{HasShown, same_texts}
use Rattle.store_search.proofs.shown.first_shown.Given as goal

abbrev pub invariant-loop-place : goal.invariant-loop-place
invariant-loop-place l = HasShown same_texts l.entries l.places l.place-index l.seen.keys l.firsts.items
