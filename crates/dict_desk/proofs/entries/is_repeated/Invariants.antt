use Rattle.dict_desk.specs.PlainEntries.{shown_by, is_hit_of, up_to}
use Rattle.dict_desk.proofs.LinkLemmas.{Walks}
use Rattle.dict_desk.proofs.entries.is_repeated.Given as goal

abbrev pub invariant-loop-last : goal.invariant-loop-last
invariant-loop-last l = Walks (is_hit_of l.strategy l.query) l.entries (shown_by l.entry) l.place l.last

abbrev pub decreases-loop-last : goal.decreases-loop-last
decreases-loop-last l = up_to l.last
