use Rattle.std.proofs.Common.{◌≡◌, ℕ, map, take, sym, subst, arith}
use Rattle.dict_reading.specs.Views.{line_read}
use Rattle.store_search.specs.Entries.{entry_of}
use Rattle.store_desk.proofs.MakingLemmas.{entry_next, front_of}
use Rattle.store_desk.proofs.making.take_entries.Goals as goal

pub loop-place-init : goal.loop-place-init
loop-place-init c = subst (λ (n : ℕ). c.args.builder.now ≡ map entry_of (take n c.args.reading.now.lines)) (sym c.len-from.ensures) c.requires.front

pub loop-place-preserved : goal.loop-place-preserved
loop-place-preserved c = entry_next c.args.reading.now.lines c.loop-place.place (line_read c.in-Some.line) c.loop-place.builder c.push.new.self (sym c.in-Some.ensures) c.loop-place.invariant c.in_ok-push.ensures.pushed

pub returns-clause-front : goal.returns-clause-front
returns-clause-front c = front_of c.args.reading.now.lines c.loop-place.place c.loop-place.builder (omega arith) c.loop-place.invariant
