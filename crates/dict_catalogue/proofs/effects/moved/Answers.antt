use Rattle.std.proofs.Common.{arith}
use Rattle.dict_catalogue.specs.Views.{item_shown}
use Rattle.dict_catalogue.proofs.MoveLemmas.{moved_shown}
use Rattle.dict_catalogue.proofs.effects.moved.Goals as goal

pub returns : goal.returns
returns c = moved_shown item_shown c.in_ok-after.after.items c.in_ok-named.named.items _ _ _ c.args.place c.in_ok-after.ensures c.in_ok-named.ensures (grind arith)
