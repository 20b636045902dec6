use Rattle.store_holdings.proofs.PlaceLemmas.{part_room, part_names}
use Rattle.store_holdings.proofs.room.leaves_room_for_parts.Goals as goal

pub returns : goal.returns
returns c = (λ yes. part_room c.args.schema.now (c.are_free.ensures.0 yes), λ room. c.are_free.ensures.1 (part_names c.args.schema.now room))
