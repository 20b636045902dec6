use Rattle.dict_match.proofs.JoinedLemmas.{joined_none}
use Rattle.dict_match.proofs.joined.Joined.with_capacity.Goals as goal

pub returns : goal.returns
returns c = rw c.in_ok-with_capacity.ensures.bytes joined_none
