use Rattle.dict_match.proofs.Scalars.{All-default_case_fold}
use Rattle.dict_match.proofs.laws.scalar_law.Goals as goal

pub returns : goal.returns
returns c = All-default_case_fold
