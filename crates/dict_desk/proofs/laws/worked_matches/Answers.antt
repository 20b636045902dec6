use Rattle.std.proofs.Common.{refl}
use Rattle.std.specs.Str.{chars}
use lib.Utf8.{encode}
use Rattle.dict_match.proofs.Computing.{keys}
use Rattle.dict_match.specs.Matching.{is_hit}
use Rattle.dict_match.specs.StrategyText.{strategy_name}
use Rattle.dict_desk.specs.Asked.{searched, strategy_of}
use Rattle.dict_desk.proofs.laws.worked_matches.Goals as goal

pub returns-clause-name : goal.returns-clause-name
unfolding searched keys is_hit chars encode
returns-clause-name c = refl

pub returns-clause-star : goal.returns-clause-star
unfolding searched keys is_hit chars encode
returns-clause-star c = refl

pub returns-clause-first : goal.returns-clause-first
unfolding searched keys is_hit chars encode
returns-clause-first c = refl

pub returns-clause-listed : goal.returns-clause-listed
unfolding searched keys is_hit chars encode
returns-clause-listed c = refl

pub returns-clause-prefix : goal.returns-clause-prefix
unfolding searched keys is_hit chars encode
returns-clause-prefix c = refl

pub returns-clause-twice : goal.returns-clause-twice
unfolding searched keys is_hit chars encode
returns-clause-twice c = refl

pub returns-clause-once : goal.returns-clause-once
unfolding searched keys is_hit chars encode
returns-clause-once c = refl

pub returns-clause-period : goal.returns-clause-period
unfolding strategy_of
returns-clause-period c = refl

pub returns-clause-exact : goal.returns-clause-exact
unfolding strategy_of strategy_name
returns-clause-exact c = refl

pub returns-clause-case : goal.returns-clause-case
unfolding strategy_of strategy_name
returns-clause-case c = refl
