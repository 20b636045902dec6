use Rattle.std.proofs.Common.{refl}
use Rattle.std.specs.Str.{chars}
use lib.Utf8.{encode}
use Rattle.dict_match.proofs.Computing.{keys}
use Rattle.dict_match.specs.Matching.{is_hit}
use Rattle.dict_desk.specs.Asked.{searched}
use Rattle.dict_desk.proofs.laws.worked_definitions.Goals as goal

pub returns-clause-name : goal.returns-clause-name
unfolding searched keys is_hit chars encode
returns-clause-name c = refl

pub returns-clause-star : goal.returns-clause-star
unfolding searched keys is_hit chars encode
returns-clause-star c = refl

pub returns-clause-first : goal.returns-clause-first
unfolding searched keys is_hit chars encode
returns-clause-first c = refl

pub returns-clause-listed : goal.returns-clause-listed
unfolding searched keys is_hit chars encode
returns-clause-listed c = refl

pub returns-clause-nothing : goal.returns-clause-nothing
unfolding searched keys is_hit chars encode
returns-clause-nothing c = refl

pub returns-clause-unknown : goal.returns-clause-unknown
unfolding searched keys is_hit chars encode
returns-clause-unknown c = refl

pub returns-clause-empty : goal.returns-clause-empty
unfolding searched keys is_hit chars encode
returns-clause-empty c = refl
