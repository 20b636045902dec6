use Rattle.dict_catalogue.specs.Steps.{holdings}
use Rattle.dict_catalogue.proofs.SummaryLemmas.{refusal_of_as, effect_with, editions_gone_as, reply_to_as}
use Rattle.dict_catalogue.proofs.laws.summary_laws.Goals as goal

pub returns-clause-refusal : goal.returns-clause-refusal
returns-clause-refusal c = λ M command. refusal_of_as (λ edition. edition.title) (holdings M) command

pub returns-clause-effect : goal.returns-clause-effect
returns-clause-effect c = effect_with

pub returns-clause-gone : goal.returns-clause-gone
returns-clause-gone c = λ M id command. editions_gone_as (λ edition. edition.title) command (holdings M)

pub returns-clause-reply : goal.returns-clause-reply
returns-clause-reply c = λ M command. reply_to_as (λ edition. edition.title) command (holdings M)
