use Rattle.dict_proto.specs.Replies.{definition_count_octets, match_count_octets, database_count_octets, strategy_count_octets, list_end_octets, info_heading_octets, info_text_octets, status_octets, done_octets}
use Rattle.dict_proto.specs.Replies.{closing_octets, unavailable_octets, not_recognized_octets, invalid_database_octets, invalid_strategy_octets, no_match_octets, no_databases_octets, illegal_parameters_octets}
use Rattle.dict_proto.specs.Replies.{not_implemented_octets}
use Rattle.dict_proto.proofs.reply.write_reply.Goals as goal

pub returns-in-DefinitionCount : goal.returns-in-DefinitionCount
unfolding definition_count_octets
returns-in-DefinitionCount g c = rw c.in-DefinitionCount.is c.put_count.ensures

pub returns-in-MatchCount : goal.returns-in-MatchCount
unfolding match_count_octets
returns-in-MatchCount g c = rw c.in-MatchCount.is c.put_count-in-MatchCount.ensures

pub returns-in-DatabaseCount : goal.returns-in-DatabaseCount
unfolding database_count_octets
returns-in-DatabaseCount g c = rw c.in-DatabaseCount.is c.put_count-in-DatabaseCount.ensures

pub returns-in-StrategyCount : goal.returns-in-StrategyCount
unfolding strategy_count_octets
returns-in-StrategyCount g c = rw c.in-StrategyCount.is c.put_count-in-StrategyCount.ensures

pub returns-in-ListEnd : goal.returns-in-ListEnd
unfolding list_end_octets
returns-in-ListEnd g c = rw c.in-ListEnd.is c.put.ensures.put

pub returns-in-InfoHeading : goal.returns-in-InfoHeading
unfolding info_heading_octets
returns-in-InfoHeading g c = rw c.in-InfoHeading.is c.put-in-InfoHeading.ensures.put

pub returns-in-InfoText : goal.returns-in-InfoText
unfolding info_text_octets
returns-in-InfoText g c = rw c.in-InfoText.is c.put_text.ensures

pub returns-in-Status : goal.returns-in-Status
unfolding status_octets
returns-in-Status g c = rw c.in-Status.is c.put_count-in-Status.ensures

pub returns-in-Done : goal.returns-in-Done
unfolding done_octets
returns-in-Done g c = rw c.in-Done.is c.put-in-Done.ensures.put

pub returns-in-Closing : goal.returns-in-Closing
unfolding closing_octets
returns-in-Closing g c = rw c.in-Closing.is c.put-in-Closing.ensures.put

pub returns-in-Unavailable : goal.returns-in-Unavailable
unfolding unavailable_octets
returns-in-Unavailable g c = rw c.in-Unavailable.is c.put-in-Unavailable.ensures.put

pub returns-in-NotRecognized : goal.returns-in-NotRecognized
unfolding not_recognized_octets
returns-in-NotRecognized g c = rw c.in-NotRecognized.is c.put-in-NotRecognized.ensures.put

pub returns-in-IllegalParameters : goal.returns-in-IllegalParameters
unfolding illegal_parameters_octets
returns-in-IllegalParameters g c = rw c.in-IllegalParameters.is c.put-in-IllegalParameters.ensures.put

pub returns-in-NotImplemented : goal.returns-in-NotImplemented
unfolding not_implemented_octets
returns-in-NotImplemented g c = rw c.in-NotImplemented.is c.put-in-NotImplemented.ensures.put

pub returns-in-InvalidDatabase : goal.returns-in-InvalidDatabase
unfolding invalid_database_octets
returns-in-InvalidDatabase g c = rw c.in-InvalidDatabase.is c.put-in-InvalidDatabase.ensures.put

pub returns-in-InvalidStrategy : goal.returns-in-InvalidStrategy
unfolding invalid_strategy_octets
returns-in-InvalidStrategy g c = rw c.in-InvalidStrategy.is c.put-in-InvalidStrategy.ensures.put

pub returns-in-NoMatch : goal.returns-in-NoMatch
unfolding no_match_octets
returns-in-NoMatch g c = rw c.in-NoMatch.is c.put-in-NoMatch.ensures.put

pub returns-in-NoDatabases : goal.returns-in-NoDatabases
unfolding no_databases_octets
returns-in-NoDatabases g c = rw c.in-NoDatabases.is c.put-in-NoDatabases.ensures.put
