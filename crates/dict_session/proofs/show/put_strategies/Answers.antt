use Rattle.std.proofs.Common.{◌++◌, length}
use Rattle.std.specs.List.{flat_map}
use Rattle.dict_proto.proofs.PutLemmas.{puts_err, puts_after, front_after, front_longer}
use Rattle.dict_match.specs.StrategyText.{strategies}
use Rattle.dict_proto.specs.Replies.{strategy_count_octets, list_end_octets, done_octets}
use Rattle.dict_session.specs.Shows.{strategy_line, strategies_answer}
use Rattle.dict_session.proofs.show.put_strategies.Goals as goal

pub returns-in_err-write_reply : goal.returns-in_err-write_reply
unfolding strategies_answer
returns-in_err-write_reply g c = puts_err _ _ _ _ c.from_residual.ensures.0 (front_longer _ _ (strategy_count_octets (length strategies)) (flat_map strategy_line strategies ++ (list_end_octets ++ done_octets)) c.in_err-write_reply.ensures)

pub returns-in_err-put_strategy_lines : goal.returns-in_err-put_strategy_lines
unfolding strategies_answer
returns-in_err-put_strategy_lines g c =
    puts_err _ _ _ _ c.from_residual-in_err-put_strategy_lines.ensures.0 (front_after _ _ _ (strategy_count_octets (length strategies)) (flat_map strategy_line strategies ++ (list_end_octets ++ done_octets)) c.in_ok-write_reply.ensures
    (front_longer _ _ (flat_map strategy_line strategies) (list_end_octets ++ done_octets) c.in_err-put_strategy_lines.ensures))

pub returns : goal.returns
unfolding strategies_answer
returns g c =
    puts_after c.put_list_end.result _ _ _ (strategy_count_octets (length strategies)) (flat_map strategy_line strategies ++ (list_end_octets ++ done_octets)) c.in_ok-write_reply.ensures
    (puts_after c.put_list_end.result _ _ _ (flat_map strategy_line strategies) (list_end_octets ++ done_octets) c.in_ok-put_strategy_lines.ensures
    c.put_list_end.ensures)
