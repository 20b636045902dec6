use Rattle.app_words.specs.Line.{command_line}
use Rattle.app_words.proofs.line.with_server.Goals as goal

pub returns : goal.returns
unfolding command_line
returns c = λ start.
    let dict = c.with_arg-server.ensures _ _ c.leaf-server.ensures c.setting.ensures.rule c.setting.ensures.local in
    let http = c.with_arg-server-2.ensures _ _ dict c.setting-2.ensures.rule c.setting-2.ensures.local in
    let rounds = c.with_arg-server-3.ensures _ _ http c.count.ensures.rule c.count.ensures.local in
    c.with_command.ensures _ _ start rounds
