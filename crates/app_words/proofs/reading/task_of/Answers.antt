use Rattle.std.specs.Box.{box_value}
use Rattle.clap.specs.Matches.{found_of}
use Rattle.clap.specs.Walk.{rows_of}
use Rattle.clap.specs.declared.parser.matches.ArgMatches.TheViews.{out-ArgMatches, out-SubCommand}
use Rattle.app_words.proofs.ReadingLemmas.{asked_of_found}
use Rattle.app_words.proofs.reading.task_of.Goals as goal

pub returns : goal.returns
returns c =
    asked_of_found (out-ArgMatches c.args.matches.now).subcommand (λ used. (out-SubCommand (box_value used)).name.now)
    (λ used. rows_of (found_of (out-SubCommand (box_value used)).matches)) _ _ _ c.in-Some.ensures.name c.in-Some.ensures.rows c.task_by-task.ensures
