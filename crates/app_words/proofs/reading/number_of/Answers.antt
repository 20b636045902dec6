use Rattle.std.proofs.Common.{◌∙◌, ap}
use Rattle.std.specs.Prelude.{option_and_then}
use Rattle.std.specs.Str.Parse.{ParsesUnsigned, ExplainsUnsignedError, HasUnsignedDigitsIfOk}
use Rattle.clap.specs.Matches.{found_of, one_text}
use Rattle.clap.proofs.WalkLemmas.{one_text-rows}
use Rattle.app_words.specs.Asked.{number_in}
use Rattle.app_words.proofs.ReadingLemmas.{number_read}
use Rattle.app_words.proofs.reading.number_of.Goals as goal

pub returns : goal.returns
returns c =
    number_read (λ text read. ParsesUnsigned 32 10 text read × ExplainsUnsignedError 10 text read × HasUnsignedDigitsIfOk text read) (λ _ _ gives. gives.0)
    (one_text (found_of c.args.found.now) c.args.id.now) c.get_one.result c.get_one.ensures.none c.get_one.ensures.value
    ∙ ap (option_and_then number_in) (one_text-rows (found_of c.args.found.now) c.args.id.now)
