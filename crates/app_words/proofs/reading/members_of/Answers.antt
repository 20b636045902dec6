use Rattle.std.proofs.Common.{◌∙◌, ap, Some, codes}
use Rattle.std.specs.List.{each_same}
use Rattle.clap.specs.Matches.{found_of}
use Rattle.clap.proofs.WalkLemmas.{raw_values-rows}
use Rattle.app_words.specs.Asked.{words_shown}
use Rattle.app_words.proofs.reading.members_of.Goals as goal

pub returns-in_ok-to_vec-in-Some : goal.returns-in_ok-to_vec-in-Some
returns-in_ok-to_vec-in-Some c =
    ap (λ items. Some (words_shown items)) (each_same _ _ c.in_ok-to_vec-in-Some.ensures.ok) ∙ (c.in-Some.ensures ∙ raw_values-rows (found_of c.args.found.now) (codes "MEMBER"))

pub returns-in-None : goal.returns-in-None
returns-in-None c = c.in-None.ensures ∙ raw_values-rows (found_of c.args.found.now) (codes "MEMBER")
