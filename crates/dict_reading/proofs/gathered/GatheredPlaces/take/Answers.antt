use Rattle.std.proofs.Common.{subst, sym, ap, ◌∙◌}
use Rattle.std.specs.Str.{IsUtf8}
use Rattle.dict_index.proofs.LineLemmas.{one_said}
use Rattle.dict_reading.specs.Columns.{line_said}
use Rattle.dict_reading.proofs.BehindLemmas.{passes_behind, fails_behind, twice_behind}
use Rattle.dict_reading.proofs.TakeLemmas.{said_is, placed_is, said_utf8, below_more}
use Rattle.dict_reading.proofs.gathered.GatheredPlaces.take.Goals as goal

pub returns-in-Err-clause-refused : goal.returns-in-Err-clause-refused
returns-in-Err-clause-refused c index behind lines e g =
    fails_behind c.args.text.now lines c.args.line.now c.in-Err.fault (c.in-Err.ensures.refused c.args.line.now c.requires.whole c.requires.none)

pub as_text-headword-requires : goal.as_text-headword-requires
as_text-headword-requires c = said_utf8 c.args.line.now c.in-Some.said (subst IsUtf8 c.requires.whole c.requires.utf8) c.in-Some.ensures.said

pub returns-in-Ok-clause-added : goal.returns-in-Ok-clause-added
returns-in-Ok-clause-added c index behind lines e le g =
    let says = c.place_of-place.ensures.says index behind e in
    c.in-Ok.ensures.added index c.args.text.now lines c.args.line.now (placed_is index c.args.line.now c.in-Some.said c.place_of-place.result c.in-Some.ensures.said says) (ap (λ said. said.headword) says ∙ sym c.as_text-headword.ensures)
    (below_more _ _ c.place_of-place.result le c.place_of-place.ensures.below) (c.in_default.ensures.passes c.args.line.now c.requires.whole c.requires.none) g

pub returns-in-Ok-clause-passes : goal.returns-in-Ok-clause-passes
returns-in-Ok-clause-passes c index behind lines e g =
    let says = c.place_of-place.ensures.says index behind e in
    let alone = c.in_default.ensures.passes c.args.line.now c.requires.whole c.requires.none in
    passes_behind c.args.text.now lines c.args.line.now alone (c.in-Ok.ensures.once index c.args.text.now lines c.args.line.now
    (placed_is index c.args.line.now c.in-Some.said c.place_of-place.result c.in-Some.ensures.said says) (ap (λ said. said.headword) says ∙ sym c.as_text-headword.ensures) alone g)

pub returns-in-Ok-clause-size : goal.returns-in-Ok-clause-size
returns-in-Ok-clause-size c = (λ said is. ap (λ s. s.size) (one_said c.args.line.now said (line_said c.in-Some.said) is (said_is c.args.line.now c.in-Some.said c.in-Some.ensures.said)), c.in-Some.ensures.small.1)

pub returns-in-Err-add-clause-refused : goal.returns-in-Err-add-clause-refused
returns-in-Err-add-clause-refused c index behind lines e g =
    let says = c.place_of-place.ensures.says index behind e in
    let alone = c.in_default.ensures.passes c.args.line.now c.requires.whole c.requires.none in
    twice_behind c.args.text.now lines c.args.line.now c.in-Err-add.fault alone (c.in-Err-add.ensures.refused index c.args.text.now lines c.args.line.now
    (placed_is index c.args.line.now c.in-Some.said c.place_of-place.result c.in-Some.ensures.said says) (ap (λ said. said.headword) says ∙ sym c.as_text-headword.ensures) alone g)
