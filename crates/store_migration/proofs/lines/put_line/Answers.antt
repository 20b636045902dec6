use Rattle.std.proofs.Common.{◌∙◌, ◌++◌, ◌∷◌, [], ap, rules}
use mir.Syntax.{w64}
use mir.Val.{SFits}
use Rattle.dict_index.specs.Line.{Line}
use Rattle.store_rows.specs.Stored.{stored_line}
use Rattle.store_migration.specs.Steps.{HasLine}
use Rattle.store_migration.specs.Written.{said_of}
use Rattle.store_migration.proofs.KitLemmas.{signed_back}
use Rattle.store_migration.proofs.LineLemmas.{cast_said, cast_storable, short_cast, some_entry}
use Rattle.store_migration.proofs.lines.put_line.Goals as goal

pub returns-then-not-has_line-clause-failed : goal.returns-then-not-has_line-clause-failed
returns-then-not-has_line-clause-failed c = λ e lines. c.if-not-has_line.ensures e lines.0

pub overflow_cast-said : goal.overflow_cast-said
overflow_cast-said c =
    let z = c.args.said.now.start in
    let fits : SFits w64 z = search rules in
    rw (signed_back z fits) (short_cast z (c.if-not-has_line.ensures some_entry).start)

pub overflow_cast-said-2 : goal.overflow_cast-said-2
overflow_cast-said-2 c =
    let z = c.args.said.now.length in
    let fits : SFits w64 z = search rules in
    rw (signed_back z fits) (short_cast z (c.if-not-has_line.ensures some_entry).length)

pub write_line-requires : goal.write_line-requires
write_line-requires c =
    let said = c.args.said.now in
    let first : SFits w64 said.start = search rules in
    let second : SFits w64 said.length = search rules in
    let line : HasLine (said_of some_entry said) = c.if-not-has_line.ensures some_entry in
    cast_storable said.headword.now said.shown.now said.start said.length _ _ (signed_back said.start first) (signed_back said.length second) line.start line.length line.headword line.shown

pub returns-clause-put : goal.returns-clause-put
returns-clause-put c =
    let said = c.args.said.now in
    let first : SFits w64 said.start = search rules in
    let second : SFits w64 said.length = search rules in
    let line : HasLine (said_of some_entry said) = c.if-not-has_line.ensures some_entry in
    c.in_ok-write_line.ensures.put
    ∙ ap (λ (l : Line). c.args.to.now.items ++ (stored_line l ++ 10 ∷ []))
    (cast_said said.headword.now said.shown.now said.start said.length _ _ (signed_back said.start first) (signed_back said.length second) line.start line.length)
