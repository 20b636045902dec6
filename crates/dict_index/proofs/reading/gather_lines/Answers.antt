use Rattle.std.proofs.Common.{[], take, sym, ◌∙◌, subst, arith}
use Rattle.std.proofs.lemmas.List.{take_all}
use Rattle.std.specs.Str.{IsUtf8}
use Rattle.dict_text.specs.Lines.{text_lines}
use Rattle.dict_index.specs.Gathered.{HasGathered}
use Rattle.dict_text.proofs.AllLemmas.{all_at}
use Rattle.dict_index.proofs.TextLemmas.{lines_utf8}
use Rattle.dict_index.proofs.PassLemmas.{next_of, pass_more, none_left, lines_fault}
use Rattle.dict_index.proofs.reading.gather_lines.Goals as goal

pub read_and_add-requires : goal.read_and_add-requires
read_and_add-requires c =
    let next = next_of (text_lines c.args.index.now) c.loop-line.number c.in-Some.line.now c.next.new.self (sym c.loop-line.invariant.rest ∙ c.in-Some.ensures.steps) in
    subst IsUtf8 next.at (all_at IsUtf8 (text_lines c.args.index.now) c.loop-line.number [] (lines_utf8 c.args.index.now c.requires.text) next.there)

pub loop-line-preserved : goal.loop-line-preserved
loop-line-preserved c =
    let next = next_of (text_lines c.args.index.now) c.loop-line.number c.in-Some.line.now c.next.new.self (sym c.loop-line.invariant.rest ∙ c.in-Some.ensures.steps) in
    let lines = take c.loop-line.number (text_lines c.args.index.now) in
    record {
      rest = next.left;
      gathers = subst (λ ls. HasGathered c.args.text.now ls c.read_and_add.new.gathered) (sym next.front) (c.in-Ok.ensures.added lines c.loop-line.invariant.gathers);
      passes = pass_more c.args.index.now c.args.text.now c.loop-line.number c.in-Some.line.now c.loop-line.invariant.passes next.at (c.in-Ok.ensures.passes lines c.loop-line.invariant.gathers);
    }

pub returns-in-Err-clause-refused : goal.returns-in-Err-clause-refused
returns-in-Err-clause-refused c =
    let next = next_of (text_lines c.args.index.now) c.loop-line.number c.in-Some.line.now c.next.new.self (sym c.loop-line.invariant.rest ∙ c.in-Some.ensures.steps) in
    lines_fault c.in-Err.fault c.at_line.result c.args.index.now c.args.text.now c.loop-line.number c.in-Some.line.now c.at_line.ensures next.there next.at c.loop-line.invariant.passes
    (c.in-Err.ensures.refused (take c.loop-line.number (text_lines c.args.index.now)) c.loop-line.invariant.gathers)

pub returns-clause-gathered : goal.returns-clause-gathered
returns-clause-gathered c =
    let all = none_left (text_lines c.args.index.now) c.loop-line.lines c.loop-line.number c.loop-line.invariant.rest c.in_default.ensures.steps.0 in
    subst (λ ls. HasGathered c.args.text.now ls c.loop-line.gathered) (take_all c.loop-line.number (text_lines c.args.index.now) all) c.loop-line.invariant.gathers

pub returns-clause-passes : goal.returns-clause-passes
returns-clause-passes c k lt =
    let all = none_left (text_lines c.args.index.now) c.loop-line.lines c.loop-line.number c.loop-line.invariant.rest c.in_default.ensures.steps.0 in
    c.loop-line.invariant.passes k (omega arith)
