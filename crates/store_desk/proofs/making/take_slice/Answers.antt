use Rattle.std.proofs.Common.{length, arith, ◌∙◌}
use Rattle.std.proofs.lemmas.List.{length-map}
use Rattle.dict_index.specs.Edition.{entry_in}
use Rattle.store_desk.proofs.MakingLemmas.{few_taken, front_of_any, whole_of_any}
use Rattle.store_desk.proofs.making.take_slice.Goals as goal

pub making-requires : goal.making-requires
making-requires c =
    let reading = c.in-Some.reading in
    omega (arith, few_taken reading.lines (length c.args.builder) c.args.builder (c.requires.index reading c.in-Some.ensures), length-map reading.lines (entry_in reading.text), c.is_well_formed.ensures.few)

pub take_entries-requires-clause-front : goal.take_entries-requires-clause-front
take_entries-requires-clause-front c = c.requires.index c.in-Some.reading c.in-Some.ensures

pub returns-then-len-clause-index : goal.returns-then-len-clause-index
returns-then-len-clause-index c = λ other said.
    c.making.ensures.same
    ∙ whole_of_any c.args.install.now.came.items c.args.install.now.filing.text.items c.in-Some.reading c.in-Some.ensures c.one_meaning.ensures.one_reading c.args.builder (omega arith)
    (c.requires.index c.in-Some.reading c.in-Some.ensures) other said

pub returns-in-Ok-clause-index : goal.returns-in-Ok-clause-index
returns-in-Ok-clause-index c =
    front_of_any c.args.install.now.came.items c.args.install.now.filing.text.items c.in-Some.reading c.in-Some.ensures c.one_meaning.ensures.one_reading c.take_entries.new.builder c.in-Ok.ensures.front
