use Rattle.std.proofs.Common.{subst, sym, map}
use Rattle.std.specs.List.{AllByRecursion}
use Rattle.dict_index.specs.Meaning.{IsReadEdition}
use Rattle.dict_index.specs.Views.{octets_of}
use Rattle.dict_reading.specs.Places.{line_in, LiesBelow}
use Rattle.dict_reading.proofs.EndLemmas.{end_fault, end_reading}
use Rattle.std.proofs.Common.{length}
use Rattle.dict_reading.proofs.reader.EditionReader.end.Goals as goal

pub returns-in-Err-clause-refused : goal.returns-in-Err-clause-refused
returns-in-Err-clause-refused c =
    end_fault c.args.index.now c.args.text.now c.args.self.now c.requires.read c.requires.all (octets_of c.text_at-short.result) c.text_at-short.ensures c.in-Err.fault c.in-Err.ensures.refused

pub invariant_of-result : goal.invariant_of-result
invariant_of-result c = (
  subst (AllByRecursion (LiesBelow (length c.args.index.now))) (sym c.as_slice.ensures.value) c.requires.read.gathers.below,
  subst (λ places. IsReadEdition c.args.index.now c.args.text.now (record { title = c.in-Ok.told.0.now; info = c.in-Ok.told.1.now; text = c.args.text.now; lines = map (line_in c.args.index.now) places })) (sym c.as_slice.ensures.value)
      (end_reading c.args.index.now c.args.text.now c.args.self.now c.requires.read c.requires.all (octets_of c.text_at-short.result) (octets_of c.text_at-info.result) c.in-Ok.told.0.now c.in-Ok.told.1.now
      c.text_at-short.ensures c.text_at-info.ensures c.in-Ok.ensures.title c.in-Ok.ensures.good c.in-Ok.ensures.info),
)

pub returns-clause-edition : goal.returns-clause-edition
returns-clause-edition c =
    subst (λ places. IsReadEdition c.args.index.now c.args.text.now (record { title = c.in-Ok.told.0.now; info = c.in-Ok.told.1.now; text = c.args.text.now; lines = map (line_in c.args.index.now) places })) (sym c.as_slice.ensures.value)
    (end_reading c.args.index.now c.args.text.now c.args.self.now c.requires.read c.requires.all (octets_of c.text_at-short.result) (octets_of c.text_at-info.result) c.in-Ok.told.0.now c.in-Ok.told.1.now
    c.text_at-short.ensures c.text_at-info.ensures c.in-Ok.ensures.title c.in-Ok.ensures.good c.in-Ok.ensures.info)
