use Rattle.std.proofs.Common.{◌∙◌, sym, ap}
use Rattle.std.specs.Prelude.{Some, slice_get}
use Rattle.dict_index.specs.Edition.{ReadEdition}
use Rattle.dict_index.proofs.WellFormedLemmas.{well_formed}
use Rattle.dict_reading.proofs.ReadingLemmas.{there, entry_at, line_of_place}
use Rattle.dict_reading.proofs.reading.Reading.line.Goals as goal

pub line_at-requires-clause-headword : goal.line_at-requires-clause-headword
line_at-requires-clause-headword c =
    let formed = well_formed c.self.inside.index.now c.self.inside.text.now _ c.self.invariant.1 in
    let at = there c.self.inside.places.now c.args.place c.in-Some.place.now c.in-Some.ensures.lookup.0 c.in-Some.ensures.lookup.1 in
    (entry_at c.self.inside.index.now c.self.inside.text.now c.self.inside.places.now c.args.place c.in-Some.place.now at formed.entries).headword.0

pub line_at-requires-clause-shown : goal.line_at-requires-clause-shown
line_at-requires-clause-shown c =
    let formed = well_formed c.self.inside.index.now c.self.inside.text.now _ c.self.invariant.1 in
    let at = there c.self.inside.places.now c.args.place c.in-Some.place.now c.in-Some.ensures.lookup.0 c.in-Some.ensures.lookup.1 in
    (entry_at c.self.inside.index.now c.self.inside.text.now c.self.inside.places.now c.args.place c.in-Some.place.now at formed.entries).shown.0

pub returns : goal.returns
returns c =
    let here = line_of_place c.self.inside.index.now c.self.inside.places.now c.args.place c.in-Some.place.now (there c.self.inside.places.now c.args.place c.in-Some.place.now c.in-Some.ensures.lookup.0 c.in-Some.ensures.lookup.1) in
    ap Some c.line_at.ensures ∙ (sym here ∙ ap (λ (r : ReadEdition). slice_get r.lines c.args.place) c.self.view_is)
