use Rattle.std.proofs.Common.{sym, ap, ◌∙◌, subst, unwrap_or}
use Rattle.dict_index.specs.Cuts.{AreColumns}
use Rattle.dict_index.specs.Views.{octets_of}
use Rattle.dict_reading.proofs.PlaceLemmas.{fourth_at}
use Rattle.dict_reading.proofs.places.shown_place.Goals as goal

pub returns-clause-says : goal.returns-clause-says
returns-clause-says c index behind e =
    let columns = subst (λ f. AreColumns c.args.line.now c.args.said.headword.now c.requires.said.offset_text c.requires.said.size_text (octets_of f)) c.in-Some.is c.requires.said.are in
    fourth_at index c.args.line.now behind c.args.said.headword.now c.requires.said.offset_text c.requires.said.size_text c.in-Some.shown.now c.args.start columns e
    ∙ sym (ap (λ f. unwrap_or (octets_of f) c.args.said.headword.now) c.in-Some.is)
