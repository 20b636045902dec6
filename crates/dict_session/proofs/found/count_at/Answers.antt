use Rattle.std.proofs.Common.{ap, subst, sym}
use Rattle.std.specs.Prelude.{Option, slice_get}
use Rattle.dict_catalogue.specs.Steps.{summary_of}
use Rattle.dict_catalogue.specs.WellFormed.{total}
use Rattle.dict_session.specs.Places.{IsHeading}
use Rattle.dict_session.specs.Rows.{found_count}
use Rattle.dict_session.specs.declared.asked.Heading.{Heading}
use Rattle.dict_session.proofs.FoundLemmas.{count_here, nothing_here}
use Rattle.dict_session.proofs.found.count_at.Goals as goal

pub returns-in-Ok-Some-clause-value : goal.returns-in-Ok-Some-clause-value
returns-in-Ok-Some-clause-value g c = λ trusted M shown.
    count_here M c.args.place c.args.query.now c.in-Ok-Some.heading c.count.result
    (subst (λ (h : Option Heading). IsHeading h (slice_get (summary_of M).items c.args.place)) c.in-Ok-Some.field-0-is (c.in-Ok-Some.ensures.value M shown)) (λ edition has. c.count.ensures.value trusted M edition shown has)

pub returns-in-Ok-None-clause-value : goal.returns-in-Ok-None-clause-value
returns-in-Ok-None-clause-value g c = λ trusted M shown. sym (ap (total (found_count c.args.query.now)) (nothing_here M c.args.place
    (subst (λ (h : Option Heading). IsHeading h (slice_get (summary_of M).items c.args.place)) c.in-Ok-None.field-0-is (c.in-Ok-None.ensures.value M shown))))
