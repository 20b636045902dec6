use Rattle.std.proofs.Common.{Some, sym, ap, ◌∙◌}
use Rattle.store_holdings.specs.Indexes.{entries_under}
use Rattle.store_holdings.proofs.UnderLemmas.{found_under, out_is}
use Rattle.store_holdings.proofs.indexes.Indexes.take.Goals as goal

pub returns-in-Ok-clause-found : goal.returns-in-Ok-clause-found
returns-in-Ok-clause-found c = ap Some c.in-Ok.ensures.index ∙ sym c.in-Ok-Some.field-0-is ∙ c.in-Ok-Some.ensures.old ∙ found_under c.args.number c.self.inside.by_number.entries ∙ ap (entries_under c.args.number) c.self.view_is

pub returns-in-Ok-clause-absent : goal.returns-in-Ok-clause-absent
returns-in-Ok-clause-absent c none =
    absurd (let no = c.in-Ok-Some.ensures.old ∙ found_under c.args.number c.self.inside.by_number.entries ∙ ap (entries_under c.args.number) c.self.view_is ∙ none in cc)

pub returns-in-Ok-clause-out : goal.returns-in-Ok-clause-out
returns-in-Ok-clause-out c index is =
    out_is c.args.number c.self.inside.by_number.entries c.insert.new.self.entries c.args.self.now c.empty.result index
    c.in-Ok-Some.ensures.entries (c.in-Ok-Some.ensures.updates.0 c.args.number) c.empty.ensures c.in-Ok-Some.ensures.was_ordered
    (sym c.in-Ok-Some.ensures.old ∙ c.in-Ok-Some.field-0-is ∙ ap Some (sym c.in-Ok.ensures.index) ∙ is) c.self.view_is

pub returns-in-Err-clause-absent : goal.returns-in-Err-clause-absent
returns-in-Err-clause-absent c none =
    absurd (let no = c.in-Ok-Some.ensures.old ∙ found_under c.args.number c.self.inside.by_number.entries ∙ ap (entries_under c.args.number) c.self.view_is ∙ none in cc)

pub returns-in-Err-clause-refused : goal.returns-in-Err-clause-refused
returns-in-Err-clause-refused c =
    c.put_slot.ensures c.args.self.now
    (out_is c.args.number c.self.inside.by_number.entries c.insert.new.self.entries c.args.self.now c.empty.result c.take.new.self
    c.in-Ok-Some.ensures.entries (c.in-Ok-Some.ensures.updates.0 c.args.number) c.empty.ensures c.in-Ok-Some.ensures.was_ordered
    (sym c.in-Ok-Some.ensures.old ∙ c.in-Ok-Some.field-0-is ∙ ap Some (sym c.in-Err.ensures.refused)) c.self.view_is)
