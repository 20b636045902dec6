use Rattle.std.proofs.Common.{◌≡◌, ℕ, List, take, drop, ◌-◌, sym, ap, ◌∙◌, subst}
use Rattle.dict_index.specs.Edition.{Edition}
use Rattle.dict_catalogue.specs.Items.{Stored}
use Rattle.dict_index.specs.Found.{is_found, Row, found_rows}
use Rattle.dict_desk.specs.PlainEntries.{rows_found, LieWithin}
use Rattle.dict_desk.specs.declared.entries.OwnedEntry.{OwnedEntry}
use Rattle.dict_desk.proofs.PlainLemmas.{part_is_found}
use Rattle.dict_desk.proofs.edition.PlainEdition.find_entries.Goals as goal

pub returns-clause-all : goal.returns-clause-all
returns-clause-all g c = λ e.
    let inside = c.self.inside in
    let within = subst (λ (stored : Stored Edition). LieWithin (is_found c.args.strategy c.args.query.now) stored.content.entries c.args.span.first c.args.span.end) (sym c.self.view_is) c.requires in
    let rows : rows_found c.deref.result.now c.args.strategy c.args.query.now (take (c.args.span.end - c.args.span.first) (drop c.args.span.first c.deref-2.result.now)) ≡ found_rows c.args.strategy c.args.query.now c.args.self.now.content =
    ap (λ (text : List ℕ). rows_found text c.args.strategy c.args.query.now (take (c.args.span.end - c.args.span.first) (drop c.args.span.first c.deref-2.result.now))) c.deref.ensures.value
    ∙ (ap (λ (entries : List OwnedEntry). rows_found inside.text.items c.args.strategy c.args.query.now (take (c.args.span.end - c.args.span.first) (drop c.args.span.first entries))) c.deref-2.ensures.value
    ∙ (part_is_found inside.title.bytes.items inside.info.bytes.items inside.text.items c.args.strategy c.args.query.now inside.entries.items c.args.span.first c.args.span.end within
    ∙ ap (λ (stored : Stored Edition). found_rows c.args.strategy c.args.query.now stored.content) c.self.view_is)) in
    subst (λ (handed : List Row). g.T.RowSink.takes c.args.sink.now handed c.hand_found.new.sink) rows (c.hand_found.ensures.all e)

pub returns-clause-stopped : goal.returns-clause-stopped
returns-clause-stopped g c = λ e.
    let inside = c.self.inside in
    let within = subst (λ (stored : Stored Edition). LieWithin (is_found c.args.strategy c.args.query.now) stored.content.entries c.args.span.first c.args.span.end) (sym c.self.view_is) c.requires in
    let rows : rows_found c.deref.result.now c.args.strategy c.args.query.now (take (c.args.span.end - c.args.span.first) (drop c.args.span.first c.deref-2.result.now)) ≡ found_rows c.args.strategy c.args.query.now c.args.self.now.content =
    ap (λ (text : List ℕ). rows_found text c.args.strategy c.args.query.now (take (c.args.span.end - c.args.span.first) (drop c.args.span.first c.deref-2.result.now))) c.deref.ensures.value
    ∙ (ap (λ (entries : List OwnedEntry). rows_found inside.text.items c.args.strategy c.args.query.now (take (c.args.span.end - c.args.span.first) (drop c.args.span.first entries))) c.deref-2.ensures.value
    ∙ (part_is_found inside.title.bytes.items inside.info.bytes.items inside.text.items c.args.strategy c.args.query.now inside.entries.items c.args.span.first c.args.span.end within
    ∙ ap (λ (stored : Stored Edition). found_rows c.args.strategy c.args.query.now stored.content) c.self.view_is)) in
    subst (λ (handed : List Row). g.T.RowSink.stops c.args.sink.now handed c.hand_found.new.sink) rows (c.hand_found.ensures.stopped e)
