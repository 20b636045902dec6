use Rattle.std.proofs.Common.{◌≡◌, List, sym, ap, ◌∙◌, subst}
use Rattle.dict_index.specs.Edition.{Edition}
use Rattle.dict_catalogue.specs.Items.{Stored}
use Rattle.dict_index.specs.Found.{is_found, Row, headword_rows}
use Rattle.dict_desk.specs.PlainEntries.{is_hit_of, rows_listed, LieWithin}
use Rattle.dict_desk.specs.declared.entries.OwnedEntry.{OwnedEntry}
use Rattle.dict_desk.proofs.PlainLemmas.{rows_are_listed, hits_within}
use Rattle.dict_desk.proofs.edition.PlainEdition.find_headwords.Goals as goal

pub hand_headwords-requires-clause-within : goal.hand_headwords-requires-clause-within
hand_headwords-requires-clause-within g c =
    let inside = c.self.inside in
    let within = subst (λ (stored : Stored Edition). LieWithin (is_found c.args.strategy c.args.query.now) stored.content.entries c.args.span.first c.args.span.end) (sym c.self.view_is) c.requires in
    subst (λ (entries : List OwnedEntry). LieWithin (is_hit_of c.args.strategy c.args.query.now) entries c.args.span.first c.args.span.end) (sym c.deref.ensures.value)
    (hits_within inside.title.bytes.items inside.info.bytes.items inside.text.items c.args.strategy c.args.query.now inside.entries.items c.args.span.first c.args.span.end within)

pub returns-clause-all : goal.returns-clause-all
returns-clause-all g c = λ e.
    let inside = c.self.inside in
    let rows : rows_listed c.args.strategy c.args.query.now c.deref.result.now ≡ headword_rows c.args.strategy c.args.query.now c.args.self.now.content =
    ap (λ (entries : List OwnedEntry). rows_listed c.args.strategy c.args.query.now entries) c.deref.ensures.value
    ∙ (rows_are_listed inside.title.bytes.items inside.info.bytes.items inside.text.items c.args.strategy c.args.query.now inside.entries.items
    ∙ ap (λ (stored : Stored Edition). headword_rows c.args.strategy c.args.query.now stored.content) c.self.view_is) in
    subst (λ (handed : List Row). g.T.RowSink.takes c.args.sink.now handed c.hand_headwords.new.sink) rows (c.hand_headwords.ensures.all e)

pub returns-clause-stopped : goal.returns-clause-stopped
returns-clause-stopped g c = λ e.
    let inside = c.self.inside in
    let rows : rows_listed c.args.strategy c.args.query.now c.deref.result.now ≡ headword_rows c.args.strategy c.args.query.now c.args.self.now.content =
    ap (λ (entries : List OwnedEntry). rows_listed c.args.strategy c.args.query.now entries) c.deref.ensures.value
    ∙ (rows_are_listed inside.title.bytes.items inside.info.bytes.items inside.text.items c.args.strategy c.args.query.now inside.entries.items
    ∙ ap (λ (stored : Stored Edition). headword_rows c.args.strategy c.args.query.now stored.content) c.self.view_is) in
    subst (λ (handed : List Row). g.T.RowSink.stops c.args.sink.now handed c.hand_headwords.new.sink) rows (c.hand_headwords.ensures.stopped e)
