use Rattle.std.proofs.Common.{ap, ◌∙◌, subst, List, length}
use Rattle.std.specs.Prelude.{filter}
use Rattle.dict_index.specs.Edition.{Edition}
use Rattle.dict_catalogue.specs.Items.{Stored}
use Rattle.dict_index.specs.Found.{is_found}
use Rattle.dict_desk.specs.Shown.{count_of}
use Rattle.dict_desk.specs.PlainEntries.{entry_cut_from, is_hit_of, texts_listed, LieWithin}
use Rattle.dict_desk.specs.declared.entries.OwnedEntry.{OwnedEntry}
use Rattle.dict_desk.specs.declared.lookup.What.TheVariants.{Entries, Headwords}
use Rattle.dict_desk.proofs.PlainLemmas.{count_is_found, count_is_listed}
use Rattle.dict_desk.proofs.SpanLemmas.{span_mapped}
use Rattle.dict_desk.proofs.edition.PlainEdition.hits.Goals as goal

pub returns-clause-entries : goal.returns-clause-entries
returns-clause-entries c =
    let inside = c.self.inside in
    c.hits_among.ensures.entries ∙ (ap (λ (entries : List OwnedEntry). length (filter (is_hit_of c.args.strategy c.args.query.now) entries)) c.deref.ensures.value
    ∙ (count_is_found inside.title.bytes.items inside.info.bytes.items inside.text.items c.args.strategy c.args.query.now inside.entries.items
    ∙ ap (λ (stored : Stored Edition). count_of Entries c.args.strategy c.args.query.now stored.content) c.self.view_is))

pub returns-clause-headwords : goal.returns-clause-headwords
returns-clause-headwords c =
    let inside = c.self.inside in
    c.hits_among.ensures.headwords ∙ (ap (λ (entries : List OwnedEntry). length (texts_listed c.args.strategy c.args.query.now entries)) c.deref.ensures.value
    ∙ (count_is_listed inside.title.bytes.items inside.info.bytes.items inside.text.items c.args.strategy c.args.query.now inside.entries.items
    ∙ ap (λ (stored : Stored Edition). count_of Headwords c.args.strategy c.args.query.now stored.content) c.self.view_is))

pub returns-clause-within : goal.returns-clause-within
returns-clause-within c =
    let inside = c.self.inside in
    let here = subst (λ (entries : List OwnedEntry). LieWithin (is_hit_of c.args.strategy c.args.query.now) entries c.hits_among.result.span.first c.hits_among.result.span.end) c.deref.ensures.value c.hits_among.ensures.within in
    subst (λ (stored : Stored Edition). LieWithin (is_found c.args.strategy c.args.query.now) stored.content.entries c.hits_among.result.span.first c.hits_among.result.span.end) c.self.view_is
    (span_mapped (entry_cut_from inside.text.items) (is_found c.args.strategy c.args.query.now) inside.entries.items c.hits_among.result.span.first c.hits_among.result.span.end here)
