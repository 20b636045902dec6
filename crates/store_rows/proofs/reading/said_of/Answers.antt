use Rattle.std.proofs.Common.{subst, sym, ap, ◌∙◌}
use Rattle.std.specs.Str.{IsUtf8}
use Rattle.dict_index.specs.Cuts.{AreColumns}
use Rattle.dict_index.specs.Views.{octets_of}
use Rattle.store_rows.specs.Stored.{fourth_column}
use Rattle.store_rows.proofs.StoredLemmas.{are_columns, columns_of_stored, line_from_columns}
use Rattle.store_rows.proofs.reading.said_of.Goals as goal

pub returns-in_default : goal.returns-in_default
returns-in_default c said storable e = c.in_default.ensures _ _ _ _ (are_columns c.args.line.now said storable e)

pub returns-in_default-read_number : goal.returns-in_default-read_number
returns-in_default-read_number c said storable e =
    let parts = columns_of_stored c.args.line.now _ _ _ _ said c.in-Some.ensures storable e in
    let read = c.in_default-read_number.ensures.only said.offset parts.1 in
    cc

pub returns-in_default-read_number-2 : goal.returns-in_default-read_number-2
returns-in_default-read_number-2 c said storable e =
    let parts = columns_of_stored c.args.line.now _ _ _ _ said c.in-Some.ensures storable e in
    let read = c.in_default-read_number-2.ensures.only said.size parts.2 in
    cc

pub returns-in_default-from_utf8 : goal.returns-in_default-from_utf8
returns-in_default-from_utf8 c said storable e =
    let parts = columns_of_stored c.args.line.now _ _ _ _ said c.in-Some.ensures storable e in
    c.in_default-from_utf8.ensures.cases.0 (subst IsUtf8 parts.0 storable.headword.utf8)

pub returns-in_default-shown_of : goal.returns-in_default-shown_of
returns-in_default-shown_of c said storable e =
    let parts = columns_of_stored c.args.line.now _ _ _ _ said c.in-Some.ensures storable e in
    c.in_default-shown_of.ensures said.shown storable.shown.utf8 (sym parts.3 ∙ ap (λ h. fourth_column h said.shown) (parts.0 ∙ sym c.in-Ok-from_utf8.ensures.cases.0))

pub returns : goal.returns
returns c =
    let text = c.in-Ok-from_utf8.ensures.cases in
    let columns = subst (λ h. AreColumns c.args.line.now h c.in-Some.columns.offset.now c.in-Some.columns.size.now (octets_of c.in-Some.columns.shown)) (sym text.0) c.in-Some.ensures in
    let shown = c.in-Some-shown_of.ensures in
    line_from_columns c.args.line.now _ _ _ c.in-Some-shown_of.shown.now _ _ _ columns c.in-Ok.ensures.found c.in-Ok-read_number.ensures.found c.in-Ok.ensures.small c.in-Ok-read_number.ensures.small
    (subst IsUtf8 (sym text.0) text.1) shown.0 shown.1 c.requires
