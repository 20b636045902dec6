use Rattle.std.proofs.Common.{rules, arith, ◌≡◌, ◌<◌, ◌++◌, ◌∷◌, true, false, refl, sym, ◌∙◌, length, take, drop, string_bytes}
use Rattle.std.specs.Prelude.{map, IsUtf8}
use Rattle.std.specs.List.{list_any}
use Rattle.std.proofs.lemmas.Bool.{false≢true}
use Rattle.std.proofs.lemmas.Result.{err_from_is_err_and}
use Rattle.dict_text.specs.Names.{is_title}
use Rattle.store_tables.specs.Typed.{owned_edition}
use Rattle.dict_catalogue.specs.Views.{item_shown}
use Rattle.store_rows.specs.Titles.{awaits, item_titled}
use Rattle.store_rows.proofs.ListLemmas.{map_found}
use Rattle.store_rows.proofs.StepLemmas.{number_refused, place_refused, title_refused, info_refused, text_refused, edition_taken}
use Rattle.store_rows.proofs.reader.Reader.edition.Goals as goal

pub returns-in_err-number-clause-damaged : goal.returns-in_err-number-clause-damaged
returns-in_err-number-clause-damaged c =
    let p = err_from_is_err_and c.from_residual.result c.from_residual.ensures.1 in
    let below = rw c.in_err-number.ensures.only at c.in_err-number.ensures.below in
    rw p.1 (λ version taken h. number_refused version taken (owned_edition c.args.row) below)

pub returns-in_default-clause-damaged : goal.returns-in_default-clause-damaged
returns-in_default-clause-damaged c = λ version taken h.
    let none : list_any (awaits (string_bytes c.args.row.owner) c.in_ok-number.number) (map item_shown c.args.self.now.items.items) ≡ false = rw (c.as_str.ensures.value, c.deref.ensures.value) at c.in_default.ensures.none in
    place_refused version (record (c.args.self.now) { edition = h.0 }) taken (owned_edition c.args.row) c.in_ok-number.number h.1 c.in_ok-number.ensures.number none

pub returns-then-not-is_title-clause-damaged : goal.returns-then-not-is_title-clause-damaged
returns-then-not-is_title-clause-damaged c = λ version taken h.
    let unlawful : is_title (string_bytes c.args.row.title) ≡ false = search rules in
    title_refused version taken (owned_edition c.args.row) unlawful

pub returns-then-not-is_edition_text-clause-damaged : goal.returns-then-not-is_edition_text-clause-damaged
returns-then-not-is_edition_text-clause-damaged c = λ version taken h.
    let tested = rw c.as_bytes.ensures.value at c.is_edition_text.ensures in
    info_refused version taken (owned_edition c.args.row) (λ lawful. false≢true (sym c.if-not-is_edition_text.true ∙ tested.1 lawful))

pub returns-then-len-ge-TEXT_END-clause-damaged : goal.returns-then-len-ge-TEXT_END-clause-damaged
returns-then-len-ge-TEXT_END-clause-damaged c =
    λ version taken h. text_refused version taken (owned_edition c.args.row) (λ short. let below : length c.args.row.body.items < 68719476736 = short in omega (arith, below, c.len.ensures, c.if-len-ge-TEXT_END.true))

pub returns-clause-taken : goal.returns-clause-taken
returns-clause-taken c = λ version taken h.
    let place = c.in-Some.place in
    let within : place < length c.args.self.now.items.items = rw c.deref.ensures.value at c.in-Some.ensures.none in
    let found : list_any (awaits (string_bytes c.args.row.owner) c.in_ok-number.number) (map item_shown (take 1 (drop place c.args.self.now.items.items))) ≡ true =
    rw (c.as_str.ensures.value, c.deref.ensures.value) at c.in-Some.ensures.found in
    let split = map_found item_shown (awaits (string_bytes c.args.row.owner) c.in_ok-number.number) c.args.self.now.items.items place within found in
    let tested = rw c.as_bytes.ensures.value at c.is_edition_text.ensures in
    let lawful : is_title (string_bytes c.args.row.title) ≡ true = search rules in
    let text : IsUtf8 (string_bytes c.args.row.title) = rw c.as_str-2.ensures.value at c.as_str-2.utf8 in
    let written : map item_shown c.title_at.new.items.items ≡ split.0 ++ item_titled c.in_ok-number.number (string_bytes c.args.row.title) split.1 ∷ split.2 = c.title_at.ensures split.0 split.1 split.2 split.3 split.4 in
    let short : length c.args.row.body.items < 68719476736 = omega (arith, c.len.ensures, c.if-len-ge-TEXT_END.false) in
    edition_taken version (record (c.args.self.now) { edition = h.0 }) _ taken (owned_edition c.args.row) c.in_ok-number.number split.0 split.1 split.2 split.3 written refl refl refl c.take_in_hand.ensures
    c.in_ok-number.ensures.number split.5 text lawful (tested.0 c.if-not-is_edition_text.false) short h.1
