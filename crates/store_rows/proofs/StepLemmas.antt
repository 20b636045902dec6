-- One record of an edition more: what the reader has taken then, and when no tables have it.
use Rattle.std.proofs.Common.{◌≡◌, ℕ, ◌+◌, true, false, ◌||◌, ◌⊎◌, inl, inr, List, [], ◌∷◌, ◌++◌, length, refl, ap, sym, subst, ◌∙◌, arith, Option, Some, None, ◌^◌, ◌<◌}
use Rattle.std.specs.Prelude.{ℤ, pos, map, bytes_eq, ◌==◌, IsTrue, IsUtf8, IfSome, IsSome}
use Rattle.std.specs.List.{AllByRecursion, list_any}
use Rattle.std.proofs.lemmas.Bool.{false≢true, and_parts}
use Rattle.std.proofs.lemmas.Grind.{flat_map-append}
use Rattle.dict_text.specs.Names.{is_title}
use Rattle.store_tables.specs.Records as spec
use Rattle.dict_index.specs.Edition.{Edition}
use Rattle.dict_index.specs.WellFormed.{IsEditionText}
use Rattle.dict_catalogue.specs.Items.{Item, regular, virtual, numbers_of, edition_numbers, is_known}
use Rattle.dict_catalogue.specs.Steps.{Catalogue}
use Rattle.dict_text.proofs.AllLemmas.{all_append, all_append_parts, all_weaker}
use Rattle.dict_catalogue.proofs.ListLemmas.{any_append_left, any_append_right}
use Rattle.store_rows.specs.Tables.{Tables, same_number, editions_numbered, entries_of}
use Rattle.store_rows.specs.Written.{numbered, item_record, member_record}
use Rattle.store_rows.specs.Stands.{HoldsMembers, has_number, Stands}
use Rattle.store_rows.specs.Tests.{has_lawful_items}
use Rattle.store_rows.specs.Titles.{is_awaited, awaits, item_titled}
use Rattle.store_rows.specs.Taken.{GoesOnFrom, StandsForNone, HasNone, HoldsTitles, IsInHand, items_in, HasTaken, with_edition}
use Rattle.store_rows.specs.declared.reader.Reader.{Reader}
use Rattle.store_rows.specs.declared.reader.InHand.{InHand}
use Rattle.store_rows.proofs.ListLemmas.{numbered_append}
use Rattle.store_rows.proofs.LawfulLemmas.{bare, pos_same, items_bare, lawful_alike, known_alike, numbers_alike, lawful_true_numbers}
use Rattle.store_rows.proofs.TakenLemmas.{nat_same, none_held, length_none}
use Rattle.store_rows.proofs.EditionLemmas.{IsNew, titles_taken, titled_record, titled_name, titled_members}
use Rattle.store_rows.proofs.BeginLemmas.{bare_of}
use Rattle.store_rows.proofs.FoundLemmas.{or_split, has_stored, stored_alike, awaited_there, row_found}

-- ---- a record that no tables have

-- the items of the reader are those of the catalogue
pub same_items : (version : ℕ) (reader : Reader) (taken front tables : Tables) (M : Catalogue) → HasTaken version reader taken → front.items ≡ taken.items → front.members ≡ taken.members → GoesOnFrom front tables
    → Stands version tables M → map bare (items_in reader) ≡ map bare M.items
same_items version reader taken front tables M h fi fm goes stands =
    bare_of version reader.installs tables M (items_in reader) stands (goes.items ∙ fi ∙ h.items)
    (subst (λ (ms : List spec.Member). AllByRecursion (HoldsMembers ms) (items_in reader)) (sym (goes.members ∙ fm)) h.members)

pub number_refused : (version : ℕ) (taken : Tables) (row : spec.EditionRecord) → ((number : ℕ) → row.number ≡ pos number → ⊥) → StandsForNone version (with_edition taken row)
number_refused version taken row h tables M goes stands = let f = row_found version tables M taken row stands goes in h f.found.stored.number (sym f.found.is)

pub place_refused : (version : ℕ) (reader : Reader) (taken : Tables) (row : spec.EditionRecord) (number : ℕ) → HasTaken version reader taken → row.number ≡ pos number → list_any (awaits row.owner number) (items_in reader) ≡ false
    → StandsForNone version (with_edition taken row)
place_refused version reader taken row number h e none tables M goes stands =
    let f = row_found version tables M taken row stands goes in
    let same = same_items version reader taken (with_edition taken row) tables M h refl refl goes stands in
    let owner : f.found.owner ≡ row.owner = sym (ap (λ (r : spec.EditionRecord). r.owner) f.is) in
    let n : f.found.stored.number ≡ number = pos_same _ _ (f.found.is ∙ e) in
    let there : has_stored row.owner number (items_in reader) ≡ true =
    stored_alike row.owner number (items_in reader) M.items same ∙ (λ i. has_stored (sym owner i) (sym n i) M.items) ∙ f.found.there in
    let untaken : editions_numbered (pos number) taken.editions ≡ [] = ap (λ z. editions_numbered z taken.editions) (sym e) ∙ f.none in
    false≢true (sym none ∙ awaited_there taken row.owner number (items_in reader) h.titles untaken there)

pub title_refused : (version : ℕ) (taken : Tables) (row : spec.EditionRecord) → is_title row.title ≡ false → StandsForNone version (with_edition taken row)
title_refused version taken row h tables M goes stands =
    let f = row_found version tables M taken row stands goes in
    let title : row.title ≡ f.found.stored.content.title = ap (λ (r : spec.EditionRecord). r.title) f.is ∙ sym (ap (λ (x : Edition). x.title) f.found.holds.says) in
    false≢true (sym h ∙ ap is_title title ∙ f.found.lawful.title.1)

pub info_refused : (version : ℕ) (taken : Tables) (row : spec.EditionRecord) → (IsEditionText row.info → ⊥) → StandsForNone version (with_edition taken row)
info_refused version taken row h tables M goes stands =
    let f = row_found version tables M taken row stands goes in
    let info : row.info ≡ f.found.stored.content.info = ap (λ (r : spec.EditionRecord). r.info) f.is ∙ sym (ap (λ (x : Edition). x.info) f.found.holds.says) in
    h (subst IsEditionText (sym info) f.found.lawful.info)

pub text_refused : (version : ℕ) (taken : Tables) (row : spec.EditionRecord) → (length row.body < 64 ^ 6 → ⊥) → StandsForNone version (with_edition taken row)
text_refused version taken row h tables M goes stands =
    let f = row_found version tables M taken row stands goes in
    h (subst (λ (t : List ℕ). length t < 64 ^ 6) (sym (ap (λ (r : spec.EditionRecord). r.body) f.is)) f.found.holds.short)

-- ---- a record that is taken

awaited_number : (owner : List ℕ) (number : ℕ) (item : Item (List ℕ)) → awaits owner number item ≡ true → list_any (λ one. one == number) (numbers_of item) ≡ true
awaited_number owner number (regular name current None) h =
    any_append_left (λ one. one == number) (current.number ∷ []) [] (one_there current.number (and_parts (current.number == number) (length current.content == 0) (and_parts (bytes_eq name owner) (is_awaited number current) h).1).0)
  where
    one_there : (n : ℕ) → (n == number) ≡ true → ((n == number) || false) ≡ true
    one_there n e = ap (λ b. b || false) e
awaited_number owner number (regular name current (Some former)) h =
    one_of (or_split (is_awaited number current) (is_awaited number former) (and_parts (bytes_eq name owner) (is_awaited number current || is_awaited number former) h).1)
  where
    one_there : (n : ℕ) → (n == number) ≡ true → ((n == number) || false) ≡ true
    one_there n e = ap (λ b. b || false) e

    one_of : (is_awaited number current ≡ true) ⊎ (is_awaited number former ≡ true) → list_any (λ one. one == number) (current.number ∷ former.number ∷ []) ≡ true
    one_of (inl e) = any_append_left (λ one. one == number) (current.number ∷ []) (former.number ∷ []) (one_there current.number (and_parts (current.number == number) (length current.content == 0) e).0)
    one_of (inr e) = any_append_right (λ one. one == number) (current.number ∷ []) (former.number ∷ []) (one_there former.number (and_parts (former.number == number) (length former.content == 0) e).0)
awaited_number owner number (virtual name title members) h = absurd (false≢true h)

awaited_known : (owner : List ℕ) (number : ℕ) (front : List (Item (List ℕ))) (item : Item (List ℕ)) (behind : List (Item (List ℕ))) → awaits owner number item ≡ true → has_number (front ++ item ∷ behind) (pos number) ≡ true
awaited_known owner number front item behind h =
    ap (list_any (λ one. one == number)) (flat_map-append numbers_of front (item ∷ behind))
    ∙ any_append_right (λ one. one == number) (edition_numbers front) (numbers_of item ++ edition_numbers behind)
    (any_append_left (λ one. one == number) (numbers_of item) (edition_numbers behind) (awaited_number owner number item h))

awaited_none : (taken : Tables) (owner : List ℕ) (number : ℕ) (item : Item (List ℕ)) → awaits owner number item ≡ true → HoldsTitles taken item → HasNone taken number
awaited_none taken owner number (regular name current None) h held =
    let parts = and_parts (current.number == number) (length current.content == 0) (and_parts (bytes_eq name owner) (is_awaited number current) h).1 in
    subst (HasNone taken) (nat_same current.number number parts.0) (none_held taken name current held.0 (length_none current.content parts.1))
awaited_none taken owner number (regular name current (Some former)) h held =
    one_of (or_split (is_awaited number current) (is_awaited number former) (and_parts (bytes_eq name owner) (is_awaited number current || is_awaited number former) h).1)
  where
    one_of : (is_awaited number current ≡ true) ⊎ (is_awaited number former ≡ true) → HasNone taken number
    one_of (inl e) = let parts = and_parts (current.number == number) (length current.content == 0) e in
        subst (HasNone taken) (nat_same current.number number parts.0) (none_held taken name current held.0 (length_none current.content parts.1))
    one_of (inr e) = let parts = and_parts (former.number == number) (length former.content == 0) e in subst (HasNone taken) (nat_same former.number number parts.0) (none_held taken name former held.1.0 (length_none former.content parts.1))
awaited_none taken owner number (virtual name title members) h held = absurd (false≢true h)

-- the items with one title more are the same but for it
titled_records : (number : ℕ) (title : List ℕ) (front : List (Item (List ℕ))) (item : Item (List ℕ)) (behind : List (Item (List ℕ))) → numbered item_record 0 (front ++ item_titled number title item ∷ behind)
    ≡ numbered item_record 0 (front ++ item ∷ behind)
titled_records number title front item behind =
    numbered_append item_record 0 front (item_titled number title item ∷ behind)
    ∙ ap (λ r. numbered item_record 0 front ++ r ∷ numbered item_record ((0 + length front) + 1) behind) (titled_record (0 + length front) number title item)
    ∙ sym (numbered_append item_record 0 front (item ∷ behind))

titled_held : (members : List spec.Member) (number : ℕ) (title : List ℕ) (front : List (Item (List ℕ))) (item : Item (List ℕ)) (behind : List (Item (List ℕ))) → AllByRecursion (HoldsMembers members) (front ++ item ∷ behind)
    → AllByRecursion (HoldsMembers members) (front ++ item_titled number title item ∷ behind)
titled_held members number title front item behind h =
    let parts = all_append_parts (HoldsMembers members) front (item ∷ behind) h in
    all_append (HoldsMembers members) front (item_titled number title item ∷ behind) parts.0 (
      (λ i. Rattle.store_rows.specs.Tables.members_of_owner (titled_name number title item i) members) ∙ parts.1.0
          ∙ (λ i. numbered (member_record (sym (titled_name number title item) i)) 0 (sym (titled_members number title item) i)),
      parts.1.1,
    )

known_still : (xs ys : List (Item (List ℕ))) → map bare xs ≡ map bare ys → (rows : List spec.Member) → AllByRecursion (λ row. IsTrue (is_known xs row.owner)) rows → AllByRecursion (λ row. IsTrue (is_known ys row.owner)) rows
known_still xs ys e rows h = all_weaker (λ (row : spec.Member). IsTrue (is_known xs row.owner)) (λ (row : spec.Member). IsTrue (is_known ys row.owner)) (λ row k. sym (known_alike xs ys row.owner e) ∙ k) rows h

has_number_still : (xs ys : List (Item (List ℕ))) (number : ℤ) → map bare xs ≡ map bare ys → has_number xs number ≡ true → has_number ys number ≡ true
has_number_still xs ys number e h = ap (list_any (λ one. same_number (pos one) number)) (sym (numbers_alike xs ys e)) ∙ h

in_hand : (taken : Tables) (row : spec.EditionRecord) (number : ℕ) (edition : Option InHand) → IfSome edition (λ hand. (hand.number ≡ number) × (hand.text.items ≡ row.body) × (hand.entries ≡ 0)) × IsSome edition →
    row.number ≡ pos number → HasNone taken number → IsInHand edition (with_edition taken row)
in_hand taken row number None held e none = absurd (false≢true held.1)
in_hand taken row number (Some hand) held e none = record {
  front = taken.editions;
  row = row;
  last = refl;
  number = e ∙ ap pos (sym held.0.0);
  text = sym held.0.1;
  entries = ap length (ap (λ n. entries_of (pos n) taken.entries) held.0.0 ∙ none.1) ∙ sym held.0.2;
}

pub edition_taken : (version : ℕ) (old new : Reader) (taken : Tables) (row : spec.EditionRecord) (number : ℕ) (front : List (Item (List ℕ))) (item : Item (List ℕ)) (behind : List (Item (List ℕ))) →
    items_in old ≡ front ++ item ∷ behind → items_in new ≡ front ++ item_titled number row.title item ∷ behind → new.installs ≡ old.installs → new.accepted ≡ old.accepted → new.installed ≡ old.installed →
    IfSome new.edition (λ hand. (hand.number ≡ number) × (hand.text.items ≡ row.body) × (hand.entries ≡ 0)) × IsSome new.edition →
    row.number ≡ pos number → awaits row.owner number item ≡ true → IsUtf8 row.title → is_title row.title ≡ true → IsEditionText row.info → length row.body < 64 ^ 6 →
    HasTaken version old taken → HasTaken version new (with_edition taken row)
edition_taken version old new taken row number front item behind was now installs accepted installed held e waits text title info short h =
    let held' = subst (AllByRecursion (HoldsMembers taken.members)) was h.members in
    let members : AllByRecursion (HoldsMembers taken.members) (items_in new) = subst (AllByRecursion (HoldsMembers taken.members)) (sym now) (titled_held taken.members number row.title front item behind held') in
    let records : numbered item_record 0 (items_in new) ≡ numbered item_record 0 (items_in old) = ap (numbered item_record 0) now ∙ titled_records number row.title front item behind ∙ ap (numbered item_record 0) (sym was) in
    let same : map bare (items_in old) ≡ map bare (items_in new) = items_bare 0 taken.members (items_in old) (items_in new) (sym records) h.members members in
    let new' : IsNew row.owner number row.title row = record {
      reading = record { title = row.title; info = row.info; text = row.body; lines = [] };
      empty = refl;
      is = λ i. record { number = e i; owner = row.owner; title = row.title; info = row.info; body = row.body };
      named = refl;
      short = short;
      lawful = record { title = (text, title); info = info; entries = tt; few = omega arith };
    } in
    let titles' = subst (AllByRecursion (HoldsTitles taken)) was h.titles in
    let once = ap edition_numbers was in
    let known : has_number (items_in new) (pos number) ≡ true = has_number_still (items_in old) (items_in new) (pos number) same (ap (λ items. has_number items (pos number)) was ∙ awaited_known row.owner number front item behind waits) in
    let none : HasNone taken number = awaited_none taken row.owner number item waits (all_append_parts (HoldsTitles taken) front (item ∷ behind) titles').1.0 in
    record {
      marks = h.marks ∙ ap (λ n. Rattle.store_rows.specs.Written.mark_record version n ∷ []) (sym installs);
      items = h.items ∙ sym records;
      members = members;
      owners = known_still (items_in old) (items_in new) same taken.members h.owners;
      lawful = (λ i. has_lawful_items (installs i) (items_in new)) ∙ sym (lawful_alike old.installs (items_in old) (items_in new) same) ∙ h.lawful;
      titles = subst (AllByRecursion (HoldsTitles (with_edition taken row))) (sym now)
          (titles_taken taken row.owner number row.title row front item behind new' waits (subst Rattle.dict_catalogue.specs.WellFormed.IsEachNumberOnce once (lawful_true_numbers old.installs (items_in old) h.lawful)) titles');
      numbers = all_append (λ (r : spec.EditionRecord). IsTrue (has_number (items_in new) r.number)) taken.editions (row ∷ [])
          (all_weaker (λ (r : spec.EditionRecord). IsTrue (has_number (items_in old) r.number)) (λ (r : spec.EditionRecord). IsTrue (has_number (items_in new) r.number))
          (λ r k. has_number_still (items_in old) (items_in new) r.number same k) taken.editions h.numbers)
          (ap (has_number (items_in new)) e ∙ known, tt);
      entries = all_weaker (λ (r : spec.EntryRecord). IsTrue (has_number (items_in old) r.edition)) (λ (r : spec.EntryRecord). IsTrue (has_number (items_in new) r.edition))
          (λ r k. has_number_still (items_in old) (items_in new) r.edition same k) taken.entries h.entries;
      hand = in_hand taken row number new.edition held e none;
      kept = subst (λ n. Rattle.store_rows.specs.Taken.AreKept n new.installed taken.kept) (sym accepted) (subst (λ n. Rattle.store_rows.specs.Taken.AreKept old.accepted n taken.kept) (sym installed) h.kept);
    }
