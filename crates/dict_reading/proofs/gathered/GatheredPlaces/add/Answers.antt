use Rattle.std.proofs.Common.{◌∙◌, refl, sym, ap, subst}
use Rattle.std.proofs.lemmas.Map.Text.{btree_map_updates_text}
use Rattle.std.specs.Prelude.{Some}
use Rattle.std.specs.Map.{update}
use Rattle.std.specs.String.{string_bytes}
use Rattle.std.specs.Str.{IsUtf8, bytes_eq}
use Rattle.std.specs.BTreeMap.{get_by_text}
use Rattle.dict_match.specs.Key.{reserved_key_of}
use Rattle.dict_match.proofs.VersionLaws.{reserved_key_of-utf8}
use Rattle.dict_index.specs.Reserved.{is_reserved}
use Rattle.dict_reading.specs.declared.gathered.GatheredPlaces.{GatheredPlaces}
use Rattle.dict_reading.proofs.GatheredLemmas.{gathers_entry, once_entry, known_if, twice_fails, once_reserved, gathers_reserved}
use Rattle.dict_reading.proofs.gathered.GatheredPlaces.add.Goals as goal

pub returns-then-not-is_reserved_key-clause-added : goal.returns-then-not-is_reserved_key-clause-added
returns-then-not-is_reserved_key-clause-added c index text lines line l said below passes g =
    gathers_entry index text lines line c.args.self.now (record { entries = c.push.new.self; reserved = c.args.self.now.reserved }) c.args.place l c.as_bytes.result.now (ap reserved_key_of said ∙ sym (c.as_bytes.ensures ∙ c.in-Ok.ensures))
    (sym c.is_reserved_key.ensures ∙ c.if-not-is_reserved_key.true) c.in-Ok-push.ensures.items refl below g

pub returns-then-not-is_reserved_key-clause-once : goal.returns-then-not-is_reserved_key-clause-once
returns-then-not-is_reserved_key-clause-once c index text lines line l said passes g =
    once_entry index text lines line c.args.self.now c.args.self.now c.args.place l c.as_bytes.result.now (ap reserved_key_of said ∙ sym (c.as_bytes.ensures ∙ c.in-Ok.ensures)) (sym c.is_reserved_key.ensures ∙ c.if-not-is_reserved_key.true)

pub as_text-name-requires : goal.as_text-name-requires
as_text-name-requires c = subst IsUtf8 (sym (c.as_bytes-2.ensures ∙ c.in-Ok.ensures)) (reserved_key_of-utf8 c.args.headword.now c.utf8.headword)

pub returns-then-contains_key-clause-refused : goal.returns-then-contains_key-clause-refused
returns-then-contains_key-clause-refused c index text lines line l said passes g =
    let name = c.as_text-name.result.now in
    let same = c.as_text-name.ensures ∙ c.as_bytes-2.ensures in
    let named = ap reserved_key_of said ∙ sym (same ∙ c.in-Ok.ensures) in
    let reserved = ap is_reserved (same ∙ sym c.as_bytes.ensures) ∙ (sym c.is_reserved_key.ensures ∙ c.if-not-is_reserved_key.false) in
    let known = known_if index text lines line c.args.self.now c.args.self.now c.args.place l name named passes reserved in
    twice_fails index text lines line c.args.self.now c.args.self.now c.args.place l name named known (sym c.contains_key.ensures ∙ c.if-contains_key.true) g

pub returns-clause-added : goal.returns-clause-added
returns-clause-added c index text lines line l said below passes g =
    let name = c.as_text-name.result.now in
    let same = c.as_text-name.ensures ∙ c.as_bytes-2.ensures in
    let named = ap reserved_key_of said ∙ sym (same ∙ c.in-Ok.ensures) in
    let reserved = ap is_reserved (same ∙ sym c.as_bytes.ensures) ∙ (sym c.is_reserved_key.ensures ∙ c.if-not-is_reserved_key.false) in
    let after : GatheredPlaces = record { entries = c.args.self.now.entries; reserved = c.insert.new.self } in
    let known = known_if index text lines line c.args.self.now after c.args.place l name named passes reserved in
    gathers_reserved index text lines line c.args.self.now after c.args.place l name named known (sym c.contains_key.ensures ∙ c.if-contains_key.false) refl
    (λ key. btree_map_updates_text (string_bytes c.in-Ok-from_str.owned) c.args.self.now.reserved c.insert.new.self (Some c.args.place) c.in-Ok-insert.ensures.updates key
    ∙ ap (λ b. update bytes_eq (get_by_text c.args.self.now.reserved) b (Some c.args.place) key) c.in-Ok-from_str.ensures.ok)
    passes g

pub returns-clause-once : goal.returns-clause-once
returns-clause-once c index text lines line l said passes g =
    let name = c.as_text-name.result.now in
    let same = c.as_text-name.ensures ∙ c.as_bytes-2.ensures in
    let named = ap reserved_key_of said ∙ sym (same ∙ c.in-Ok.ensures) in
    let reserved = ap is_reserved (same ∙ sym c.as_bytes.ensures) ∙ (sym c.is_reserved_key.ensures ∙ c.if-not-is_reserved_key.false) in
    let known = known_if index text lines line c.args.self.now c.args.self.now c.args.place l name named passes reserved in
    once_reserved index text lines line c.args.self.now c.args.self.now c.args.place l name named known (sym c.contains_key.ensures ∙ c.if-contains_key.false) g
