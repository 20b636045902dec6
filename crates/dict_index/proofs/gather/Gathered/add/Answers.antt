use Rattle.std.proofs.Common.{◌≡◌, ℕ, List, ◌∙◌, refl, sym, ap, subst, true, false}
use Rattle.std.proofs.lemmas.Map.Text.{btree_map_updates_text}
use Rattle.std.specs.Prelude.{is_some, Some}
use Rattle.std.specs.Map.{update}
use Rattle.std.specs.String.{string_bytes}
use Rattle.std.specs.Str.{IsUtf8, bytes_eq}
use Rattle.std.specs.BTreeMap.{get_by_text}
use Rattle.dict_match.specs.Key.{reserved_key_of}
use Rattle.dict_match.proofs.VersionLaws.{reserved_key_of-utf8}
use Rattle.dict_index.specs.Line.{IsLine, body_in}
use Rattle.dict_index.specs.Reserved.{is_reserved, is_known_reserved}
use Rattle.dict_index.proofs.GatheredLemmas.{gathers_entry, passes_entry, unknown_fails, known_passes, twice_fails, once_passes, gathers_reserved}
use Rattle.dict_index.proofs.gather.Gathered.add.Goals as goal

pub returns-then-not-is_reserved_key-clause-added : goal.returns-then-not-is_reserved_key-clause-added
returns-then-not-is_reserved_key-clause-added c text lines line l body g =
    let same = c.in-Ok.ensures.line in
    let plain = ap is_reserved (sym (c.as_bytes.ensures ∙ c.requires.key)) ∙ (sym c.is_reserved_key.ensures ∙ c.if-not-is_reserved_key.true) in
    gathers_entry text lines line c.args.self.now (record { entries = c.push.new.self; reserved = c.args.self.now.reserved }) c.in-Ok.entry (subst (IsLine line) (sym same) l)
    (ap (λ said. is_reserved (reserved_key_of said.headword)) same ∙ plain) c.in-Ok-push.ensures.items refl (c.in-Ok.ensures.body ∙ body ∙ ap (body_in text) (sym same)) c.in-Ok.ensures.key g

pub returns-then-not-is_reserved_key-clause-passes : goal.returns-then-not-is_reserved_key-clause-passes
returns-then-not-is_reserved_key-clause-passes c text lines line l g =
    passes_entry text lines line c.args.self.now c.args.self.now c.args.read l (ap is_reserved (sym (c.as_bytes.ensures ∙ c.requires.key)) ∙ (sym c.is_reserved_key.ensures ∙ c.if-not-is_reserved_key.true))

pub returns-then-not-is_known_key-clause-refused : goal.returns-then-not-is_known_key-clause-refused
returns-then-not-is_known_key-clause-refused c text lines line l g = unknown_fails text lines line c.args.self.now c.args.self.now c.args.read l
    (ap is_reserved (sym (c.as_bytes.ensures ∙ c.requires.key)) ∙ (sym c.is_reserved_key.ensures ∙ c.if-not-is_reserved_key.false))
    (ap is_known_reserved (sym (c.as_bytes-2.ensures ∙ c.requires.key)) ∙ (sym c.is_known_key.ensures ∙ c.if-not-is_known_key.true))

pub as_text-name-requires : goal.as_text-name-requires
as_text-name-requires c = subst IsUtf8 (sym (c.as_bytes-3.ensures ∙ c.requires.key)) (reserved_key_of-utf8 c.args.read.headword.now c.requires.text)

-- a test of the key's octets is one of the headword's key
tested : {T : Type 0} (f : List ℕ → T) (octets key : List ℕ) (result answer : T) → octets ≡ key → result ≡ f octets → result ≡ answer → f key ≡ answer
tested f octets key result answer same is e = ap f (sym same) ∙ (sym is ∙ e)

pub returns-then-contains_key-clause-refused : goal.returns-then-contains_key-clause-refused
returns-then-contains_key-clause-refused c text lines line l g =
    let headword_key = reserved_key_of c.args.read.headword.now in
    let known = tested is_known_reserved c.as_bytes-2.result.now headword_key c.is_known_key.result true (c.as_bytes-2.ensures ∙ c.requires.key) c.is_known_key.ensures c.if-not-is_known_key.false in
    let found = tested (λ k. is_some (get_by_text c.args.self.now.reserved k)) c.as_text-name.result.now headword_key c.contains_key.result true (c.as_text-name.ensures ∙ (c.as_bytes-3.ensures ∙ c.requires.key))
    c.contains_key.ensures c.if-contains_key.true in
    (known_passes text lines line c.args.self.now c.args.self.now c.args.read l known, twice_fails text lines line c.args.self.now c.args.self.now c.args.read l known found g)

pub returns-clause-added : goal.returns-clause-added
returns-clause-added c text lines line l body g =
    let headword_key = reserved_key_of c.args.read.headword.now in
    let name_is = c.as_text-name.ensures ∙ (c.as_bytes-3.ensures ∙ c.requires.key) in
    let known = tested is_known_reserved c.as_bytes-2.result.now headword_key c.is_known_key.result true (c.as_bytes-2.ensures ∙ c.requires.key) c.is_known_key.ensures c.if-not-is_known_key.false in
    let missing = tested (λ k. is_some (get_by_text c.args.self.now.reserved k)) c.as_text-name.result.now headword_key c.contains_key.result false name_is c.contains_key.ensures c.if-contains_key.false in
    gathers_reserved text lines line c.args.self.now (record { entries = c.args.self.now.entries; reserved = c.insert.new.self }) c.args.read l known missing refl
    (λ key. btree_map_updates_text (string_bytes c.in-Ok-from_str.owned) c.args.self.now.reserved c.insert.new.self (Some c.args.read.body) c.in-Ok-insert.ensures.updates key
    ∙ ap (λ b. update bytes_eq (get_by_text c.args.self.now.reserved) b (Some c.args.read.body) key) (c.in-Ok-from_str.ensures.ok ∙ name_is))
    body g

pub returns-clause-passes : goal.returns-clause-passes
returns-clause-passes c text lines line l g =
    let headword_key = reserved_key_of c.args.read.headword.now in
    let name_is = c.as_text-name.ensures ∙ (c.as_bytes-3.ensures ∙ c.requires.key) in
    let known = tested is_known_reserved c.as_bytes-2.result.now headword_key c.is_known_key.result true (c.as_bytes-2.ensures ∙ c.requires.key) c.is_known_key.ensures c.if-not-is_known_key.false in
    let missing = tested (λ k. is_some (get_by_text c.args.self.now.reserved k)) c.as_text-name.result.now headword_key c.contains_key.result false name_is c.contains_key.ensures c.if-contains_key.false in
    (known_passes text lines line c.args.self.now c.args.self.now c.args.read l known, once_passes text lines line c.args.self.now c.args.self.now c.args.read l known missing g)
