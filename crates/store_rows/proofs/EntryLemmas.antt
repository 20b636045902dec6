-- One record of an entry more.
use Rattle.std.proofs.Common.{◌≡◌, ℕ, ◌+◌, ◌≤◌, ◌<◌, Bool, true, false, ◌⊎◌, inl, inr, List, [], ◌∷◌, ◌++◌, length, refl, ap, sym, subst, ◌∙◌, arith, append_assoc, Some, None}
use Rattle.std.specs.Prelude.{pos, map, ◌==◌, IsTrue}
use Rattle.std.specs.List.{AllByRecursion}
use Rattle.std.proofs.lemmas.List.{length-append, length-map, map-append}
use Rattle.store_tables.specs.Records as spec
use Rattle.dict_index.specs.Limits.{most_entries}
use Rattle.dict_index.specs.Line.{Line}
use Rattle.dict_index.specs.Edition.{Edition, ReadEdition, edition_of, entry_in}
use Rattle.dict_index.specs.WellFormed.{IsWellFormedEntry, IsWellFormedEdition}
use Rattle.dict_text.proofs.AllLemmas.{all_push}
use Rattle.dict_catalogue.specs.Items.{Stored, Item, regular, virtual}
use Rattle.dict_text.proofs.AllLemmas.{all_append, all_append_parts}
use Rattle.store_rows.specs.Tables.{Tables, same_number, editions_numbered, entries_of}
use Rattle.store_rows.specs.Written.{numbered, edition_record, entry_record}
use Rattle.store_rows.specs.Stands.{IsWithin, has_number, Stands}
use Rattle.store_rows.specs.Given.{IsEntry, IsNoEntry, IsLawfulLine}
use Rattle.store_rows.specs.Taken.{GoesOnFrom, StandsForNone, IsTaken, HoldsTitle, HoldsTitles, IsLast, IsInHand, IsOfLast, items_in, HasTaken, with_edition, with_entry, next_entry}
use Rattle.store_rows.specs.declared.reader.Reader.{Reader}
use Rattle.store_rows.specs.declared.reader.InHand.{InHand}
use Rattle.store_rows.proofs.OnceLemmas.{head_same, line_same}
use Rattle.store_rows.proofs.ListLemmas.{numbered_length, numbered_push, next_of_all}
use Rattle.store_rows.proofs.LawfulLemmas.{pos_same}
use Rattle.store_rows.proofs.TakenLemmas.{same_itself, nat_same, filter_passes, filter_passes_not, SameAt, title_same}
use Rattle.store_rows.proofs.FoundLemmas.{row_found}

-- ---- an entry of the edition in hand

module _ (taken : Tables) (row : spec.EntryRecord) (hand : InHand) (is : IsEntry hand.number hand.entries hand.text.items row) (few : hand.entries < most_entries) (last : IsLast hand taken) where
  of_hand : row.edition ≡ pos hand.number
  of_hand = ap (λ (r : spec.EntryRecord). r.edition) is.is

  turned : (a b : ℕ) → (b == a) ≡ false → (a == b) ≡ false
  turned a b h = grind (arith, Rattle.std.proofs.lemmas.Bool.Decides.nat_tests)

  beside : (number : ℕ) → (number == hand.number) ≡ false → SameAt number taken (with_entry taken row)
  beside number apart = record {
    editions = refl;
    entries = filter_passes_not (λ (r : spec.EntryRecord). same_number r.edition (pos number)) taken.entries row (ap (λ n. same_number n (pos number)) of_hand ∙ turned hand.number number apart);
  }

  -- the records of the edition in hand are not none
  shown : editions_numbered (pos hand.number) taken.editions ≡ editions_numbered (pos hand.number) last.front ++ last.row ∷ []
  shown = ap (editions_numbered (pos hand.number)) last.last ∙ filter_passes (λ (r : spec.EditionRecord). same_number r.number (pos hand.number)) last.front last.row
      (ap (λ n. same_number n (pos hand.number)) last.number ∙ same_itself (pos hand.number))

  not_none : (xs : List spec.EditionRecord) (x : spec.EditionRecord) → xs ++ x ∷ [] ≡ [] → ⊥
  not_none [] x e = cc
  not_none (y ∷ xs) x e = cc

  last_is : (xs : List spec.EditionRecord) (x y : spec.EditionRecord) → xs ++ x ∷ [] ≡ y ∷ [] → x ≡ y
  last_is [] x y e = head_same _ _ _ _ e
  last_is (z ∷ []) x y e = absurd (cc)
  last_is (z ∷ w ∷ xs) x y e = absurd (cc)

  longer : (owner title : List ℕ) → IsTaken taken owner hand.number title → IsTaken (with_entry taken row) owner hand.number title
  longer owner title h =
      let reading = h.holds.reading in
      let same : last.row ≡ edition_record owner hand.number reading = last_is (editions_numbered (pos hand.number) last.front) last.row _ (sym shown ∙ h.holds.row) in
      let text : reading.text ≡ hand.text.items = sym (ap (λ (r : spec.EditionRecord). r.body) same) ∙ last.text in
      let many : length reading.lines ≡ hand.entries = sym (numbered_length (entry_record hand.number) 0 reading.lines) ∙ ap length (sym h.holds.entries) ∙ last.entries in
      let line = is.line in
      let more : ReadEdition = record { title = reading.title; info = reading.info; text = reading.text; lines = reading.lines ++ line ∷ [] } in
      let within : IsWithin reading.text line = subst (λ (t : List ℕ). IsWithin t line) (sym text) is.within in
      let lawful : IsWellFormedEntry (entry_in reading.text line) = subst (λ (t : List ℕ). IsWellFormedEntry (entry_in t line)) (sym text) is.lawful in
      let push : (edition_of more).entries ≡ (edition_of reading).entries ++ entry_in reading.text line ∷ [] = map-append (entry_in reading.text) reading.lines (line ∷ []) in
      let old : IsWellFormedEdition (edition_of reading) = subst IsWellFormedEdition h.holds.says h.lawful in
      record {
        edition = edition_of more;
        holds = record {
          reading = more;
          says = refl;
          short = h.holds.short;
          within = all_push (IsWithin reading.text) reading.lines line h.holds.within within;
          row = h.holds.row;
          entries = filter_passes (λ (r : spec.EntryRecord). same_number r.edition (pos hand.number)) taken.entries row (ap (λ n. same_number n (pos hand.number)) of_hand ∙ same_itself (pos hand.number))
              ∙ (λ i. h.holds.entries i ++ is.is i ∷ [])
              ∙ ap (λ k. numbered (entry_record hand.number) 0 reading.lines ++ entry_record hand.number k line ∷ []) (sym many)
              ∙ sym (numbered_push (entry_record hand.number) reading.lines line);
        };
        title = sym (ap (λ (x : Edition). x.title) h.holds.says) ∙ h.title;
        lawful = record {
          title = old.title;
          info = old.info;
          entries = subst (AllByRecursion IsWellFormedEntry) (sym push) (all_push IsWellFormedEntry (edition_of reading).entries (entry_in reading.text line) old.entries lawful);
          few = (let one : length (edition_of more).entries ≡ hand.entries + 1 = length-map (reading.lines ++ line ∷ []) (entry_in reading.text) ∙ length-append reading.lines (line ∷ []) ∙ ap (λ n. n + 1) many in omega arith);
        };
      }

  one_title : (owner : List ℕ) (stored : Stored (List ℕ)) (b : Bool) → (stored.number == hand.number) ≡ b → HoldsTitle taken owner stored → HoldsTitle (with_entry taken row) owner stored
  one_title owner stored false e h = title_same taken (with_entry taken row) owner stored (beside stored.number e) h
  one_title owner stored true e (inl h) =
      absurd (not_none (editions_numbered (pos hand.number) last.front) last.row (sym shown ∙ ap (λ n. editions_numbered (pos n) taken.editions) (sym (nat_same stored.number hand.number e)) ∙ h.1.0))
  one_title owner stored true e (inr h) =
      let n : stored.number ≡ hand.number = nat_same stored.number hand.number e in
      inr (subst (λ (k : ℕ). IsTaken (with_entry taken row) owner k stored.content) (sym n) (longer owner stored.content (subst (λ (k : ℕ). IsTaken taken owner k stored.content) n h)))

  item_titles : (item : Item (List ℕ)) → HoldsTitles taken item → HoldsTitles (with_entry taken row) item
  item_titles (regular name current None) h = (one_title name current (current.number == hand.number) refl h.0, tt)
  item_titles (regular name current (Some former)) h = (one_title name current (current.number == hand.number) refl h.0, (one_title name former (former.number == hand.number) refl h.1.0, tt))
  item_titles (virtual name title members) h = tt

  all_titles : (items : List (Item (List ℕ))) → AllByRecursion (HoldsTitles taken) items → AllByRecursion (HoldsTitles (with_entry taken row)) items
  all_titles [] h = tt
  all_titles (item ∷ items) h = (item_titles item h.0, all_titles items h.1)

pub entry_taken : (version : ℕ) (old new : Reader) (taken : Tables) (row : spec.EntryRecord) (hand hand' : InHand) → IsInHand (Some hand) taken → new.edition ≡ Some hand' →
    items_in new ≡ items_in old → new.installs ≡ old.installs → new.accepted ≡ old.accepted → new.installed ≡ old.installed →
    hand'.number ≡ hand.number → hand'.text.items ≡ hand.text.items → hand'.entries ≡ hand.entries + 1 → IsEntry hand.number hand.entries hand.text.items row → hand.entries < most_entries →
    HasTaken version old taken → HasTaken version new (with_entry taken row)
entry_taken version old new taken row hand hand' last held items installs accepted installed hn ht he is few h =
    let known : has_number (items_in old) last.row.number ≡ true = (all_append_parts (λ (r : spec.EditionRecord). IsTrue (has_number (items_in old) r.number)) last.front (last.row ∷ [])
    (subst (AllByRecursion (λ (r : spec.EditionRecord). IsTrue (has_number (items_in old) r.number))) last.last h.numbers)).1.0 in
    let here : has_number (items_in old) row.edition ≡ true = ap (has_number (items_in old)) (ap (λ (r : spec.EntryRecord). r.edition) is.is ∙ sym last.number) ∙ known in
    record {
      marks = h.marks ∙ ap (λ n. Rattle.store_rows.specs.Written.mark_record version n ∷ []) (sym installs);
      items = h.items ∙ ap (numbered Rattle.store_rows.specs.Written.item_record 0) (sym items);
      members = subst (AllByRecursion (Rattle.store_rows.specs.Stands.HoldsMembers taken.members)) (sym items) h.members;
      owners = subst (λ xs. AllByRecursion (λ (r : spec.Member). IsTrue (Rattle.dict_catalogue.specs.Items.is_known xs r.owner)) taken.members) (sym items) h.owners;
      lawful = (λ i. Rattle.store_rows.specs.Tests.has_lawful_items (installs i) (items i)) ∙ h.lawful;
      titles = subst (AllByRecursion (HoldsTitles (with_entry taken row))) (sym items) (all_titles taken row hand is few last (items_in old) h.titles);
      numbers = subst (λ xs. AllByRecursion (λ (r : spec.EditionRecord). IsTrue (has_number xs r.number)) taken.editions) (sym items) h.numbers;
      entries = subst (λ xs. AllByRecursion (λ (r : spec.EntryRecord). IsTrue (has_number xs r.edition)) (taken.entries ++ row ∷ [])) (sym items)
          (all_append (λ (r : spec.EntryRecord). IsTrue (has_number (items_in old) r.edition)) taken.entries (row ∷ []) h.entries (here, tt));
      hand = subst (λ x. IsInHand x (with_entry taken row)) (sym held) (record {
        front = last.front;
        row = last.row;
        last = last.last;
        number = last.number ∙ ap pos (sym hn);
        text = last.text ∙ sym ht;
        entries = ap (λ n. length (entries_of (pos n) (taken.entries ++ row ∷ []))) hn
            ∙ ap length (filter_passes (λ (r : spec.EntryRecord). same_number r.edition (pos hand.number)) taken.entries row (ap (λ (r : spec.EntryRecord). same_number r.edition (pos hand.number)) is.is ∙ same_itself (pos hand.number)))
            ∙ length-append (entries_of (pos hand.number) taken.entries) (row ∷ []) ∙ ap (λ n. n + 1) last.entries ∙ sym he;
      });
      kept = subst (λ n. Rattle.store_rows.specs.Taken.AreKept n new.installed taken.kept) (sym accepted) (subst (λ n. Rattle.store_rows.specs.Taken.AreKept old.accepted n taken.kept) (sym installed) h.kept);
    }

-- ---- an entry that no tables have

ends_same : (xs ys : List spec.EditionRecord) (x y : spec.EditionRecord) → xs ++ x ∷ [] ≡ ys ++ y ∷ [] → x ≡ y
ends_same [] [] x y e = head_same _ _ _ _ e
ends_same [] (b ∷ []) x y e = absurd (cc)
ends_same [] (b ∷ d ∷ ys) x y e = absurd (cc)
ends_same (a ∷ []) [] x y e = absurd (cc)
ends_same (a ∷ d ∷ xs) [] x y e = absurd (cc)
ends_same (a ∷ xs) (b ∷ ys) x y e = ends_same xs ys x y (Rattle.store_rows.proofs.OnceLemmas.tail_same _ _ _ _ e)

pub lines_lawful : (text : List ℕ) (lines : List Line) → AllByRecursion (IsWithin text) lines → AllByRecursion IsWellFormedEntry (map (entry_in text) lines)
    → AllByRecursion (λ line. IsWithin text line × IsWellFormedEntry (entry_in text line)) lines
lines_lawful text [] w h = tt
lines_lawful text (line ∷ lines) w h = ((w.0, h.0), lines_lawful text lines w.1 h.1)

-- the list that goes on from another is as long
as_long : {X : Type 0} (xs ys : List X) (x : X) → length ((xs ++ x ∷ []) ++ ys) ≡ (length xs + 1) + length ys
as_long xs ys x = length-append (xs ++ x ∷ []) ys ∙ ap (λ n. n + length ys) (length-append xs (x ∷ []))

pub entry_refused : (version : ℕ) (reader : Reader) (taken : Tables) (row : spec.EntryRecord) (hand : InHand) → IsInHand (Some hand) taken → HasTaken version reader taken → IsOfLast taken row →
    (IsNoEntry hand.number hand.entries hand.text.items row) ⊎ (most_entries ≤ hand.entries) → StandsForNone version (with_entry taken row)
entry_refused version reader taken row hand last h of why tables M goes stands =
    let same : of.1 ≡ last.row = ends_same of.0 last.front of.1 last.row (sym of.2 ∙ last.last) in
    let edition : row.edition ≡ pos hand.number = of.3 ∙ ap (λ (r : spec.EditionRecord). r.number) same ∙ last.number in
    let before : Tables = record { marks = taken.marks; items = taken.items; members = taken.members; editions = last.front; entries = taken.entries ++ row ∷ []; kept = taken.kept } in
    let goes' : GoesOnFrom (with_edition before last.row) tables = record {
      marks = goes.marks;
      items = goes.items;
      members = goes.members;
      editions = (λ number. subst (λ (es : List spec.EditionRecord). Rattle.store_rows.specs.Taken.BeginsWith (editions_numbered number tables.editions) (editions_numbered number es)) last.last (goes.editions number));
      entries = goes.entries;
      kept = goes.kept;
    } in
    let f = row_found version tables M before last.row stands goes' in
    let reading = f.found.holds.reading in
    let n : f.found.stored.number ≡ hand.number = pos_same _ _ (f.found.is ∙ last.number) in
    let text : reading.text ≡ hand.text.items = sym (ap (λ (r : spec.EditionRecord). r.body) f.is) ∙ last.text in
    let begins = goes.entries (pos hand.number) in
    let push : entries_of (pos hand.number) (taken.entries ++ row ∷ []) ≡ entries_of (pos hand.number) taken.entries ++ row ∷ [] =
    filter_passes (λ (r : spec.EntryRecord). same_number r.edition (pos hand.number)) taken.entries row (ap (λ k. same_number k (pos hand.number)) edition ∙ same_itself (pos hand.number)) in
    let whole : (entries_of (pos hand.number) taken.entries ++ row ∷ []) ++ begins.0 ≡ numbered (entry_record hand.number) 0 reading.lines =
    ap (λ xs. xs ++ begins.0) (sym push) ∙ sym begins.1 ∙ ap (λ k. entries_of (pos k) tables.entries) (sym n) ∙ f.found.holds.entries ∙ ap (λ k. numbered (entry_record k) 0 reading.lines) n in
    let lawful : IsWellFormedEdition (edition_of reading) = subst IsWellFormedEdition f.found.holds.says f.found.lawful in
    let each = lines_lawful reading.text reading.lines f.found.holds.within lawful.entries in
    let next = next_of_all (entry_record hand.number) (λ (line : Line). IsWithin reading.text line × IsWellFormedEntry (entry_in reading.text line)) reading.lines (entries_of (pos hand.number) taken.entries) begins.0 row each
    (sym (append_assoc (entries_of (pos hand.number) taken.entries) (row ∷ []) begins.0) ∙ whole) in
    let many : length reading.lines ≡ (hand.entries + 1) + length begins.0 = sym (numbered_length (entry_record hand.number) 0 reading.lines) ∙ ap length (sym whole)
    ∙ as_long (entries_of (pos hand.number) taken.entries) begins.0 row ∙ ap (λ k. (k + 1) + length begins.0) last.entries in
    let few : length reading.lines ≤ most_entries = subst (λ (k : ℕ). k ≤ most_entries) (length-map reading.lines (entry_in reading.text)) lawful.few in
    decide why (λ no. no next.0 (next.1 ∙ ap (λ k. entry_record hand.number k next.0) last.entries) (subst (λ (t : List ℕ). IsWithin t next.0) text next.2.0) (subst (λ (t : List ℕ). IsWellFormedEntry (entry_in t next.0)) text next.2.1))
    (λ full. omega arith)
  where
    decide : {P Q : Type 0} → P ⊎ Q → (P → ⊥) → (Q → ⊥) → ⊥
    decide (inl p) f g = f p
    decide (inr q) f g = g q

-- ---- the next line

next_is : (taken : Tables) (number : ℕ) (line : Line) (hand : InHand) → IsLast hand taken → IsOfLast taken (next_entry taken number line) → next_entry taken number line ≡ entry_record hand.number hand.entries line
next_is taken number line hand last of =
    let same : of.1 ≡ last.row = ends_same of.0 last.front of.1 last.row (sym of.2 ∙ last.last) in
    let n : number ≡ hand.number = pos_same _ _ (of.3 ∙ ap (λ (r : spec.EditionRecord). r.number) same ∙ last.number) in
    let many : length (entries_of (pos number) taken.entries) ≡ hand.entries = ap (λ k. length (entries_of (pos k) taken.entries)) n ∙ last.entries in
    λ i. entry_record (n i) (many i) line

pub line_is : (taken : Tables) (number : ℕ) (line : Line) (hand : InHand) → IsInHand (Some hand) taken → IsOfLast taken (next_entry taken number line) → IsLawfulLine hand.text.items line
    → IsEntry hand.number hand.entries hand.text.items (next_entry taken number line)
line_is taken number line hand last of lawful = record { line = line; is = next_is taken number line hand last of; within = lawful.within; lawful = lawful.lawful }

pub line_is_none : (taken : Tables) (number : ℕ) (line : Line) (hand : InHand) → IsInHand (Some hand) taken → IsOfLast taken (next_entry taken number line) → (IsLawfulLine hand.text.items line → ⊥) ⊎ (most_entries ≤ hand.entries) →
    (IsNoEntry hand.number hand.entries hand.text.items (next_entry taken number line)) ⊎ (most_entries ≤ hand.entries)
line_is_none taken number line hand last of (inr full) = inr full
line_is_none taken number line hand last of (inl unlawful) = inl (λ other is within lawful.
    let same : other ≡ line = line_same hand.number hand.entries other line (sym is ∙ next_is taken number line hand last of) in
    unlawful (subst (IsLawfulLine hand.text.items) same (record { within = within; lawful = lawful })))
