-- A command's change of the tables, as a whole.
use Rattle.std.proofs.Common.{◌≡◌, ℕ, ◌+◌, ◌≤◌, ◌<◌, Bool, true, false, ◌||◌, ◌⊎◌, inl, inr, List, [], ◌∷◌, ◌++◌, refl, ap, sym, subst, ◌∙◌, arith, append-nil, Option, Some, None, ◌^◌, length}
use Rattle.std.specs.Prelude.{ℤ, pos, map, filter, cond, not, ◌==◌, IsTrue}
use Rattle.std.specs.List.{AllByRecursion, list_any}
use Rattle.std.proofs.lemmas.Bool.{false≢true, not-true}
use Rattle.std.proofs.lemmas.List.{map-append}
use Rattle.std.proofs.lemmas.List.Elements.{filter-append}
use Rattle.dict_text.proofs.AllLemmas.{all_weaker, all_append, all_filter, all_flat_map_parts}
use Rattle.store_tables.specs.Records as spec
use Rattle.dict_index.specs.Edition.{Edition, edition_of}
use Rattle.dict_text.specs.Names.{is_request_id}
use Rattle.dict_catalogue.specs.Items.{Stored, Item, name_of, editions_of, numbers_of, edition_numbers, is_known, names_virtual}
use Rattle.dict_catalogue.specs.Commands.{Command, install, rollback, retire, put_virtual, place}
use Rattle.dict_catalogue.specs.Tests.{refusal_of}
use Rattle.dict_catalogue.specs.Effects.{items_after, effect, reply_to}
use Rattle.dict_catalogue.specs.Steps.{Catalogue, holdings, with_effect, kept_under, answered, decided, refused, step}
use Rattle.dict_catalogue.specs.declared.fault.CommandRefusal.TheVariants.{BadRequestId}
use Rattle.dict_catalogue.specs.WellFormed.{IsLawfulCommand, IsWellFormed}
use Rattle.dict_catalogue.proofs.ItemLemmas.{all_after}
use Rattle.dict_catalogue.proofs.WellFormedLemmas.{installs_no_virtual, step_well_formed}
use Rattle.store_rows.specs.Tables.{Tables, same_number, editions_numbered, entries_of}
use Rattle.store_rows.specs.Written.{numbered, mark_record, item_record, edition_record, entry_record, kept_record}
use Rattle.store_rows.specs.Stands.{HoldsMembers, IsWithin, HoldsEdition, HoldsEditions, has_number, Stands}
use Rattle.store_rows.specs.After.{all_members, Installed, TableChange, is_gone, installed_editions, installed_entries, tables_after, IsInstalledBy, IsTableChange}
use Rattle.store_rows.proofs.TakenLemmas.{SameAt, holds_same, same_number_is, same_itself, nat_same, nat_itself}
use Rattle.store_rows.proofs.LawfulLemmas.{names_are, true_once}
use Rattle.store_rows.proofs.MemberLemmas.{all_with, own_members, own_owners, items_same, members_as}
use Rattle.store_rows.proofs.OrderLemmas.{all_passed}
use Rattle.store_rows.proofs.AfterLemmas.{IsOld, AreOld, IsNew, AreOldOr, install_each, swapped_old, put_old, new_there, stays, stays_known, staying, filter_none, apart_numbers, numbered_apart, numbered_mine}

-- ---- the edition that is installed

-- it has this number, and its bodies lie within its text, which is short
abbrev pub IsFit : ℕ → Option Installed → Type 0
IsFit number None = Unit {0}
IsFit number (Some new) = (new.number ≡ number) × AllByRecursion (IsWithin new.reading.text) new.reading.lines × (length new.reading.text < 64 ^ 6)

abbrev pub IsNewOf : Option Installed → List ℕ → Stored Edition → Type 0
IsNewOf None owner stored = ⊥
IsNewOf (Some new) owner stored = (owner ≡ new.owner) × (stored.number ≡ new.number) × (stored.content ≡ edition_of new.reading)

fit_none : (number : ℕ) (edition : Option Installed) → edition ≡ None → IsFit number edition
fit_none number None e = tt
fit_none number (Some new) e = cc

pub fit_of : (number : ℕ) (command : Command Edition) (edition : Option Installed) → IsInstalledBy number command edition → IsFit number edition
fit_of number (install name content) None h = absurd h
fit_of number (install name content) (Some new) h = (h.1, h.3, h.4)
fit_of number (rollback name) edition h = fit_none number edition h
fit_of number (retire name) edition h = fit_none number edition h
fit_of number (put_virtual name title members) edition h = fit_none number edition h
fit_of number (place name at) edition h = fit_none number edition h

editions_apart : (number n : ℕ) (edition : Option Installed) → IsFit number edition → n < number → editions_numbered (pos n) (installed_editions edition) ≡ []
editions_apart number n None fit lt = refl
editions_apart number n (Some new) fit lt =
    filter_none (λ (row : spec.EditionRecord). same_number row.number (pos n)) (edition_record new.owner new.number new.reading ∷ []) (ap (λ m. same_number (pos m) (pos n)) fit.0 ∙ apart_numbers n number lt, tt)

entries_apart : (number n : ℕ) (edition : Option Installed) → IsFit number edition → n < number → entries_of (pos n) (installed_entries edition) ≡ []
entries_apart number n None fit lt = refl
entries_apart number n (Some new) fit lt =
    filter_none (λ (row : spec.EntryRecord). same_number row.edition (pos n)) (numbered (entry_record new.number) 0 new.reading.lines)
    (numbered_apart (entry_record new.number) (λ (row : spec.EntryRecord). row.edition) new.number n (λ k x. refl) (ap (λ m. same_number (pos m) (pos n)) fit.0 ∙ apart_numbers n number lt) 0 new.reading.lines)

-- ---- each edition after

same_at : (version : ℕ) (change : TableChange) (old : Tables) (number n : ℕ) → IsFit number change.edition → n < number → is_gone change.gone (pos n) ≡ false → SameAt n old (tables_after version change old)
same_at version change old number n fit lt stay = record {
  editions = filter-append (λ (row : spec.EditionRecord). same_number row.number (pos n)) (filter (λ (row : spec.EditionRecord). not (is_gone change.gone row.number)) old.editions) (installed_editions change.edition)
      ∙ (λ i. staying (λ (row : spec.EditionRecord). row.number) change.gone (pos n) old.editions stay i ++ editions_apart number n change.edition fit lt i) ∙ append-nil (editions_numbered (pos n) old.editions);
  entries = filter-append (λ (row : spec.EntryRecord). same_number row.edition (pos n)) (filter (λ (row : spec.EntryRecord). not (is_gone change.gone row.edition)) old.entries) (installed_entries change.edition)
      ∙ (λ i. staying (λ (row : spec.EntryRecord). row.edition) change.gone (pos n) old.entries stay i ++ entries_apart number n change.edition fit lt i) ∙ append-nil (entries_of (pos n) old.entries);
}

-- no record before has the number of the edition that is installed
abbrev pub IsFree : ℕ → Tables → Type 0
IsFree number old = AllByRecursion (λ (row : spec.EditionRecord). same_number row.number (pos number) ≡ false) old.editions × AllByRecursion (λ (row : spec.EntryRecord). same_number row.edition (pos number) ≡ false) old.entries

new_holds : (version : ℕ) (change : TableChange) (old : Tables) (number : ℕ) (owner : List ℕ) (stored : Stored Edition) (edition : Option Installed) → change.edition ≡ edition → IsFit number edition → IsFree number old
    → IsNewOf edition owner stored → HoldsEdition (tables_after version change old) owner stored
new_holds version change old number owner stored None e fit free new = absurd new
new_holds version change old number owner stored (Some one) e fit free new =
    let is : stored.number ≡ number = new.1 ∙ fit.0 in
    let staying_editions = filter (λ (row : spec.EditionRecord). not (is_gone change.gone row.number)) old.editions in
    let staying_entries = filter (λ (row : spec.EntryRecord). not (is_gone change.gone row.edition)) old.entries in
    let none : filter (λ (row : spec.EditionRecord). same_number row.number (pos stored.number)) staying_editions ≡ [] =
    filter_none (λ (row : spec.EditionRecord). same_number row.number (pos stored.number)) staying_editions
    (all_filter (λ (row : spec.EditionRecord). same_number row.number (pos stored.number) ≡ false) (λ (row : spec.EditionRecord). not (is_gone change.gone row.number)) old.editions
    (subst (λ (n : ℕ). AllByRecursion (λ (row : spec.EditionRecord). same_number row.number (pos n) ≡ false) old.editions) (sym is) free.0)) in
    let none_too : filter (λ (row : spec.EntryRecord). same_number row.edition (pos stored.number)) staying_entries ≡ [] =
    filter_none (λ (row : spec.EntryRecord). same_number row.edition (pos stored.number)) staying_entries
    (all_filter (λ (row : spec.EntryRecord). same_number row.edition (pos stored.number) ≡ false) (λ (row : spec.EntryRecord). not (is_gone change.gone row.edition)) old.entries
    (subst (λ (n : ℕ). AllByRecursion (λ (row : spec.EntryRecord). same_number row.edition (pos n) ≡ false) old.entries) (sym is) free.1)) in
    record {
      reading = one.reading;
      says = new.2;
      short = fit.2;
      within = fit.1;
      row = filter-append (λ (row : spec.EditionRecord). same_number row.number (pos stored.number)) staying_editions (installed_editions change.edition)
          ∙ (λ i. none i ++ editions_numbered (pos stored.number) (installed_editions (e i)))
          ∙ ap (λ b. cond b (edition_record one.owner one.number one.reading ∷ []) []) (ap (λ n. same_number (pos one.number) (pos n)) new.1 ∙ same_itself (pos one.number))
          ∙ (λ i. edition_record (sym new.0 i) (sym new.1 i) one.reading ∷ []);
      entries = filter-append (λ (row : spec.EntryRecord). same_number row.edition (pos stored.number)) staying_entries (installed_entries change.edition)
          ∙ (λ i. none_too i ++ entries_of (pos stored.number) (installed_entries (e i)))
          ∙ ap (λ n. entries_of (pos n) (numbered (entry_record one.number) 0 one.reading.lines)) new.1
          ∙ numbered_mine (entry_record one.number) (λ (row : spec.EntryRecord). row.edition) (pos one.number) (λ k x. refl) 0 one.reading.lines
          ∙ ap (λ n. numbered (entry_record n) 0 one.reading.lines) (sym new.1);
    }

abbrev pub AreOldOrNew : Tables → ℕ → Option Installed → Item Edition → Type 0
AreOldOrNew old installs edition item = AllByRecursion (λ stored. IsOld old installs (name_of item) stored ⊎ IsNewOf edition (name_of item) stored) (editions_of item)

old_to : (old : Tables) (installs : ℕ) (edition : Option Installed) (item : Item Edition) → AreOld old installs item → AreOldOrNew old installs edition item
old_to old installs edition item h = all_weaker (IsOld old installs (name_of item)) (λ stored. IsOld old installs (name_of item) stored ⊎ IsNewOf edition (name_of item) stored) (λ stored p. inl p) (editions_of item) h

new_to : (number : ℕ) (name : List ℕ) (content : Edition) (edition : Option Installed) (owner : List ℕ) (stored : Stored Edition) → IsInstalledBy number (install name content) edition
    → IsNew name (record { number = number; content = content }) owner stored → IsNewOf edition owner stored
new_to number name content None owner stored h new = absurd h
new_to number name content (Some one) owner stored h new = (new.0 ∙ sym h.0, ap (λ (s : Stored Edition). s.number) new.1 ∙ sym h.1, ap (λ (s : Stored Edition). s.content) new.1 ∙ h.2)

or_to : (old : Tables) (installs number : ℕ) (name : List ℕ) (content : Edition) (edition : Option Installed) (owner : List ℕ) (stored : Stored Edition) → IsInstalledBy number (install name content) edition →
    IsOld old installs owner stored ⊎ IsNew name (record { number = number; content = content }) owner stored → IsOld old installs owner stored ⊎ IsNewOf edition owner stored
or_to old installs number name content edition owner stored h (inl p) = inl p
or_to old installs number name content edition owner stored h (inr p) = inr (new_to number name content edition owner stored h p)

pub each_edition : (old : Tables) (installs number : ℕ) (command : Command Edition) (edition : Option Installed) (items : List (Item Edition)) → IsInstalledBy number command edition → AllByRecursion (AreOld old installs) items
    → AllByRecursion (AreOldOrNew old installs edition) (items_after number command items)
each_edition old installs number (install name content) edition items by h =
    let new : Stored Edition = record { number = number; content = content } in
    all_weaker (AreOldOr old installs name new) (AreOldOrNew old installs edition)
    (λ item p. all_weaker (λ stored. IsOld old installs (name_of item) stored ⊎ IsNew name new (name_of item) stored) (λ stored. IsOld old installs (name_of item) stored ⊎ IsNewOf edition (name_of item) stored)
    (λ stored q. or_to old installs number name content edition (name_of item) stored by q) (editions_of item) p)
    (items_after number (install name content) items) (install_each old installs name content number items h)
each_edition old installs number (rollback name) edition items by h =
    all_after (AreOld old installs) (AreOldOrNew old installs edition) number (rollback name) items (λ item p. old_to old installs edition item p) (λ item p. old_to old installs edition _ (swapped_old old installs item p)) tt h
each_edition old installs number (retire name) edition items by h =
    all_after (AreOld old installs) (AreOldOrNew old installs edition) number (retire name) items (λ item p. old_to old installs edition item p) (λ item p. old_to old installs edition item p) tt h
each_edition old installs number (put_virtual name title members) edition items by h =
    all_after (AreOld old installs) (AreOldOrNew old installs edition) number (put_virtual name title members) items (λ item p. old_to old installs edition item p)
    (λ item p. old_to old installs edition _ (put_old old installs name title members item p)) tt h
each_edition old installs number (place name at) edition items by h =
    all_after (AreOld old installs) (AreOldOrNew old installs edition) number (place name at) items (λ item p. old_to old installs edition item p) (λ item p. old_to old installs edition item p) tt h

-- ---- numbers

from_map : {X Y : Type 0} (P : Y → Type 0) (f : X → Y) (xs : List X) → AllByRecursion P (map f xs) → AllByRecursion (λ x. P (f x)) xs
from_map P f [] h = tt
from_map P f (x ∷ xs) h = (h.0, from_map P f xs h.1)

by_edition : (P : ℕ → Type 0) (items : List (Item Edition)) → AllByRecursion P (edition_numbers items) → AllByRecursion (λ item. AllByRecursion (λ stored. P stored.number) (editions_of item)) items
by_edition P items h =
    all_weaker (λ (item : Item Edition). AllByRecursion P (numbers_of item)) (λ item. AllByRecursion (λ stored. P stored.number) (editions_of item))
    (λ item p. from_map P (λ (stored : Stored Edition). stored.number) (editions_of item) p) items
    (all_flat_map_parts P numbers_of items h)

or_first : (a b : Bool) → a ≡ true → (a || b) ≡ true
or_first true b e = refl
or_first false b e = absurd (false≢true e)

or_second : (a b : Bool) → b ≡ true → (a || b) ≡ true
or_second true b e = refl
or_second false b e = e

pub each_among : (ns : List ℕ) → AllByRecursion (λ n. list_any (λ one. one == n) ns ≡ true) ns
each_among [] = tt
each_among (n ∷ ns) = (
  or_first (n == n) (list_any (λ one. one == n) ns) (nat_itself n n refl),
  all_weaker (λ m. list_any (λ one. one == m) ns ≡ true) (λ m. list_any (λ one. one == m) (n ∷ ns) ≡ true)
      (λ m e. or_second (n == m) (list_any (λ one. one == m) ns) e) ns (each_among ns),
)

below_apart : (m n : ℕ) → m < n → same_number (pos m) (pos n) ≡ false
below_apart m n lt = step (m == n) refl
  where
    step : (b : Bool) → (m == n) ≡ b → (m == n) ≡ false
    step true same = absurd (let e : m ≡ n = nat_same m n same in omega arith)
    step false apart = apart

above_all : (installs : ℕ) (numbers : List ℕ) (z : ℤ) → AllByRecursion (λ n. (1 ≤ n) × (n ≤ installs)) numbers → list_any (λ one. same_number (pos one) z) numbers ≡ true → same_number z (pos (installs + 1)) ≡ false
above_all installs [] z range known = absurd (false≢true known)
above_all installs (n ∷ ns) z range known = step (same_number (pos n) z) refl (λ k. above_all installs ns z range.1 k)
  where
    step : (b : Bool) → same_number (pos n) z ≡ b → (list_any (λ one. same_number (pos one) z) ns ≡ true → same_number z (pos (installs + 1)) ≡ false) → same_number z (pos (installs + 1)) ≡ false
    step true same rest = sym (ap (λ y. same_number y (pos (installs + 1))) (same_number_is (pos n) z same)) ∙ below_apart n (installs + 1) (let le : n ≤ installs = range.0.1 in omega arith)
    step false apart rest = rest (subst (λ (b : Bool). (b || list_any (λ one. same_number (pos one) z) ns) ≡ true) apart known)

-- ---- all tables

acted : (M : Catalogue) (id : List ℕ) (command : Command Edition) → IsTrue (is_request_id id) → kept_under M.kept id ≡ None → refusal_of (holdings M) command ≡ None → (step M id command).catalogue ≡ with_effect M id command
acted M id command lawful new passed =
    ap (λ b. (cond b (answered M id command (kept_under M.kept id)) (record { reply = refused BadRequestId; catalogue = M })).catalogue) lawful
    ∙ ap (λ k. (answered M id command k).catalogue) new ∙ ap (λ r. (decided M id command r).catalogue) passed

one_after : (version : ℕ) (change : TableChange) (old : Tables) (installs : ℕ) (owner : List ℕ) (stored : Stored Edition) → IsFit (installs + 1) change.edition → IsFree (installs + 1) old → is_gone change.gone (pos stored.number) ≡ false →
    IsOld old installs owner stored ⊎ IsNewOf change.edition owner stored → HoldsEdition (tables_after version change old) owner stored
one_after version change old installs owner stored fit free stay (inl p) =
    holds_same old (tables_after version change old) owner stored (same_at version change old (installs + 1) stored.number fit (let le : stored.number ≤ installs = p.few in omega arith) stay) p.holds
one_after version change old installs owner stored fit free stay (inr p) = new_holds version change old (installs + 1) owner stored change.edition refl fit free p

pub old_each : (old : Tables) (installs : ℕ) (items : List (Item Edition)) → AllByRecursion (HoldsEditions old) items → AllByRecursion (λ n. (1 ≤ n) × (n ≤ installs)) (edition_numbers items) → AllByRecursion (AreOld old installs) items
old_each old installs items h range =
    all_with (HoldsEditions old) (λ (item : Item Edition). AllByRecursion (λ stored. (1 ≤ stored.number) × (stored.number ≤ installs)) (editions_of item)) (AreOld old installs)
    (λ item p q. all_with (HoldsEdition old (name_of item)) (λ (stored : Stored Edition). (1 ≤ stored.number) × (stored.number ≤ installs)) (IsOld old installs (name_of item)) (λ stored a b. record { holds = a; few = b.1 })
    (editions_of item) p q)
    items h (by_edition (λ n. (1 ≤ n) × (n ≤ installs)) items range)

pub free_of : (version : ℕ) (old : Tables) (M : Catalogue) → Stands version old M → IsFree (M.installs + 1) old
free_of version old M h = (
  all_weaker (λ (row : spec.EditionRecord). IsTrue (has_number M.items row.number)) (λ (row : spec.EditionRecord). same_number row.number (pos (M.installs + 1)) ≡ false)
      (λ row k. above_all M.installs (edition_numbers M.items) row.number h.well_formed.edition_range k) old.editions h.numbers,
  all_weaker (λ (row : spec.EntryRecord). IsTrue (has_number M.items row.edition)) (λ (row : spec.EntryRecord). same_number row.edition (pos (M.installs + 1)) ≡ false)
      (λ row k. above_all M.installs (edition_numbers M.items) row.edition h.well_formed.edition_range k) old.entries h.entries,
)

-- the records that stay have numbers of the catalogue after
known_after : {X : Type 0} (key : X → ℤ) (before after : List ℕ) (xs : List X) → AllByRecursion (λ x. IsTrue (list_any (λ one. same_number (pos one) (key x)) before)) xs →
    AllByRecursion (λ x. IsTrue (list_any (λ one. same_number (pos one) (key x)) after)) (filter (λ x. not (is_gone (filter (λ number. not (list_any (λ one. one == number) after)) before) (key x))) xs)
known_after key before after xs h =
    let gone = filter (λ number. not (list_any (λ one. one == number) after)) before in
    all_with (λ x. IsTrue (list_any (λ one. same_number (pos one) (key x)) before)) (λ x. not (is_gone gone (key x)) ≡ true) (λ x. IsTrue (list_any (λ one. same_number (pos one) (key x)) after))
    (λ x k s. stays_known before after (key x) k (not-true (is_gone gone (key x)) s))
    (filter (λ x. not (is_gone gone (key x))) xs) (all_filter (λ x. IsTrue (list_any (λ one. same_number (pos one) (key x)) before)) (λ x. not (is_gone gone (key x))) xs h) (all_passed (λ x. not (is_gone gone (key x))) xs)

numbered_all : {X Y : Type 0} (P : Y → Type 0) (f : ℕ → X → Y) → ((n : ℕ) (x : X) → P (f n x)) → (n : ℕ) (xs : List X) → AllByRecursion P (numbered f n xs)
numbered_all P f p n [] = tt
numbered_all P f p n (x ∷ xs) = (p n x, numbered_all P f p (n + 1) xs)

-- so has the one that is installed
IsThere : List ℕ → Option Installed → Type 0
IsThere after None = Unit {0}
IsThere after (Some new) = list_any (λ one. same_number (pos one) (pos new.number)) after ≡ true

there_none : (after : List ℕ) (edition : Option Installed) → edition ≡ None → IsThere after edition
unfolding IsThere
there_none after None e = tt
there_none after (Some new) e = cc

there : (number : ℕ) (command : Command Edition) (edition : Option Installed) (M : Catalogue) → refusal_of (holdings M) command ≡ None → IsInstalledBy number command edition
    → IsThere (edition_numbers (items_after number command M.items)) edition
unfolding IsThere
there number (install name content) None M passed h = absurd h
there number (install name content) (Some new) M passed h =
    let plain : names_virtual M.items name ≡ false = installs_no_virtual (holdings M) name content passed in
    subst (λ (n : ℕ). list_any (λ one. same_number (pos one) (pos n)) (edition_numbers (items_after number (install name content) M.items)) ≡ true) (sym h.1) (new_there number name content M.items plain)
there number (rollback name) edition M passed h = there_none _ edition h
there number (retire name) edition M passed h = there_none _ edition h
there number (put_virtual name title members) edition M passed h = there_none _ edition h
there number (place name at) edition M passed h = there_none _ edition h

editions_there : (after : List ℕ) (edition : Option Installed) → IsThere after edition → AllByRecursion (λ (row : spec.EditionRecord). IsTrue (list_any (λ one. same_number (pos one) row.number) after)) (installed_editions edition)
unfolding IsThere
editions_there after None h = tt
editions_there after (Some new) h = (h, tt)

entries_there : (after : List ℕ) (edition : Option Installed) → IsThere after edition → AllByRecursion (λ (row : spec.EntryRecord). IsTrue (list_any (λ one. same_number (pos one) row.edition) after)) (installed_entries edition)
unfolding IsThere
entries_there after None h = tt
entries_there after (Some new) h = numbered_all (λ (row : spec.EntryRecord). IsTrue (list_any (λ one. same_number (pos one) row.edition) after)) (entry_record new.number) (λ n x. h) 0 new.reading.lines

pub after_stands : (version : ℕ) (old : Tables) (M : Catalogue) (id : List ℕ) (command : Command Edition) (change : TableChange) → Stands version old M → IsLawfulCommand command → IsTrue (is_request_id id) → kept_under M.kept id
    ≡ None → refusal_of (holdings M) command ≡ None →
    IsTableChange M id command change → Stands version (tables_after version change old) (with_effect M id command)
after_stands version old M id command change h lawful named new passed is =
    let after = with_effect M id command in
    let well : IsWellFormed after = subst IsWellFormed (acted M id command named new passed) (step_well_formed M id command lawful h.well_formed) in
    let fit = fit_of (M.installs + 1) command change.edition is.edition in
    let numbers = edition_numbers after.items in
    let gone : change.gone ≡ filter (λ number. not (list_any (λ one. one == number) numbers)) (edition_numbers M.items) = is.gone in
    let stay : AllByRecursion (λ n. is_gone change.gone (pos n) ≡ false) numbers =
    subst (λ (g : List ℕ). AllByRecursion (λ n. is_gone g (pos n) ≡ false) numbers) (sym gone)
    (all_weaker (λ n. list_any (λ one. one == n) numbers ≡ true) (λ n. is_gone (filter (λ number. not (list_any (λ one. one == number) numbers)) (edition_numbers M.items)) (pos n) ≡ false)
    (λ n e. stays (edition_numbers M.items) numbers n e) numbers (each_among numbers)) in
    let each = each_edition old M.installs (M.installs + 1) command change.edition M.items is.edition (old_each old M.installs M.items h.editions h.well_formed.edition_range) in
    let once = names_are after.items ∙ true_once (map name_of after.items) well.names in
    let listed : all_members change.summary.items ≡ all_members after.items = ap (λ s. all_members s.items) is.summary ∙ members_as (λ (edition : Edition). edition.title) after.items in
    record {
      well_formed = well;
      marks = ap (λ s. mark_record version s.installs ∷ []) is.summary;
      items = ap (λ s. numbered item_record 0 s.items) is.summary ∙ items_same (λ (edition : Edition). edition.title) 0 after.items;
      members = subst (λ rows. AllByRecursion (HoldsMembers rows) after.items) (sym listed) (own_members after.items once);
      owners = subst (λ rows. AllByRecursion (λ (row : spec.Member). IsTrue (is_known after.items row.owner)) rows) (sym listed) (own_owners after.items);
      editions = all_with (AreOldOrNew old M.installs change.edition) (λ (item : Item Edition). AllByRecursion (λ stored. is_gone change.gone (pos stored.number) ≡ false) (editions_of item)) (HoldsEditions (tables_after version change old))
          (λ item p q. all_with (λ stored. IsOld old M.installs (name_of item) stored ⊎ IsNewOf change.edition (name_of item) stored) (λ (stored : Stored Edition). is_gone change.gone (pos stored.number) ≡ false)
          (HoldsEdition (tables_after version change old) (name_of item))
          (λ stored a b. one_after version change old M.installs (name_of item) stored fit (free_of version old M h) b a) (editions_of item) p q)
          after.items each (by_edition (λ n. is_gone change.gone (pos n) ≡ false) after.items stay);
      numbers = all_append (λ (row : spec.EditionRecord). IsTrue (has_number after.items row.number)) (filter (λ (row : spec.EditionRecord). not (is_gone change.gone row.number)) old.editions) (installed_editions change.edition)
          (subst (λ (g : List ℕ). AllByRecursion (λ (row : spec.EditionRecord). IsTrue (has_number after.items row.number)) (filter (λ (row : spec.EditionRecord). not (is_gone g row.number)) old.editions)) (sym gone)
          (known_after (λ (row : spec.EditionRecord). row.number) (edition_numbers M.items) numbers old.editions h.numbers))
          (editions_there numbers change.edition (there (M.installs + 1) command change.edition M passed is.edition));
      entries = all_append (λ (row : spec.EntryRecord). IsTrue (has_number after.items row.edition)) (filter (λ (row : spec.EntryRecord). not (is_gone change.gone row.edition)) old.entries) (installed_entries change.edition)
          (subst (λ (g : List ℕ). AllByRecursion (λ (row : spec.EntryRecord). IsTrue (has_number after.items row.edition)) (filter (λ (row : spec.EntryRecord). not (is_gone g row.edition)) old.entries)) (sym gone)
          (known_after (λ (row : spec.EntryRecord). row.edition) (edition_numbers M.items) numbers old.entries h.entries))
          (entries_there numbers change.edition (there (M.installs + 1) command change.edition M passed is.edition));
      kept = (λ i. h.kept i ++ kept_record (is.kept i) ∷ []) ∙ sym (map-append kept_record M.kept (record { id = id; reply = reply_to command (effect command (holdings M)) } ∷ []));
    }
