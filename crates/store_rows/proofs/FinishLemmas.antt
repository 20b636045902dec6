-- What stands for all records that were taken.
use Rattle.std.proofs.Common.{◌≡◌, ℕ, ◌+◌, ◌≤◌, Bool, true, false, inl, inr, List, [], ◌∷◌, length, refl, ap, sym, subst, ◌∙◌, Some, None}
use Rattle.std.specs.Prelude.{ℤ, pos, map, not, IsTrue, ◌==◌}
use Rattle.std.specs.List.{AllByRecursion, list_any, list_all}
use Rattle.std.proofs.lemmas.Bool.{false≢true, and_parts, and_from}
use Rattle.store_tables.specs.Records as spec
use Rattle.dict_index.specs.Edition.{Edition}
use Rattle.dict_index.specs.WellFormed.{IsWellFormedEdition}
use Rattle.dict_catalogue.specs.Items.{Stored, Item, regular, virtual, name_of, members_of, numbers_of, edition_numbers, is_known, item_as}
use Rattle.dict_catalogue.specs.Steps.{KeptFor, Catalogue, summary_of}
use Rattle.dict_catalogue.specs.WellFormed.{HasWellFormedEditions, IsEachOnce, how_many, is_install}
use Rattle.dict_text.proofs.AllLemmas.{all_flat_map, all_flat_map_parts, all_weaker}
use Rattle.store_rows.specs.Tables.{Tables, editions_numbered}
use Rattle.store_rows.specs.Written.{numbered, item_record, member_record, kept_record}
use Rattle.store_rows.specs.Stands.{HoldsMembers, HoldsEdition, HoldsEditions, has_number, Stands}
use Rattle.store_rows.specs.Titles.{is_titled}
use Rattle.store_rows.specs.Taken.{HoldsTitle, HoldsTitles, HasIdsOnce, items_in, HasTaken}
use Rattle.store_rows.specs.declared.reader.Reader.{Reader}
use Rattle.store_rows.proofs.OnceLemmas.{map_same, kept_same}
use Rattle.store_rows.proofs.LawfulLemmas.{bare, items_bare, lawful_alike, known_alike, numbers_alike, lawful_true}
use Rattle.store_rows.proofs.TakenLemmas.{no_empty_title, length_none}
use Rattle.store_rows.proofs.BeginLemmas.{bare_of, installs_of}

-- ---- the items with the editions that were taken

abbrev pub titles_of : Item Edition → Item (List ℕ)
titles_of item = item_as (λ edition. edition.title) item

-- an edition of this owner, with its title
pub record Made (taken : Tables) (owner : List ℕ) (stored : Stored (List ℕ)) : Type 0 where
  pub edition : Stored Edition
  pub same : record { number = edition.number; content = edition.content.title } ≡ stored
  pub holds : HoldsEdition taken owner edition
  pub lawful : IsWellFormedEdition edition.content

made : (taken : Tables) (owner : List ℕ) (stored : Stored (List ℕ)) → not (length stored.content == 0) ≡ true → HoldsTitle taken owner stored → Made taken owner stored
made taken owner stored titled (inl h) = absurd (false≢true (ap (λ (t : List ℕ). not (length t == 0)) (sym h.0) ∙ titled))
made taken owner stored titled (inr h) = record {
  edition = record { number = stored.number; content = h.edition };
  same = λ i. record { number = stored.number; content = h.title i };
  holds = h.holds;
  lawful = h.lawful;
}

pub record MadeItem (taken : Tables) (item : Item (List ℕ)) : Type 0 where
  pub whole : Item Edition
  pub same : titles_of whole ≡ item
  pub holds : HoldsEditions taken whole
  pub lawful : HasWellFormedEditions whole
  pub named : name_of whole ≡ name_of item
  pub listed : members_of whole ≡ members_of item

made_item : (taken : Tables) (item : Item (List ℕ)) → is_titled item ≡ true → HoldsTitles taken item → MadeItem taken item
made_item taken (regular name current None) titled h =
    let c = made taken name current titled h.0 in
    record { whole = regular name c.edition None; same = (λ i. regular name (c.same i) None); holds = (c.holds, tt); lawful = (c.lawful, tt); named = refl; listed = refl }
made_item taken (regular name current (Some former)) titled h =
    let parts = and_parts (not (length current.content == 0)) (not (length former.content == 0)) titled in
    let c = made taken name current parts.0 h.0 in
    let f = made taken name former parts.1 h.1.0 in
    record { whole = regular name c.edition (Some f.edition); same = (λ i. regular name (c.same i) (Some (f.same i))); holds = (c.holds, (f.holds, tt)); lawful = (c.lawful, (f.lawful, tt)); named = refl; listed = refl }
made_item taken (virtual name title members) titled h = record { whole = virtual name title members; same = refl; holds = tt; lawful = tt; named = refl; listed = refl }

pub record MadeItems (taken : Tables) (items : List (Item (List ℕ))) : Type 0 where
  pub whole : List (Item Edition)
  pub same : map titles_of whole ≡ items
  pub holds : AllByRecursion (HoldsEditions taken) whole
  pub lawful : AllByRecursion HasWellFormedEditions whole
  pub members : AllByRecursion (HoldsMembers taken.members) items → AllByRecursion (HoldsMembers taken.members) whole

made_items : (taken : Tables) (items : List (Item (List ℕ))) → list_all is_titled items ≡ true → AllByRecursion (HoldsTitles taken) items → MadeItems taken items
made_items taken [] titled h = record { whole = []; same = refl; holds = tt; lawful = tt; members = (λ m. tt) }
made_items taken (item ∷ items) titled h =
    let parts = and_parts (is_titled item) (list_all is_titled items) titled in
    let one = made_item taken item parts.0 h.0 in
    let rest = made_items taken items parts.1 h.1 in
    record {
      whole = one.whole ∷ rest.whole;
      same = (λ i. one.same i ∷ rest.same i);
      holds = (one.holds, rest.holds);
      lawful = (one.lawful, rest.lawful);
      members = (λ m. ((λ i. Rattle.store_rows.specs.Tables.members_of_owner (one.named i) taken.members) ∙ m.0 ∙ (λ i. numbered (member_record (sym one.named i)) 0 (sym one.listed i)), rest.members m.1));
    }

titles_record : (place : ℕ) (item : Item Edition) → item_record place (titles_of item) ≡ item_record place item
titles_record place (regular name current None) = refl
titles_record place (regular name current (Some former)) = refl
titles_record place (virtual name title members) = refl

titles_records : (place : ℕ) (items : List (Item Edition)) → numbered item_record place (map titles_of items) ≡ numbered item_record place items
titles_records place [] = refl
titles_records place (item ∷ items) = λ i. titles_record place item i ∷ titles_records (place + 1) items i

pub ids_same : (replies : List KeptFor) → map (λ (row : spec.KeptRecord). row.id) (map kept_record replies) ≡ map (λ kept. kept.id) replies
ids_same [] = refl
ids_same (reply ∷ replies) = ap (λ ids. reply.id ∷ ids) (ids_same replies)

-- ---- the catalogue

pub record Standing (version : ℕ) (reader : Reader) (taken : Tables) : Type 0 where
  pub catalogue : Catalogue
  pub stands : Stands version taken catalogue
  pub items : map titles_of catalogue.items ≡ items_in reader
  pub installs : catalogue.installs ≡ reader.installs
  pub accepted : length catalogue.kept ≡ reader.accepted

pub standing : (version : ℕ) (reader : Reader) (taken : Tables) → HasTaken version reader taken → reader.installed ≡ reader.installs → list_all is_titled (items_in reader) ≡ true → HasIdsOnce taken → Standing version reader taken
standing version reader taken h counted titled ids =
    let m = made_items taken (items_in reader) titled h.titles in
    let members : AllByRecursion (HoldsMembers taken.members) m.whole = m.members h.members in
    let records : taken.items ≡ numbered item_record 0 m.whole = h.items ∙ ap (numbered item_record 0) (sym m.same) ∙ titles_records 0 m.whole in
    let same : map bare (items_in reader) ≡ map bare m.whole = items_bare 0 taken.members (items_in reader) m.whole (sym h.items ∙ records) h.members members in
    let lawful = lawful_true reader.installs m.whole (sym (lawful_alike reader.installs (items_in reader) m.whole same) ∙ h.lawful) in
    let M : Catalogue = record { items = m.whole; kept = h.kept.replies; installs = reader.installs } in
    let once : IsEachOnce (map (λ kept. kept.id) h.kept.replies) = subst IsEachOnce (ap (map (λ (row : spec.KeptRecord). row.id)) h.kept.are ∙ ids_same h.kept.replies) ids in
    record {
      catalogue = M;
      stands = record {
        well_formed = record {
          item_limit = lawful.limit;
          items = lawful.lawful;
          editions = m.lawful;
          names = lawful.names;
          members = lawful.members;
          accepted_limit = subst (λ (n : ℕ). n ≤ 9223372036854775807) (sym h.kept.many) h.kept.few;
          replies = h.kept.lawful;
          ids = once;
          numbered = h.kept.numbered;
          installs = sym counted ∙ sym h.kept.installs;
          edition_range = lawful.range;
          edition_once = lawful.once;
        };
        marks = h.marks;
        items = records;
        members = members;
        owners = all_weaker (λ (row : spec.Member). IsTrue (is_known (items_in reader) row.owner)) (λ (row : spec.Member). IsTrue (is_known m.whole row.owner))
            (λ row k. sym (known_alike (items_in reader) m.whole row.owner same) ∙ k) taken.members h.owners;
        editions = m.holds;
        numbers = all_weaker (λ (row : spec.EditionRecord). IsTrue (has_number (items_in reader) row.number)) (λ (row : spec.EditionRecord). IsTrue (has_number m.whole row.number))
            (λ row k. still (items_in reader) m.whole row.number same k) taken.editions h.numbers;
        entries = all_weaker (λ (row : spec.EntryRecord). IsTrue (has_number (items_in reader) row.edition)) (λ (row : spec.EntryRecord). IsTrue (has_number m.whole row.edition))
            (λ row k. still (items_in reader) m.whole row.edition same k) taken.entries h.entries;
        kept = h.kept.are;
      };
      items = m.same;
      installs = refl;
      accepted = h.kept.many;
    }
  where
    still : (xs : List (Item (List ℕ))) (ys : List (Item Edition)) (number : ℤ) → map bare xs ≡ map bare ys → has_number xs number ≡ true → has_number ys number ≡ true
    still xs ys number e k = ap (list_any (λ one. Rattle.store_rows.specs.Tables.same_number (pos one) number)) (sym (numbers_alike xs ys e)) ∙ k

pub standing_summary : (version : ℕ) (reader : Reader) (taken : Tables) (s : Standing version reader taken) → summary_of s.catalogue ≡ record { items = items_in reader; installs = reader.installs; accepted = reader.accepted }
standing_summary version reader taken s = λ i. record { items = s.items i; installs = s.installs i; accepted = s.accepted i }

-- ---- and when there is none

counts : (version : ℕ) (reader : Reader) (taken : Tables) (M : Catalogue) → HasTaken version reader taken → Stands version taken M → reader.installed ≡ reader.installs
counts version reader taken M h stands =
    let kept : h.kept.replies ≡ M.kept = map_same kept_record kept_same h.kept.replies M.kept (sym h.kept.are ∙ stands.kept) in
    sym h.kept.installs ∙ ap (how_many (λ kept. is_install kept.reply.verb)) kept ∙ sym stands.well_formed.installs ∙ sym (installs_of version reader.installs taken M stands h.marks)

-- no edition of the catalogue lacks its record
present : (taken : Tables) (item : Item Edition) → HoldsEditions taken item → AllByRecursion (λ number. editions_numbered (pos number) taken.editions ≡ [] → ⊥) (numbers_of item)
present taken (regular name current None) h = ((λ none. shown _ (sym h.0.row ∙ none)), tt)
  where
    shown : (row : spec.EditionRecord) → row ∷ [] ≡ [] → ⊥
    shown row e = cc
present taken (regular name current (Some former)) h = ((λ none. shown _ (sym h.0.row ∙ none)), ((λ none. shown _ (sym h.1.0.row ∙ none)), tt))
  where
    shown : (row : spec.EditionRecord) → row ∷ [] ≡ [] → ⊥
    shown row e = cc
present taken (virtual name title members) h = tt

all_present : (taken : Tables) (items : List (Item Edition)) → AllByRecursion (HoldsEditions taken) items → AllByRecursion (λ item. AllByRecursion (λ number. editions_numbered (pos number) taken.editions ≡ [] → ⊥) (numbers_of item)) items
all_present taken [] h = tt
all_present taken (item ∷ items) h = (present taken item h.0, all_present taken items h.1)

titled_one : (taken : Tables) (owner : List ℕ) (stored : Stored (List ℕ)) → (editions_numbered (pos stored.number) taken.editions ≡ [] → ⊥) → HoldsTitle taken owner stored → not (length stored.content == 0) ≡ true
titled_one taken owner stored there (inl h) = absurd (there h.1.0)
titled_one taken owner stored there (inr h) = step (length stored.content == 0) refl
  where
    step : (b : Bool) → (length stored.content == 0) ≡ b → not (length stored.content == 0) ≡ true
    step true e = absurd (no_empty_title h.edition h.lawful (h.title ∙ length_none stored.content e))
    step false e = ap not e

titled_item : (taken : Tables) (item : Item (List ℕ)) → AllByRecursion (λ number. editions_numbered (pos number) taken.editions ≡ [] → ⊥) (numbers_of item) → HoldsTitles taken item → is_titled item ≡ true
titled_item taken (regular name current None) there h = titled_one taken name current there.0 h.0
titled_item taken (regular name current (Some former)) there h =
    and_from (not (length current.content == 0)) (not (length former.content == 0)) (titled_one taken name current there.0 h.0) (titled_one taken name former there.1.0 h.1.0)
titled_item taken (virtual name title members) there h = refl

titled_all : (taken : Tables) (items : List (Item (List ℕ))) → AllByRecursion (λ item. AllByRecursion (λ number. editions_numbered (pos number) taken.editions ≡ [] → ⊥) (numbers_of item)) items
    → AllByRecursion (HoldsTitles taken) items → list_all is_titled items ≡ true
titled_all taken [] there h = refl
titled_all taken (item ∷ items) there h = and_from (is_titled item) (list_all is_titled items) (titled_item taken item there.0 h.0) (titled_all taken items there.1 h.1)

are_titled : (version : ℕ) (reader : Reader) (taken : Tables) (M : Catalogue) → HasTaken version reader taken → Stands version taken M → list_all is_titled (items_in reader) ≡ true
are_titled version reader taken M h stands =
    let same : map bare (items_in reader) ≡ map bare M.items = bare_of version reader.installs taken M (items_in reader) stands h.items h.members in
    let P : ℕ → Type 0 = λ number. editions_numbered (pos number) taken.editions ≡ [] → ⊥ in
    let all : AllByRecursion P (edition_numbers M.items) = all_flat_map P numbers_of M.items (all_present taken M.items stands.editions) in
    titled_all taken (items_in reader) (all_flat_map_parts P numbers_of (items_in reader) (subst (AllByRecursion P) (sym (numbers_alike (items_in reader) M.items same)) all)) h.titles

pub finish_refused : (version : ℕ) (reader : Reader) (taken : Tables) (M : Catalogue) → HasTaken version reader taken → Stands version taken M → (reader.installed ≡ reader.installs → list_all is_titled (items_in reader) ≡ true → ⊥) → ⊥
finish_refused version reader taken M h stands refuted = refuted (counts version reader taken M h stands) (are_titled version reader taken M h stands)
