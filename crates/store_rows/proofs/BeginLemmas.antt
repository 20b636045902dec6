-- What a reader begins with, and when no catalogue has it.
use Rattle.std.proofs.Common.{◌≡◌, ℕ, true, false, ◌&&◌, inl, List, [], ◌∷◌, refl, ap, sym, subst, ◌∙◌, arith, Some, None}
use Rattle.std.specs.Prelude.{map, IsTrue}
use Rattle.std.specs.List.{AllByRecursion, list_all}
use Rattle.std.proofs.lemmas.Bool.{false≢true}
use Rattle.store_tables.specs.Records as spec
use Rattle.dict_index.specs.Edition.{Edition}
use Rattle.dict_catalogue.specs.Items.{Item, regular, virtual, is_known}
use Rattle.dict_catalogue.specs.Steps.{Catalogue}
use Rattle.dict_catalogue.specs.WellFormed.{IsWellFormed}
use Rattle.store_rows.specs.Tables.{Tables}
use Rattle.store_rows.specs.Written.{numbered, mark_record, item_record}
use Rattle.store_rows.specs.Stands.{HoldsMembers, Stands}
use Rattle.store_rows.specs.Tests.{has_lawful_items}
use Rattle.store_rows.specs.Given.{AreRead, IsUnread}
use Rattle.store_rows.specs.Taken.{StandsForNone, begun, HoldsTitles, items_in, HasTaken}
use Rattle.store_rows.specs.declared.reader.Reader.{Reader}
use Rattle.store_rows.proofs.OnceLemmas.{head_same}
use Rattle.store_rows.proofs.LawfulLemmas.{bare, pos_same, items_bare, lawful_alike, known_alike, each_itself, itself_each, AreLawful, true_lawful}

pub is_lawful : (M : Catalogue) → IsWellFormed M → AreLawful M.installs M.items
is_lawful M h = record { limit = h.item_limit; lawful = h.items; names = h.names; members = h.members; range = h.edition_range; once = h.edition_once }

-- the items that were read are those of the catalogue, whatever is kept of the editions
pub bare_of : {A : Type 0} (version installs : ℕ) (tables : Tables) (M : Catalogue) (items : List (Item A)) → Stands version tables M →
    tables.items ≡ numbered item_record 0 items → AllByRecursion (HoldsMembers tables.members) items → map bare items ≡ map bare M.items
bare_of version installs tables M items stands are held = items_bare 0 tables.members items M.items (sym are ∙ stands.items) held stands.members

pub installs_of : (version installs : ℕ) (tables : Tables) (M : Catalogue) → Stands version tables M → tables.marks ≡ mark_record version installs ∷ [] → installs ≡ M.installs
installs_of version installs tables M stands marks = pos_same _ _ (ap (λ (r : spec.Mark). r.installs) (head_same _ _ _ _ (sym marks ∙ stands.marks)))

known_weaker : {A : Type 0} (xs : List (Item A)) (ys : List (Item Edition)) → map bare xs ≡ map bare ys → (rows : List spec.Member) → AllByRecursion (λ row. IsTrue (is_known ys row.owner)) rows
    → AllByRecursion (λ row. is_known xs row.owner ≡ true) rows
known_weaker xs ys e [] h = tt
known_weaker xs ys e (row ∷ rows) h = (known_alike xs ys row.owner e ∙ h.0, known_weaker xs ys e rows h.1)

pub begun_refused : (version installs : ℕ) (marks : List spec.Mark) (rows : List spec.ItemRecord) (members : List spec.Member) (items : List (Item (List ℕ))) →
    marks ≡ mark_record version installs ∷ [] → AreRead 0 rows members items → (has_lawful_items installs items && list_all (λ row. is_known items row.owner) members) ≡ false → StandsForNone version (begun marks rows members)
begun_refused version installs marks rows members items told read refused tables M goes stands =
    let held : AllByRecursion (HoldsMembers tables.members) items = subst (λ (ms : List spec.Member). AllByRecursion (HoldsMembers ms) items) (sym goes.members) read.held in
    let same : map bare items ≡ map bare M.items = bare_of version installs tables M items stands (goes.items ∙ read.are) held in
    let count : installs ≡ M.installs = installs_of version installs tables M stands (goes.marks ∙ told) in
    let lawful : has_lawful_items installs items ≡ true = ap (λ n. has_lawful_items n items) count ∙ lawful_alike M.installs items M.items same ∙ true_lawful M.installs M.items (is_lawful M stands.well_formed) in
    let owned : list_all (λ (row : spec.Member). is_known items row.owner) members ≡ true =
    subst (λ (ms : List spec.Member). list_all (λ (row : spec.Member). is_known items row.owner) ms ≡ true) goes.members
    (itself_each (λ (row : spec.Member). is_known items row.owner) tables.members (known_weaker items M.items same tables.members stands.owners)) in
    false≢true (sym refused ∙ (λ i. lawful i && owned i))

titles_unread : (marks : List spec.Mark) (rows : List spec.ItemRecord) (members : List spec.Member) (item : Item (List ℕ)) → IsUnread item → HoldsTitles (begun marks rows members) item
titles_unread marks rows members (regular name current None) h = (inl (h.0, (refl, refl)), tt)
titles_unread marks rows members (regular name current (Some former)) h = (inl (h.0, (refl, refl)), (inl (h.1.0, (refl, refl)), tt))
titles_unread marks rows members (virtual name title names) h = tt

all_unread : (marks : List spec.Mark) (rows : List spec.ItemRecord) (members : List spec.Member) (items : List (Item (List ℕ))) → AllByRecursion IsUnread items → AllByRecursion (HoldsTitles (begun marks rows members)) items
all_unread marks rows members [] h = tt
all_unread marks rows members (item ∷ items) h = (titles_unread marks rows members item h.0, all_unread marks rows members items h.1)

pub begun_taken : (version : ℕ) (reader : Reader) (marks : List spec.Mark) (rows : List spec.ItemRecord) (members : List spec.Member) → marks ≡ mark_record version reader.installs ∷ [] → AreRead 0 rows members (items_in reader) →
    has_lawful_items reader.installs (items_in reader) ≡ true → list_all (λ row. is_known (items_in reader) row.owner) members ≡ true → reader.edition ≡ None → reader.accepted ≡ 0 → reader.installed ≡ 0 →
    HasTaken version reader (begun marks rows members)
begun_taken version reader marks rows members told read lawful owned none zero zero' = record {
  marks = told;
  items = read.are;
  members = read.held;
  owners = each_itself (λ (row : spec.Member). is_known (items_in reader) row.owner) members owned;
  lawful = lawful;
  titles = all_unread marks rows members (items_in reader) read.unread;
  numbers = tt;
  entries = tt;
  hand = subst (λ hand. Rattle.store_rows.specs.Taken.IsInHand hand (begun marks rows members)) (sym none) refl;
  kept = record { replies = []; are = refl; lawful = tt; numbered = tt; many = sym zero; few = omega arith; installs = sym zero' };
}
