-- Tables stand for one catalogue at most.
use Rattle.std.proofs.Common.{◌≡◌, ℕ, ◌+◌, ◌*◌, false, List, [], ◌∷◌, length, refl, ap, sym, ◌∙◌, subst, Option, Some, None, get_or, eqb, eq-eqb}
use Rattle.std.proofs.lemmas.Bool.{false≢true}
use Rattle.std.specs.Prelude.{pos, map, option_map}
use Rattle.std.specs.List.{AllByRecursion}
use Rattle.store_tables.specs.Records.{Mark, ItemRecord, Member, EditionRecord, EntryRecord, KeptRecord}
use Rattle.dict_index.specs.Line.{Line}
use Rattle.dict_index.specs.Edition.{Edition, ReadEdition, edition_of}
use Rattle.dict_catalogue.specs.Items.{Stored, Item, regular, virtual, editions_of}
use Rattle.dict_catalogue.specs.Steps.{KeptFor, Catalogue}
use Rattle.dict_catalogue.specs.declared.reply.Verb.{Verb}
use Rattle.dict_catalogue.specs.declared.reply.Verb.TheVariants.{Install, Rollback, Retire, Virtual, Place}
use Rattle.store_rows.specs.Tables.{Tables}
use Rattle.store_rows.specs.Written.{numbered, item_record, member_record, edition_record, entry_record, verb_name, kept_record}
use Rattle.store_rows.specs.Stands.{HoldsMembers, HoldsEdition, HoldsEditions, Stands}

-- lists

pub head_same : {X : Type 0} (x y : X) (xs ys : List X) → x ∷ xs ≡ y ∷ ys → x ≡ y
head_same x y xs ys e = cc

pub tail_same : {X : Type 0} (x y : X) (xs ys : List X) → x ∷ xs ≡ y ∷ ys → xs ≡ ys
tail_same x y xs ys e = cc

pub numbered_same : {X Y : Type 0} (f : ℕ → X → Y) → ((n : ℕ) (x y : X) → f n x ≡ f n y → x ≡ y) → (n : ℕ) (xs ys : List X) → numbered f n xs ≡ numbered f n ys → xs ≡ ys
numbered_same f same n [] [] e = refl
numbered_same f same n [] (y ∷ ys) e = cc
numbered_same f same n (x ∷ xs) [] e = cc
numbered_same f same n (x ∷ xs) (y ∷ ys) e =
    let first : x ≡ y = same n x y (head_same _ _ _ _ e) in
    let rest : xs ≡ ys = numbered_same f same (n + 1) xs ys (tail_same _ _ _ _ e) in
    λ i. first i ∷ rest i

pub map_same : {X Y : Type 0} (f : X → Y) → ((x y : X) → f x ≡ f y → x ≡ y) → (xs ys : List X) → map f xs ≡ map f ys → xs ≡ ys
map_same f same [] [] e = refl
map_same f same [] (y ∷ ys) e = cc
map_same f same (x ∷ xs) [] e = cc
map_same f same (x ∷ xs) (y ∷ ys) e =
    let first : x ≡ y = same x y (head_same _ _ _ _ e) in
    let rest : xs ≡ ys = map_same f same xs ys (tail_same _ _ _ _ e) in
    λ i. first i ∷ rest i

-- records

pos_same : (m n : ℕ) → pos m ≡ pos n → m ≡ n
pos_same m n e = cc

some_same : {X : Type 0} (x y : X) → Some x ≡ Some y → x ≡ y
some_same x y e = cc

pub line_same : (number n : ℕ) (x y : Line) → entry_record number n x ≡ entry_record number n y → x ≡ y
line_same number n x y e = λ i. record {
  headword = ap (λ (r : EntryRecord). r.headword) e i;
  offset = pos_same x.offset y.offset (ap (λ (r : EntryRecord). r.start) e) i;
  size = pos_same x.size y.size (ap (λ (r : EntryRecord). r.length) e) i;
  shown = ap (λ (r : EntryRecord). r.shown) e i;
}

pub reading_same : (owner : List ℕ) (number : ℕ) (x y : ReadEdition) → edition_record owner number x ≡ edition_record owner number y → x.lines ≡ y.lines → x ≡ y
reading_same owner number x y e lines = λ i. record {
  title = ap (λ (r : EditionRecord). r.title) e i;
  info = ap (λ (r : EditionRecord). r.info) e i;
  text = ap (λ (r : EditionRecord). r.body) e i;
  lines = lines i;
}

number_same : (x y : Option ℕ) → option_map pos x ≡ option_map pos y → x ≡ y
number_same None None e = refl
number_same None (Some n) e = cc
number_same (Some m) None e = cc
number_same (Some m) (Some n) e = ap Some (pos_same m n (some_same _ _ e))

-- two texts that differ in length or at the front
mark_of : List ℕ → ℕ
mark_of text = 1000 * length text + get_or text 0 0

unlike : {P : Type 0} (x y : List ℕ) → eqb (mark_of x) (mark_of y) ≡ false → x ≡ y → P
unlike x y apart e = absurd (false≢true (sym apart ∙ eq-eqb (mark_of x) (mark_of y) (ap mark_of e)))

verb_same : (x y : Verb) → verb_name x ≡ verb_name y → x ≡ y
unfolding mark_of
verb_same Install Install e = refl
verb_same Install Rollback e = unlike (verb_name Install) (verb_name Rollback) refl e
verb_same Install Retire e = unlike (verb_name Install) (verb_name Retire) refl e
verb_same Install Virtual e = unlike (verb_name Install) (verb_name Virtual) refl e
verb_same Install Place e = unlike (verb_name Install) (verb_name Place) refl e
verb_same Rollback Install e = unlike (verb_name Rollback) (verb_name Install) refl e
verb_same Rollback Rollback e = refl
verb_same Rollback Retire e = unlike (verb_name Rollback) (verb_name Retire) refl e
verb_same Rollback Virtual e = unlike (verb_name Rollback) (verb_name Virtual) refl e
verb_same Rollback Place e = unlike (verb_name Rollback) (verb_name Place) refl e
verb_same Retire Install e = unlike (verb_name Retire) (verb_name Install) refl e
verb_same Retire Rollback e = unlike (verb_name Retire) (verb_name Rollback) refl e
verb_same Retire Retire e = refl
verb_same Retire Virtual e = unlike (verb_name Retire) (verb_name Virtual) refl e
verb_same Retire Place e = unlike (verb_name Retire) (verb_name Place) refl e
verb_same Virtual Install e = unlike (verb_name Virtual) (verb_name Install) refl e
verb_same Virtual Rollback e = unlike (verb_name Virtual) (verb_name Rollback) refl e
verb_same Virtual Retire e = unlike (verb_name Virtual) (verb_name Retire) refl e
verb_same Virtual Virtual e = refl
verb_same Virtual Place e = unlike (verb_name Virtual) (verb_name Place) refl e
verb_same Place Install e = unlike (verb_name Place) (verb_name Install) refl e
verb_same Place Rollback e = unlike (verb_name Place) (verb_name Rollback) refl e
verb_same Place Retire e = unlike (verb_name Place) (verb_name Retire) refl e
verb_same Place Virtual e = unlike (verb_name Place) (verb_name Virtual) refl e
verb_same Place Place e = refl

pub kept_same : (x y : KeptFor) → kept_record x ≡ kept_record y → x ≡ y
kept_same x y e =
    let numbers : x.reply.number ≡ y.reply.number = pos_same _ _ (ap (λ (r : KeptRecord). r.number) e) in
    let verbs : x.reply.verb ≡ y.reply.verb = verb_same _ _ (ap (λ (r : KeptRecord). r.verb) e) in
    let editions : x.reply.edition ≡ y.reply.edition = number_same _ _ (ap (λ (r : KeptRecord). r.edition) e) in
    λ i. record {
      id = ap (λ (r : KeptRecord). r.id) e i;
      reply = record { number = numbers i; verb = verbs i; name = ap (λ (r : KeptRecord). r.name) e i; edition = editions i };
    }

-- an edition, an item, all items

content_same : (tables : Tables) (owner : List ℕ) (x y : Stored Edition) → x.number ≡ y.number → HoldsEdition tables owner x → HoldsEdition tables owner y → x ≡ y
content_same tables owner x y n a b =
    let moved : HoldsEdition tables owner (record { number = x.number; content = y.content }) =
    subst (λ (k : ℕ). HoldsEdition tables owner (record { number = k; content = y.content })) (sym n) b in
    let lines : a.reading.lines ≡ moved.reading.lines = numbered_same (entry_record x.number) (line_same x.number) 0 a.reading.lines moved.reading.lines (sym a.entries ∙ moved.entries) in
    let read : a.reading ≡ moved.reading = reading_same owner x.number a.reading moved.reading (head_same _ _ _ _ (sym a.row ∙ moved.row)) lines in
    let said : x.content ≡ y.content = a.says ∙ ap edition_of read ∙ sym moved.says in
    λ i. record { number = n i; content = said i }

former_same : (tables : Tables) (owner : List ℕ) (x y : Option (Stored Edition)) (c d : Stored Edition) →
    option_map (λ stored. pos stored.number) x ≡ option_map (λ stored. pos stored.number) y →
    AllByRecursion (HoldsEdition tables owner) (editions_of (regular owner c x)) → AllByRecursion (HoldsEdition tables owner) (editions_of (regular owner d y)) → x ≡ y
former_same tables owner None None c d e a b = refl
former_same tables owner None (Some y) c d e a b = cc
former_same tables owner (Some x) None c d e a b = cc
former_same tables owner (Some x) (Some y) c d e a b = ap Some (content_same tables owner x y (pos_same _ _ (some_same _ _ e)) a.1.0 b.1.0)

current_holds : (tables : Tables) (name : List ℕ) (current : Stored Edition) (former : Option (Stored Edition)) → HoldsEditions tables (regular name current former) → HoldsEdition tables name current
current_holds tables name current None h = h.0
current_holds tables name current (Some former) h = h.0

item_same : (tables : Tables) (place : ℕ) (x y : Item Edition) → item_record place x ≡ item_record place y → HoldsMembers tables.members x → HoldsMembers tables.members y → HoldsEditions tables x → HoldsEditions tables y → x ≡ y
item_same tables place (regular m c f) (regular n d g) e hm hn a b =
    let names : m ≡ n = ap (λ (r : ItemRecord). r.name) e in
    let there : HoldsEditions tables (regular m d g) = subst (λ (name : List ℕ). HoldsEditions tables (regular name d g)) (sym names) b in
    let numbers : c.number ≡ d.number = pos_same _ _ (some_same _ _ (ap (λ (r : ItemRecord). r.current) e)) in
    let currents : c ≡ d = content_same tables m c d numbers (current_holds tables m c f a) (current_holds tables m d g there) in
    let formers : f ≡ g = former_same tables m f g c d (ap (λ (r : ItemRecord). r.former) e) a there in
    λ i. regular (names i) (currents i) (formers i)
item_same tables place (regular m c f) (virtual n t ms) e hm hn a b = absurd (let kinds : pos 0 ≡ pos 1 = ap (λ (r : ItemRecord). r.kind) e in cc)
item_same tables place (virtual m t ms) (regular n d g) e hm hn a b = absurd (let kinds : pos 1 ≡ pos 0 = ap (λ (r : ItemRecord). r.kind) e in cc)
item_same tables place (virtual m s ls) (virtual n t ms) e hm hn a b =
    let names : m ≡ n = ap (λ (r : ItemRecord). r.name) e in
    let titles : s ≡ t = some_same _ _ (ap (λ (r : ItemRecord). r.title) e) in
    let there : HoldsMembers {A = Edition} tables.members (virtual m t ms) = subst (λ (name : List ℕ). HoldsMembers {A = Edition} tables.members (virtual name t ms)) (sym names) hn in
    let members : ls ≡ ms = numbered_same (member_record m) (λ k x y h. ap (λ (r : Member). r.name) h) 0 ls ms (sym hm ∙ there) in
    λ i. virtual (names i) (titles i) (members i)

items_same : (tables : Tables) (place : ℕ) (xs ys : List (Item Edition)) → numbered item_record place xs ≡ numbered item_record place ys →
    AllByRecursion (HoldsMembers tables.members) xs → AllByRecursion (HoldsMembers tables.members) ys → AllByRecursion (HoldsEditions tables) xs → AllByRecursion (HoldsEditions tables) ys → xs ≡ ys
items_same tables place [] [] e hm hn a b = refl
items_same tables place [] (y ∷ ys) e hm hn a b = cc
items_same tables place (x ∷ xs) [] e hm hn a b = cc
items_same tables place (x ∷ xs) (y ∷ ys) e hm hn a b =
    let first : x ≡ y = item_same tables place x y (head_same _ _ _ _ e) hm.0 hn.0 a.0 b.0 in
    let rest : xs ≡ ys = items_same tables (place + 1) xs ys (tail_same _ _ _ _ e) hm.1 hn.1 a.1 b.1 in
    λ i. first i ∷ rest i

pub catalogue_same : (version : ℕ) (tables : Tables) (M N : Catalogue) → Stands version tables M → Stands version tables N → M ≡ N
catalogue_same version tables M N a b =
    let items : M.items ≡ N.items = items_same tables 0 M.items N.items (sym a.items ∙ b.items) a.members b.members a.editions b.editions in
    let kept : M.kept ≡ N.kept = map_same kept_record kept_same M.kept N.kept (sym a.kept ∙ b.kept) in
    let installs : M.installs ≡ N.installs = pos_same _ _ (ap (λ (r : Mark). r.installs) (head_same _ _ _ _ (sym a.marks ∙ b.marks))) in
    λ i. record { items = items i; kept = kept i; installs = installs i }
