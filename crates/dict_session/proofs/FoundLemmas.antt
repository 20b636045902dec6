-- What the places of databases give, and the databases at them.
use Rattle.std.proofs.Common.{◌≡◌, ◌≢◌, ℕ, zero, suc, ◌+◌, ◌*◌, ◌<◌, ◌≤◌, List, [], ◌∷◌, ◌++◌, Bool, true, false, arith, length, map, take, get_or, refl, sym, ap, ◌∙◌, subst, append-nil, length-append}
use Rattle.std.specs.Prelude.{Option, None, Some, Result, Ok, Err, IfOk, Contains, option_map, slice_get, filter, ◌==◌, ◌&&◌, not, if◌then◌else◌}
use Rattle.std.specs.List.{flat_map, AllByRecursion}
use Rattle.std.specs.Str.{bytes_eq}
use Rattle.std.proofs.lemmas.Bool.{leb-true, eqb-true}
use Rattle.std.proofs.lemmas.Bool.Decides.{nat_tests}
use Rattle.std.proofs.lemmas.List.{length-map, take_more}
use Rattle.std.proofs.lemmas.List.Concat.{flat_map-append}
use Rattle.std.proofs.lemmas.List.Elements.{filter-append}
use Rattle.std.proofs.lemmas.Option.{slice_get-map}
use Rattle.dict_match.specs.declared.strategy.Strategy.{Strategy}
use Rattle.dict_match.specs.declared.strategy.Strategy.TheVariants.{Exact}
use Rattle.dict_text.specs.Names.{is_name, is_title, has_size}
use Rattle.dict_index.specs.Limits.{most_entries}
use Rattle.dict_index.specs.Edition.{Edition, Entry}
use Rattle.dict_index.specs.WellFormed.{IsWellFormedEdition}
use Rattle.dict_catalogue.specs.Items.{Item, Stored, regular, virtual, editions_of, item_as}
use Rattle.dict_catalogue.specs.Steps.{Catalogue, summary_of}
use Rattle.dict_catalogue.specs.WellFormed.{IsWellFormed, IsLawfulItem, HasWellFormedEditions, total}
use Rattle.dict_catalogue.proofs.ListLemmas.{sum_flat_map, sum_append}
use Rattle.dict_index.specs.Found.{found, is_found, distinct, shown_of, headwords, Row, row, row_of}
use Rattle.dict_desk.specs.Shown.{HasEdition, count_of, rows_given}
use Rattle.dict_desk.specs.Asked.{Database, first_finding, definitions_in, matches_in}
use Rattle.dict_desk.specs.declared.lookup.What.{What}
use Rattle.dict_desk.specs.declared.lookup.What.TheVariants.{Entries, Headwords}
use Rattle.dict_proto.specs.Replies.{no_match_octets, definition_count_octets, match_count_octets, list_end_octets, done_octets}
use Rattle.dict_session.specs.Answers.{definition_of, definitions_answer, match_line, matches_answer}
use Rattle.dict_session.specs.Places.{IsHeading}
use Rattle.dict_session.specs.Rows.{row_octets, octets_in, found_count, regular_as, at_place, octets_at_place, count_at, first_counted, count_octets, end_octets, counted_octets, found_octets, giving, IsCounted}
use Rattle.dict_session.specs.declared.found.CountedRows.{CountedRows}
use Rattle.dict_session.specs.declared.query.Query.{Query}
use Rattle.dict_session.specs.declared.asked.Heading.{Heading}

-- ---- the databases at places

abbrev pub at_places : List (Item Edition) → List ℕ → List Database
at_places items places = flat_map (at_place items) places

-- the answer that rows of these databases make
abbrev pub answer_over : Query → List Database → List ℕ
answer_over query dbs =
    if total (found_count query) dbs == 0 then no_match_octets
    else count_octets query.what (total (found_count query) dbs) ++ (flat_map (octets_in query) dbs ++ end_octets query.what)

flat_map-flat_map : {X Y : Type 0} (f : Y → List ℕ) (g : X → List Y) (xs : List X) → flat_map f (flat_map g xs) ≡ flat_map (λ x. flat_map f (g x)) xs
flat_map-flat_map f g [] = refl
flat_map-flat_map f g (x ∷ xs) = flat_map-append f (g x) (flat_map g xs) ∙ ap (λ l. flat_map f (g x) ++ l) (flat_map-flat_map f g xs)

pub found_over : (query : Query) (items : List (Item Edition)) (places : List ℕ) → found_octets query items places ≡ answer_over query (at_places items places)
found_over query items places =
    ap (λ (n : ℕ). if n == 0 then no_match_octets else count_octets query.what n ++ (flat_map (octets_at_place query items) places ++ end_octets query.what)) (sym (sum_flat_map (found_count query) (at_place items) places))
    ∙ ap (λ (l : List ℕ). if total (found_count query) (at_places items places) == 0 then no_match_octets else count_octets query.what (total (found_count query) (at_places items places)) ++ (l ++ end_octets query.what))
    (sym (flat_map-flat_map (octets_in query) (at_place items) places))

-- ---- the first database in which an entry is found

no_headwords : (entries : List Entry) → (length (headwords entries) == 0) ≡ (length entries == 0)
no_headwords [] = refl
no_headwords (entry ∷ entries) =
    let some : (length (headwords (entry ∷ entries)) == 0) ≡ false = grind (arith, nat_tests) in
    let none : (length (entry ∷ entries) == 0) ≡ false = grind (arith, nat_tests) in
    some ∙ sym none

none_found : (what : What) (strategy : Strategy) (key : List ℕ) (edition : Edition) → (count_of what strategy key edition + 0 == 0) ≡ (length (found strategy key edition) == 0)
none_found Entries strategy key edition = let e : length (found strategy key edition) + 0 ≡ length (found strategy key edition) = omega arith in ap (λ n. n == 0) e
none_found Headwords strategy key edition =
    let e : length (headwords (found strategy key edition)) + 0 ≡ length (headwords (found strategy key edition)) = omega arith in
    ap (λ n. n == 0) e ∙ no_headwords (found strategy key edition)

pub first_over : (query : Query) (items : List (Item Edition)) (places : List ℕ) → at_places items (first_counted (count_at query items) places) ≡ first_finding query.strategy query.key (at_places items places)
first_over query items [] = refl
first_over query items (place ∷ places) = by_item (slice_get items place) refl (first_over query items places)
  where
    by_count : (b : Bool) (db : Database) → at_place items place ≡ db ∷ [] → at_places items (first_counted (count_at query items) places) ≡ first_finding query.strategy query.key (at_places items places)
        → at_places items (if b then first_counted (count_at query items) places else place ∷ []) ≡ (if b then first_finding query.strategy query.key (at_places items places) else db ∷ [])
    by_count true db e h = h
    by_count false db e h = ap (λ l. l ++ []) e

    by_item : (o : Option (Item Edition)) → slice_get items place ≡ o → at_places items (first_counted (count_at query items) places) ≡ first_finding query.strategy query.key (at_places items places)
        → at_places items (if count_at query items place == 0 then first_counted (count_at query items) places else place ∷ []) ≡ first_finding query.strategy query.key (at_place items place ++ at_places items places)
    by_item None e h =
        ap (λ (l : List Database). at_places items (if total (found_count query) l == 0 then first_counted (count_at query items) places else place ∷ [])) (ap regular_as e)
        ∙ (h ∙ sym (ap (λ (l : List Database). first_finding query.strategy query.key (l ++ at_places items places)) (ap regular_as e)))
    by_item (Some (virtual name title members)) e h =
        ap (λ (l : List Database). at_places items (if total (found_count query) l == 0 then first_counted (count_at query items) places else place ∷ [])) (ap regular_as e)
        ∙ (h ∙ sym (ap (λ (l : List Database). first_finding query.strategy query.key (l ++ at_places items places)) (ap regular_as e)))
    by_item (Some (regular name current former)) e h =
        let db : Database = record { name = name; edition = current.content } in
        let at : at_place items place ≡ db ∷ [] = ap regular_as e in
        ap (λ (l : List Database). at_places items (if total (found_count query) l == 0 then first_counted (count_at query items) places else place ∷ [])) at
        ∙ (ap (λ (b : Bool). at_places items (if b then first_counted (count_at query items) places else place ∷ [])) (none_found query.what query.strategy query.key current.content)
        ∙ (by_count (length (found query.strategy query.key current.content) == 0) db at h
        ∙ sym (ap (λ (l : List Database). first_finding query.strategy query.key (l ++ at_places items places)) at)))

-- ---- what is found in databases, as definitions and as matches

flat_map-map : {X Y : Type 0} (f : Y → List ℕ) (g : X → Y) (xs : List X) → flat_map f (map g xs) ≡ flat_map (λ x. f (g x)) xs
flat_map-map f g [] = refl
flat_map-map f g (x ∷ xs) = ap (λ l. f (g x) ++ l) (flat_map-map f g xs)

length-flat_map : {X Y : Type 0} (g : X → List Y) (count : X → ℕ) → ((x : X) → length (g x) ≡ count x) → (xs : List X) → length (flat_map g xs) ≡ total count xs
length-flat_map g count same [] = refl
length-flat_map g count same (x ∷ xs) = length-append (g x) (flat_map g xs) ∙ (ap (λ n. n + length (flat_map g xs)) (same x) ∙ ap (λ n. count x + n) (length-flat_map g count same xs))

flat_map-same : {X : Type 0} (f g : X → List ℕ) → ((x : X) → f x ≡ g x) → (xs : List X) → flat_map f xs ≡ flat_map g xs
flat_map-same f g same [] = refl
flat_map-same f g same (x ∷ xs) = ap (λ l. l ++ flat_map f xs) (same x) ∙ ap (λ l. g x ++ l) (flat_map-same f g same xs)

module _ (key : List ℕ) where
  abbrev pub for_definitions : Query
  for_definitions = record { what = Entries; strategy = Exact; key = key }

  definitions_same : (db : Database) → flat_map definition_of (definitions_in key db) ≡ octets_in for_definitions db
  definitions_same db = flat_map-map definition_of _ (found Exact key db.edition) ∙ sym (flat_map-map (row_octets Entries db.name db.edition.title) row_of (found Exact key db.edition))

  definitions_count : (db : Database) → length (definitions_in key db) ≡ found_count for_definitions db
  definitions_count db = length-map (found Exact key db.edition) _

  pub definitions_over : (dbs : List Database) → definitions_answer (flat_map (definitions_in key) dbs) ≡ answer_over for_definitions dbs
  definitions_over dbs =
      ap (λ (n : ℕ). if n == 0 then no_match_octets else count_octets Entries n ++ (flat_map definition_of (flat_map (definitions_in key) dbs) ++ end_octets Entries))
      (length-flat_map (definitions_in key) (found_count for_definitions) definitions_count dbs)
      ∙ ap (λ (l : List ℕ). if total (found_count for_definitions) dbs == 0 then no_match_octets else count_octets Entries (total (found_count for_definitions) dbs) ++ (l ++ end_octets Entries))
      (flat_map-flat_map definition_of (definitions_in key) dbs ∙ flat_map-same _ _ definitions_same dbs)

module _ (strategy : Strategy) (key : List ℕ) where
  abbrev pub for_matches : Query
  for_matches = record { what = Headwords; strategy = strategy; key = key }

  matches_same : (db : Database) → flat_map match_line (matches_in strategy key db) ≡ octets_in for_matches db
  matches_same db = flat_map-map match_line _ (headwords (found strategy key db.edition)) ∙ sym (flat_map-map (row_octets Headwords db.name db.edition.title) (λ shown. row shown []) (headwords (found strategy key db.edition)))

  matches_count : (db : Database) → length (matches_in strategy key db) ≡ found_count for_matches db
  matches_count db = length-map (headwords (found strategy key db.edition)) _

  pub matches_over : (dbs : List Database) → matches_answer (flat_map (matches_in strategy key) dbs) ≡ answer_over for_matches dbs
  matches_over dbs =
      ap (λ (n : ℕ). if n == 0 then no_match_octets else count_octets Headwords n ++ (flat_map match_line (flat_map (matches_in strategy key) dbs) ++ end_octets Headwords))
      (length-flat_map (matches_in strategy key) (found_count for_matches) matches_count dbs)
      ∙ ap (λ (l : List ℕ). if total (found_count for_matches) dbs == 0 then no_match_octets else count_octets Headwords (total (found_count for_matches) dbs) ++ (l ++ end_octets Headwords))
      (flat_map-flat_map match_line (matches_in strategy key) dbs ∙ flat_map-same _ _ matches_same dbs)

-- ---- how many rows a place gives

pub filter_few : {X : Type 0} (p : X → Bool) (xs : List X) → length (filter p xs) ≤ length xs
filter_few p [] = omega arith
filter_few p (x ∷ xs) = by_test (p x) (filter_few p xs)
  where
    by_test : (test : Bool) → length (filter p xs) ≤ length xs → length (if test then x ∷ filter p xs else filter p xs) ≤ suc (length xs)
    by_test true h = omega (arith, h)
    by_test false h = omega (arith, h)

pub distinct_few : (texts : List (List ℕ)) → length (distinct texts) ≤ length texts
distinct_few [] = omega arith
distinct_few (text ∷ texts) = omega (arith, filter_few (λ other. not (bytes_eq other text)) (distinct texts), distinct_few texts)

pub few_rows : (what : What) (strategy : Strategy) (key : List ℕ) (edition : Edition) → IsWellFormedEdition edition → count_of what strategy key edition ≤ most_entries
few_rows Entries strategy key edition w = omega (arith, filter_few (is_found strategy key) edition.entries, w.few)
few_rows Headwords strategy key edition w =
    omega (arith, distinct_few (map shown_of (found strategy key edition)), length-map (found strategy key edition) shown_of, filter_few (is_found strategy key) edition.entries, w.few)

-- an item of a well-formed catalogue
pub item_at : {X : Type 0} (P : X → Type 0) (xs : List X) (k : ℕ) (x : X) → AllByRecursion P xs → slice_get xs k ≡ Some x → P x
item_at P [] k x h e = cc
item_at P (y ∷ xs) zero x h e = let same : y ≡ x = cc in subst P same h.0
item_at P (y ∷ xs) (suc k) x h e = item_at P xs k x h.1 e

pub current_well : (name : List ℕ) (current : Stored Edition) (former : Option (Stored Edition)) → HasWellFormedEditions (regular name current former) → IsWellFormedEdition current.content
current_well name current None h = h.0
current_well name current (Some other) h = h.0

count_few : (query : Query) (M : Catalogue) (place : ℕ) → IsWellFormed M → count_at query M.items place ≤ most_entries
count_few query M place w = by_item (slice_get M.items place) refl
  where
    by_item : (o : Option (Item Edition)) → slice_get M.items place ≡ o → total (found_count query) (regular_as o) ≤ most_entries
    by_item None e = omega arith
    by_item (Some (virtual name title members)) e = omega arith
    by_item (Some (regular name current former)) e =
        omega (arith, few_rows query.what query.strategy query.key current.content (current_well name current former (item_at HasWellFormedEditions M.items place (regular name current former) w.editions e)))

pub counts_few : (query : Query) (M : Catalogue) (places : List ℕ) → IsWellFormed M → total (count_at query M.items) places ≤ most_entries * length places
counts_few query M [] w = omega arith
counts_few query M (place ∷ places) w = omega (arith, count_few query M place w, counts_few query M places w)

-- ---- an edition that stands at a place

current_stored : (name : List ℕ) (current : Stored Edition) (former : Option (Stored Edition)) → Contains (editions_of (regular name current former)) current
current_stored name current None = (0, omega arith, refl)
current_stored name current (Some other) = (0, omega arith, refl)

stands_at : {X : Type 0} (xs : List X) (k : ℕ) (x : X) → slice_get xs k ≡ Some x → Contains xs x
stands_at [] k x e = cc
stands_at (y ∷ xs) zero x e = (0, omega arith, cc)
stands_at (y ∷ xs) (suc k) x e = let (j, below, is) = stands_at xs k x e in (suc j, omega (arith, below), is)

pub has_current : (M : Catalogue) (place : ℕ) (name : List ℕ) (current : Stored Edition) (former : Option (Stored Edition)) → slice_get M.items place ≡ Some (regular name current former)
    → HasEdition M current.number current.content
has_current M place name current former e = record {
  item = regular name current former;
  stands = stands_at M.items place (regular name current former) e;
  stored = current_stored name current former;
}

shown_item : (M : Catalogue) (place : ℕ) → slice_get (summary_of M).items place ≡ option_map (item_as (λ (edition : Edition). edition.title)) (slice_get M.items place)
shown_item M place = slice_get-map (item_as (λ (edition : Edition). edition.title)) M.items place

none_more : {E : Type 0} (r : Result ℕ E) (n : ℕ) → IfOk r (λ k. k ≡ n) → IfOk r (λ k. k ≡ n + 0)
none_more (Ok k) n e = omega (arith, e)
none_more (Err fault) n e = e

pub both_true : (a b : Bool) → (a && b) ≡ true → (a ≡ true) × (b ≡ true)
both_true true b e = (refl, e)
both_true false b e = cc

pub sized : (most : ℕ) (text : List ℕ) → has_size most text ≡ true → length text ≤ most
sized most text e = leb-true (length text) most (both_true _ _ e).1

name_few : (name : List ℕ) → is_name name ≡ true → length name ≤ 32
unfolding is_name
name_few name e = sized 32 name (both_true _ _ (both_true _ _ e).0).0

title_few : (title : List ℕ) → is_title title ≡ true → length title ≤ 200
unfolding is_title
title_few title e = sized 200 title (both_true _ _ (both_true _ _ (both_true _ _ e).0).0).0

module _ (M : Catalogue) (place : ℕ) where
  pub count_here : {E : Type 0} (query : Query) (heading : Heading) (r : Result ℕ E) → IsHeading (Some heading) (slice_get (summary_of M).items place)
      → ((edition : Edition) → HasEdition M heading.number edition → IfOk r (λ n. n ≡ count_of query.what query.strategy query.key edition)) → IfOk r (λ n. n ≡ count_at query M.items place)
  count_here query heading r is told = by_item (slice_get M.items place) refl (subst (IsHeading (Some heading)) (shown_item M place) is)
    where
      by_item : (o : Option (Item Edition)) → slice_get M.items place ≡ o → IsHeading (Some heading) (option_map (item_as (λ (edition : Edition). edition.title)) o)
          → IfOk r (λ n. n ≡ total (found_count query) (regular_as o))
      by_item None e h = absurd h
      by_item (Some (virtual name title members)) e h = absurd h
      by_item (Some (regular name current former)) e h =
          none_more r (count_of query.what query.strategy query.key current.content) (told current.content (subst (λ (n : ℕ). HasEdition M n current.content) (sym h.0) (has_current M place name current former e)))

  pub nothing_here : IsHeading None (slice_get (summary_of M).items place) → at_place M.items place ≡ []
  nothing_here is = by_item (slice_get M.items place) (subst (IsHeading None) (shown_item M place) is)
    where
      by_item : (o : Option (Item Edition)) → IsHeading None (option_map (item_as (λ (edition : Edition). edition.title)) o) → regular_as o ≡ []
      by_item None h = refl
      by_item (Some (virtual name title members)) h = refl
      by_item (Some (regular name current former)) h = absurd h

  -- what a heading heads
  pub rows_here : (query : Query) (heading : Heading) (P : List ℕ → Type 0) → IsWellFormed M → IsHeading (Some heading) (slice_get (summary_of M).items place)
      → ((edition : Edition) → HasEdition M heading.number edition → P (flat_map (row_octets query.what heading.name.bytes heading.title.bytes) (rows_given query.what query.strategy query.key edition)))
      → P (octets_at_place query M.items place)
  rows_here query heading P w is told = by_item (slice_get M.items place) refl (subst (IsHeading (Some heading)) (shown_item M place) is)
    where
      by_item : (o : Option (Item Edition)) → slice_get M.items place ≡ o → IsHeading (Some heading) (option_map (item_as (λ (edition : Edition). edition.title)) o)
          → P (flat_map (octets_in query) (regular_as o))
      by_item None e h = absurd h
      by_item (Some (virtual name title members)) e h = absurd h
      by_item (Some (regular name current former)) e h =
          let rows = rows_given query.what query.strategy query.key current.content in
          let well = current_well name current former (item_at HasWellFormedEditions M.items place (regular name current former) w.editions e) in
          let same_name : heading.name.bytes ≡ name = h.1 (name_few name (item_at IsLawfulItem M.items place (regular name current former) w.items e)) in
          let same_title : heading.title.bytes ≡ current.content.title = h.2 (title_few current.content.title well.title.1) in
          let told_here = told current.content (subst (λ (n : ℕ). HasEdition M n current.content) (sym h.0) (has_current M place name current former e)) in
          subst P (ap (λ (n : List ℕ). flat_map (row_octets query.what n heading.title.bytes) rows) same_name
          ∙ (ap (λ (t : List ℕ). flat_map (row_octets query.what name t) rows) same_title ∙ sym (append-nil (flat_map (row_octets query.what name current.content.title) rows)))) told_here

-- ---- one place after another

pub sum_more : {X : Type 0} (f : X → ℕ) (xs : List X) (i : ℕ) (d : X) → i < length xs → total f (take (i + 1) xs) ≡ total f (take i xs) + f (get_or xs i d)
sum_more f xs i d lt = ap (total f) (take_more xs i d lt) ∙ (sum_append f (take i xs) (get_or xs i d ∷ []) ∙ (let e : f (get_or xs i d) + 0 ≡ f (get_or xs i d) = omega arith in ap (λ n. total f (take i xs) + n) e))

pub first_here : (count : ℕ → ℕ) (xs : List ℕ) (place : ℕ) (rest target : List ℕ) → xs ≡ place ∷ rest → count place ≢ 0 → first_counted count xs ≡ target → place ∷ [] ≡ target
first_here count xs place rest target e some h =
    let test : (count place == 0) ≡ false = grind (arith, nat_tests, some) in
    sym (ap (λ b. if b then first_counted count rest else place ∷ []) test) ∙ (sym (ap (first_counted count) e) ∙ h)

pub first_later : (count : ℕ → ℕ) (xs : List ℕ) (place : ℕ) (rest target : List ℕ) → xs ≡ place ∷ rest → count place ≡ 0 → first_counted count xs ≡ target → first_counted count rest ≡ target
first_later count xs place rest target e none h =
    let test : (count place == 0) ≡ true = grind (arith, nat_tests, none) in
    sym (ap (λ b. if b then first_counted count rest else place ∷ []) test) ∙ (sym (ap (first_counted count) e) ∙ h)

-- ---- the places that give rows

no_elements : {X : Type 0} (xs : List X) → length xs ≡ 0 → xs ≡ []
no_elements [] e = refl
no_elements (x ∷ xs) e = cc

-- a database of which nothing is counted gives no rows
none_by : (what : What) (strategy : Strategy) (key : List ℕ) (edition : Edition) → count_of what strategy key edition ≡ 0 → rows_given what strategy key edition ≡ []
none_by Entries strategy key edition e = no_elements (map row_of (found strategy key edition)) (length-map (found strategy key edition) row_of ∙ e)
none_by Headwords strategy key edition e =
    let shown = headwords (found strategy key edition) in
    no_elements (map (λ (text : List ℕ). row text []) shown) (length-map shown (λ (text : List ℕ). row text []) ∙ e)

none_at : (query : Query) (items : List (Item Edition)) (place : ℕ) → count_at query items place ≡ 0 → octets_at_place query items place ≡ []
none_at query items place e = by_item (slice_get items place) e
  where
    by_item : (o : Option (Item Edition)) → total (found_count query) (regular_as o) ≡ 0 → flat_map (octets_in query) (regular_as o) ≡ []
    by_item None f = refl
    by_item (Some (virtual name title members)) f = refl
    by_item (Some (regular name current former)) f =
        ap (λ (rows : List Row). flat_map (row_octets query.what name current.content.title) rows ++ []) (none_by query.what query.strategy query.key current.content (omega (arith, f)))

-- the places that give rows give all of them
pub giving_all : (query : Query) (items : List (Item Edition)) (places : List ℕ) → flat_map (octets_at_place query items) (giving query items places) ≡ flat_map (octets_at_place query items) places
giving_all query items [] = refl
giving_all query items (place ∷ places) = by_test (count_at query items place == 0) refl (giving_all query items places)
  where
    by_test : (b : Bool) → (count_at query items place == 0) ≡ b → flat_map (octets_at_place query items) (giving query items places) ≡ flat_map (octets_at_place query items) places
        → flat_map (octets_at_place query items) (if not b then place ∷ giving query items places else giving query items places) ≡ octets_at_place query items place ++ flat_map (octets_at_place query items) places
    by_test true e h = h ∙ ap (λ (octets : List ℕ). octets ++ flat_map (octets_at_place query items) places) (sym (none_at query items place (eqb-true (count_at query items place) 0 e)))
    by_test false e h = ap (λ (octets : List ℕ). octets_at_place query items place ++ octets) h

-- the places that give rows, with one place more
pub giving_more : (query : Query) (items : List (Item Edition)) (places : List ℕ) (i count : ℕ) → i < length places → count ≡ count_at query items (get_or places i 0)
    → giving query items (take (i + 1) places) ≡ giving query items (take i places) ++ (if count == 0 then [] else get_or places i 0 ∷ [])
giving_more query items places i count lt is =
    ap (giving query items) (take_more places i 0 lt)
    ∙ (filter-append (λ place. not (count_at query items place == 0)) (take i places) (get_or places i 0 ∷ []) ∙ ap (λ l. giving query items (take i places) ++ l) (by_test (count == 0) refl))
  where
    by_test : (b : Bool) → (count == 0) ≡ b → (if not (count_at query items (get_or places i 0) == 0) then get_or places i 0 ∷ [] else []) ≡ (if b then [] else get_or places i 0 ∷ [])
    by_test b e = ap (λ n. if not (n == 0) then get_or places i 0 ∷ [] else []) (sym is) ∙ (ap (λ t. if not t then get_or places i 0 ∷ [] else []) e ∙ turned b)
      where
        turned : (t : Bool) → (if not t then get_or places i 0 ∷ [] else []) ≡ (if t then [] else get_or places i 0 ∷ [])
        turned true = refl
        turned false = refl

-- the first place that gives rows is one that does
pub giving_first : (query : Query) (items : List (Item Edition)) (place : ℕ) → count_at query items place ≢ 0 → place ∷ [] ≡ giving query items (place ∷ [])
giving_first query items place some =
    let test : (count_at query items place == 0) ≡ false = grind (arith, nat_tests, some) in
    sym (ap (λ b. if not b then place ∷ [] else []) test)

-- ---- an answer by its count

module _ (query : Query) (items : List (Item Edition)) (all : List ℕ) (counted : CountedRows) (is : IsCounted query items all counted) where
  pub found_none : counted.count ≡ 0 → no_match_octets ≡ found_octets query items all
  found_none e =
      let test : (total (count_at query items) all == 0) ≡ true = grind (arith, nat_tests, e, is.count) in
      sym (ap (λ b. if b then no_match_octets else counted_octets query items all (total (count_at query items) all)) test)

  pub found_some : counted.count ≢ 0 → counted_octets query items counted.places.items counted.count ≡ found_octets query items all
  found_some some =
      let test : (total (count_at query items) all == 0) ≡ false = grind (arith, nat_tests, some, is.count) in
      ap (λ (octets : List ℕ). count_octets query.what counted.count ++ (octets ++ end_octets query.what)) (ap (flat_map (octets_at_place query items)) is.places ∙ giving_all query items all)
      ∙ (ap (counted_octets query items all) is.count ∙ sym (ap (λ b. if b then no_match_octets else counted_octets query items all (total (count_at query items) all)) test))

-- ---- the lines before and after the rows

pub count_some : (what : What) (count : ℕ) → 0 < length (count_octets what count)
unfolding definition_count_octets match_count_octets
count_some Entries count = omega arith
count_some Headwords count = omega arith

pub end_some : (what : What) → 0 < length (end_octets what)
unfolding done_octets list_end_octets
end_some Entries = omega arith
end_some Headwords = omega arith
