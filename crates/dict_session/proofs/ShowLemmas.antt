-- The answers to SHOW, STATUS and HELP as replies, one after the other, and over a catalogue's summary.
use Rattle.std.proofs.Common.{◌≡◌, ◌≢◌, ℕ, suc, List, [], ◌∷◌, ◌++◌, Bor, Bool, true, false, ◌&&◌, refl, sym, ap, ◌∙◌, append-nil, append_assoc, ◌+◌, ◌<◌, length, map, take, drop, get_or, take-append-drop, arith, subst}
use Rattle.std.proofs.Common.{inl, inr, length-append}
use Rattle.std.specs.Prelude.{Option, None, Some, Result, Ok, Err, find, option_map, ◌==◌, Contains, if◌then◌else◌}
use Rattle.std.specs.List.{flat_map}
use Rattle.std.specs.Str.{bytes_eq}
use Rattle.std.proofs.lemmas.Bool.Decides.{nat_tests}
use Rattle.std.proofs.lemmas.List.{length-map, get_or-map, take_more}
use Rattle.dict_session.proofs.PlaceLemmas.{read_at}
use Rattle.std.proofs.lemmas.List.Concat.{flat_map-append}
use Rattle.dict_proto.specs.Streams.{Stream, PutsAll, PutsFront}
use Rattle.dict_proto.proofs.PutLemmas.{all_after, front_after, front_longer}
use Rattle.dict_index.specs.Edition.{Edition}
use Rattle.dict_catalogue.specs.Items.{Item, Stored, regular, virtual, is_named, item_as, editions_of}
use Rattle.dict_catalogue.specs.Steps.{Catalogue, summary_of}
use Rattle.dict_desk.specs.Asked.{Database, databases_named}
use Rattle.dict_index.specs.Found.{Row, info_rows, row}
use Rattle.dict_desk.specs.Shown.{HasEdition}
use Rattle.dict_proto.specs.declared.reply.Reply.TheVariants.{Help, ServerInformation, Done}
use Rattle.dict_proto.specs.Replies.{reply_octets, list_end_octets, done_octets, invalid_database_octets, info_heading_octets, info_text_octets, no_databases_octets, database_count_octets, unavailable_octets, status_octets}
use Rattle.dict_session.specs.Answers.{AnswerNeed, no_rows, one_row}
use Rattle.dict_session.specs.Through.{has_edition}
use Rattle.dict_session.specs.Ending.{PutsBeginning, PutsAnswer}
use Rattle.dict_session.specs.declared.step.LineAnswer.{LineAnswer}
use Rattle.dict_session.specs.declared.step.LineAnswer.TheVariants.{Whole, Unavailable}
use Rattle.dict_session.specs.declared.step.PutFault.{PutFault}
use Rattle.dict_session.specs.declared.step.PutFault.TheVariants.{Sink, Desk}
use Rattle.dict_desk.specs.Faults.{IsOfLookup, is_failure}
use Rattle.dict_desk.specs.declared.fault.Fault.{Fault}
use Rattle.dict_desk.specs.declared.fault.Fault.TheVariants.{Refused, Memory, Disk, Closed, NotACatalogue, Damaged, NewerSchema}
use Rattle.dict_session.specs.Rows.{shown_line, line_if_named, items_octets, members_octets, info_row, has_some}
use Rattle.dict_session.specs.Shows.{databases_answer, items_answer, item_line, server_answer, info_answer, info_found, database_line, status_answer, help_answer}
use Rattle.dict_session.proofs.AskedLemmas.{named_as}

pub help_is : flat_map reply_octets (Help ∷ Done ∷ []) ≡ help_answer
unfolding help_answer
help_is = rw (append-nil done_octets) refl

-- ---- a summary's items and its catalogue's

abbrev pub title_alone : Edition → List ℕ
title_alone edition = edition.title

abbrev pub titled : Item Edition → Item (List ℕ)
titled item = item_as title_alone item

line_as : (item : Item Edition) → shown_line (titled item) ≡ item_line item
line_as (regular name current former) = refl
line_as (virtual name title members) = refl

lines_as : (items : List (Item Edition)) → flat_map shown_line (map titled items) ≡ flat_map item_line items
lines_as [] = refl
lines_as (item ∷ items) = ap (λ l. l ++ flat_map shown_line (map titled items)) (line_as item) ∙ ap (λ l. item_line item ++ l) (lines_as items)

pub items_as : (items : List (Item Edition)) → items_octets (map titled items) ≡ items_answer items
items_as items =
    ap (λ (n : ℕ). if n == 0 then no_databases_octets else database_count_octets n ++ (flat_map shown_line (map titled items) ++ (list_end_octets ++ done_octets))) (length-map items titled)
    ∙ ap (λ (l : List ℕ). if length items == 0 then no_databases_octets else database_count_octets (length items) ++ (l ++ (list_end_octets ++ done_octets))) (lines_as items)

pub databases_are : (M : Catalogue) (items : List (Item (List ℕ))) → items ≡ (summary_of M).items → items_octets items ≡ databases_answer M
unfolding databases_answer
databases_are M items e = ap items_octets e ∙ items_as M.items

pub count_as : (M : Catalogue) (items : List (Item (List ℕ))) → items ≡ (summary_of M).items → length items ≡ length M.items
count_as M items e = ap length e ∙ length-map M.items titled

-- the lines of the regular items of one name
named_lines : (member : List ℕ) (items : List (Item Edition)) → flat_map (line_if_named member) (map titled items) ≡ flat_map database_line (databases_named items member)
named_lines member [] = refl
named_lines member (virtual name title members ∷ items) = by_test (bytes_eq name member) (named_lines member items)
  where
    by_test : (b : Bool) → flat_map (line_if_named member) (map titled items) ≡ flat_map database_line (databases_named items member)
        → (if b && false then shown_line (virtual name title members) else []) ++ flat_map (line_if_named member) (map titled items) ≡ flat_map database_line (databases_named items member)
    by_test true e = e
    by_test false e = e
named_lines member (regular name current former ∷ items) = by_test (bytes_eq name member) (named_lines member items)
  where
    here : Database
    here = record { name = name; edition = current.content }

    by_test : (b : Bool) → flat_map (line_if_named member) (map titled items) ≡ flat_map database_line (databases_named items member)
        → (if b && true then shown_line (titled (regular name current former)) else []) ++ flat_map (line_if_named member) (map titled items)
        ≡ flat_map database_line (if b then here ∷ databases_named items member else databases_named items member)
    by_test true e = ap (λ l. database_line here ++ l) e
    by_test false e = e

pub members_are : (items : List (Item Edition)) (members : List (List ℕ)) → members_octets (map titled items) members ≡ flat_map database_line (flat_map (databases_named items) members)
members_are items [] = refl
members_are items (member ∷ members) =
    ap (λ l. l ++ members_octets (map titled items) members) (named_lines member items)
    ∙ (ap (λ l. flat_map database_line (databases_named items member) ++ l) (members_are items members)
    ∙ sym (flat_map-append database_line (databases_named items member) (flat_map (databases_named items) members)))

-- ---- SHOW INFO

found_as : (name : List ℕ) (items : List (Item Edition)) → find (is_named name) (map titled items) ≡ option_map titled (find (is_named name) items)
found_as name [] = refl
found_as name (item ∷ items) = by_test (is_named name item) (named_as title_alone name item) (found_as name items)
  where
    by_test : (b : Bool) → is_named name (titled item) ≡ b → find (is_named name) (map titled items) ≡ option_map titled (find (is_named name) items)
        → (if is_named name (titled item) then Some (titled item) else find (is_named name) (map titled items)) ≡ option_map titled (if b then Some item else find (is_named name) items)
    by_test true e f = ap (λ t. if t then Some (titled item) else find (is_named name) (map titled items)) e
    by_test false e f = ap (λ t. if t then Some (titled item) else find (is_named name) (map titled items)) e ∙ f

found_stands : (test : Item Edition → Bool) (items : List (Item Edition)) (item : Item Edition) → find test items ≡ Some item → Contains items item
found_stands test [] item e = cc
found_stands test (x ∷ items) item e = by_test (test x) (found_stands test items item) e
  where
    by_test : (b : Bool) → (find test items ≡ Some item → Contains items item) → (if b then Some x else find test items) ≡ Some item → Contains (x ∷ items) item
    by_test true later e = (0, omega arith, cc)
    by_test false later e = let (k, below, is) = later e in (suc k, omega (arith, below), is)

current_stored : (name : List ℕ) (current : Stored Edition) (former : Option (Stored Edition)) → Contains (editions_of (regular name current former)) current
current_stored name current None = (0, omega arith, refl)
current_stored name current (Some other) = (0, omega arith, refl)

module _ (M : Catalogue) (name : List ℕ) (items : List (Item (List ℕ))) (e : items ≡ (summary_of M).items) where
  found_in : (o : Option (Item (List ℕ))) → o ≡ find (is_named name) items → o ≡ option_map titled (find (is_named name) M.items)
  found_in o is = is ∙ (ap (find (is_named name)) e ∙ found_as name M.items)

  pub info_unknown : None ≡ find (is_named name) items → invalid_database_octets ≡ info_answer M name
  unfolding info_answer
  info_unknown is = by_item (find (is_named name) M.items) (found_in None is)
    where
      by_item : (o : Option (Item Edition)) → None ≡ option_map titled o → invalid_database_octets ≡ info_found M.items o
      by_item None e = refl
      by_item (Some item) e = cc

  pub info_virtual : (own title : List ℕ) (members : List (List ℕ)) → Some (virtual own title members) ≡ find (is_named name) items
      → info_heading_octets ++ (members_octets items members ++ (list_end_octets ++ done_octets)) ≡ info_answer M name
  unfolding info_answer
  info_virtual own title members is = by_item (find (is_named name) M.items) (found_in (Some (virtual own title members)) is)
    where
      by_item : (o : Option (Item Edition)) → Some (virtual own title members) ≡ option_map titled o → info_heading_octets ++ (members_octets items members ++ (list_end_octets ++ done_octets)) ≡ info_found M.items o
      by_item None e = cc
      by_item (Some (regular other current former)) e = cc
      by_item (Some (virtual other other_title others)) f =
          let same : members ≡ others = cc in
          ap (λ (l : List ℕ). info_heading_octets ++ l) (ap (λ (l : List ℕ). l ++ (list_end_octets ++ done_octets))
          (ap (λ (xs : List (Item (List ℕ))). members_octets xs members) e ∙ (members_are M.items members ∙ ap (λ (ms : List (List ℕ)). flat_map database_line (flat_map (databases_named M.items) ms)) same))
          ∙ sym (append_assoc (flat_map database_line (flat_map (databases_named M.items) others)) list_end_octets done_octets))

  -- the edition that SHOW INFO tells of
  abbrev pub HasInfo : ℕ → Type 0
  HasInfo number = (edition : Edition) × HasEdition M number edition × (info_heading_octets ++ (info_text_octets edition.info ++ done_octets) ≡ info_answer M name)

  pub regular_has_edition : (own : List ℕ) (current : Stored (List ℕ)) (former : Option (Stored (List ℕ))) → Some (regular own current former) ≡ find (is_named name) items → has_edition (find (is_named name) M.items) ≡ true
  regular_has_edition own current former is = by_item (find (is_named name) M.items) (found_in (Some (regular own current former)) is)
    where
      by_item : (o : Option (Item Edition)) → Some (regular own current former) ≡ option_map titled o → has_edition o ≡ true
      by_item None e = cc
      by_item (Some (regular other stored before)) e = refl
      by_item (Some (virtual other title members)) e = cc

  pub info_regular : (own : List ℕ) (current : Stored (List ℕ)) (former : Option (Stored (List ℕ))) → Some (regular own current former) ≡ find (is_named name) items → HasInfo current.number
  unfolding info_answer
  info_regular own current former is = by_item (find (is_named name) M.items) refl (found_in (Some (regular own current former)) is)
    where
      by_item : (o : Option (Item Edition)) → find (is_named name) M.items ≡ o → Some (regular own current former) ≡ option_map titled o
          → (edition : Edition) × HasEdition M current.number edition × (info_heading_octets ++ (info_text_octets edition.info ++ done_octets) ≡ info_found M.items (find (is_named name) M.items))
      by_item None f g = cc
      by_item (Some (virtual other title members)) f g = cc
      by_item (Some (regular other stored before)) f g =
          let same : current.number ≡ stored.number = cc in (
            stored.content,
            subst (λ (n : ℕ). HasEdition M n stored.content) (sym same) (record {
              item = regular other stored before;
              stands = found_stands (is_named name) M.items (regular other stored before) f;
              stored = current_stored other stored before;
            }),
            sym (ap (info_found M.items) f),
          )

-- ---- the row of SHOW INFO

pub row_is : (edition : Edition) → flat_map info_row (info_rows edition) ++ done_octets ≡ info_heading_octets ++ (info_text_octets edition.info ++ done_octets)
row_is edition =
    ap (λ (l : List ℕ). l ++ done_octets) (append-nil (info_heading_octets ++ info_text_octets edition.info)) ∙ append_assoc info_heading_octets (info_text_octets edition.info) done_octets

no_more_rows : (one first : Row) (front rest : List Row) → one ∷ [] ≡ (first ∷ front) ++ rest → rest ≡ []
no_more_rows one first [] rest e = cc
no_more_rows one first (row ∷ front) rest e = cc

-- a beginning of the row that was begun
pub part_of_row : (a b : Stream) (edition : Edition) (front rest : List Row) → true ≡ has_some front → info_rows edition ≡ front ++ rest → PutsAll a b (flat_map info_row front)
    → PutsBeginning one_row a b (info_heading_octets ++ (info_text_octets edition.info ++ done_octets))
unfolding done_octets info_heading_octets
part_of_row a b edition [] rest some e h = cc
part_of_row a b edition (first ∷ front) rest some e h = (
  flat_map info_row (first ∷ front),
  record {
    rest = flat_map info_row rest ++ done_octets;
    are = sym (row_is edition) ∙ (ap (λ (l : List ℕ). l ++ done_octets) (ap (flat_map info_row) e ∙ flat_map-append info_row (first ∷ front) rest) ∙ append_assoc (flat_map info_row (first ∷ front)) (flat_map info_row rest) done_octets);
    some = λ none. cc none;
    more = λ none. omega (arith, ap length none, length-append (flat_map info_row rest) done_octets);
  },
  ap (λ (rows : List Row). flat_map info_row rows ++ done_octets) (no_more_rows (row [] edition.info) first front rest e),
  h,
)

pub none_begun : (a b : Stream) (front : List Row) → false ≡ has_some front → PutsAll a b (flat_map info_row front) → PutsAll a b []
none_begun a b [] e h = h
none_begun a b (row ∷ front) e h = cc

-- ---- what was put, and then an answer

pub whole_after : (need : AnswerNeed) (failed : Bool) (r : Result LineAnswer PutFault) (a b c : Stream) (xs ys : List ℕ) → PutsAll a b xs → PutsAnswer failed r b c ys no_rows false → PutsAnswer failed r a c (xs ++ ys) need true
whole_after need failed (Ok Whole) a b c xs ys h k = all_after a b c xs ys h k
whole_after need failed (Ok Unavailable) a b c xs ys h (e, k) = cc
whole_after need failed (Err Sink) a b c xs ys h (inl k) = inl (front_after a b c xs ys h k)
whole_after need failed (Err Sink) a b c xs ys h (inr (e, k)) = cc
whole_after need failed (Err Desk) a b c xs ys h (e, (part, begins, far, k)) = absurd far

pub none_before : (failed : Bool) (r : Result LineAnswer PutFault) (a b c : Stream) (answer : List ℕ) (need : AnswerNeed) (may : Bool) → PutsAll a b [] → PutsAnswer failed r b c answer need may → PutsAnswer failed r a c answer need may
none_before failed (Ok Whole) a b c answer need may h k = all_after a b c [] answer h k
none_before failed (Ok Unavailable) a b c answer need may h (e, k) = (e, all_after a b c [] unavailable_octets h k)
none_before failed (Err Sink) a b c answer need may h (inl k) = inl (front_after a b c [] answer h k)
none_before failed (Err Sink) a b c answer need may h (inr (e, k)) = inr (e, front_after a b c [] unavailable_octets h k)
none_before failed (Err Desk) a b c answer need may h (e, (part, begins, far, k)) = (e, (part, begins, far, all_after a b c [] part h k))

-- what isn't open is closed
pub not_open : (closed : Bool) → (closed ≡ false → false ≡ true) → closed ≡ true
not_open true h = refl
not_open false h = h refl

pub lookup_failed : (fault : Fault) → IsOfLookup fault → is_failure fault ≡ true
lookup_failed (Refused refusal) h = absurd h
lookup_failed Memory h = refl
lookup_failed Disk h = refl
lookup_failed Closed h = refl
lookup_failed NotACatalogue h = absurd h
lookup_failed Damaged h = absurd h
lookup_failed NewerSchema h = absurd h

-- ---- one line after another

module _ {X Y : Type 0} (f : Y → List ℕ) (g : X → Y) (xs : List X) (i : ℕ) (x : X) (lt : i < length xs) (is : x ≡ get_or xs i x) (a b c : Stream) where
  pub loop_front : PutsAll a b (flat_map f (take i (map g xs))) → PutsFront b c (f (g x)) → PutsFront a c (flat_map f (map g xs))
  loop_front h k =
      subst (PutsFront a c) (ap (λ l. flat_map f (take i (map g xs)) ++ flat_map f l) (sym (read_at g xs i x lt is)) ∙ (sym (flat_map-append f (take i (map g xs)) (drop i (map g xs))) ∙ ap (flat_map f) (take-append-drop i (map g xs))))
      (front_after a b c (flat_map f (take i (map g xs))) (f (g x) ++ flat_map f (drop (i + 1) (map g xs))) h (front_longer b c (f (g x)) (flat_map f (drop (i + 1) (map g xs))) k))

  pub loop_more : PutsAll a b (flat_map f (take i (map g xs))) → PutsAll b c (f (g x)) → PutsAll a c (flat_map f (take (i + 1) (map g xs)))
  loop_more h k =
      let below : i < length (map g xs) = omega (arith, length-map xs g, lt) in
      let here : get_or (map g xs) i (g x) ≡ g x = get_or-map g xs i x (g x) lt ∙ ap g (sym is) in
      subst (PutsAll a c) (ap (λ l. flat_map f (take i (map g xs)) ++ l) (sym (append-nil (f (g x)))) ∙ (ap (λ y. flat_map f (take i (map g xs)) ++ flat_map f (y ∷ [])) (sym here)
      ∙ (sym (flat_map-append f (take i (map g xs)) (get_or (map g xs) i (g x) ∷ [])) ∙ ap (flat_map f) (sym (take_more (map g xs) i (g x) below)))))
      (all_after a b c (flat_map f (take i (map g xs))) (f (g x)) h k)

pub items_some : (items : List (Item (List ℕ))) (n : ℕ) → n ≡ length items → n ≢ 0 → database_count_octets n ++ (flat_map shown_line items ++ (list_end_octets ++ done_octets)) ≡ items_octets items
items_some items n e some =
    let test : (length items == 0) ≡ false = grind (arith, nat_tests, e, some) in
    ap (λ (k : ℕ). database_count_octets k ++ (flat_map shown_line items ++ (list_end_octets ++ done_octets))) e
    ∙ sym (ap (λ b. if b then no_databases_octets else database_count_octets (length items) ++ (flat_map shown_line items ++ (list_end_octets ++ done_octets))) test)

pub server_is : (M : Catalogue) (host : Bor (List ℕ)) (count : ℕ) → count ≡ length M.items → flat_map reply_octets (ServerInformation host count ∷ Done ∷ []) ≡ server_answer M host.now
unfolding server_answer
server_is M host count e = rw (e, append-nil done_octets) refl

pub status_is : (M : Catalogue) (count : ℕ) → count ≡ length M.items → status_octets count ≡ status_answer M
unfolding status_answer
status_is M count e = ap status_octets e

find_shown : {X Y : Type 0} (g : X → Y) (test : Y → Bool) (xs : List X) → find test (map g xs) ≡ option_map g (find (λ x. test (g x)) xs)
find_shown g test [] = refl
find_shown g test (x ∷ xs) = by_test (test (g x)) (find_shown g test xs)
  where
    by_test : (b : Bool) → find test (map g xs) ≡ option_map g (find (λ x. test (g x)) xs) → (if b then Some (g x) else find test (map g xs)) ≡ option_map g (if b then Some x else find (λ x. test (g x)) xs)
    by_test true e = refl
    by_test false e = e

-- an item that was found in a summary
pub found_shown : {X Y : Type 0} (g : X → Y) (test : Y → Bool) (xs : List X) (o : Option X) → o ≡ find (λ x. test (g x)) xs → option_map g o ≡ find test (map g xs)
found_shown g test xs o e = ap (option_map g) e ∙ sym (find_shown g test xs)
