-- Each line of a session's octets is short.
use Rattle.std.proofs.Common.{◌≡◌, ◌≢◌, ℕ, ◌+◌, ◌^◌, ◌<◌, ◌≤◌, List, [], ◌∷◌, ◌++◌, Bool, true, false, not, ◌&&◌, ◌||◌, Bor, refl, sym, ap, ◌∙◌, subst, arith, length, map, codes, inl, inr}
use Rattle.std.specs.Prelude.{IsTrue, MatchBool, ◌==◌, if◌then◌else◌, Option, None, Some, slice_get, find}
use Rattle.std.specs.List.{flat_map, list_all, list_any, AllByRecursion}
use Rattle.std.specs.Str.{bytes_eq}
use Rattle.std.proofs.lemmas.Bool.{leb-true}
use Rattle.std.proofs.lemmas.List.Concat.{flat_map-append}
use Rattle.dict_text.specs.Characters.{is_control, has_control}
use Rattle.dict_text.specs.Lines.{text_lines, onto_first_line}
use Rattle.dict_text.proofs.AllLemmas.{all_append, all_filter, all_map, all_of}
use Rattle.dict_text.specs.Names.{has_size, is_name_octet, is_name, is_title}
use Rattle.dict_index.specs.Edition.{Edition, Entry}
use Rattle.dict_index.specs.Tests.{IsTextOctet}
use Rattle.dict_index.specs.WellFormed.{IsEditionText, IsWellFormedEntry, IsWellFormedEdition}
use Rattle.dict_match.specs.Key.{key_of}
use Rattle.dict_match.specs.StrategyText.{strategy_name, strategy_title, strategies}
use Rattle.dict_match.specs.declared.strategy.Strategy.{Strategy}
use Rattle.dict_match.specs.declared.strategy.Strategy.TheVariants.{Exact, Prefix, Suffix, Substring, Word, First, Last}
use Rattle.dict_proto.specs.Meaning.{Meaning, meaning, define, matching, show_databases, show_strategies, show_server, show_info, client, status, help, quit, not_recognized, illegal_parameters, not_implemented}
use Rattle.dict_proto.specs.Text.{crlf}
use Rattle.dict_proto.specs.ReplyLines.{AreShortLines, HasNoReturn, IsShort}
use Rattle.dict_proto.specs.Replies.{banner_octets, database_count_octets, strategy_count_octets, list_line_octets, list_end_octets, info_heading_octets, help_octets, server_information_octets, done_octets}
use Rattle.dict_proto.specs.Replies.{unavailable_octets, no_match_octets, no_databases_octets}
use Rattle.dict_proto.specs.declared.reply.Reply.TheVariants.{Banner, DefinitionCount, Definition, MatchCount, DatabaseCount, StrategyCount, ListLine, ListEnd, InfoHeading, InfoText, Help, ServerInformation, Status}
use Rattle.dict_proto.specs.declared.reply.Reply.TheVariants.{Done, Closing, Unavailable, NotRecognized, InvalidDatabase, InvalidStrategy, NoMatch, NoDatabases, IllegalParameters, NotImplemented}
use Rattle.dict_proto.proofs.ReplyLinesLemmas.{reply_octets-short}
use Rattle.dict_catalogue.specs.Items.{Item, Stored, regular, virtual, is_named}
use Rattle.dict_catalogue.specs.Steps.{Catalogue}
use Rattle.dict_catalogue.specs.WellFormed.{IsWellFormed, IsLawfulItem, HasWellFormedEditions, total}
use Rattle.dict_index.specs.Found.{found, is_found, distinct, shown_of, Row, row, row_of}
use Rattle.dict_desk.specs.Shown.{rows_given}
use Rattle.dict_desk.specs.Asked.{Database, databases_named, strategy_of}
use Rattle.dict_desk.specs.declared.lookup.What.{What}
use Rattle.dict_desk.specs.declared.lookup.What.TheVariants.{Entries, Headwords}
use Rattle.dict_session.specs.Shows.{databases_answer, strategies_answer, strategy_line, server_answer, info_answer, info_found, info_of, item_line, database_line, status_answer, help_answer}
use Rattle.dict_session.specs.Answers.{answer_to, define_answer, match_answer, is_quit}
use Rattle.dict_session.specs.Spoken.{Speaks}
use Rattle.dict_session.specs.Places.{AskedPlaces, asked_in}
use Rattle.dict_session.specs.Rows.{row_octets, octets_in, octets_at_place, count_at, regular_as, first_counted, answering, count_octets, end_octets, counted_octets, found_octets}
use Rattle.dict_session.specs.declared.query.Query.{Query}
use Rattle.dict_session.specs.Limits.{is_host_octet, is_host}
use Rattle.dict_session.proofs.FoundLemmas.{item_at, current_well, counts_few, for_definitions, for_matches}
use Rattle.dict_session.proofs.AskedLemmas.{asked_few}
use Rattle.dict_session.proofs.AnswerLemmas.{define_unknown, define_known, match_unknown, match_by, match_known}

-- ---- lines, one after the other

short_none : AreShortLines []
short_none = ([], refl, tt)

pub short_append : (xs ys : List ℕ) → AreShortLines xs → AreShortLines ys → AreShortLines (xs ++ ys)
short_append xs ys (ls, e, h) (ms, f, k) =
    (ls ++ ms, ap (λ l. l ++ ys) e ∙ (ap (λ l. flat_map (λ line. line ++ crlf) ls ++ l) f ∙ sym (flat_map-append (λ line. line ++ crlf) ls ms)), all_append (λ line. (length line + 2 ≤ 1024) × HasNoReturn line) ls ms h k)

short_all : {X : Type 0} (f : X → List ℕ) (xs : List X) → AllByRecursion (λ x. AreShortLines (f x)) xs → AreShortLines (flat_map f xs)
short_all f [] h = short_none
short_all f (x ∷ xs) h = short_append (f x) (flat_map f xs) h.0 (short_all f xs h.1)

short_either : (b : Bool) (x y : List ℕ) → AreShortLines x → AreShortLines y → AreShortLines (if b then x else y)
short_either true x y h k = h
short_either false x y h k = k

-- ---- texts without a CR

both_true : (a b : Bool) → (a && b) ≡ true → (a ≡ true) × (b ≡ true)
both_true true b e = (refl, e)
both_true false b e = cc

both_false : (a b : Bool) → (a || b) ≡ false → (a ≡ false) × (b ≡ false)
both_false true b e = cc
both_false false b e = (refl, e)

not_true : (a : Bool) → not a ≡ true → a ≡ false
not_true true e = cc
not_true false e = refl

passing : (p : ℕ → Bool) → p 13 ≡ false → (text : List ℕ) → list_all p text ≡ true → HasNoReturn text
passing p cr [] e = tt
passing p cr (c ∷ text) e =
    let parts = both_true (p c) (list_all p text) e in
    ((λ f. let here : p 13 ≡ true = subst (λ x. p x ≡ true) f parts.0 in cc), passing p cr text parts.1)

none_control : (text : List ℕ) → has_control text ≡ false → HasNoReturn text
none_control [] e = tt
none_control (c ∷ text) e =
    let parts = both_false (is_control c) (list_any is_control text) e in
    ((λ f. let here : is_control 13 ≡ false = subst (λ x. is_control x ≡ false) f parts.0 in cc), none_control text parts.1)

text_octet : (c : ℕ) → IsTextOctet c → c ≢ 13
text_octet c (inl e) = λ f. omega (arith, e, f)
text_octet c (inr (inl e)) = λ f. omega (arith, e, f)
text_octet c (inr (inr none)) = λ f. none (subst (λ x. IsTrue (is_control x)) (sym f) refl)

onto-whole : (b : ℕ) (lines : List (List ℕ)) → b ≢ 13 → AllByRecursion HasNoReturn lines → AllByRecursion HasNoReturn (onto_first_line b lines)
onto-whole b [] n h = ((n, tt), tt)
onto-whole b (line ∷ lines) n h = ((n, h.0), h.1)

lines-whole : (octets : List ℕ) → AllByRecursion IsTextOctet octets → AllByRecursion HasNoReturn (text_lines octets)
lines-whole [] h = tt
lines-whole (b ∷ bs) h = by_test (b == 10) (lines-whole bs h.1)
  where
    by_test : (test : Bool) → AllByRecursion HasNoReturn (text_lines bs) → AllByRecursion HasNoReturn (if test then [] ∷ text_lines bs else onto_first_line b (text_lines bs))
    by_test true more = (tt, more)
    by_test false more = onto-whole b (text_lines bs) (text_octet b h.0) more

both_short : (lines : List (List ℕ)) → AllByRecursion (λ line. length line ≤ 1021) lines → AllByRecursion HasNoReturn lines → AllByRecursion (IsShort 1021) lines
both_short [] h k = tt
both_short (line ∷ lines) h k = ((h.0, k.0), both_short lines h.1 k.1)

text-short : (text : List ℕ) → IsEditionText text → AllByRecursion (IsShort 1021) (text_lines text)
text-short text h = both_short (text_lines text) h.1 (lines-whole text h.0.1)

sized : (most : ℕ) (text : List ℕ) → has_size most text ≡ true → length text ≤ most
sized most text e = leb-true (length text) most (both_true _ _ e).1

name-short : (name : List ℕ) → IsTrue (is_name name) → IsShort 32 name
unfolding is_name
name-short name e =
    let parts = both_true _ _ e in
    let octets = both_true _ _ parts.0 in
    (sized 32 name octets.0, passing is_name_octet refl name octets.1)

title-short : (title : List ℕ) → IsTrue (is_title title) → IsShort 200 title
unfolding is_title
title-short title e =
    let parts = both_true _ _ (both_true _ _ (both_true _ _ e).0).0 in
    (sized 200 title parts.0, none_control title (not_true (has_control title) parts.1))

host-short : (host : List ℕ) → IsTrue (is_host host) → IsShort 253 host
unfolding is_host
host-short host e = let parts = both_true _ _ e in (sized 253 host parts.0, passing is_host_octet refl host parts.1)

-- ---- counts

distinct_all : (P : List ℕ → Type 0) (texts : List (List ℕ)) → AllByRecursion P texts → AllByRecursion P (distinct texts)
distinct_all P [] h = tt
distinct_all P (text ∷ texts) h = (h.0, all_filter P (λ other. not (bytes_eq other text)) (distinct texts) (distinct_all P texts h.1))

-- ---- answers

abbrev lent : List ℕ → Bor (List ℕ)
lent text = record { ref_ptr = (0, 0); now = text }

end-short : AreShortLines (list_end_octets ++ done_octets)
end-short = short_append list_end_octets done_octets (reply_octets-short ListEnd tt) (reply_octets-short Done tt)

longer : (text : List ℕ) → IsShort 200 text → IsShort 255 text
longer text h = (omega (arith, h.0), h.1)

line-short : (name text : List ℕ) → IsTrue (is_name name) → IsShort 255 text → AreShortLines (list_line_octets name text)
line-short name text n h = reply_octets-short (ListLine (lent name) (lent text)) (name-short name n, h)

current_title : (name : List ℕ) (current : Stored Edition) (former : Option (Stored Edition)) → HasWellFormedEditions (regular name current former) → IsTrue (is_title current.content.title)
current_title name current former h = (current_well name current former h).title.1

item-short : (item : Item Edition) → IsLawfulItem item → HasWellFormedEditions item → AreShortLines (item_line item)
item-short (regular name current former) lawful well = line-short name current.content.title lawful (longer current.content.title (title-short current.content.title (current_title name current former well)))
item-short (virtual name title members) lawful well = line-short name title lawful.0 (longer title (title-short title lawful.1.1))

items-short : (items : List (Item Edition)) → AllByRecursion IsLawfulItem items → AllByRecursion HasWellFormedEditions items → AreShortLines (flat_map item_line items)
items-short [] lawful well = short_none
items-short (item ∷ items) lawful well = short_append (item_line item) (flat_map item_line items) (item-short item lawful.0 well.0) (items-short items lawful.1 well.1)

-- a database that is asked
record IsLawful (db : Database) : Type 0 where
  pub name : IsTrue (is_name db.name)
  pub edition : IsWellFormedEdition db.edition

shown-short : (entry : Entry) → IsWellFormedEntry entry → IsShort 255 (shown_of entry)
shown-short entry h = (h.shown.1.1, none_control entry.shown h.shown.1.2)

entry-short : (db : Database) → IsLawful db → (entry : Entry) → IsWellFormedEntry entry → AreShortLines (row_octets Entries db.name db.edition.title (row_of entry))
entry-short db w entry h = reply_octets-short (Definition (lent (shown_of entry)) (lent db.name) (lent db.edition.title) (lent entry.body))
    (shown-short entry h, name-short db.name w.name, title-short db.edition.title w.edition.title.1, text-short entry.body h.body)

found_all : (s : Strategy) (q : List ℕ) (edition : Edition) → IsWellFormedEdition edition → AllByRecursion IsWellFormedEntry (found s q edition)
found_all s q edition w = all_filter IsWellFormedEntry (is_found s q) edition.entries w.entries

rows-short : (query : Query) (what : What) (db : Database) → IsLawful db → AreShortLines (flat_map (row_octets what db.name db.edition.title) (rows_given what query.strategy query.key db.edition))
rows-short query Entries db w =
    let entries = found query.strategy query.key db.edition in
    short_all (row_octets Entries db.name db.edition.title) (map row_of entries)
    (all_map IsWellFormedEntry (λ (r : Row). AreShortLines (row_octets Entries db.name db.edition.title r)) row_of (entry-short db w) entries (found_all query.strategy query.key db.edition w.edition))
rows-short query Headwords db w =
    let entries = found query.strategy query.key db.edition in
    let words : List (List ℕ) = map shown_of entries in
    let all : AllByRecursion (IsShort 255) words = all_map IsWellFormedEntry (IsShort 255) shown_of shown-short entries (found_all query.strategy query.key db.edition w.edition) in
    short_all (row_octets Headwords db.name db.edition.title) (map (λ (shown : List ℕ). row shown []) (distinct words))
    (all_map (IsShort 255) (λ (r : Row). AreShortLines (row_octets Headwords db.name db.edition.title r)) (λ (shown : List ℕ). row shown []) (λ shown h. line-short db.name shown w.name h) (distinct words)
    (distinct_all (IsShort 255) words all))

at-short : (M : Catalogue) → IsWellFormed M → (query : Query) (place : ℕ) → AreShortLines (octets_at_place query M.items place)
at-short M w query place = by_item (slice_get M.items place) refl
  where
    by_item : (o : Option (Item Edition)) → slice_get M.items place ≡ o → AreShortLines (flat_map (octets_in query) (regular_as o))
    by_item None e = short_none
    by_item (Some (virtual name title members)) e = short_none
    by_item (Some (regular name current former)) e =
        let db : Database = record { name = name; edition = current.content } in
        let lawful : IsLawful db = record {
          name = item_at IsLawfulItem M.items place (regular name current former) w.items e;
          edition = current_well name current former (item_at HasWellFormedEditions M.items place (regular name current former) w.editions e);
        } in
        short_append (octets_in query db) [] (rows-short query query.what db lawful) short_none

count-short : (what : What) (n : ℕ) → n < 2 ^ 64 → AreShortLines (count_octets what n)
count-short Entries n few = reply_octets-short (DefinitionCount n) few
count-short Headwords n few = reply_octets-short (MatchCount n) few

ending-short : (what : What) → AreShortLines (end_octets what)
ending-short Entries = reply_octets-short Done tt
ending-short Headwords = end-short

places-short : (M : Catalogue) → IsWellFormed M → (query : Query) (places : List ℕ) → AreShortLines (flat_map (octets_at_place query M.items) places)
places-short M w query places = short_all (octets_at_place query M.items) places (all_of (λ place. AreShortLines (octets_at_place query M.items place)) (at-short M w query) places)

found-short : (M : Catalogue) → IsWellFormed M → (query : Query) (places : List ℕ) → length places ≤ 64 → AreShortLines (found_octets query M.items places)
found-short M w query places few =
    let n = total (count_at query M.items) places in
    let below : n < 2 ^ 64 = omega (arith, counts_few query M places w, few) in
    short_either (n == 0) no_match_octets (counted_octets query M.items places n) (reply_octets-short NoMatch tt)
    (short_append (count_octets query.what n) (flat_map (octets_at_place query M.items) places ++ end_octets query.what) (count-short query.what n below)
    (short_append (flat_map (octets_at_place query M.items) places) (end_octets query.what) (places-short M w query places) (ending-short query.what)))

first_few : (count : ℕ → ℕ) (places : List ℕ) → length places ≤ 64 → length (first_counted count places) ≤ 64
first_few count [] few = omega arith
first_few count (place ∷ places) few = by_test (count place == 0) (first_few count places (omega (arith, few)))
  where
    by_test : (b : Bool) → length (first_counted count places) ≤ 64 → length (if b then first_counted count places else place ∷ []) ≤ 64
    by_test true h = h
    by_test false h = omega arith

answering-short : (M : Catalogue) → IsWellFormed M → (query : Query) (places : List ℕ) (is_first : Bool) → length places ≤ 64 → AreShortLines (found_octets query M.items (answering query M.items places is_first))
answering-short M w query places true few = found-short M w query (first_counted (count_at query M.items) places) (first_few (count_at query M.items) places few)
answering-short M w query places false few = found-short M w query places few

define-short : (M : Catalogue) → IsWellFormed M → (name word : List ℕ) → AreShortLines (define_answer M name word)
define-short M w name word = by_asked (asked_in M.items name) refl
  where
    by_asked : (o : Option AskedPlaces) → asked_in M.items name ≡ o → AreShortLines (define_answer M name word)
    by_asked None e = subst AreShortLines (sym (define_unknown M name word e)) (reply_octets-short InvalidDatabase tt)
    by_asked (Some asking) e = subst AreShortLines (sym (define_known M name word asking e))
        (answering-short M w (for_definitions (key_of word)) asking.places asking.is_first (asked_few M name asking w e))

match-short : (M : Catalogue) → IsWellFormed M → (name strategy word : List ℕ) → AreShortLines (match_answer M name strategy word)
match-short M w name strategy word = by_asked (asked_in M.items name) refl (strategy_of strategy) refl
  where
    by_asked : (o : Option AskedPlaces) → asked_in M.items name ≡ o → (s : Option Strategy) → s ≡ strategy_of strategy → AreShortLines (match_answer M name strategy word)
    by_asked None e s is = subst AreShortLines (sym (match_unknown M name strategy word e)) (reply_octets-short InvalidDatabase tt)
    by_asked (Some asking) e None is = subst AreShortLines (sym (match_by M name strategy word asking None e is)) (reply_octets-short InvalidStrategy tt)
    by_asked (Some asking) e (Some s) is = subst AreShortLines (sym (match_known M name strategy word s asking e is))
        (answering-short M w (for_matches s (key_of word)) asking.places asking.is_first (asked_few M name asking w e))

databases-short : (M : Catalogue) → IsWellFormed M → AreShortLines (databases_answer M)
unfolding databases_answer
databases-short M w = short_either (length M.items == 0) no_databases_octets (database_count_octets (length M.items) ++ (flat_map item_line M.items ++ (list_end_octets ++ done_octets))) (reply_octets-short NoDatabases tt)
    (short_append (database_count_octets (length M.items)) (flat_map item_line M.items ++ (list_end_octets ++ done_octets)) (reply_octets-short (DatabaseCount (length M.items)) (omega (arith, w.item_limit)))
    (short_append (flat_map item_line M.items) (list_end_octets ++ done_octets) (items-short M.items w.items w.editions) end-short))

database-short : (db : Database) → IsLawful db → AreShortLines (database_line db)
database-short db w = line-short db.name db.edition.title w.name (longer db.edition.title (title-short db.edition.title w.edition.title.1))

named-short : (member : List ℕ) (items : List (Item Edition)) → AllByRecursion IsLawfulItem items → AllByRecursion HasWellFormedEditions items → AreShortLines (flat_map database_line (databases_named items member))
named-short member [] lawful well = short_none
named-short member (virtual name title members ∷ items) lawful well = named-short member items lawful.1 well.1
named-short member (regular name current former ∷ items) lawful well = by_test (bytes_eq name member) (named-short member items lawful.1 well.1)
  where
    db : Database
    db = record { name = name; edition = current.content }

    by_test : (b : Bool) → AreShortLines (flat_map database_line (databases_named items member)) → AreShortLines (flat_map database_line (if b then db ∷ databases_named items member else databases_named items member))
    by_test true h = short_append (database_line db) (flat_map database_line (databases_named items member)) (database-short db (record { name = lawful.0; edition = current_well name current former well.0 })) h
    by_test false h = h

members-short : (items : List (Item Edition)) (members : List (List ℕ)) → AllByRecursion IsLawfulItem items → AllByRecursion HasWellFormedEditions items → AreShortLines (flat_map database_line (flat_map (databases_named items) members))
members-short items [] lawful well = short_none
members-short items (member ∷ members) lawful well = subst AreShortLines (sym (flat_map-append database_line (databases_named items member) (flat_map (databases_named items) members)))
    (short_append (flat_map database_line (databases_named items member)) (flat_map database_line (flat_map (databases_named items) members)) (named-short member items lawful well) (members-short items members lawful well))

info_of-short : (items : List (Item Edition)) (item : Item Edition) → AllByRecursion IsLawfulItem items → AllByRecursion HasWellFormedEditions items → HasWellFormedEditions item → AreShortLines (info_of items item)
info_of-short items (regular name current former) lawful well here = reply_octets-short (InfoText (lent current.content.info)) (text-short current.content.info (current_well name current former here).info)
info_of-short items (virtual name title members) lawful well here = short_append (flat_map database_line (flat_map (databases_named items) members)) list_end_octets (members-short items members lawful well) (reply_octets-short ListEnd tt)

found-well : (test : Item Edition → Bool) (items : List (Item Edition)) (item : Item Edition) → AllByRecursion HasWellFormedEditions items → find test items ≡ Some item → HasWellFormedEditions item
found-well test [] item well e = cc
found-well test (x ∷ items) item well e = by_test (test x) (found-well test items item well.1) e
  where
    by_test : (b : Bool) → (find test items ≡ Some item → HasWellFormedEditions item) → (if b then Some x else find test items) ≡ Some item → HasWellFormedEditions item
    by_test true later e = let same : x ≡ item = cc in subst HasWellFormedEditions same well.0
    by_test false later e = later e

info-short : (M : Catalogue) → IsWellFormed M → (name : List ℕ) → AreShortLines (info_answer M name)
unfolding info_answer
info-short M w name = by_item (find (is_named name) M.items) refl
  where
    by_item : (o : Option (Item Edition)) → find (is_named name) M.items ≡ o → AreShortLines (info_found M.items o)
    by_item None e = reply_octets-short InvalidDatabase tt
    by_item (Some item) e = short_append info_heading_octets (info_of M.items item ++ done_octets) (reply_octets-short InfoHeading tt)
        (short_append (info_of M.items item) done_octets (info_of-short M.items item w.items w.editions (found-well (is_named name) M.items item w.editions e)) (reply_octets-short Done tt))

is_other : ℕ → Bool
is_other c = not (c == 13)

written-short : (name title : List ℕ) → length name ≤ 32 → length title ≤ 255 → list_all is_other name ≡ true → list_all is_other title ≡ true → AreShortLines (list_line_octets name title)
unfolding is_other
written-short name title h k e f = reply_octets-short (ListLine (lent name) (lent title)) ((h, passing is_other refl name e), (k, passing is_other refl title f))

strategy_line-short : (s : Strategy) → AreShortLines (strategy_line s)
unfolding is_other strategy_name strategy_title
strategy_line-short Exact = written-short (codes "exact") (codes "Equal keys") (omega arith) (omega arith) refl refl
strategy_line-short Prefix = written-short (codes "prefix") (codes "Key begins with the query") (omega arith) (omega arith) refl refl
strategy_line-short Suffix = written-short (codes "suffix") (codes "Key ends with the query") (omega arith) (omega arith) refl refl
strategy_line-short Substring = written-short (codes "substring") (codes "Key contains the query") (omega arith) (omega arith) refl refl
strategy_line-short Word = written-short (codes "word") (codes "Words of the query stand together in the key") (omega arith) (omega arith) refl refl
strategy_line-short First = written-short (codes "first") (codes "Key begins with the words of the query") (omega arith) (omega arith) refl refl
strategy_line-short Last = written-short (codes "last") (codes "Key ends with the words of the query") (omega arith) (omega arith) refl refl

strategies-short : AreShortLines strategies_answer
unfolding strategies_answer
strategies-short = short_append (strategy_count_octets (length strategies)) (flat_map strategy_line strategies ++ (list_end_octets ++ done_octets)) (reply_octets-short (StrategyCount (length strategies)) (omega arith))
    (short_append (flat_map strategy_line strategies) (list_end_octets ++ done_octets) (short_all strategy_line strategies (all_of (λ s. AreShortLines (strategy_line s)) strategy_line-short strategies)) end-short)

server-short : (M : Catalogue) → IsWellFormed M → (host : List ℕ) → IsTrue (is_host host) → AreShortLines (server_answer M host)
unfolding server_answer
server-short M w host h =
    short_append (server_information_octets host (length M.items)) done_octets (reply_octets-short (ServerInformation (lent host) (length M.items)) (host-short host h, omega (arith, w.item_limit))) (reply_octets-short Done tt)

status-short : (M : Catalogue) → IsWellFormed M → AreShortLines (status_answer M)
unfolding status_answer
status-short M w = reply_octets-short (Status (length M.items)) (omega (arith, w.item_limit))

help-short : AreShortLines help_answer
unfolding help_answer
help-short = short_append help_octets done_octets (reply_octets-short Help tt) (reply_octets-short Done tt)

answer_to-short : (d : Catalogue) (host : List ℕ) → IsWellFormed d → IsTrue (is_host host) → (asked : Meaning) → AreShortLines (answer_to d host asked)
answer_to-short d host w h (define name word) = define-short d w name word
answer_to-short d host w h (matching name strategy word) = match-short d w name strategy word
answer_to-short d host w h show_databases = databases-short d w
answer_to-short d host w h show_strategies = strategies-short
answer_to-short d host w h show_server = server-short d w host h
answer_to-short d host w h (show_info name) = info-short d w name
answer_to-short d host w h client = reply_octets-short Done tt
answer_to-short d host w h status = status-short d w
answer_to-short d host w h help = help-short
answer_to-short d host w h quit = reply_octets-short Closing tt
answer_to-short d host w h not_recognized = reply_octets-short NotRecognized tt
answer_to-short d host w h illegal_parameters = reply_octets-short IllegalParameters tt
answer_to-short d host w h not_implemented = reply_octets-short NotImplemented tt

-- ---- sessions

speaks-short : (answer : Meaning → List ℕ) (closed : Bool) → ((asked : Meaning) → AreShortLines (answer asked)) → (ls : List (List ℕ)) (o : List ℕ) (ended : Bool) → Speaks answer closed ls o ended → AreShortLines o
speaks-short answer closed each [] o ended h = subst AreShortLines (sym h.0) short_none
speaks-short answer closed each (l ∷ ls) o ended (rest, inl h) = subst AreShortLines (sym h.0) (short_append (answer (meaning l)) rest (each (meaning l)) (by_quit (λ k. speaks-short answer closed each ls rest ended k) (is_quit l) h.1))
  where
    by_quit : (Speaks answer closed ls rest ended → AreShortLines rest) → (q : Bool) → MatchBool q ((rest ≡ []) × (ended ≡ true)) (Speaks answer closed ls rest ended) → AreShortLines rest
    by_quit more true k = subst AreShortLines (sym k.0) short_none
    by_quit more false k = more k
speaks-short answer closed each (l ∷ ls) o ended (rest, inr h) = subst AreShortLines (sym h.1) (short_append unavailable_octets rest (reply_octets-short Unavailable tt) (speaks-short answer closed each ls rest ended h.2))

pub session-short : (d : Catalogue) (host : List ℕ) (connection : ℕ) (closed : Bool) (ls : List (List ℕ)) (o : List ℕ) (ended : Bool) → IsWellFormed d → IsTrue (is_host host) → connection < 2 ^ 64
    → Speaks (answer_to d host) closed ls o ended → AreShortLines (banner_octets host connection ++ o)
session-short d host connection closed ls o ended w h lt spoken =
    short_append (banner_octets host connection) o (reply_octets-short (Banner (lent host) connection) (host-short host h, lt)) (speaks-short (answer_to d host) closed (answer_to-short d host w h) ls o ended spoken)
