-- No line of a reply is too long.
use Rattle.std.proofs.Common.{◌≢◌, ◌%◌, not, eq-eqb, subst, ◌≡◌, ℕ, ◌+◌, ◌*◌, ◌^◌, ◌<◌, ◌≤◌, List, [], ◌∷◌, ◌++◌, Bool, true, false, map, length, refl, sym, ap, ◌∙◌, arith, append_assoc, append-nil, length-append, codes, ◌&&◌}
use Rattle.std.specs.Prelude.{decimal, ◌==◌, ◌&&◌, nat_le, slice_index}
use Rattle.std.specs.List.{flat_map, list_all, AllByRecursion}
use Rattle.std.proofs.lemmas.Bool.{leb-true}
use Rattle.std.proofs.lemmas.Fmt.{length-decimal-le, decimal_by_steps}
use Rattle.dict_text.specs.Lines.{text_lines}
use Rattle.dict_proto.specs.Text.{crlf, needs_backslash, escaped, quoted, stuffed, sent_line, block}
use Rattle.dict_proto.specs.Replies.{banner_octets, definition_count_octets, definition_line, definition_octets, match_count_octets, database_count_octets, strategy_count_octets, list_row, list_line_octets}
use Rattle.dict_proto.specs.Replies.{list_end_octets, info_heading_octets, info_text_octets, help_lines, help_octets, server_lines, server_information_octets, status_octets, done_octets, closing_octets}
use Rattle.dict_proto.specs.Replies.{unavailable_octets, not_recognized_octets, invalid_database_octets, invalid_strategy_octets, no_match_octets, no_databases_octets, reply_octets, illegal_parameters_octets}
use Rattle.dict_proto.specs.Replies.{not_implemented_octets}
use Rattle.dict_proto.specs.ReplyLines.{AreShortLines, HasNoReturn, IsShort, IsWithinLimits}
use Rattle.dict_proto.specs.declared.reply.Reply.{Reply}
use Rattle.dict_proto.specs.declared.reply.Reply.TheVariants.{Banner, DefinitionCount, Definition, MatchCount, DatabaseCount, StrategyCount, ListLine, ListEnd, InfoHeading, InfoText, Help, ServerInformation, Status}
use Rattle.dict_proto.specs.declared.reply.Reply.TheVariants.{Done, Closing, Unavailable, NotRecognized, InvalidDatabase, InvalidStrategy, NoMatch, NoDatabases, IllegalParameters, NotImplemented}

both_true : (a b : Bool) → (a && b) ≡ true → (a ≡ true) × (b ≡ true)
both_true true b e = (refl, e)
both_true false b e = cc

-- ---- no CR

return-append : (xs ys : List ℕ) → HasNoReturn xs → HasNoReturn ys → HasNoReturn (xs ++ ys)
return-append [] ys h k = k
return-append (x ∷ xs) ys h k = (h.0, return-append xs ys h.1 k)

return-escaped : (c : ℕ) (test : Bool) → needs_backslash c ≡ test → c ≢ 13 → HasNoReturn (escaped c)
return-escaped c true e h = rw e ((λ f. omega (arith, f)), (h, tt))
return-escaped c false e h = rw e (h, tt)

return-flat_map : (text : List ℕ) → HasNoReturn text → HasNoReturn (flat_map escaped text)
return-flat_map [] h = tt
return-flat_map (c ∷ text) h = return-append (escaped c) (flat_map escaped text) (return-escaped c _ refl h.0) (return-flat_map text h.1)

return-quoted : (text : List ℕ) → HasNoReturn text → HasNoReturn (quoted text)
return-quoted text h = ((λ f. omega (arith, f)), return-append (flat_map escaped text) (34 ∷ []) (return-flat_map text h) ((λ f. omega (arith, f)), tt))

return-decimal : (n : ℕ) → n < 2 ^ 64 → HasNoReturn (decimal n)
return-decimal n lt = decimal_by_steps (λ m ds. HasNoReturn ds) (λ m small. ((λ f. omega (arith, f)), tt)) (λ m ds more h. return-append ds ((48 + m % 10) ∷ []) h ((λ f. omega (arith, f)), tt)) n lt

-- the octets of a text that is written out
is_other : ℕ → Bool
is_other c = not (c == 13)

no_return : (c : ℕ) → is_other c ≡ true → c ≢ 13
unfolding is_other
no_return c e f = let same : (c == 13) ≡ true = eq-eqb c 13 f in let other : not (c == 13) ≡ false = ap not same in cc

return-written : (text : List ℕ) → list_all is_other text ≡ true → HasNoReturn text
return-written [] e = tt
return-written (c ∷ text) e = (no_return c (both_true _ _ e).0, return-written text (both_true _ _ e).1)

-- ---- single lines

-- one line
one_line : (octets content : List ℕ) → octets ≡ content ++ crlf → length content + 2 ≤ 1024 → HasNoReturn content → AreShortLines octets
one_line octets content is short whole = (content ∷ [], is ∙ sym (append-nil (content ++ crlf)), ((short, whole), tt))

escaped-short : (c : ℕ) (test : Bool) → needs_backslash c ≡ test → length (escaped c) ≤ 2
escaped-short c true e = rw e (omega arith)
escaped-short c false e = rw e (omega arith)

flat_map-escaped : (text : List ℕ) → length (flat_map escaped text) ≤ 2 * length text
flat_map-escaped [] = omega arith
flat_map-escaped (c ∷ text) = omega (arith, length-append (escaped c) (flat_map escaped text), escaped-short c _ refl, flat_map-escaped text)

quoted-short : (text : List ℕ) → length (quoted text) ≤ 2 * length text + 2
quoted-short text = omega (arith, length-append (flat_map escaped text) (34 ∷ []), flat_map-escaped text)

-- a banner
banner_content : List ℕ → ℕ → List ℕ
banner_content host n = codes "220 " ++ (host ++ (codes " dictcat ready <" ++ (decimal n ++ (codes "@" ++ (host ++ codes ">")))))

banner_is : (host : List ℕ) (n : ℕ) → banner_octets host n ≡ banner_content host n ++ crlf
unfolding banner_octets banner_content
banner_is host n = simp append_assoc

banner_short : (host : List ℕ) (n : ℕ) → length host ≤ 253 → n < 2 ^ 64 → length (banner_content host n) + 2 ≤ 1024
unfolding banner_content
banner_short host n h lt =
    let digits : length (decimal n) ≤ 20 = length-decimal-le 20 n (omega arith) (omega arith) lt in
    simp length-append (omega arith)

banner_whole : (host : List ℕ) (n : ℕ) → HasNoReturn host → n < 2 ^ 64 → HasNoReturn (banner_content host n)
unfolding banner_content is_other
banner_whole host n h lt =
    return-append (codes "220 ") _ (return-written (codes "220 ") refl)
    (return-append host _ h (return-append (codes " dictcat ready <") _ (return-written (codes " dictcat ready <") refl)
    (return-append (decimal n) _ (return-decimal n lt) (return-append (codes "@") _ (return-written (codes "@") refl) (return-append host _ h (return-written (codes ">") refl))))))

-- a line that tells a number
numbered_line : (front back : List ℕ) (n : ℕ) → length front + length back + 22 ≤ 1024 → list_all is_other front ≡ true → list_all is_other back ≡ true → n < 2 ^ 64 → AreShortLines (front ++ (decimal n ++ (back ++ crlf)))
numbered_line front back n short h k lt =
    let digits : length (decimal n) ≤ 20 = length-decimal-le 20 n (omega arith) (omega arith) lt in
    one_line _ (front ++ (decimal n ++ back)) (simp append_assoc) (omega (arith, digits, short, length-append front (decimal n ++ back), length-append (decimal n) back))
    (return-append front (decimal n ++ back) (return-written front h) (return-append (decimal n) back (return-decimal n lt) (return-written back k)))

-- the line before a definition
definition_content : List ℕ → List ℕ → List ℕ → List ℕ
definition_content headword name title = codes "151 " ++ (quoted headword ++ (codes " " ++ (name ++ (codes " " ++ quoted title))))

definition_is : (headword name title : List ℕ) → definition_line headword name title ≡ definition_content headword name title ++ crlf
unfolding definition_line definition_content
definition_is headword name title = simp append_assoc

definition_short : (headword name title : List ℕ) → length headword ≤ 255 → length name ≤ 32 → length title ≤ 200 → length (definition_content headword name title) + 2 ≤ 1024
unfolding definition_content
definition_short headword name title h k l =
    omega (arith, quoted-short headword, quoted-short title, length-append (quoted headword) (32 ∷ (name ++ (32 ∷ quoted title))), length-append name (32 ∷ quoted title))

definition_whole : (headword name title : List ℕ) → HasNoReturn headword → HasNoReturn name → HasNoReturn title → HasNoReturn (definition_content headword name title)
unfolding definition_content is_other
definition_whole headword name title h k l =
    let space : HasNoReturn (codes " ") = return-written (codes " ") refl in
    let to_title : List ℕ = codes " " ++ quoted title in
    let to_name : List ℕ = codes " " ++ (name ++ to_title) in
    let title_whole : HasNoReturn to_title = return-append (codes " ") (quoted title) space (return-quoted title l) in
    let name_whole : HasNoReturn to_name = return-append (codes " ") (name ++ to_title) space (return-append name to_title k title_whole) in
    return-append (codes "151 ") (quoted headword ++ to_name) (return-written (codes "151 ") refl) (return-append (quoted headword) to_name (return-quoted headword h) name_whole)

-- ---- texts

stuffed-short : (line : List ℕ) (test : Bool) → (slice_index line 0 == 46) ≡ test → length line ≤ 1021 → length (stuffed line) + 2 ≤ 1024
stuffed-short line true e h = rw e (omega arith)
stuffed-short line false e h = rw e (omega arith)

stuffed-whole : (line : List ℕ) (test : Bool) → (slice_index line 0 == 46) ≡ test → HasNoReturn line → HasNoReturn (stuffed line)
stuffed-whole line true e h = rw e ((λ f. omega (arith, f)), h)
stuffed-whole line false e h = rw e h

-- a line of a list
row-short : (name text : List ℕ) → length name ≤ 32 → length text ≤ 255 → length (list_row name text) ≤ 1021
row-short name text h k = omega (arith, quoted-short text, length-append name (32 ∷ quoted text))

row-whole : (name text : List ℕ) → HasNoReturn name → HasNoReturn text → HasNoReturn (list_row name text)
unfolding is_other
row-whole name text h k = return-append name (codes " " ++ quoted text) h (return-append (codes " ") (quoted text) (return-written (codes " ") refl) (return-quoted text k))

list_line-short : (name text : List ℕ) → IsShort 32 name → IsShort 255 text → AreShortLines (list_line_octets name text)
unfolding list_line_octets sent_line
list_line-short name text h k =
    one_line _ (stuffed (list_row name text)) refl (stuffed-short (list_row name text) _ refl (row-short name text h.0 k.0)) (stuffed-whole (list_row name text) _ refl (row-whole name text h.1 k.1))

all_stuffed : (lines : List (List ℕ)) → AllByRecursion (IsShort 1021) lines → AllByRecursion (λ line. (length line + 2 ≤ 1024) × HasNoReturn line) (map stuffed lines ++ ((46 ∷ []) ∷ []))
all_stuffed [] h = ((omega arith, ((λ f. omega (arith, f)), tt)), tt)
all_stuffed (line ∷ lines) h = ((stuffed-short line _ refl h.0.0, stuffed-whole line _ refl h.0.1), all_stuffed lines h.1)

block_is : (lines : List (List ℕ)) → block lines ≡ flat_map (λ line. line ++ crlf) (map stuffed lines ++ ((46 ∷ []) ∷ []))
unfolding sent_line
block_is [] = refl
block_is (line ∷ lines) = append_assoc (stuffed line ++ crlf) (flat_map sent_line lines) (46 ∷ crlf) ∙ ap (λ l. (stuffed line ++ crlf) ++ l) (block_is lines)

-- a text
text-lines : (lines : List (List ℕ)) → AllByRecursion (IsShort 1021) lines → AreShortLines (block lines)
text-lines lines each = (map stuffed lines ++ ((46 ∷ []) ∷ []), block_is lines, all_stuffed lines each)

-- a line, and then a text
headed-lines : (heading : List ℕ) (lines : List (List ℕ)) → length heading + 2 ≤ 1024 → HasNoReturn heading → AllByRecursion (IsShort 1021) lines → AreShortLines ((heading ++ crlf) ++ block lines)
headed-lines heading lines short whole each = (
  heading ∷ (map stuffed lines ++ ((46 ∷ []) ∷ [])),
  ap (λ x. (heading ++ crlf) ++ x) (block_is lines),
  ((short, whole), all_stuffed lines each),
)

definition-lines : (headword name title body : List ℕ) → IsShort 255 headword → IsShort 32 name → IsShort 200 title
    → AllByRecursion (IsShort 1021) (text_lines body) → AreShortLines (definition_octets headword name title body)
unfolding definition_octets
definition-lines headword name title body h k l m =
    subst AreShortLines (sym (ap (λ x. x ++ block (text_lines body)) (definition_is headword name title)))
    (headed-lines (definition_content headword name title) (text_lines body) (definition_short headword name title h.0 k.0 l.0) (definition_whole headword name title h.1 k.1 l.1) m)

-- lines that are written out
all_written : (lines : List (List ℕ)) → list_all (λ line. nat_le (length line) 1021 && list_all is_other line) lines ≡ true → AllByRecursion (IsShort 1021) lines
all_written [] e = tt
all_written (line ∷ lines) e =
    let here : (nat_le (length line) 1021 ≡ true) × (list_all is_other line ≡ true) = both_true _ _ (both_true _ _ e).0 in
    ((leb-true (length line) 1021 here.0, return-written line here.1), all_written lines (both_true _ _ e).1)

help-short : AreShortLines help_octets
unfolding is_other help_lines help_octets
help-short = headed-lines (codes "113 help text") help_lines (omega arith) (return-written (codes "113 help text") refl) (all_written help_lines refl)

-- what is told of the server
host-short : (host : List ℕ) → IsShort 253 host → IsShort 1021 (codes "dictcat on " ++ host)
unfolding is_other
host-short host h = (omega (arith, h.0), return-append (codes "dictcat on ") host (return-written (codes "dictcat on ") refl) h.1)

count-short : (n : ℕ) → n < 2 ^ 64 → IsShort 1021 (codes "databases " ++ decimal n)
unfolding is_other
count-short n lt =
    let digits : length (decimal n) ≤ 20 = length-decimal-le 20 n (omega arith) (omega arith) lt in
    (omega (arith, digits), return-append (codes "databases ") (decimal n) (return-written (codes "databases ") refl) (return-decimal n lt))

server-short : (host : List ℕ) (n : ℕ) → IsShort 253 host → n < 2 ^ 64 → AreShortLines (server_information_octets host n)
unfolding is_other server_lines server_information_octets
server-short host n h lt =
    headed-lines (codes "114 server information") (server_lines host n) (omega arith) (return-written (codes "114 server information") refl) (host-short host h, (count-short n lt, tt))

-- every line of a reply within the limits is short
pub reply_octets-short : (reply : Reply) → IsWithinLimits reply → AreShortLines (reply_octets reply)
unfolding is_other definition_count_octets match_count_octets database_count_octets strategy_count_octets list_end_octets info_heading_octets info_text_octets status_octets done_octets closing_octets unavailable_octets
    not_recognized_octets invalid_database_octets invalid_strategy_octets no_match_octets no_databases_octets illegal_parameters_octets not_implemented_octets
reply_octets-short (Banner host connection) (h, k) = one_line _ _ (banner_is host.now connection) (banner_short host.now connection h.0 k) (banner_whole host.now connection h.1 k)
reply_octets-short (DefinitionCount count) h = numbered_line (codes "150 ") (codes " definitions retrieved") count (omega arith) refl refl h
reply_octets-short (Definition headword name title body) (h, k, l, m) = definition-lines headword.now name.now title.now body.now h k l m
reply_octets-short (MatchCount count) h = numbered_line (codes "152 ") (codes " matches found") count (omega arith) refl refl h
reply_octets-short (DatabaseCount count) h = numbered_line (codes "110 ") (codes " databases present") count (omega arith) refl refl h
reply_octets-short (StrategyCount count) h = numbered_line (codes "111 ") (codes " strategies available") count (omega arith) refl refl h
reply_octets-short (ListLine name text) (h, k) = list_line-short name.now text.now h k
reply_octets-short ListEnd h = one_line _ (codes ".") refl (omega arith) (return-written (codes ".") refl)
reply_octets-short InfoHeading h = one_line _ (codes "112 database information") refl (omega arith) (return-written (codes "112 database information") refl)
reply_octets-short (InfoText text) h = text-lines (text_lines text.now) h
reply_octets-short Help h = help-short
reply_octets-short (ServerInformation host count) (h, k) = server-short host.now count h k
reply_octets-short (Status count) h = numbered_line (codes "210 ") (codes " databases") count (omega arith) refl refl h
reply_octets-short Done h = one_line _ (codes "250 ok") refl (omega arith) (return-written (codes "250 ok") refl)
reply_octets-short Closing h = one_line _ (codes "221 closing connection") refl (omega arith) (return-written (codes "221 closing connection") refl)
reply_octets-short Unavailable h = one_line _ (codes "420 server temporarily unavailable") refl (omega arith) (return-written (codes "420 server temporarily unavailable") refl)
reply_octets-short NotRecognized h = one_line _ (codes "500 command not recognized") refl (omega arith) (return-written (codes "500 command not recognized") refl)
reply_octets-short IllegalParameters h = one_line _ (codes "501 illegal parameters") refl (omega arith) (return-written (codes "501 illegal parameters") refl)
reply_octets-short NotImplemented h = one_line _ (codes "502 command not implemented") refl (omega arith) (return-written (codes "502 command not implemented") refl)
reply_octets-short InvalidDatabase h = one_line _ (codes "550 invalid database") refl (omega arith) (return-written (codes "550 invalid database") refl)
reply_octets-short InvalidStrategy h = one_line _ (codes "551 invalid strategy") refl (omega arith) (return-written (codes "551 invalid strategy") refl)
reply_octets-short NoMatch h = one_line _ (codes "552 no match") refl (omega arith) (return-written (codes "552 no match") refl)
reply_octets-short NoDatabases h = one_line _ (codes "554 no databases present") refl (omega arith) (return-written (codes "554 no databases present") refl)
