-- An edition that was read keeps the limits of editions.
use Rattle.std.proofs.Common.{◌≡◌, ℕ, suc, ◌+◌, ◌<◌, ◌≤◌, ◌⊎◌, inl, inr, Bool, true, false, List, [], ◌∷◌, length, map, refl, sym, ap, ◌∙◌, subst, arith, cond}
use Rattle.std.proofs.lemmas.Bool.{and_from}
use Rattle.std.proofs.lemmas.Bool.Decides.{nat_tests}
use Rattle.std.proofs.lemmas.List.{length-map}
use Rattle.std.proofs.lemmas.Slice.Eq.{bytes_eq-Decides}
use Rattle.std.proofs.lemmas.Str.{IsUtf8-nil}
use Rattle.std.specs.Prelude.{not, nat_le, count_by, ◌==◌, Option, Some, None, IfSome, unwrap_or, find, slice_get, slice_index_or}
use Rattle.std.specs.List.{AllByRecursion, AllZip}
use Rattle.std.specs.Option.{option_map}
use Rattle.std.specs.Str.{IsUtf8, bytes_eq}
use Rattle.dict_text.specs.Characters.{is_blank}
use Rattle.dict_text.specs.Blanks.{without_blanks_at_ends}
use Rattle.dict_text.specs.Lines.{text_lines}
use Rattle.dict_text.specs.Names.{first_passes, last_passes, is_title}
use Rattle.dict_match.specs.Key.{reserved_key_of}
use Rattle.dict_index.specs.Cuts.{HasNo, IsCutAt, AreColumns}
use Rattle.dict_index.specs.Limits.{most_lines, most_octets, most_entries}
use Rattle.dict_index.specs.Line.{Line, IsLine, body_in}
use Rattle.dict_index.specs.Reserved.{is_reserved, without_key_line, title_from, info_from, text_under, short_key, info_key}
use Rattle.dict_index.specs.Edition.{Edition, ReadEdition, ShowsHeadwords, entry_in, edition_of}
use Rattle.dict_index.specs.Tests.{IfSays, IsHeadword, IsShown, IsTextOctet, IsTitle, line_at}
use Rattle.dict_index.specs.Order.{rank, IsOfLine}
use Rattle.dict_index.specs.Meaning.{IsReadEdition, IsEdition, HaveThreeColumns, entry_lines}
use Rattle.dict_index.specs.Views.{line_of, LiesIn}
use Rattle.dict_index.specs.declared.entry.Entry.{Entry as ReadEntry}
use Rattle.dict_index.specs.WellFormed.{IsEditionTitle, IsEditionText, IsEntryShown, IsWellFormedEntry, IsWellFormedEdition}
use Rattle.dict_index.specs.declared.fault.EditionRefusal.TheVariants.{IndexNotUtf8, Headword, Shown, BodyText, BodyLine, BadTitle, TooManyEntries, TextTooLong, Interval}
use Rattle.dict_text.proofs.AllLemmas.{all_at, all_weaker, all_filter, all_append_parts}
use Rattle.dict_index.proofs.CutLemmas.{utf8_parts, count_fourth}
use Rattle.dict_index.proofs.LineLemmas.{columns_from_line}
use Rattle.dict_index.proofs.ReadLemmas.{headword_utf8, fourth_utf8}
use Rattle.dict_index.proofs.TextLemmas.{first_line_cut, key_line_cut, other_line_cut, key_line_whole, other_line_whole, cut_or_none, lines_utf8}
use Rattle.dict_index.proofs.TrimLemmas.{trimmed_utf8, trimmed_first, trimmed_last}

-- what each line says has the property, where whatever a line says has it
said_all : (P : Line → Type 0) (lines : List (List ℕ)) (said : List Line) → AllZip IsLine lines said → ((k : ℕ) → k < length lines → IfSays (slice_index_or lines k []) P) → AllByRecursion P said
said_all P [] [] are h = tt
said_all P [] (s ∷ said) are h = absurd are
said_all P (line ∷ lines) [] are h = absurd are
said_all P (line ∷ lines) (s ∷ said) are h = (h 0 (omega arith) s are.0, said_all P lines said are.1 (λ k lt. h (suc k) (omega arith)))

-- the line that has a key is one of the lines
found_has : (P : Line → Type 0) (test : Line → Bool) (said : List Line) (s : Line) → AllByRecursion P said → find test said ≡ Some s → P s
found_has P test [] s h e = absurd (cc)
found_has P test (x ∷ said) s h e = by_first (test x) e (found_has P test said s h.1)
  where
    by_first : (b : Bool) → cond b (Some x) (find test said) ≡ Some s → (find test said ≡ Some s → P s) → P s
    by_first true k later = let same : x ≡ s = cc in subst P same h.0
    by_first false k later = later k

under_has : (P : List ℕ → Type 0) (key text : List ℕ) (said : List Line) (octets : List ℕ) → AllByRecursion (λ s. P (body_in text s)) said → text_under key text said ≡ Some octets → P octets
under_has P key text said octets h e = by_found (find (λ s. bytes_eq (reserved_key_of s.headword) key) said) refl e
  where
    by_found : (found : Option Line) → find (λ s. bytes_eq (reserved_key_of s.headword) key) said ≡ found → option_map (body_in text) found ≡ Some octets → P octets
    by_found None is k = absurd (let none : let o : Option (List ℕ) = None in o ≡ Some octets = k in cc)
    by_found (Some s) is k =
        let same : body_in text s ≡ octets = cc in
        subst P same (found_has (λ s. P (body_in text s)) (λ s. bytes_eq (reserved_key_of s.headword) key) said s h is)

-- what stands behind the first line of a text keeps the limits that the text keeps
behind_keeps : (t xs ys : List ℕ) → IsCutAt 10 t xs ys → IsEditionText t → IsEditionText ys
behind_keeps t xs ys c h = (
  ((utf8_parts t xs ys 10 c.whole (omega arith) h.0.0).1, (all_append_parts IsTextOctet xs (10 ∷ ys) (subst (AllByRecursion IsTextOctet) c.whole h.0.1)).1.1),
  (subst (AllByRecursion (λ line. length line ≤ 1021)) (first_line_cut t xs ys c) h.1).1,
)

nothing_keeps : IsEditionText []
nothing_keeps = ((IsUtf8-nil, tt), tt)

rest_keeps : (key t : List ℕ) → IsEditionText t → IsEditionText (without_key_line key t)
rest_keeps key t h = by_cut (cut_or_none 10 t)
  where
    whole : (none : HasNo 10 t) (b : Bool) → bytes_eq (reserved_key_of t) key ≡ b → IsEditionText (without_key_line key t)
    whole none true e = subst IsEditionText (sym (key_line_whole key t none e)) nothing_keeps
    whole none false e = subst IsEditionText (sym (other_line_whole key t none e)) h

    behind : (xs ys : List ℕ) → IsCutAt 10 t xs ys → (b : Bool) → bytes_eq (reserved_key_of xs) key ≡ b → IsEditionText (without_key_line key t)
    behind xs ys c true e = subst IsEditionText (sym (key_line_cut key t xs ys c e)) (behind_keeps t xs ys c h)
    behind xs ys c false e = subst IsEditionText (sym (other_line_cut key t xs ys c e)) h

    by_cut : HasNo 10 t ⊎ ((xs : List ℕ) × (ys : List ℕ) × IsCutAt 10 t xs ys) → IsEditionText (without_key_line key t)
    by_cut (inl none) = whole none (bytes_eq (reserved_key_of t) key) refl
    by_cut (inr c) = behind c.0 c.1 c.2 (bytes_eq (reserved_key_of c.0) key) refl

-- the first line of a text is text
first_utf8 : (t title : List ℕ) → IsUtf8 t → option_map without_blanks_at_ends (slice_get (text_lines t) 0) ≡ Some title → IsUtf8 title
first_utf8 t title u e = by_lines (text_lines t) (lines_utf8 t u) e
  where
    by_lines : (lines : List (List ℕ)) → AllByRecursion IsUtf8 lines → option_map without_blanks_at_ends (slice_get lines 0) ≡ Some title → IsUtf8 title
    by_lines [] all k = absurd (let none : let o : Option (List ℕ) = None in o ≡ Some title = k in cc)
    by_lines (line ∷ lines) all k = let same : without_blanks_at_ends line ≡ title = cc in subst IsUtf8 same (trimmed_utf8 line all.0)

first_trimmed : (t title : List ℕ) → option_map without_blanks_at_ends (slice_get (text_lines t) 0) ≡ Some title → (first_passes is_blank title ≡ false) × (last_passes is_blank title ≡ false)
first_trimmed t title e = by_lines (text_lines t) e
  where
    by_lines : (lines : List (List ℕ)) → option_map without_blanks_at_ends (slice_get lines 0) ≡ Some title → (first_passes is_blank title ≡ false) × (last_passes is_blank title ≡ false)
    by_lines [] k = absurd (let none : let o : Option (List ℕ) = None in o ≡ Some title = k in cc)
    by_lines (line ∷ lines) k =
        let same : without_blanks_at_ends line ≡ title = cc in
        (sym (ap (first_passes is_blank) same) ∙ trimmed_first line, sym (ap (last_passes is_blank) same) ∙ trimmed_last line)

-- a title without blanks at its ends is one that a virtual database may have
title_passes : (title : List ℕ) → IsTitle title → first_passes is_blank title ≡ false → last_passes is_blank title ≡ false → is_title title ≡ true
unfolding is_title
title_passes title h first last =
    let some : nat_le 1 (length title) ≡ true = let l = h.0 in grind (arith, nat_tests) in
    let few : nat_le (length title) 200 ≡ true = let m = h.1 in grind (arith, nat_tests) in
    and_from _ _ (and_from _ _ (and_from _ _ (and_from _ _ some few) (ap not h.2)) (ap not first)) (ap not last)

-- the title of what lines say
title_of_under : (short : Option (List ℕ)) (title : List ℕ) → title_from short ≡ Some title → (octets : List ℕ) × (short ≡ Some octets)
    × (option_map without_blanks_at_ends (slice_get (text_lines (without_key_line short_key octets)) 0) ≡ Some title)
title_of_under None title e = absurd (let none : let o : Option (List ℕ) = None in o ≡ Some title = e in cc)
title_of_under (Some octets) title e = (octets, refl, e)

info_keeps : (info : Option (List ℕ)) → ((octets : List ℕ) → info ≡ Some octets → IsEditionText octets) → IsEditionText (info_from info)
info_keeps None h = nothing_keeps
info_keeps (Some octets) h = rest_keeps info_key octets (h octets refl)

-- what a line says of an entry, its key aside
abbrev IsGoodLine : List ℕ → Line → Type 0
IsGoodLine text said = IsUtf8 said.headword × IsHeadword said.headword × IsEditionText (body_in text said) × IsEntryShown said.shown

-- what is shown is a good fourth column, or a good headword
shown_good : (headword : List ℕ) (fourth : Option (List ℕ)) → IsUtf8 headword → IsHeadword headword → IfSome fourth IsUtf8 → IfSome fourth IsShown → IsEntryShown (unwrap_or fourth headword)
shown_good headword None u h v k = (u, (h.0, h.1, h.2))
shown_good headword (Some column) u h v k = (v, k)

-- the lines that make entries make well formed ones
entries_good : (text : List ℕ) (said : List Line) → AllByRecursion (IsGoodLine text) said → AllByRecursion IsWellFormedEntry (map (entry_in text) (entry_lines said))
entries_good text [] h = tt
entries_good text (s ∷ said) h = by_key (is_reserved (reserved_key_of s.headword)) refl (entries_good text said h.1)
  where
    by_key : (b : Bool) → is_reserved (reserved_key_of s.headword) ≡ b → AllByRecursion IsWellFormedEntry (map (entry_in text) (entry_lines said))
        → AllByRecursion IsWellFormedEntry (map (entry_in text) (cond (not b) (s ∷ entry_lines said) (entry_lines said)))
    by_key true e later = later
    by_key false e later = (record { headword = (h.0.0, h.0.1, e); shown = h.0.3; body = h.0.2 }, later)

-- a reserved line makes no entry, so there are fewer entries than lines
entries_few : (said : List Line) → length (entry_lines said) ≤ length said
entries_few [] = omega arith
entries_few (s ∷ said) = by_key (is_reserved (reserved_key_of s.headword)) (entries_few said)
  where
    by_key : (b : Bool) → length (entry_lines said) ≤ length said → length (cond (not b) (s ∷ entry_lines said) (entry_lines said)) ≤ length (s ∷ said)
    by_key true le = omega arith
    by_key false le = omega arith

entries_fewer : (key : List ℕ) (said : List Line) (s : Line) → is_reserved key ≡ true → find (λ s. bytes_eq (reserved_key_of s.headword) key) said ≡ Some s → length (entry_lines said) < length said
entries_fewer key [] s reserved e = absurd (cc)
entries_fewer key (x ∷ said) s reserved e = by_first (bytes_eq (reserved_key_of x.headword) key) refl e (is_reserved (reserved_key_of x.headword)) refl (entries_few said) (entries_fewer key said s reserved)
  where
    by_first : (b : Bool) → bytes_eq (reserved_key_of x.headword) key ≡ b → cond b (Some x) (find (λ s. bytes_eq (reserved_key_of s.headword) key) said) ≡ Some s → (r : Bool) → is_reserved (reserved_key_of x.headword) ≡ r
        → length (entry_lines said) ≤ length said → (find (λ s. bytes_eq (reserved_key_of s.headword) key) said ≡ Some s → length (entry_lines said) < length said)
        → length (cond (not r) (x ∷ entry_lines said) (entry_lines said)) < length (x ∷ said)
    by_first b t k true is le later = omega arith
    by_first true t k false is le later =
        let same : reserved_key_of x.headword ≡ key = (bytes_eq-Decides (reserved_key_of x.headword) key).0 t in
        absurd (let bad : true ≡ false = sym reserved ∙ (ap is_reserved (sym same) ∙ is) in cc)
    by_first false t k false is le later = let lt = later k in omega arith

under_fewer : (key text : List ℕ) (said : List Line) (octets : List ℕ) → is_reserved key ≡ true → text_under key text said ≡ Some octets → length (entry_lines said) < length said
under_fewer key text said octets reserved e = by_found (find (λ s. bytes_eq (reserved_key_of s.headword) key) said) refl e
  where
    by_found : (found : Option Line) → find (λ s. bytes_eq (reserved_key_of s.headword) key) said ≡ found → option_map (body_in text) found ≡ Some octets → length (entry_lines said) < length said
    by_found None is k = absurd (let none : let o : Option (List ℕ) = None in o ≡ Some octets = k in cc)
    by_found (Some s) is k = entries_fewer key said s reserved is

as_many : (lines : List (List ℕ)) (said : List Line) → AllZip IsLine lines said → length said ≡ length lines
as_many [] [] are = refl
as_many [] (s ∷ said) are = absurd are
as_many (line ∷ lines) [] are = absurd are
as_many (line ∷ lines) (s ∷ said) are = ap suc (as_many lines said are.1)

-- tests that are none of a line
title_no_line : ¬ IsOfLine BadTitle
unfolding rank
title_no_line o = let high = o.1 in omega arith

entries_no_line : ¬ IsOfLine TooManyEntries
unfolding rank
entries_no_line o = let low = o.0 in omega arith

text_no_line : ¬ IsOfLine TextTooLong
unfolding rank
text_no_line o = let low = o.0 in omega arith

module _ (index text : List ℕ) (reading : ReadEdition) (h : IsReadEdition index text reading) where
  line_utf8 : (k : ℕ) → k < length (text_lines index) → IsUtf8 (line_at index k)
  line_utf8 k lt = all_at IsUtf8 (text_lines index) k [] (lines_utf8 index (h.passes IndexNotUtf8 k (λ o. lt)).0) lt

  good_lines : AllByRecursion (IsGoodLine text) h.lines
  good_lines = said_all (IsGoodLine text) (text_lines index) h.lines h.said (λ k lt said l.
      let utf8 = line_utf8 k lt in
      let columns = columns_from_line (line_at index k) said l in
      let headword = headword_utf8 (line_at index k) said.headword l.offset_text l.size_text l.fourth utf8 columns in
      let lawful = (h.passes Headword k (λ o. lt)).1 said l in (
        headword,
        lawful,
        ((h.passes BodyText k (λ o. lt)).1 said l, (h.passes BodyLine k (λ o. lt)).1 said l),
        subst IsEntryShown (sym l.shown)
            (shown_good said.headword l.fourth headword lawful (fourth_utf8 (line_at index k) said.headword l.offset_text l.size_text l.fourth utf8 columns) ((h.passes Shown k (λ o. lt)).1 said l)),
      ))

  good_bodies : AllByRecursion (λ said. IsEditionText (body_in text said)) h.lines
  good_bodies = all_weaker (IsGoodLine text) (λ said. IsEditionText (body_in text said)) (λ said good. good.2) h.lines good_lines

  short : (octets : List ℕ) × (text_under short_key text h.lines ≡ Some octets) × (option_map without_blanks_at_ends (slice_get (text_lines (without_key_line short_key octets)) 0) ≡ Some reading.title)
  short = title_of_under (text_under short_key text h.lines) reading.title h.title

  good_title : IsEditionTitle reading.title
  good_title =
      let rest = rest_keeps short_key short.0 (under_has IsEditionText short_key text h.lines short.0 good_bodies short.1) in
      let ends = first_trimmed (without_key_line short_key short.0) reading.title short.2 in
      let passed : IsTitle reading.title = subst (λ t. IfSome t IsTitle) h.title ((h.passes BadTitle 0 (λ o. absurd (title_no_line o))).0 h.lines h.said) in
      (first_utf8 (without_key_line short_key short.0) reading.title rest.0.0 short.2, title_passes reading.title passed ends.0 ends.1)

  good_info : IsEditionText reading.info
  good_info = subst IsEditionText (sym h.info) (info_keeps (text_under info_key text h.lines) (λ octets e. under_has IsEditionText info_key text h.lines octets good_bodies e))

  good_entries : AllByRecursion IsWellFormedEntry (map (entry_in reading.text) reading.lines)
  good_entries =
      subst (λ (t : List ℕ). AllByRecursion IsWellFormedEntry (map (entry_in t) reading.lines)) (sym h.whole)
      (subst (λ (ls : List Line). AllByRecursion IsWellFormedEntry (map (entry_in text) ls)) (sym h.entries) (entries_good text h.lines good_lines))

  few_entries : length (map (entry_in reading.text) reading.lines) ≤ most_entries
  few_entries =
      let fewer = under_fewer short_key text h.lines short.0 refl short.1 in
      let lines : length (text_lines index) ≤ most_lines = (h.passes TooManyEntries 0 (λ o. absurd (entries_no_line o))).0 in
      let same = as_many (text_lines index) h.lines h.said in
      omega (arith, length-map reading.lines (entry_in reading.text), ap length h.entries)

  pub well_formed : IsWellFormedEdition (edition_of reading)
  well_formed = record { title = good_title; info = good_info; entries = good_entries; few = few_entries }

-- each entry's interval lies within the text
lines_within : (index text : List ℕ) (reading : ReadEdition) → IsReadEdition index text reading → AllByRecursion (λ said. said.offset + said.size ≤ length text) reading.lines
lines_within index text reading h =
    subst (AllByRecursion (λ said. said.offset + said.size ≤ length text)) (sym h.entries)
    (all_filter (λ said. said.offset + said.size ≤ length text) (λ said. not (is_reserved (reserved_key_of said.headword))) h.lines
    (said_all (λ said. said.offset + said.size ≤ length text) (text_lines index) h.lines h.said (λ k lt. (h.passes Interval k (λ o. lt)).1)))

pub intervals_within : (index : List ℕ) (reading : ReadEdition) → IsReadEdition index reading.text reading → (entries : List ReadEntry) → map line_of entries ≡ reading.lines → AllByRecursion (LiesIn reading.text) entries
intervals_within index reading h entries e = each entries (subst (AllByRecursion (λ said. said.offset + said.size ≤ length reading.text)) (sym e) (lines_within index reading.text reading h))
  where
    each : (es : List ReadEntry) → AllByRecursion (λ said. said.offset + said.size ≤ length reading.text) (map line_of es) → AllByRecursion (LiesIn reading.text) es
    each [] all = tt
    each (x ∷ es) all = (all.0, each es all.1)

pub text_few : (index : List ℕ) (reading : ReadEdition) → IsReadEdition index reading.text reading → length reading.text ≤ most_octets
text_few index reading h = (h.passes TextTooLong 0 (λ o. absurd (text_no_line o))).0

pub said_well_formed : (index text : List ℕ) (edition : Edition) → IsEdition index text edition → IsWellFormedEdition edition
said_well_formed index text edition h = subst IsWellFormedEdition (sym h.2) (well_formed index text h.0 h.1)

-- lines without a fourth column show their headwords
unfourth : (line : List ℕ) (said : Line) → IsLine line said → count_by (λ octet. octet == 9) line ≡ 2 → said.shown ≡ said.headword
unfourth line said l two = by_fourth l.fourth refl
  where
    by_fourth : (f : Option (List ℕ)) → l.fourth ≡ f → said.shown ≡ said.headword
    by_fourth None e = l.shown ∙ ap (λ f. unwrap_or f said.headword) e
    by_fourth (Some column) e = absurd (
        let c = subst (AreColumns line said.headword l.offset_text l.size_text) e (columns_from_line line said l) in
        omega (arith, two, count_fourth line said.headword l.offset_text l.size_text column c)
        )

said_unfourth : (lines : List (List ℕ)) (said : List Line) → AllZip IsLine lines said → AllByRecursion (λ line. count_by (λ octet. octet == 9) line ≡ 2) lines → AllByRecursion (λ line. line.shown ≡ line.headword) said
said_unfourth [] [] are h = tt
said_unfourth [] (s ∷ said) are h = absurd are
said_unfourth (line ∷ lines) [] are h = absurd are
said_unfourth (line ∷ lines) (s ∷ said) are h = (unfourth line s are.0 h.0, said_unfourth lines said are.1 h.1)

entries_unfourth : (text : List ℕ) (lines : List Line) → AllByRecursion (λ line. line.shown ≡ line.headword) lines → AllByRecursion (λ entry. entry.shown ≡ entry.headword) (map (entry_in text) lines)
entries_unfourth text [] h = tt
entries_unfourth text (line ∷ lines) h = (h.0, entries_unfourth text lines h.1)

pub headwords_shown : (index text : List ℕ) (edition : Edition) → IsEdition index text edition → HaveThreeColumns index → ShowsHeadwords edition
headwords_shown index text edition h three =
    let reading = h.0 in
    let said = said_unfourth (text_lines index) h.1.lines h.1.said three in
    let lines = subst (AllByRecursion (λ line. line.shown ≡ line.headword)) (sym h.1.entries) (all_filter (λ line. line.shown ≡ line.headword) (λ line. not (is_reserved (reserved_key_of line.headword))) h.1.lines said) in
    subst ShowsHeadwords (sym h.2) (entries_unfourth reading.text reading.lines lines)
