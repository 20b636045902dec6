-- The lines of an index, taken one after another.
use Rattle.std.proofs.Common.{◌≡◌, ℕ, ◌+◌, ◌<◌, pos, List, [], ◌∷◌, ◌++◌, map, length, refl, sym, ap, subst, ◌∙◌, append_assoc, append-nil, arith}
use Rattle.std.specs.Prelude.{◌≢◌, cond}
use Rattle.std.specs.List.{AllByRecursion}
use Rattle.std.proofs.lemmas.List.{map-append, length-append}
use Rattle.std.proofs.lemmas.List.Elements.{filter-append}
use Rattle.dict_text.proofs.AllLemmas.{all_append}
use Rattle.store_tables.specs.Records.{EntryRecord}
use Rattle.dict_index.specs.Line.{Line}
use Rattle.store_rows.specs.Stored.{IsStorable, stored_index, stored_line}
use Rattle.store_rows.specs.Tables.{Tables, same_number, entries_of}
use Rattle.store_rows.specs.Taken.{HasTaken, StandsForNone, with_entry, next_entry, IsOfLast}
use Rattle.store_rows.specs.Whole.{with_entries}
use Rattle.store_rows.specs.Written.{numbered, entry_record}
use Rattle.store_rows.specs.declared.reader.Reader.{Reader}
use Rattle.store_rows.proofs.IndexLemmas.{goes_on, one_more, no_more}
use Rattle.store_rows.proofs.TakenLemmas.{same_itself}
use Rattle.store_search.specs.Entries.{entry_of}
use Rattle.store_scans.specs.Entries.{AreLinesTaken, AreNoLines, AreNextTaken, IsStoredIndexOf, IsWrongIndex, next_entries}
use Rattle.store_scans.specs.IndexingReader.{AreLinesAdded}
use Rattle.store_scans.specs.Indexing.{indexed_of}
use Rattle.store_scans.specs.declared.indexing_reader.IndexingReader.{IndexingReader}

-- ---- one line

pub line_taken : (old new : Reader) (line : Line) → ((version : ℕ) (taken : Tables) (number : ℕ) → HasTaken version old taken → IsOfLast taken (next_entry taken number line)
    → HasTaken version new (with_entry taken (next_entry taken number line)))
    → AreLinesTaken old new (line ∷ [])
line_taken old new line h version taken number before last = h version taken number before last

pub line_refused : (old : Reader) (line : Line) → ((version : ℕ) (taken : Tables) (number : ℕ) → HasTaken version old taken → IsOfLast taken (next_entry taken number line)
    → StandsForNone version (with_entry taken (next_entry taken number line)))
    → AreNoLines old (line ∷ [])
line_refused old line h version taken number before last = h version taken number before last

-- ---- one line more

numbered_push : (number n : ℕ) (lines : List Line) (line : Line) → numbered (entry_record number) n (lines ++ line ∷ []) ≡ numbered (entry_record number) n lines ++ entry_record number (n + length lines) line ∷ []
numbered_push number n [] line = ap (λ (k : ℕ). entry_record number k line ∷ []) (let none : n ≡ n + 0 = omega arith in none)
numbered_push number n (l ∷ lines) line =
    ap (λ z. entry_record number n l ∷ z) (numbered_push number (n + 1) lines line
    ∙ ap (λ (k : ℕ). numbered (entry_record number) (n + 1) lines ++ entry_record number k line ∷ []) (let same : n + 1 + length lines ≡ n + length (l ∷ lines) = omega arith in same))

numbered_length : (number n : ℕ) (lines : List Line) → length (numbered (entry_record number) n lines) ≡ length lines
numbered_length number n [] = refl
numbered_length number n (l ∷ lines) = let rest = numbered_length number (n + 1) lines in omega (arith, rest)

of_number : (number n : ℕ) (lines : List Line) → entries_of (pos number) (numbered (entry_record number) n lines) ≡ numbered (entry_record number) n lines
of_number number n [] = refl
of_number number n (l ∷ lines) =
    let rest = entries_of (pos number) (numbered (entry_record number) (n + 1) lines) in
    ap (λ b. cond b (entry_record number n l ∷ rest) rest) (same_itself (pos number)) ∙ ap (λ z. entry_record number n l ∷ z) (of_number number (n + 1) lines)

-- so many entries of the edition were taken then
many : (taken : Tables) (number : ℕ) (lines : List Line) → length (entries_of (pos number) (with_entries taken (next_entries taken number lines)).entries) ≡ length (entries_of (pos number) taken.entries) + length lines
many taken number lines =
    let had = entries_of (pos number) taken.entries in
    let given = next_entries taken number lines in
    ap length (filter-append (λ (e : EntryRecord). same_number e.edition (pos number)) taken.entries given)
    ∙ length-append had (entries_of (pos number) given)
    ∙ ap (λ (k : ℕ). length had + k) (ap length (of_number number (length had) lines) ∙ numbered_length number (length had) lines)

module _ (first old : Reader) (lines : List Line) (line : Line) (t : AreLinesTaken first old lines) where
  -- the entries with those of one line more
  pushed : (taken : Tables) (number : ℕ) → (taken.entries ++ next_entries taken number lines) ++ next_entries (with_entries taken (next_entries taken number lines)) number (line ∷ []) ≡ taken.entries
      ++ next_entries taken number (lines ++ line ∷ [])
  pushed taken number =
      append_assoc taken.entries (next_entries taken number lines) _
      ∙ ap (λ (k : ℕ). taken.entries ++ (next_entries taken number lines ++ entry_record number k line ∷ [])) (many taken number lines)
      ∙ ap (λ l. taken.entries ++ l) (sym (numbered_push number (length (entries_of (pos number) taken.entries)) lines line))

  pub lines_next : (new : Reader) → AreLinesTaken old new (line ∷ []) → AreLinesTaken first new (lines ++ line ∷ [])
  lines_next new more version taken number h last =
      subst (λ (entries : List EntryRecord). HasTaken version new (record taken { entries = entries })) (pushed taken number) (more version (with_entries taken (next_entries taken number lines)) number (t version taken number h last) last)

  pub lines_refused : AreNoLines old (line ∷ []) → AreNoLines first (lines ++ line ∷ [])
  lines_refused wrong version taken number h last =
      subst (λ (entries : List EntryRecord). StandsForNone version (record taken { entries = entries })) (pushed taken number)
      (wrong version (with_entries taken (next_entries taken number lines)) number (t version taken number h last) last)

pub lines_added : (first old new : IndexingReader) (lines : List Line) (line : Line) → AreLinesAdded first old lines → AreLinesAdded old new (line ∷ []) → AreLinesAdded first new (lines ++ line ∷ [])
lines_added first old new lines line t more = record {
  taken = lines_next first.reader old.reader lines line t.taken new.reader more.taken;
  index = more.index ∙ ap (λ l. l ++ entry_of line ∷ []) t.index ∙ append_assoc first.index (map entry_of lines) (entry_of line ∷ []) ∙ ap (λ l. first.index ++ l) (sym (map-append entry_of lines (line ∷ [])));
}

pub no_lines_added : (reader : IndexingReader) → AreLinesAdded reader reader []
no_lines_added reader = record {
  taken = λ version taken number h last. subst (λ (entries : List EntryRecord). HasTaken version reader.reader (record taken { entries = entries })) (sym (append-nil taken.entries)) h;
  index = sym (append-nil reader.index);
}

-- ---- the octets of an index

-- what is left behind some lines, where no stored line begins it
pub no_line_left : (first : Reader) (octets rest : List ℕ) (lines : List Line) → AllByRecursion IsStorable lines → octets ≡ stored_index lines ++ rest → rest ≢ []
    → ((said : Line) (behind : List ℕ) → IsStorable said → rest ≢ stored_line said ++ 10 ∷ behind) → IsWrongIndex first octets
no_line_left first octets rest lines storable is some none others all same = absurd (no_more lines others rest storable all some none (sym same ∙ is))

-- or where one does that isn't taken
pub line_left : (first old : Reader) (octets rest behind : List ℕ) (lines : List Line) (line : Line) → AllByRecursion IsStorable lines → IsStorable line → octets ≡ stored_index lines ++ rest → rest ≡ stored_line line ++ 10 ∷ behind
    → AreLinesTaken first old lines → AreNoLines old (line ∷ []) → IsWrongIndex first octets
line_left first old octets rest behind lines line storable one is begins t wrong others all same =
    let whole : stored_index others ≡ stored_index (lines ++ line ∷ []) ++ behind = sym same ∙ is ∙ ap (λ l. stored_index lines ++ l) begins ∙ one_more lines line behind in
    let more = goes_on (lines ++ line ∷ []) others behind (all_append IsStorable lines (line ∷ []) storable (one, tt)) all whole in
    (lines ++ line ∷ [], more.0, more.1, lines_refused first old lines line t wrong)

pub next_left : (octets rest behind : List ℕ) (lines : List Line) (line : Line) → octets ≡ stored_index lines ++ rest → rest ≡ stored_line line ++ 10 ∷ behind → octets ≡ stored_index (lines ++ line ∷ []) ++ behind
next_left octets rest behind lines line is begins = is ∙ ap (λ l. stored_index lines ++ l) begins ∙ one_more lines line behind

pub fewer_left : (rest front behind : List ℕ) → rest ≡ front ++ 10 ∷ behind → length behind < length rest
fewer_left rest front behind is = let size = ap length is ∙ length-append front (10 ∷ behind) in omega (arith, size)

-- ---- the entries of an index

indexed_lines : (number n : ℕ) (lines : List Line) → map entry_of lines ≡ map indexed_of (numbered (entry_record number) n lines)
indexed_lines number n [] = refl
indexed_lines number n (l ∷ lines) = ap (λ z. entry_of l ∷ z) (indexed_lines number (n + 1) lines)

pub index_read : (number : ℕ) (first last : IndexingReader) (octets : List ℕ) → (lines : List Line) × AllByRecursion IsStorable lines × (octets ≡ stored_index lines) × AreLinesAdded first last lines
    → (all : List EntryRecord) × IsStoredIndexOf (pos number) octets all × AreNextTaken (pos number) first.reader last.reader all × (last.index ≡ first.index ++ map indexed_of all)
index_read number first last octets (lines, storable, is, added) = (
  numbered (entry_record number) 0 lines,
  record { edition = number; is = refl; lines = lines; storable = storable; octets_are = is; entries = refl },
  (λ version taken h fresh. subst (λ (k : ℕ). HasTaken version last.reader (with_entries taken (numbered (entry_record number) k lines))) (ap length fresh.none) (added.taken version taken number h fresh.last)),
  added.index ∙ ap (λ l. first.index ++ l) (indexed_lines number 0 lines),
)

pub nothing_left : (rest : List ℕ) → length rest ≡ 0 → rest ≡ []
nothing_left [] e = refl
nothing_left (x ∷ rest) e = absurd (omega (arith, e))
