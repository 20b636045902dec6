-- The record that a row stands for, and that it is the one that the row was made of.
use Rattle.std.proofs.Common.{◌≡◌, ℤ, pos, List, ℕ, [], ◌∷◌, Option, Some, None, refl, sym}
use Rattle.sqlite.specs.Order.{Row}
use Rattle.sqlite.specs.declared.types.Value.{Value}
use Rattle.sqlite.specs.declared.types.Value.TheVariants.{Int, Text, Blob}
use Rattle.store_tables.specs.Records as spec
use Rattle.store_sql.specs.Encodings.{mark_row, item_row, member_row, edition_row, entry_row, kept_row, number_or_null, text_or_null}
use Rattle.store_sql.specs.HeaderRecords.{header_row}
use Rattle.store_sql.specs.PartRecords.{part_row}
use Rattle.store_sql.specs.Readings.{shown_row}

unfoldable pub number_in : Value → Option ℤ
number_in (Int n) = Some n
number_in _ = None

unfoldable pub text_in : Value → Option (List ℕ)
text_in (Text t) = Some t
text_in _ = None

unfoldable pub decode_mark : Row → spec.Mark
decode_mark (Int id ∷ Text magic ∷ Int version ∷ Int installs ∷ []) = record { id = id; magic = magic; version = version; installs = installs }
decode_mark _ = record { id = pos 0; magic = []; version = pos 0; installs = pos 0 }

unfoldable pub decode_item : Row → spec.ItemRecord
decode_item (Int place ∷ Text name ∷ Int kind ∷ title ∷ current ∷ former ∷ []) = record { place = place; name = name; kind = kind; title = text_in title; current = number_in current; former = number_in former }
decode_item _ = record { place = pos 0; name = []; kind = pos 0; title = None; current = None; former = None }

unfoldable pub decode_member : Row → spec.Member
decode_member (Text owner ∷ Int ord ∷ Text name ∷ []) = record { owner = owner; ord = ord; name = name }
decode_member _ = record { owner = []; ord = pos 0; name = [] }

unfoldable pub decode_edition : Row → spec.EditionRecord
decode_edition (Int number ∷ Text owner ∷ Text title ∷ Text info ∷ Blob body ∷ []) = record { number = number; owner = owner; title = title; info = info; body = body }
decode_edition _ = record { number = pos 0; owner = []; title = []; info = []; body = [] }

unfoldable pub decode_entry : Row → spec.EntryRecord
decode_entry (Int edition ∷ Int ord ∷ Text headword ∷ Int start ∷ Int length ∷ []) = record { edition = edition; ord = ord; headword = headword; start = start; length = length; shown = headword }
decode_entry _ = record { edition = pos 0; ord = pos 0; headword = []; start = pos 0; length = pos 0; shown = [] }

unfoldable pub decode_kept : Row → spec.KeptRecord
decode_kept (Text id ∷ Int number ∷ Text verb ∷ Text name ∷ edition ∷ []) = record { id = id; number = number; verb = verb; name = name; edition = number_in edition }
decode_kept _ = record { id = []; number = pos 0; verb = []; name = []; edition = None }

number_back : (o : Option ℤ) → number_in (number_or_null o) ≡ o
unfolding number_in
number_back None = refl
number_back (Some n) = refl

text_back : (o : Option (List ℕ)) → text_in (text_or_null o) ≡ o
unfolding text_in
text_back None = refl
text_back (Some t) = refl

pub mark_back : (m : spec.Mark) → decode_mark (mark_row m) ≡ m
unfolding decode_mark
mark_back m = refl

pub item_back : (i : spec.ItemRecord) → decode_item (item_row i) ≡ i
unfolding decode_item
item_back i = λ j. record { place = i.place; name = i.name; kind = i.kind; title = text_back i.title j; current = number_back i.current j; former = number_back i.former j }

pub member_back : (m : spec.Member) → decode_member (member_row m) ≡ m
unfolding decode_member
member_back m = refl

pub edition_back : (e : spec.EditionRecord) → decode_edition (edition_row e) ≡ e
unfolding decode_edition
edition_back e = refl

pub entry_back : (e : spec.EntryRecord) → spec.ShowsHeadword e → decode_entry (entry_row e) ≡ e
unfolding decode_entry
entry_back e shown = λ i. record { edition = e.edition; ord = e.ord; headword = e.headword; start = e.start; length = e.length; shown = sym shown i }

-- the entry of a row with what is shown
unfoldable pub decode_shown : Row → spec.EntryRecord
decode_shown (Int edition ∷ Int ord ∷ Text headword ∷ Int start ∷ Int length ∷ Text shown ∷ []) = record { edition = edition; ord = ord; headword = headword; start = start; length = length; shown = shown }
decode_shown _ = record { edition = pos 0; ord = pos 0; headword = []; start = pos 0; length = pos 0; shown = [] }

pub shown_back : (e : spec.EntryRecord) → decode_shown (shown_row e) ≡ e
unfolding decode_shown
shown_back e = refl

unfoldable pub decode_header : Row → spec.HeaderRecord
decode_header (Int number ∷ Text owner ∷ Text title ∷ Text info ∷ []) = record { number = number; owner = owner; title = title; info = info }
decode_header _ = record { number = pos 0; owner = []; title = []; info = [] }

pub header_back : (h : spec.HeaderRecord) → decode_header (header_row h) ≡ h
unfolding decode_header
header_back h = refl

unfoldable pub decode_part : Row → spec.Part
decode_part (Int edition ∷ Int file ∷ Int number ∷ Blob octets ∷ []) = record { edition = edition; file = file; number = number; octets = octets }
decode_part _ = record { edition = pos 0; file = pos 0; number = pos 0; octets = [] }

pub part_back : (p : spec.Part) → decode_part (part_row p) ≡ p
unfolding decode_part
part_back p = refl

pub kept_back : (k : spec.KeptRecord) → decode_kept (kept_row k) ≡ k
unfolding decode_kept
kept_back k = λ j. record { id = k.id; number = k.number; verb = k.verb; name = k.name; edition = number_back k.edition j }
