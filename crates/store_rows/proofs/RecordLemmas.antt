-- What one record tells.
use Rattle.std.proofs.Common.{◌≡◌, ℕ, ◌+◌, ◌≤◌, true, List, [], ◌∷◌, length, take, drop, get_or, refl, sym, subst, ◌∙◌, arith, Option}
use Rattle.std.specs.Prelude.{pos, option_map, is_some, String}
use Rattle.std.specs.declared.alloc.Global.{Global}
use Rattle.dict_text.specs.Names.{is_name, is_request_id}
use Rattle.store_tables.specs.Records as spec
use Rattle.store_tables.specs.Typed.{owned_mark}
use Rattle.store_tables.specs.declared.records.Mark.{Mark}
use Rattle.store_tables.specs.declared.records.StoredRow.{StoredRow as Row}
use Rattle.dict_index.specs.Line.{Line}
use Rattle.dict_index.specs.WellFormed.{IsEntryHeadword, IsEntryShown, IsEditionText}
use Rattle.dict_catalogue.specs.WellFormed.{tells_edition}
use Rattle.dict_catalogue.specs.declared.reply.Verb.{Verb}
use Rattle.store_rows.specs.Written.{mark_record, verb_name}
use Rattle.store_rows.specs.Given.{marks_given, OnDamage, IsEntry, IsLawfulLine, line_with, IsReply}
use Rattle.store_rows.specs.declared.fault.RowsFault.{RowsFault}
use Rattle.store_rows.specs.declared.fault.RowsFault.TheVariants.{Damaged, Memory}
use Rattle.store_rows.proofs.OnceLemmas.{head_same}

pub line_told : (text body : List ℕ) (line : Line) → line.offset + line.size ≤ length text → body ≡ take line.size (drop line.offset text) → IsEditionText body → IsEntryHeadword line.headword → IsEntryShown line.shown
    → IsLawfulLine text line
line_told text body line within cut lawful headword shown = record {
  within = within;
  lawful = record { headword = headword; shown = shown; body = subst IsEditionText cut lawful };
}

pub entry_told : (number ord start size : ℕ) (text : List ℕ) (row : spec.EntryRecord) → row.edition ≡ pos number → row.ord ≡ pos ord → row.start ≡ pos start → row.length ≡ pos size →
    IsLawfulLine text (line_with row.headword start size row.shown) → IsEntry number ord text row
entry_told number ord start size text row e o s l lawful = record {
  line = line_with row.headword start size row.shown;
  is = λ i. record { edition = e i; ord = o i; headword = row.headword; start = s i; length = l i; shown = row.shown };
  within = lawful.within;
  lawful = lawful.lawful;
}

pub reply_told : (number : ℕ) (verb : Verb) (edition : Option ℕ) (row : spec.KeptRecord) → row.verb ≡ verb_name verb → row.number ≡ pos number → is_request_id row.id ≡ true → is_name row.name ≡ true →
    row.edition ≡ option_map pos edition → is_some edition ≡ tells_edition verb → IsReply number verb row
reply_told number verb edition row v n id name e tells = record {
  reply = record { id = row.id; reply = record { number = number; verb = verb; name = row.name; edition = edition } };
  is = λ i. record { id = row.id; number = n i; verb = v i; name = row.name; edition = e i };
  lawful = (id, name, tells);
  numbered = refl;
  did = refl;
}

pub mark_told : (fault : RowsFault) (version : ℕ) (marks : List spec.Mark) (mark : spec.Mark) → marks ≡ mark ∷ [] → OnDamage fault ((installs : ℕ) → mark ≡ mark_record version installs → ⊥) →
    OnDamage fault ((installs : ℕ) → marks ≡ mark_record version installs ∷ [] → ⊥)
mark_told Damaged version marks mark is h = λ installs e. h installs (head_same _ _ _ _ (sym is ∙ e))
mark_told Memory version marks mark is h = tt

pub one_mark : (marks : List (Row (Mark (String Global)))) (mark : Row (Mark (String Global))) → length marks ≡ 1 → marks_given marks ≡ owned_mark (get_or marks 0 mark).value ∷ []
one_mark [] mark one = absurd (cc)
one_mark (first ∷ []) mark one = refl
one_mark (first ∷ second ∷ rest) mark one = absurd (omega arith)
