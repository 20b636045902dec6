-- When an edition is well formed: by its own limits, whatever files it was read from.
use Rattle.std.specs.Prelude.{◌≡◌, ◌≤◌, ℕ, List, length, false, IsTrue}
use Rattle.std.specs.List.{AllByRecursion}
use Rattle.std.specs.Str.{IsUtf8}
use Rattle.dict_text.specs.Names.{is_title}
use Rattle.dict_match.specs.Key.{reserved_key_of}
use Rattle.dict_index.specs.Limits.{most_entries}
use Rattle.dict_index.specs.Edition.{Entry, Edition}
use Rattle.dict_index.specs.Reserved.{is_reserved}
use Rattle.dict_index.specs.Tests.{IsHeadword, IsShown, IsText, HasShortLines}

-- UTF-8, 1 to 200 octets, no control character, and no blank at an end
abbrev pub IsEditionTitle : List ℕ → Type 0
IsEditionTitle title = IsUtf8 title × IsTrue (is_title title)

-- UTF-8 without control characters but LF and tab, and no line of more than 1,021 octets: an info, and a body
abbrev pub IsEditionText : List ℕ → Type 0
IsEditionText octets = IsText octets × HasShortLines octets

-- UTF-8, 1 to 255 octets, no control character, and a key that is neither empty nor reserved
abbrev pub IsEntryHeadword : List ℕ → Type 0
IsEntryHeadword headword = IsUtf8 headword × IsHeadword headword × (is_reserved (reserved_key_of headword) ≡ false)

-- UTF-8, 1 to 255 octets, no control character
abbrev pub IsEntryShown : List ℕ → Type 0
IsEntryShown shown = IsUtf8 shown × IsShown shown

pub record IsWellFormedEntry (entry : Entry) : Type 0 where
  pub headword : IsEntryHeadword entry.headword
  pub shown : IsEntryShown entry.shown
  pub body : IsEditionText entry.body

pub record IsWellFormedEdition (edition : Edition) : Type 0 where
  pub title : IsEditionTitle edition.title
  pub info : IsEditionText edition.info
  pub entries : AllByRecursion IsWellFormedEntry edition.entries
  pub few : length edition.entries ≤ most_entries
