-- What the files say once all lines are read.
use Rattle.std.proofs.Common.{◌≡◌, ℕ, List, length, map, refl, sym, ap, ◌∙◌, subst, arith}
use Rattle.std.proofs.lemmas.List.{take_all}
use Rattle.std.specs.Prelude.{Option, Some}
use Rattle.std.specs.List.{AllZip}
use Rattle.std.specs.Option.{option_map}
use Rattle.std.specs.BTreeMap.{get_by_text}
use Rattle.dict_text.specs.Lines.{text_lines}
use Rattle.dict_index.specs.Line.{Line, IsLine}
use Rattle.dict_index.specs.Reserved.{title_from, info_from, short_key, info_key, title_in, info_in}
use Rattle.dict_index.specs.Refused.{PassLines, IsTitleFault, IsIndexFault}
use Rattle.dict_index.specs.Tests.{IsTitle}
use Rattle.dict_index.specs.Meaning.{IsReadEdition}
use Rattle.dict_index.specs.declared.fault.IndexFault.{IndexFault}
use Rattle.dict_index.proofs.MeaningLemmas.{title_fault, all_pass}
use Rattle.dict_reading.specs.Places.{octets_at, line_in}
use Rattle.dict_reading.specs.Reading.{HasRead, IsAtEnd}
use Rattle.dict_reading.specs.declared.reader.EditionReader.{EditionReader}

-- the text that is found under a key
abbrev pub found_under : List ℕ → EditionReader → List ℕ → Option (List ℕ)
found_under text reader key = option_map (λ place. octets_at text place.offset place.size) (get_by_text reader.gathered.reserved key)

module _ (index text : List ℕ) (reader : EditionReader) (h : HasRead index text reader) (all : IsAtEnd index reader) where
  passed : PassLines index text (length (text_lines index))
  passed = subst (PassLines index text) all h.passes

  said : List Line
  said = h.gathers.said

  are : AllZip IsLine (text_lines index) said
  unfolding said
  are = subst (λ ls. AllZip IsLine ls h.gathers.said) (take_all reader.number (text_lines index) (omega (arith, all))) h.gathers.are

  title_is : (short : Option (List ℕ)) → short ≡ found_under text reader short_key → title_from short ≡ title_in text said
  unfolding said
  title_is short e = ap title_from (e ∙ h.gathers.reserved short_key refl)

  info_is : (info : Option (List ℕ)) → info ≡ found_under text reader info_key → info_from info ≡ info_in text said
  unfolding said
  info_is info e = ap info_from (e ∙ h.gathers.reserved info_key refl)

  pub end_fault : (short : Option (List ℕ)) → short ≡ found_under text reader short_key → (fault : IndexFault) → IsTitleFault fault (title_from short) → IsIndexFault fault index text
  end_fault short e fault f = title_fault index text h.wholes passed said are fault (subst (IsTitleFault fault) (title_is short e) f)

  pub end_reading : (short info : Option (List ℕ)) (title told : List ℕ) → short ≡ found_under text reader short_key → info ≡ found_under text reader info_key →
      title_from short ≡ Some title → IsTitle title → told ≡ info_from info →
      IsReadEdition index text (record { title = title; info = told; text = text; lines = map (line_in index) reader.gathered.entries.items })
  unfolding said
  end_reading short info title told e f found good tells =
      let titled : title_in text h.gathers.said ≡ Some title = sym (title_is short e) ∙ found in
      record {
        passes = all_pass index text h.wholes passed h.gathers.said are title titled good;
        lines = h.gathers.said;
        said = are;
        entries = h.gathers.entries;
        title = titled;
        info = tells ∙ info_is info f;
        whole = refl;
      }
