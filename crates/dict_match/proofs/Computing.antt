use lib.Utf8.{encode}
use Rattle.std.specs.Str.{chars}
use Rattle.caseless.specs.Caseless.{default_case_fold}
use Rattle.ucd_table.proofs.Computing.{tables}
use Rattle.ucd_case.proofs.CaseFoldingLemmas.{full_folding_stepped}
use Rattle.ucd_category.proofs.GeneralCategoryLemmas.{general_category_stepped}
use Rattle.ucd_derived.proofs.BinaryLemmas.{is_alphabetic_stepped}
use Rattle.dict_match.specs.Key.{key_by, key_of, reserved_key_of}

-- `unfolding keys` lets `refl` compute the key of a short text, by either version
unfoldable pub keys : Unit {0}
unfolding key_of reserved_key_of key_by chars encode default_case_fold tables full_folding_stepped is_alphabetic_stepped general_category_stepped
keys = tt
