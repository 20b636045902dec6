use Rattle.std.proofs.Common.{rules}
use Rattle.dictcat_lib.proofs.files.CatalogueFilesDeskOpenerDeskFileStore.close.Goals as goal

pub returns-in-Ok-clause-shut : goal.returns-in-Ok-clause-shut
returns-in-Ok-clause-shut g c = record {
  trust = c.in-Ok.ensures.clean;
  alone = c.in-Ok.ensures.alone;
  leaves = tt;
  beside = λ db keeps clean. c.in-Ok.ensures.beside clean db keeps;
  kinds = tt;
  caused = tt;
}

pub returns-in-Err-clause-shut : goal.returns-in-Err-clause-shut
returns-in-Err-clause-shut g c = record {
  trust = c.in-Err.ensures.doubted;
  alone = tt;
  leaves = c.in-Err.ensures.left;
  beside = c.in-Err.ensures.kept;
  kinds = search rules;
  caused = search rules;
}
