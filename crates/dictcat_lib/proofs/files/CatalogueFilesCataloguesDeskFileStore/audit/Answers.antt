use Rattle.sqlite.specs.Files.{over_files}
use Rattle.dictcat_lib.proofs.FileLemmas.{read_stays}
use Rattle.dictcat_lib.proofs.files.CatalogueFilesCataloguesDeskFileStore.audit.Goals as goal

pub returns-in-Ok-clause-stays : goal.returns-in-Ok-clause-stays
returns-in-Ok-clause-stays g c = read_stays over_files c.args.desk.now c.audit.new.self c.in-Ok.ensures.spares c.in-Ok.ensures.shows

pub returns-in-Err-clause-sound : goal.returns-in-Err-clause-sound
returns-in-Err-clause-sound g c = (c.in-Err.fault, c.from.ensures, c.in-Err.ensures.kinds, λ clean. (c.in-Err.ensures.told clean, c.in-Err.ensures.not_held clean, c.in-Err.ensures.broken clean))

pub returns-in-Err-clause-stays : goal.returns-in-Err-clause-stays
returns-in-Err-clause-stays g c = read_stays over_files c.args.desk.now c.audit.new.self c.in-Err.ensures.spares c.in-Err.ensures.shows
