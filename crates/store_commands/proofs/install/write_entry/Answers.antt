use Rattle.std.proofs.Common.{sym}
use Rattle.sqlite_trees.proofs.ListLemmas.{all-slice_get}
use Rattle.store_rows.specs.Stored.{IsStorable}
use Rattle.dict_reading.specs.Views.{line_read}
use Rattle.store_commands.proofs.install.write_entry.Goals as goal

pub write_line-requires : goal.write_line-requires
write_line-requires c = all-slice_get IsStorable c.args.reading.now.lines c.args.place (line_read c.in-Some.line) (sym c.in-Some.ensures) c.requires.storable
