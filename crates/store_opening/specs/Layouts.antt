-- The layouts of tables as the program tells them apart.
use Rattle.store_rows.specs.Versions.{Layout, Plain, Keyed, Shown, Parted}
use Rattle.store_opening.specs.declared.layout.TableLayout.{TableLayout}
use Rattle.store_opening.specs.declared.layout.TableLayout.TheVariants as typed

abbrev pub layout_in : TableLayout → Layout
layout_in typed.Plain = Plain
layout_in typed.Keyed = Keyed
layout_in typed.Shown = Shown
layout_in typed.Parted = Parted
