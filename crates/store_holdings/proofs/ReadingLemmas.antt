-- What a database keeps by the readings of a layout.
use Rattle.std.proofs.Common.{◌≡◌, List, [], ◌∷◌, ◌++◌, map, codes, refl, ap, subst}
use Rattle.sqlite.specs.Effect.{Database}
use Rattle.store_tables.specs.Records.{Part, header_of}
use Rattle.store_sql.specs.Encodings.{mark_row, item_row, member_row, edition_row, kept_row}
use Rattle.store_sql.specs.HeaderRecords.{header_row}
use Rattle.store_sql.specs.PartRecords.{part_row}
use Rattle.store_rows.specs.Tables.{Tables}
use Rattle.store_rows.specs.Versions.{Layout, Plain, Keyed, Shown, Parted}
use Rattle.store_holdings.specs.AllTables.{with_derived}
use Rattle.store_holdings.specs.Files.{all_parts}
use Rattle.store_sql.specs.Readings as looks
use Rattle.store_sql.specs.Readings.{KeepsRows, KeepsAll}
use Rattle.store_sql.specs.Readings.{Keeps}

pub map_twice : {X Y Z : Type 0} (f : X → Y) (g : Y → Z) (xs : List X) → map g (map f xs) ≡ map (λ x. g (f x)) xs
map_twice f g [] = refl
map_twice f g (x ∷ xs) = ap (λ l. g (f x) ∷ l) (map_twice f g xs)

-- ---- of any version, but for its editions and what is kept of their entries

pub marks_kept : (layout : Layout) (db : Database) (o : List Part) (t : Tables) → KeepsAll layout db (with_derived o t) → Keeps (codes "mark") mark_row db t.marks
marks_kept layout db o t k = record { rows = k.0.rows; apart = k.0.apart }

pub items_kept : (layout : Layout) (db : Database) (o : List Part) (t : Tables) → KeepsAll layout db (with_derived o t) → Keeps (codes "item") item_row db t.items
items_kept layout db o t k = record { rows = k.1.0.rows; apart = k.1.0.apart }

pub members_kept : (layout : Layout) (db : Database) (o : List Part) (t : Tables) → KeepsAll layout db (with_derived o t) → Keeps (codes "member") member_row db t.members
members_kept layout db o t k = record { rows = k.1.1.0.rows; apart = k.1.1.0.apart }

pub replies_kept : (layout : Layout) (db : Database) (o : List Part) (t : Tables) → KeepsAll layout db (with_derived o t) → Keeps (codes "kept") kept_row db t.kept
replies_kept layout db o t k = record { rows = k.1.1.1.0.rows; apart = k.1.1.1.0.apart }

-- ---- the editions of the known version, and the parts of their files

pub headers_kept : (db : Database) (o : List Part) (t : Tables) → KeepsAll Parted db (with_derived o t) → Keeps (codes "edition") (λ e. header_row (header_of e)) db t.editions
headers_kept db o t k = record { rows = k.1.1.1.1.0.rows; apart = k.1.1.1.1.0.apart }

pub parts_kept : (db : Database) (o : List Part) (t : Tables) → KeepsAll Parted db (with_derived o t) → Keeps (codes "dictcat_part") part_row db (o ++ all_parts t)
parts_kept db o t k = record { rows = k.1.1.1.1.1.0.rows; apart = k.1.1.1.1.1.0.apart }

-- ---- the editions of an older version

pub editions_kept : (layout : Layout) (db : Database) (o : List Part) (t : Tables) → looks.editions layout ≡ looks.whole_editions → KeepsAll layout db (with_derived o t) → Keeps (codes "edition") edition_row db t.editions
editions_kept Plain db o t e k = record { rows = k.1.1.1.1.0.rows; apart = k.1.1.1.1.0.apart }
editions_kept Keyed db o t e k = record { rows = k.1.1.1.1.0.rows; apart = k.1.1.1.1.0.apart }
editions_kept Shown db o t e k = record { rows = k.1.1.1.1.0.rows; apart = k.1.1.1.1.0.apart }
editions_kept Parted db o t e k = by (subst (λ r. KeepsRows r db (with_derived o t)) e k.1.1.1.1.0)
  where
    by : KeepsRows looks.whole_editions db (with_derived o t) → Keeps (codes "edition") edition_row db t.editions
    by one = record { rows = one.rows; apart = one.apart }
