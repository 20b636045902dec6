-- The row that a part of a file of an edition stands in.
use denote.Ref.{Bor}
use Rattle.std.specs.Prelude.{ℕ, List, [], ◌∷◌, Vec}
use Rattle.std.specs.declared.alloc.Global.{Global}
use Rattle.sqlite.specs.declared.types.Value.TheVariants.{Int, Blob as Bytes}
use Rattle.sqlite.specs.Order.{Row}
use Rattle.store_tables.specs.Records.{Part}
use Rattle.store_sql.specs.Columns.{Content, Number, Octets}
use Rattle.store_sql.specs.declared.part_records.Part.{Part as TypedPart}
use Rattle.store_sql.specs.declared.part_records.StoredPart.{StoredPart}

abbrev pub part_of : {B : Type 0} → (B → List ℕ) → TypedPart B → Part
part_of octets r = record { edition = r.edition; file = r.file; number = r.number; octets = octets r.octets }

-- a part whose octets are borrowed, and one that was read
abbrev pub lent_part : TypedPart (Bor (List ℕ)) → Part
lent_part = part_of (λ octets. octets.now)

abbrev pub owned_part : TypedPart (Vec ℕ Global) → Part
owned_part = part_of (λ octets. octets.items)

abbrev pub part_row : Part → Row
part_row p = Int p.edition ∷ Int p.file ∷ Int p.number ∷ Bytes p.octets ∷ []

-- The rowid stands first.

abbrev pub part_columns : List Content
part_columns = Number ∷ Number ∷ Number ∷ Number ∷ Octets ∷ []

abbrev pub stored_part : StoredPart → Row
stored_part r = Int r.rowid ∷ part_row (owned_part r.part)
