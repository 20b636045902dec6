-- Texts that run inside a transaction.
use Rattle.std.specs.Prelude.{List, ℕ, IfOk, ◌≡◌, None}
use Rattle.sqlite.specs.Schema.{Schema}
use Rattle.sqlite.specs.Listing.{understood}

-- whatever the schema is, the text writes nothing that it shows, or is no command
abbrev pub ShowsNoWrite : List ℕ → Type 0
ShowsNoWrite text = (schema : Schema) → IfOk (understood schema text) (λ c. c.returning ≡ None)
