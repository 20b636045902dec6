-- The parts of the files of a small catalogue, worked by hand.
use Rattle.std.specs.Prelude.{pos, List, [], ◌∷◌, codes}
use Rattle.store_tables.specs.Records.{Part}

-- of `ore` and of `gem`
abbrev pub worked_parts : List Part
worked_parts =
    record { edition = pos 1; file = pos 0; number = pos 0; octets = codes "iron\tX\tL\n" }
    ∷ record { edition = pos 1; file = pos 1; number = pos 0; octets = codes "00-database-short\nOres\niron\n  ore\n" }
    ∷ record { edition = pos 2; file = pos 0; number = pos 0; octets = codes "opal\tZ\tP\nFire Opal\tZ\tP\ndot\to\tF\n" }
    ∷ record { edition = pos 2; file = pos 1; number = pos 0; octets = codes "00-database-short\n  Gems\nopal\n  a stone\n.dot\n" } ∷ []
