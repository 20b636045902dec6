use Rattle.std.proofs.Common.{rules, refl, ◌≡◌, sym, ◌∙◌, Some}
use Rattle.std.specs.Prelude.{option_map, string_bytes}
use Rattle.store_rows.proofs.ApartLemmas.{id_twice, ids_more}
use Rattle.store_rows.proofs.apart.IdReader.id.Goals as goal

pub returns-then-is_last-clause-damaged : goal.returns-then-is_last-clause-damaged
returns-then-is_last-clause-damaged c = λ taken h once.
    let same : option_map string_bytes c.args.self.now.last ≡ Some (string_bytes c.args.id) = search rules in
    id_twice taken (string_bytes c.args.id) (sym h.last ∙ same) once

pub returns-clause-taken : goal.returns-clause-taken
returns-clause-taken c = λ taken h.
    let apart : option_map string_bytes c.args.self.now.last ≡ Some (string_bytes c.args.id) → ⊥ = search rules in
    ids_more c.args.self.now _ taken (string_bytes c.args.id) apart refl h
