use Rattle.std.proofs.Common.{◌≡◌, ℕ, List, Bool, ◌&&◌, ◌==◌, not, length, bytes_eq, sym, ap, ◌∙◌}
use Rattle.dict_match.specs.declared.strategy.Strategy.{Strategy}
use Rattle.dict_match.specs.declared.strategy.Strategy.TheVariants.{Exact}
use Rattle.dict_match.specs.Matching.{is_hit}
use Rattle.dict_desk.proofs.entries.finds.Goals as goal

-- whether a query that is empty or isn't finds an equal key
exact_hit : (strategy : Strategy) (query kept key : List ℕ) (empty : Bool) → strategy ≡ Exact → empty ≡ (length query == 0) → kept ≡ key → not empty && bytes_eq kept query ≡ is_hit strategy query key
unfolding is_hit
exact_hit strategy query kept key empty is e same =
    ap (λ b. not b && bytes_eq kept query) e ∙ (ap (λ (k : List ℕ). not (length query == 0) && bytes_eq k query) same ∙ ap (λ (s : Strategy). is_hit s query key) (sym is))

pub returns-then-not-is_empty : goal.returns-then-not-is_empty
returns-then-not-is_empty c =
    c.eq.ensures ∙ (ap (λ b. not b && bytes_eq c.as_bytes-key.result.now c.args.query.now) (sym c.if-not-is_empty.true)
    ∙ exact_hit c.args.strategy c.args.query.now c.as_bytes-key.result.now _ c.is_empty.result c.in-Exact.is c.is_empty.ensures (c.as_bytes-key.ensures ∙ c.requires))

pub returns-else-not-is_empty : goal.returns-else-not-is_empty
returns-else-not-is_empty c =
    ap not c.if-not-is_empty.false ∙ (ap (λ b. not b && bytes_eq c.as_bytes-key.result.now c.args.query.now) (sym c.if-not-is_empty.false)
    ∙ exact_hit c.args.strategy c.args.query.now c.as_bytes-key.result.now _ c.is_empty.result c.in-Exact.is c.is_empty.ensures (c.as_bytes-key.ensures ∙ c.requires))
