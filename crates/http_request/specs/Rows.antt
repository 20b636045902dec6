-- The same paths as the rows of a router of `matchit`.
use Rattle.std.specs.Prelude.{ℕ, ◌+◌, ◌++◌, List, [], ◌∷◌, codes}
use Rattle.matchit.specs.Rows.{RowsOf, param_token}
use Rattle.matchit.specs.Router.{RouteOf}
use Rattle.http_request.specs.declared.route_kinds.Route.{Route}
use Rattle.http_request.specs.declared.route_kinds.Route.TheVariants.{Databases, Database, Rollback, Place, Virtual}

-- a row with one parameter, called `name`
abbrev pub with_name : List ℕ → List ℕ → ℕ → Route → List ℕ × RouteOf Route
with_name before after at value = (
  before ++ param_token ∷ after,
  record {
    pattern = before ++ param_token ∷ after;
    text = before ++ (codes "{name}" ++ after);
    names = (at, at + 4) ∷ [];
    value = value;
  },
)

-- the rows in the order of their patterns
abbrev pub rows : RowsOf (RouteOf Route)
rows =
    with_name (codes "/databases/") (codes "/place") 12 Place
    ∷ with_name (codes "/databases/") (codes "/rollback") 12 Rollback
    ∷ with_name (codes "/databases/") [] 12 Database
    ∷ (codes "/databases", record { pattern = codes "/databases"; text = codes "/databases"; names = []; value = Databases })
    ∷ with_name (codes "/virtual/") [] 10 Virtual
    ∷ []
