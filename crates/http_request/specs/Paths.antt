-- The paths that are served. RFC 3986, section 3.3; which paths there are is this server's.
use Rattle.std.specs.Prelude.{◌≡◌, ◌≢◌, ◌<◌, ◌++◌, ℕ, List, [], length, codes}
use Rattle.std.specs.List.{AllByRecursion}
use Rattle.http_request.specs.declared.route_kinds.Route.{Route}
use Rattle.http_request.specs.declared.route_kinds.Route.TheVariants.{Databases, Database, Rollback, Place, Virtual}

-- what stands in a path before the name
abbrev pub before : Route → List ℕ
before Databases = codes "/databases"
before Database = codes "/databases/"
before Rollback = codes "/databases/"
before Place = codes "/databases/"
before Virtual = codes "/virtual/"

-- and after it
abbrev pub path_after : Route → List ℕ
path_after Databases = []
path_after Database = []
path_after Rollback = codes "/rollback"
path_after Place = codes "/place"
path_after Virtual = []

abbrev pub HasNoSlash : List ℕ → Type 0
HasNoSlash octets = AllByRecursion (λ octet. octet ≢ 47) octets

-- one octet or more, none of them a slash; the path of the list has no name
abbrev pub HasName : Route → List ℕ → Type 0
HasName Databases name = name ≡ []
HasName Database name = (0 < length name) × HasNoSlash name
HasName Rollback name = (0 < length name) × HasNoSlash name
HasName Place name = (0 < length name) × HasNoSlash name
HasName Virtual name = (0 < length name) × HasNoSlash name

-- the path has this form, with this name
pub record IsPath (path : List ℕ) (route : Route) (name : List ℕ) : Type 0 where
  pub is : path ≡ before route ++ (name ++ path_after route)
  pub named : HasName route name
