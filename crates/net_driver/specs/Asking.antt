-- What the system's sockets are asked, and what comes of it.
use Rattle.std.specs.Prelude.{◌≡◌, ◌+◌, ℕ, Bool, List, [], ◌∷◌, ◌++◌, Option, option_map, Result}
use Rattle.std.specs.declared.io.Error.{Error}
use Rattle.net_hub.specs.declared.kind.Kind.{Kind}

-- They were looked at, and waited for so many nanoseconds at most, which told of these ones (0 is a listening one, and each other the id
-- of a connection), and succeeded or didn't; a connection was to be taken that waits at the listening socket for a kind; or looks were to tell of a connection, by its id, which
-- succeeded or didn't
pub data Asking (T : Type 0) : Type 0 where
  looks : ℕ → List ℕ → Bool → Asking T
  accepts : Kind → Result T Error → Asking T
  watches : ℕ → Bool → Asking T

-- this was asked after what was asked before, where that is known
abbrev pub Asks : {T : Type 0} → Option (List (Asking T)) → Option (List (Asking T)) → List (Asking T) → Type 0
Asks old new more = new ≡ option_map (λ before. before ++ more) old

-- how often a connection was to be taken
abbrev pub accept_count : {T : Type 0} → List (Asking T) → ℕ
accept_count [] = 0
accept_count (looks most told result ∷ calls) = accept_count calls
accept_count (accepts kind result ∷ calls) = accept_count calls + 1
accept_count (watches id result ∷ calls) = accept_count calls
