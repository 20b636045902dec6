-- An open connection as its events see it: its kind, and the octets that have come and are not answered yet.
use Rattle.std.specs.Prelude.{ℕ, List, [], Option, Some, None}
use Rattle.dict_session.specs.Lines.{cut}
use Rattle.net_hub.specs.declared.kind.Kind.{Kind}
use Rattle.net_hub.specs.declared.kind.Kind.TheVariants.{Dict, Http}
use Rattle.net_hub.specs.declared.incoming.Out.{Out}
use Rattle.net_hub.specs.declared.incoming.Out.TheVariants.{More, Close}

-- of a reader the octets behind the last line's end, of an editor all
pub record Holding : Type 0 where
  pub kind : Kind
  pub octets : List ℕ

-- nothing has come
abbrev pub just_opened : Kind → Holding
just_opened kind = record { kind = kind; octets = [] }

-- what is held of these octets once the lines or the request in them are answered
abbrev pub unanswered : Kind → List ℕ → List ℕ
unanswered Dict octets = (cut octets).rest
unanswered Http octets = octets

-- what is left of a connection on which these octets have come: nothing once it is closed
abbrev pub left_by : Kind → List ℕ → Out → Option Holding
left_by kind octets More = Some (record { kind = kind; octets = unanswered kind octets })
left_by kind octets Close = None
