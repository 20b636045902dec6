-- In which order events are handed to the hub.
use Rattle.std.proofs.Common.{◌≡◌, ◌≤◌, ◌<◌, ◌+◌, ℕ, List, [], ◌∷◌, ◌++◌, length, length-append, refl, sym, subst, arith, append_assoc}
use Rattle.net_hub.specs.Events.{id_of, opened}
use Rattle.net_hub.specs.Runs.{Accepted}
use Rattle.net_hub.specs.declared.kind.Kind.{Kind}
use Rattle.net_hub.specs.declared.kind.Kind.TheVariants.{Dict, Http}
use Rattle.net_connection.specs.Events.{AreEventsOf}
use Rattle.net_connection.specs.Ordering.{AreOfTurns}
use Rattle.net_driver.specs.Ordering.{AreOpeningsFrom, AreFrom, ComeById, AreOfRound}

-- each event is of a lesser id
abbrev pub AreBelow : ℕ → List Accepted → Type 0
AreBelow id [] = Unit {0}
AreBelow id (one ∷ events) = (id_of one.what < id) × AreBelow id events

pub below_joined : (id own : ℕ) (es fs : List Accepted) → own < id → AreBelow id es → AreEventsOf own fs → AreBelow id (es ++ fs)
below_joined id own [] [] less below of = tt
below_joined id own [] (one ∷ fs) less below (is, of) = (omega (arith, is), below_joined id own [] fs less tt of)
below_joined id own (one ∷ es) fs less (under, below) of = (under, below_joined id own es fs less below of)

from_of : (least own : ℕ) (fs : List Accepted) → least ≤ own → AreEventsOf own fs → AreFrom least fs
from_of least own [] up of = tt
from_of least own (one ∷ fs) up (is, of) = (omega (arith, is), from_of least own fs up of)

from_joined : (least own : ℕ) (es fs : List Accepted) → least ≤ own → AreFrom least es → AreEventsOf own fs → AreFrom least (es ++ fs)
from_joined least own [] fs up from of = from_of least own fs up of
from_joined least own (one ∷ es) fs up (here, from) of = (here, from_joined least own es fs up from of)

by_id_of : (own : ℕ) (fs : List Accepted) → AreEventsOf own fs → ComeById fs
by_id_of own [] of = tt
by_id_of own (one ∷ fs) (is, of) = (from_of (id_of one.what) own fs (omega (arith, is)) of, by_id_of own fs of)

-- events of one connection behind those of lesser ids
pub by_id_joined : (own : ℕ) (es fs : List Accepted) → ComeById es → AreBelow own es → AreEventsOf own fs → ComeById (es ++ fs)
by_id_joined own [] fs by_id below of = by_id_of own fs of
by_id_joined own (one ∷ es) fs (from, by_id) (under, below) of =
    (from_joined (id_of one.what) own es fs (omega (arith, under)) from of, by_id_joined own es fs by_id below of)

-- connections of this kind were opened, at most so many, by the ids behind this one up to that one
pub record Openings (kind : Kind) (last now most : ℕ) (events : List Accepted) : Type 0 where
  pub by_id : AreOpeningsFrom (last + 1) kind events
  pub few : length events ≤ most
  pub given : now ≡ last + length events

pub openings_none : (kind : Kind) (last now most : ℕ) (events : List Accepted) → now ≡ last → events ≡ [] → Openings kind last now most events
openings_none kind last now most events same none =
    subst (λ (l : List Accepted). Openings kind last now most l) (sym none) (record { by_id = tt; few = omega arith; given = omega (arith, same) })

pub openings_one : (kind : Kind) (last now : ℕ) (one : Accepted) (events : List Accepted) → events ≡ one ∷ [] → one.what ≡ opened (last + 1) kind → now ≡ last + 1 → Openings kind last now 1 events
openings_one kind last now one events are is given =
    subst (λ (l : List Accepted). Openings kind last now 1 l) (sym are) (record { by_id = (is, tt); few = omega arith; given = omega (arith, given) })

ids_joined : (id next : ℕ) (kind : Kind) (es fs : List Accepted) → next ≡ id + length es → AreOpeningsFrom id kind es → AreOpeningsFrom next kind fs → AreOpeningsFrom id kind (es ++ fs)
ids_joined id next kind [] fs is first then = subst (λ (i : ℕ). AreOpeningsFrom i kind fs) (omega (arith, is)) then
ids_joined id next kind (one ∷ es) fs is (here, first) then = (here, ids_joined (id + 1) next kind es fs (omega (arith, is)) first then)

pub openings_joined : (kind : Kind) (a b c m n : ℕ) (es fs : List Accepted) → Openings kind a b m es → Openings kind b c n fs → Openings kind a c (m + n) (es ++ fs)
openings_joined kind a b c m n es fs first then =
    let len = length-append es fs in
    let one = first.given in
    let two = then.given in
    let few = first.few in
    let few_more = then.few in
    record {
      by_id = ids_joined (a + 1) (b + 1) kind es fs (omega (arith, one)) first.by_id then.by_id;
      few = omega (arith, len, few, few_more);
      given = omega (arith, len, one, two);
    }

-- a round in which nothing happened
pub round_none : AreOfRound []
round_none = record {
  first = 0;
  readers = [];
  editors = [];
  turns = [];
  whole = refl;
  dict = tt;
  http = tt;
  few_readers = omega arith;
  few_editors = omega arith;
  are_turns = tt;
  by_id = tt;
}

-- readers' openings, then editors', then turns
pub round_whole : (a b c : ℕ) (readers editors turns : List Accepted) → Openings Dict a b 16 readers → Openings Http b c 16 editors → AreOfTurns turns → ComeById turns → AreOfRound ((readers ++ editors) ++ turns)
round_whole a b c readers editors turns dict http are by_id =
    let given = dict.given in
    record {
      first = a + 1;
      readers = readers;
      editors = editors;
      turns = turns;
      whole = append_assoc readers editors turns;
      dict = dict.by_id;
      http = subst (λ (i : ℕ). AreOpeningsFrom i Http editors) (omega (arith, given)) http.by_id;
      few_readers = dict.few;
      few_editors = http.few;
      are_turns = are;
      by_id = by_id;
    }
