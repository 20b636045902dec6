-- What calls of a session leave, one after the other.
use Rattle.std.proofs.Common.{◌≡◌, ℕ, List, [], ◌++◌, refl, true, false}
use Rattle.dict_proto.specs.Streams.{Stream}
use Rattle.dict_proto.specs.Meaning.{Meaning}
use Rattle.dict_proto.proofs.PutLemmas.{all_after, front_after}
use Rattle.dict_session.specs.Lines.{cut}
use Rattle.dict_session.specs.Desks.{Condition}
use Rattle.dict_session.specs.Ending.{Wrote}
use Rattle.dict_session.specs.Session.{HasUnfinished, KeepsRest, LeavesSession}
use Rattle.dict_session.specs.declared.session.Session.{Session}
use Rattle.dict_session.specs.declared.step.Course.{Course}
use Rattle.dict_session.specs.declared.step.Course.TheVariants.{More, Quit, SinkFailed, DeskFailed}
use Rattle.dict_session.proofs.LineLemmas.{cut_append}
use Rattle.dict_session.proofs.SpokenLemmas.{speaks_append, speaks_wider, breaks_append}

-- lines that go on, and then more
pub wrote_more : (d : Meaning → List ℕ) (f g : Condition) → (f.closed ≡ true → g.closed ≡ true) → (course : Course) (a b c : Stream) (ls ms : List (List ℕ)) → Wrote d f More a b ls → Wrote d g course b c ms → Wrote d g course a c (ls ++ ms)
wrote_more d f g later More a b c ls ms (o, spoken, h) (p, more, k) =
    (o ++ p, speaks_append d g.closed ls ms o p false (speaks_wider d f.closed g.closed later ls o false spoken) more, all_after a b c o p h k)
wrote_more d f g later Quit a b c ls ms (o, spoken, h) (p, more, k) =
    (o ++ p, speaks_append d g.closed ls ms o p true (speaks_wider d f.closed g.closed later ls o false spoken) more, all_after a b c o p h k)
wrote_more d f g later SinkFailed a b c ls ms (o, spoken, h) (p, ended, more, k) =
    (o ++ p, ended, speaks_append d g.closed ls ms o p ended (speaks_wider d f.closed g.closed later ls o false spoken) more, front_after a b c o p h k)
wrote_more d f g later DeskFailed a b c ls ms (o, spoken, h) (failed, (p, breaks, k)) =
    (failed, (o ++ p, breaks_append d g.closed ls ms o p (speaks_wider d f.closed g.closed later ls o false spoken) breaks, all_after a b c o p h k))

pub leaves_more : (d : Meaning → List ℕ) (f g : Condition) → (f.closed ≡ true → g.closed ≡ true) → (course : Course) (s t : Session) (a b c : Stream) (p q : List ℕ) → LeavesSession d f More s a b p
    → LeavesSession d g course t b c ((cut p).rest ++ q) → LeavesSession d g course t a c (p ++ q)
leaves_more d f g later course s t a b c p q h k = rw (cut_append p q) (wrote_more d f g later course a b c (cut p).lines (cut ((cut p).rest ++ q)).lines h.0 k.0, k.1)

pub kept_ended : (course : Course) (s : Session) (rest other : List ℕ) → (course ≡ More → ⊥) → KeepsRest course s rest → KeepsRest course s other
kept_ended More s rest other none h = absurd (none refl)
kept_ended Quit s rest other none h = h
kept_ended SinkFailed s rest other none h = h
kept_ended DeskFailed s rest other none h = h

pub keeps_none : (course : Course) (s : Session) → (course ≡ More → ⊥) → KeepsRest course s []
keeps_none More s none = absurd (none refl)
keeps_none Quit s none = tt
keeps_none SinkFailed s none = tt
keeps_none DeskFailed s none = tt

-- a session that has read the same goes on alike
pub keeps_by : (course : Course) (s t : Session) (rest : List ℕ) → (HasUnfinished s rest → HasUnfinished t rest) → KeepsRest course s rest → KeepsRest course t rest
keeps_by More s t rest so h = so h
keeps_by Quit s t rest so h = tt
keeps_by SinkFailed s t rest so h = tt
keeps_by DeskFailed s t rest so h = tt
