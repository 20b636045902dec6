-- What a run wrote is a front of short lines.
use Rattle.std.proofs.Common.{ℕ, ◌<◌, ◌^◌, List, [], ◌++◌, length, arith, refl, sym, subst, append_assoc, append-nil, inl, inr}
use Rattle.std.specs.Prelude.{Bool, false, IsTrue, Option, Result, Ok, Err}
use Rattle.std.specs.Io.KnownBytes.{Appends}
use Rattle.std.proofs.KnownBytes.{Appends-nil}
use Rattle.std.proofs.lemmas.List.{take_all}
use Rattle.dict_proto.specs.Streams.{Stream, StreamChange, AppendsFront}
use Rattle.dict_proto.proofs.PutLemmas.{appends_after, appends_longer}
use Rattle.dict_proto.specs.Meaning.{Meaning}
use Rattle.dict_catalogue.specs.Steps.{Catalogue}
use Rattle.dict_catalogue.specs.WellFormed.{IsWellFormed}
use Rattle.dict_proto.specs.Replies.{banner_octets}
use Rattle.dict_proto.specs.ReplyLines.{AreShortLines}
use Rattle.dict_session.specs.Answers.{answer_to}
use Rattle.dict_session.specs.Desks.{Condition}
use Rattle.dict_session.specs.Ending.{Wrote}
use Rattle.dict_session.specs.Limits.{is_host, PutsShort}
use Rattle.dict_session.specs.Lines.{cut}
use Rattle.dict_session.specs.Run.{HasAnswered, EndsInPiece, Ends, EndsAt, lines_in}
use Rattle.dict_session.specs.Spoken.{Speaks}
use Rattle.dict_session.specs.declared.session.run.SessionEnd.{SessionEnd}
use Rattle.dict_session.specs.declared.session.run.SessionEnd.TheVariants as ends
use Rattle.dict_session.specs.declared.session.run.SessionFault.{SessionFault}
use Rattle.dict_session.specs.declared.session.run.SessionFault.TheVariants as faults
use Rattle.dict_session.specs.declared.step.Course.{Course}
use Rattle.dict_session.specs.declared.step.Course.TheVariants.{More, Quit, SinkFailed, DeskFailed}
use Rattle.dict_session.proofs.ShortLemmas.{session-short}
use Rattle.dict_session.proofs.SpokenLemmas.{broken_front, speaks_append}

-- all of it is a front of it
whole : (a b : Option (List ℕ)) (xs : List ℕ) → Appends a b xs → AppendsFront a b xs
whole a b xs h = (length xs, omega arith, subst (Appends a b) (sym (take_all (length xs) xs (omega arith))) h)

wrote_front : (d : Meaning → List ℕ) (f : Condition) (course : Course) (a b : Stream) (ls : List (List ℕ)) → Wrote d f course a b ls → (o : List ℕ) × (ended : Bool) × Speaks d f.closed ls o ended × AppendsFront a.octets b.octets o
wrote_front d f More a b ls (o, spoken, h) = (o, _, spoken, whole a.octets b.octets o h.octets)
wrote_front d f Quit a b ls (o, spoken, h) = (o, _, spoken, whole a.octets b.octets o h.octets)
wrote_front d f SinkFailed a b ls (o, ended, spoken, h) = (o, ended, spoken, h.octets)
wrote_front d f DeskFailed a b ls (failed, (o, breaks, h)) =
    let (more, ended, spoken) = broken_front d f.closed ls o breaks in
    (o ++ more, ended, spoken, appends_longer a.octets b.octets o more (whole a.octets b.octets o h.octets))

module _ (M : Catalogue) (host : List ℕ) (connection : ℕ) (formed : IsWellFormed M) (named : IsTrue (is_host host)) (few : connection < 2 ^ 64) where
  greeting_short : AreShortLines (banner_octets host connection)
  greeting_short = subst AreShortLines (append-nil (banner_octets host connection)) (session-short M host connection false [] [] false formed named few (refl, refl))

  answered_short : (closed : Bool) (w : StreamChange) (b : List ℕ) → HasAnswered (answer_to M host) closed (banner_octets host connection) w b → PutsShort w.old w.new
  answered_short closed w b (o, spoken, h) =
      (banner_octets host connection ++ o, session-short M host connection closed (cut b).lines o false formed named few spoken, whole w.old.octets w.new.octets (banner_octets host connection ++ o) h.octets)

  piece_short : (f : Condition) (w : StreamChange) (b : List ℕ) (course : Course) → EndsInPiece (answer_to M host) f (banner_octets host connection) w b course → PutsShort w.old w.new
  piece_short f w b course (front, piece, between, is, most, (o, spoken, h), wrote) =
      let (p, ended, more, then) = wrote_front (answer_to M host) f course between w.new (lines_in front piece) wrote in
      let greeting = banner_octets host connection in (
        greeting ++ (o ++ p),
        session-short M host connection f.closed ((cut front).lines ++ lines_in front piece) (o ++ p) ended formed named few
            (speaks_append (answer_to M host) f.closed (cut front).lines (lines_in front piece) o p ended spoken more),
        subst (AppendsFront w.old.octets w.new.octets) (append_assoc greeting o p) (appends_after w.old.octets between.octets w.new.octets (greeting ++ o) p h.octets then),
      )

  by_end : (f : Condition) (end : Result SessionEnd SessionFault) (r w : StreamChange) (b : List ℕ) → EndsAt (answer_to M host) (banner_octets host connection) f end r w b → PutsShort w.old w.new
  by_end f (Ok ends.Quit) r w b h = piece_short f w b Quit h.1
  by_end f (Ok ends.InputEnd) r w b h = answered_short f.closed w b h.2
  by_end f (Err faults.Read) r w b h = answered_short f.closed w b h.2
  by_end f (Err faults.Write) r w b h = elim h.1 [
    | inl early ↦ (banner_octets host connection, greeting_short, early.1.octets)
    | inr late ↦ piece_short f w b SinkFailed late
  ]
  by_end f (Err faults.Broken) r w b h = piece_short f w b DeskFailed h.1
  by_end f (Err faults.Memory) r w b h =
      (banner_octets host connection, greeting_short, (0, omega arith, rw h.1 (Appends-nil w.old.octets)))

pub run_short : (M : Catalogue) (host : List ℕ) (connection : ℕ) (desk : Condition) (end : Result SessionEnd SessionFault) (reader writer : StreamChange) → IsWellFormed M → IsTrue (is_host host) → connection < 2 ^ 64
    → Ends M host connection desk end reader writer → PutsShort writer.old writer.new
run_short M host connection desk end reader writer formed named few (b, h) = by_end M host connection formed named few desk end reader writer b h
