use Rattle.std.proofs.Common.{rules, ◌≡◌, ℕ, ◌-◌, List, ◌++◌, arith, length, take, drop, sym, ap, ◌∙◌, subst, append_assoc, length-append, take-append-drop}
use Rattle.std.proofs.lemmas.List.{take_rest}
use Rattle.std.proofs.Math.Seq.{take-append_seam}
use Rattle.std.specs.Prelude.{Option}
use Rattle.std.specs.Io.KnownBytes.{Appends}
use Rattle.std.proofs.KnownBytes.{Appends-trans, Appends-kept}
use Rattle.dict_proto.specs.Streams.{AppendsFront}
use Rattle.dict_proto.proofs.sink.OverWriteSink.put.Goals as goal
use Rattle.dict_proto.proofs.sink.OverWriteSink.put.Goals.{in_default-via-in-Ok+else-n-gt0, in_default-via-in_default}

moves_front : (all done rest : List ℕ) (n : ℕ) → all ≡ done ++ rest → all ≡ (done ++ take n rest) ++ take (length rest - n) (drop n rest)
moves_front all done rest n e =
    e ∙ ap (λ l. done ++ l) (sym (take-append-drop n rest)) ∙ sym (append_assoc done (take n rest) (drop n rest)) ∙ ap (λ l. (done ++ take n rest) ++ l) (sym (take_rest rest n))

-- what was taken of the whole is a front of it
front_of : (a b : Option (List ℕ)) (all done rest : List ℕ) → all ≡ done ++ rest → Appends a b done → AppendsFront a b all
front_of a b all done rest e h =
    (length done, omega (arith, ap length e, length-append done rest), subst (Appends a b) (sym (ap (take (length done)) e ∙ take-append_seam done rest)) h)

pub loop-rest-preserved : goal.loop-rest-preserved
loop-rest-preserved g c =
    let (done, split, appended) = c.loop-rest.invariant.taken in
    let rest = c.loop-rest.rest.now in
    record {
      taken = (done ++ take c.in-Ok.n rest, moves_front _ done rest c.in-Ok.n split, Appends-trans _ _ _ _ _ appended c.in-Ok.ensures.bytes);
      count = search rules;
    }

pub returns-in_default-clause-put : goal.returns-in_default-clause-put
returns-in_default-clause-put g c =
    let (done, split, appended) = c.loop-rest.invariant.taken in
    let rest = c.loop-rest.rest.now in
    record {
      octets = elim c.in_default.branch [
        | in_default-via-in-Ok+else-n-gt0 w ↦ front_of _ _ _ (done ++ take w.in-Ok.n rest) _ (moves_front _ done rest w.in-Ok.n split) (Appends-trans _ _ _ _ _ appended w.in-Ok.ensures.bytes)
        | in_default-via-in_default w ↦ front_of _ _ _ done rest split (Appends-kept _ _ _ _ appended w.in_default.ensures.bytes)
      ];
      failures = search (rules, arith);
    }
