use Rattle.std.proofs.Common.{◌≡◌, ℕ, List, [], ◌∷◌, ◌++◌, sym, ap, ◌∙◌, subst, append_assoc, append-nil}
use Rattle.std.specs.List.{flat_map}
use Rattle.std.proofs.lemmas.List.Concat.{flat_map-append}
use Rattle.dict_text.specs.Lines.{text_lines}
use Rattle.dict_proto.specs.Streams.{Stream, PutsFront}
use Rattle.dict_proto.specs.Gathering.{Joins}
use Rattle.dict_proto.specs.Text.{sent_line}
use Rattle.dict_proto.proofs.GatheringLemmas.{gathers_err, joins_after, front_joined, front_more}
use Rattle.dict_proto.proofs.text.add_lines.Goals as goal

-- the lines that were added, one more, and the others
one_more : (all done rest more : List (List ℕ)) (line : List ℕ) → all ≡ done ++ rest → rest ≡ line ∷ more → all ≡ (done ++ line ∷ []) ++ more
one_more all done rest more line e f = e ∙ ap (λ l. done ++ l) f ∙ sym (append_assoc done (line ∷ []) more)

-- a line was added after the others
grown : (a b c : Stream) (held mid left : List ℕ) (done : List (List ℕ)) (line : List ℕ) → Joins a b held mid (flat_map sent_line done) → Joins b c mid left (sent_line line) → Joins a c held left (flat_map sent_line (done ++ line ∷ []))
grown a b c held mid left done line h g = subst (Joins a c held left) (sym (flat_map-append sent_line done (line ∷ []) ∙ ap (λ l. flat_map sent_line done ++ l) (append-nil (sent_line line)))) (joins_after a b c held mid left _ _ h g)

-- a line broke off after the others
broken : (a b c : Stream) (held mid : List ℕ) (all done rest more : List (List ℕ)) (line : List ℕ) → all ≡ done ++ rest → rest ≡ line ∷ more → Joins a b held mid (flat_map sent_line done)
    → PutsFront b c (mid ++ sent_line line) → PutsFront a c (held ++ flat_map sent_line all)
broken a b c held mid all done rest more line e f h g =
    subst (λ l. PutsFront a c (held ++ l)) (sym (ap (flat_map sent_line) (e ∙ ap (λ l. done ++ l) f) ∙ flat_map-append sent_line done (line ∷ more)))
    (front_joined a b c held mid (flat_map sent_line done) (sent_line line ++ flat_map sent_line more) h (front_more b c mid (sent_line line) (flat_map sent_line more) g))

pub loop-line-preserved : goal.loop-line-preserved
loop-line-preserved g c =
    let (done, split, joined) = c.loop-line.invariant in
    (done ++ c.in-Some.line.now ∷ [], one_more _ done _ _ _ split c.in-Some.ensures.steps, grown _ _ _ _ _ _ done _ joined c.in_ok-add_line.ensures)

pub returns-in_err-add_line : goal.returns-in_err-add_line
returns-in_err-add_line g c =
    let (done, split, joined) = c.loop-line.invariant in
    gathers_err _ _ _ c.args.gathered.now.octets.items _ (flat_map sent_line (text_lines c.args.text.now)) c.from_residual.ensures.0
    (broken _ _ _ c.args.gathered.now.octets.items _ (text_lines c.args.text.now) done _ _ _ split c.in-Some.ensures.steps joined c.in_err-add_line.ensures)
