use Rattle.std.proofs.Common.{◌≡◌, ℕ, List, [], ◌∷◌, ◌++◌, sym, ap, ◌∙◌, subst, append_assoc}
use Rattle.std.specs.Prelude.{Result}
use Rattle.std.specs.List.{flat_map}
use Rattle.dict_proto.specs.Streams.{Stream, PutsFront}
use Rattle.dict_proto.specs.Gathering.{Joins, Gathers}
use Rattle.dict_proto.specs.Text.{escaped, quoted}
use Rattle.dict_proto.proofs.GatheringLemmas.{gathers_err, gathers_after, joins_after, front_joined, front_more}
use Rattle.dict_proto.proofs.quoted.add_quoted.Goals as goal

-- what was added, one more piece, and what is left
one_more : (text done rest front back : List ℕ) (octet : ℕ) → 34 ∷ flat_map escaped text ≡ done ++ flat_map escaped rest → flat_map escaped rest ≡ front ++ (92 ∷ octet ∷ flat_map escaped back)
    → 34 ∷ flat_map escaped text ≡ (done ++ (front ++ (92 ∷ octet ∷ []))) ++ flat_map escaped back
one_more text done rest front back octet e f =
    e ∙ (ap (λ l. done ++ l) (f ∙ sym (append_assoc front (92 ∷ octet ∷ []) (flat_map escaped back))) ∙ sym (append_assoc done (front ++ (92 ∷ octet ∷ [])) (flat_map escaped back)))

broken : (a b c : Stream) (held mid text done piece more : List ℕ) → 34 ∷ flat_map escaped text ≡ (done ++ piece) ++ more → Joins a b held mid done → PutsFront b c (mid ++ piece) → PutsFront a c (held ++ quoted text)
broken a b c held mid text done piece more e h g =
    front_more a c held (34 ∷ flat_map escaped text) (34 ∷ []) (subst (λ l. PutsFront a c (held ++ l)) (sym e) (front_more a c held (done ++ piece) more (front_joined a b c held mid done piece h g)))

whole : {T E : Type 0} (r : Result T E) (a b c : Stream) (held mid left text done rest : List ℕ) → 34 ∷ flat_map escaped text ≡ done ++ flat_map escaped rest → flat_map escaped rest ≡ rest
    → Joins a b held mid done → Gathers r b c mid left (rest ++ (34 ∷ [])) → Gathers r a c held left (quoted text)
whole r a b c held mid left text done rest e f h p =
    subst (Gathers r a c held left) (sym (append_assoc done rest (34 ∷ [])) ∙ ap (λ l. l ++ (34 ∷ [])) (sym (e ∙ ap (λ l. done ++ l) f))) (gathers_after r a b c held mid left done (rest ++ (34 ∷ [])) h p)

pub returns-in_err-add : goal.returns-in_err-add
returns-in_err-add g c =
    gathers_err _ _ _ c.args.gathered.now.octets.items _ (quoted c.args.text.now) c.from_residual.ensures.0
    (front_more _ _ c.args.gathered.now.octets.items (34 ∷ []) (flat_map escaped c.args.text.now ++ (34 ∷ [])) c.in_err-add.ensures)

pub returns-in_err-add_all : goal.returns-in_err-add_all
returns-in_err-add_all g c =
    let (done, split, joined) = c.loop-front.invariant in
    gathers_err _ _ _ c.args.gathered.now.octets.items _ (quoted c.args.text.now) c.from_residual-in_err-add_all.ensures.0
    (broken _ _ _ c.args.gathered.now.octets.items _ c.args.text.now done _ _ (one_more c.args.text.now done c.loop-front.rest.now c.in-Some.front.now c.in-Some.back.now c.in-Some.octet split c.in-Some.ensures.octets) joined
    c.in_err-add_all.ensures)

pub loop-front-preserved : goal.loop-front-preserved
loop-front-preserved g c =
    let (done, split, joined) = c.loop-front.invariant in (
      done ++ (c.in-Some.front.now ++ (92 ∷ c.in-Some.octet ∷ [])),
      one_more c.args.text.now done c.loop-front.rest.now c.in-Some.front.now c.in-Some.back.now c.in-Some.octet split c.in-Some.ensures.octets,
      joins_after _ _ _ _ _ _ done _ joined c.in_ok-add_all.ensures,
    )

pub returns : goal.returns
returns g c =
    let (done, split, joined) = c.loop-front.invariant in
    whole c.add_all-2.result _ _ _ _ _ _ c.args.text.now done c.loop-front.rest.now split c.in_default.ensures.octets joined c.add_all-2.ensures
