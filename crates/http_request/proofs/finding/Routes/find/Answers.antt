use Rattle.std.proofs.Common.{◌≡◌, ◌++◌, ℕ, List, sym, ap, ◌∙◌, subst}
use Rattle.http_request.specs.Paths.{IsPath, path_after}
use Rattle.http_request.proofs.PathLemmas.{found_is, not_found, octets_of, same_rest, same_front}
use Rattle.http_request.proofs.finding.Routes.find.Goals as goal

pub returns-in_default : goal.returns-in_default
returns-in_default c route name is =
    not_found c.args.path.now route name (octets_of c.args.path.now c.type_inv.path) (rw c.args.self.now.holds at c.in_default.ensures.missing) is

pub unreachable-requires : goal.unreachable-requires
unreachable-requires c =
    let f = found_is c.args.path.now _ (octets_of c.args.path.now c.type_inv.path) (rw c.args.self.now.holds at c.in-Ok.ensures.found) in
    c.in_default-strip_prefix.ensures.cases (f.0 ++ path_after c.in-Ok.found.value.now) (f.1.is ∙ ap (λ t. t ++ (f.0 ++ path_after c.in-Ok.found.value.now)) (sym c.around.ensures.before))

-- what comes after the text before the name is the name, and then the text after it
whole : (path pre suf rest name b a : List ℕ) → pre ≡ b → suf ≡ a → path ≡ pre ++ rest → path ≡ b ++ (name ++ a) → rest ≡ name ++ suf
whole path pre suf rest name b a p s e f =
    same_rest pre rest (name ++ suf) path e (f ∙ (ap (λ t. t ++ (name ++ a)) (sym p) ∙ ap (λ t. pre ++ (name ++ t)) (sym s)))

pub unreachable-requires-in_default-strip_suffix : goal.unreachable-requires-in_default-strip_suffix
unreachable-requires-in_default-strip_suffix c =
    let f = found_is c.args.path.now _ (octets_of c.args.path.now c.type_inv.path) (rw c.args.self.now.holds at c.in-Ok.ensures.found) in
    let p = c.in-Some.ensures.cases in
    c.in_default-strip_suffix.ensures.cases f.0 (whole c.args.path.now _ _ _ f.0 _ _ c.around.ensures.before c.around.ensures.after (p.1.1 ∙ ap (λ t. c.around.result.0.now ++ t) (sym p.2)) f.1.is)

pub returns : goal.returns
returns c =
    let f = found_is c.args.path.now _ (octets_of c.args.path.now c.type_inv.path) (rw c.args.self.now.holds at c.in-Ok.ensures.found) in
    let p = c.in-Some.ensures.cases in
    let s = c.in-Some-strip_suffix.ensures.cases in
    let w : c.in-Some.rest.now ≡ f.0 ++ c.around.result.1.now = whole c.args.path.now _ _ _ f.0 _ _ c.around.ensures.before c.around.ensures.after (p.1.1 ∙ ap (λ t. c.around.result.0.now ++ t) (sym p.2)) f.1.is in
    let n : c.in-Some-strip_suffix.name.now ≡ f.0 = same_front c.in-Some-strip_suffix.name.now f.0 c.around.result.1.now c.in-Some.rest.now (s.1.1 ∙ ap (λ t. t ++ c.around.result.1.now) (sym s.2)) w in
    subst (λ t. IsPath c.args.path.now c.in-Ok.found.value.now t) (sym n) f.1
