-- What stands beside an id once connections are opened, closed or changed.
use Rattle.std.proofs.Common.{◌≡◌, ◌≢◌, ◌==◌, ◌+◌, ◌-◌, ◌<◌, ◌++◌, [], ◌∷◌, ℕ, Bool, true, false, List, All, length, get_or, refl, sym, ap, ◌∙◌, subst, inl, inr, arith}
use Rattle.std.specs.Prelude.{Option, Some, None, Result, Ok, Err, IsErrAnd, IfErr, OnErr, not, slice_set}
use Rattle.std.specs.List.{AllPairs, remove, position_or_len}
use Rattle.std.proofs.Math.Seq.{get_or-append_seam}
use Rattle.std.proofs.lemmas.Bool.{eqb-true, eq-eqb}
use Rattle.std.proofs.lemmas.Bool.Decides.{leb_tells, nat_tests}
use Rattle.std.proofs.lemmas.List.{get_or_append_left, get_or-set_same, get_or-set_other, length_push}
use Rattle.std.proofs.lemmas.List.Sums.{prefix_len_passes}
use Rattle.std.proofs.lemmas.List.Edits.{get_or-remove_below, get_or-remove_above, length-remove}
use Rattle.std.proofs.lemmas.List.Quantifiers.{position-Some}
use Rattle.dict_desk.specs.Expected.{Expected}
use Rattle.net_hub.specs.Books.{place_of_connection, opening, is_given}
use Rattle.net_hub.specs.Foreseen.{IsForeseen, AreForeseen, MakesCommand, MakeCommand}
use Rattle.net_hub.specs.Holding.{Holding}
use Rattle.net_hub.specs.Lines.{HoldsExchange}
use Rattle.net_hub.specs.Hubs.{HoldsAt, IsAbsent, StandsAt}
use Rattle.net_hub.specs.declared.exchange.Exchange.{Exchange}
use Rattle.net_hub.specs.declared.incoming.Out.{Out}
use Rattle.net_hub.specs.declared.incoming.Out.TheVariants.{More, Close}

-- an id that is found stands at its place
pub found_at : (ids : List ℕ) (id place : ℕ) → place_of_connection id ids ≡ Some place → (place < length ids) × (get_or ids place 0 ≡ id)
found_at ids id place is = let h = position-Some (λ one. one == id) ids place 0 is in (h.0, eqb-true _ _ h.1)

-- and one that isn't found stands at none
pub not_found : (ids : List ℕ) (id : ℕ) → place_of_connection id ids ≡ None → IsAbsent ids id
not_found ids id none place within is =
    elim (leb_tells (length ids) (position_or_len (λ one. one == id) ids)) [
      | inl all ↦ let t = prefix_len_passes (λ x. not (x == id)) ids place 0 (omega (arith, all.1, within)) in let e = eq-eqb (get_or ids place 0) id is in cc (t, e)
      | inr some ↦ let l = some.1 in grind (arith, nat_tests)
    ]

-- ids that rise stand at one place each
pub only_place : (ids : List ℕ) (p q id : ℕ) → AllPairs (λ a b. a < b) ids → p < length ids → q < length ids → get_or ids p 0 ≡ id → get_or ids q 0 ≡ id → p ≡ q
only_place ids p q id rising in_p in_q at_p at_q =
    elim (leb_tells p q) [
      | inl a ↦ elim (leb_tells q p) [
        | inl b ↦ omega (arith, a.1, b.1)
        | inr b ↦ let r = rising p q 0 b.1 in_q in absurd (omega (arith, r, at_p, at_q))
      ]
      | inr a ↦ let r = rising q p 0 a.1 in_p in absurd (omega (arith, r, at_p, at_q))
    ]

-- what stands beside an id is what is held
pub holds_there : (host ids : List ℕ) (lines : List Exchange) (id : ℕ) (held : Holding) (p : ℕ) → AllPairs (λ a b. a < b) ids → p < length ids → get_or ids p 0 ≡ id
    → HoldsAt host ids lines id held → (d : Exchange) → HoldsExchange host id (get_or lines p d) held
holds_there host ids lines id held p rising in_p at_p at d =
    subst (λ q. HoldsExchange host id (get_or lines q d) held) (only_place ids at.place p id rising at.within in_p at.is at_p) (at.holds d)

-- the same lists stand for the same
pub stands_as : (host host' ids ids' : List ℕ) (lines lines' : List Exchange) (id : ℕ) (held : Option Holding) → host' ≡ host → ids' ≡ ids → lines' ≡ lines
    → StandsAt host ids lines id held → StandsAt host' ids' lines' id held
stands_as host host' ids ids' lines lines' id held eh ei el at =
    subst (λ (h : List ℕ). StandsAt h ids' lines' id held) (sym eh)
    (subst (λ (i : List ℕ). StandsAt host i lines' id held) (sym ei)
    (subst (λ (l : List Exchange). StandsAt host ids l id held) (sym el) at))

-- one is changed
pub set_others : (host ids : List ℕ) (lines : List Exchange) (p id : ℕ) (line : Exchange) → get_or ids p 0 ≡ id
    → (other : ℕ) (held : Option Holding) → other ≢ id → StandsAt host ids lines other held → StandsAt host ids (slice_set lines p line) other held
set_others host ids lines p id line at_p other None ne absent = absent
set_others host ids lines p id line at_p other (Some held) ne at = record {
  place = at.place;
  within = at.within;
  is = at.is;
  holds = λ d. subst (λ one. HoldsExchange host other one held) (sym (get_or-set_other lines p at.place line d (λ e. ne (sym at.is ∙ (ap (λ k. get_or ids k 0) e ∙ at_p))))) (at.holds d);
}

pub set_own : (host ids : List ℕ) (lines : List Exchange) (p id : ℕ) (line : Exchange) → length lines ≡ length ids → p < length ids → get_or ids p 0 ≡ id
    → (held : Holding) → HoldsExchange host id line held → HoldsAt host ids (slice_set lines p line) id held
set_own host ids lines p id line even in_p at_p held h = record {
  place = p;
  within = in_p;
  is = at_p;
  holds = λ d. subst (λ one. HoldsExchange host id one held) (sym (get_or-set_same lines p line d (omega (arith, even, in_p)))) h;
}

-- one is opened, last
pub push_others : (host ids : List ℕ) (lines : List Exchange) (id : ℕ) (line : Exchange) → length lines ≡ length ids
    → (other : ℕ) (held : Option Holding) → other ≢ id → StandsAt host ids lines other held → StandsAt host (ids ++ id ∷ []) (lines ++ line ∷ []) other held
push_others host ids lines id line even other None ne absent = λ place within is.
    let longer = length_push ids id in
    elim (leb_tells (length ids) place) [
      | inl last ↦ let e : place ≡ length ids = omega (arith, within, last.1, longer) in ne (sym is ∙ (ap (λ k. get_or (ids ++ id ∷ []) k 0) e ∙ get_or-append_seam ids id [] 0))
      | inr earlier ↦ absent place earlier.1 (sym (get_or_append_left ids (id ∷ []) 0 place earlier.1) ∙ is)
    ]
push_others host ids lines id line even other (Some held) ne at = record {
  place = at.place;
  within = let longer = length_push ids id in omega (arith, at.within, longer);
  is = get_or_append_left ids (id ∷ []) 0 at.place at.within ∙ at.is;
  holds = λ d. subst (λ one. HoldsExchange host other one held) (sym (get_or_append_left lines (line ∷ []) d at.place (omega (arith, even, at.within)))) (at.holds d);
}

-- one is closed
pub remove_others : (host ids : List ℕ) (lines : List Exchange) (p id : ℕ) → length lines ≡ length ids → p < length ids → get_or ids p 0 ≡ id
    → (other : ℕ) (held : Option Holding) → other ≢ id → StandsAt host ids lines other held → StandsAt host (remove ids p) (remove lines p) other held
remove_others host ids lines p id even in_p at_p other None ne absent = λ place within is.
    let shorter = length-remove ids p in_p in
    elim (leb_tells p place) [
      | inl above ↦ absent (place + 1) (omega (arith, within, shorter)) (sym (get_or-remove_above ids p 0 place above.1 in_p) ∙ is)
      | inr below ↦ absent place (omega (arith, within, shorter)) (sym (get_or-remove_below ids p 0 place below.1 in_p) ∙ is)
    ]
remove_others host ids lines p id even in_p at_p other (Some held) ne at =
    let shorter = length-remove ids p in_p in
    let in_lines : p < length lines = omega (arith, even, in_p) in
    let apart : at.place ≢ p = λ e. ne (sym at.is ∙ (ap (λ k. get_or ids k 0) e ∙ at_p)) in
    elim (leb_tells p at.place) [
      | inl above ↦ (
          let k = at.place - 1 in
          let over : p < at.place = omega (arith, above.1, apart) in
          let e : k + 1 ≡ at.place = omega (arith, over) in
          record {
            place = k;
            within = omega (arith, at.within, shorter, over);
            is = get_or-remove_above ids p 0 k (omega (arith, over)) in_p ∙ (ap (λ j. get_or ids j 0) e ∙ at.is);
            holds = λ d. subst (λ one. HoldsExchange host other one held) (sym (get_or-remove_above lines p d k (omega (arith, over)) in_lines ∙ ap (λ j. get_or lines j d) e)) (at.holds d);
          })
      | inr below ↦ record {
        place = at.place;
        within = omega (arith, in_p, shorter, below.1);
        is = get_or-remove_below ids p 0 at.place below.1 in_p ∙ at.is;
        holds = λ d. subst (λ one. HoldsExchange host other one held) (sym (get_or-remove_below lines p d at.place below.1 in_lines)) (at.holds d);
      }
    ]

pub remove_own : (ids : List ℕ) (p id : ℕ) → AllPairs (λ a b. a < b) ids → p < length ids → get_or ids p 0 ≡ id → IsAbsent (remove ids p) id
remove_own ids p id rising in_p at_p place within is =
    let shorter = length-remove ids p in_p in
    elim (leb_tells p place) [
      | inl above ↦ (let r = rising p (place + 1) 0 (omega (arith, above.1)) (omega (arith, within, shorter)) in let e = sym (get_or-remove_above ids p 0 place above.1 in_p) ∙ is in omega (arith, r, e, at_p))
      | inr below ↦ (let r = rising place p 0 below.1 in_p in let e = sym (get_or-remove_below ids p 0 place below.1 in_p) ∙ is in omega (arith, r, e, at_p))
    ]

-- an id that may be given stands nowhere
pub new_absent : (ids : List ℕ) (id : ℕ) (greatest : Option ℕ) (count : ℕ) → opening id greatest count ≡ Ok tt → All (λ one. is_given greatest one ≡ true) ids → IsAbsent ids id
new_absent ids id None count ok given place within is = let g = given place 0 within in cc g
new_absent ids id (Some greatest) count ok given place within is =
    let g = given place 0 within in
    elim (leb_tells id greatest) [
      | inl low ↦ let l = low.1 in grind (arith, nat_tests)
      | inr high ↦ let h = high.1 in grind (arith, nat_tests)
    ]

pub on_err : {T E : Type 0} {P : Type 0} (result : Result T E) → P → OnErr result P
on_err (Ok done) p = tt
on_err (Err fault) p = p

-- a fault that is passed on is that one, and what holds holds at it
pub err_passed : {T E : Type 0} (result : Result T E) (e at : E) (Q : Type 0) → IsErrAnd result (λ f. f ≡ e) → e ≡ at → Q → IfErr result (λ fault. (fault ≡ at) × Q)
err_passed (Ok done) e at Q h is q = tt
err_passed (Err fault) e at Q h is q = (h ∙ is, q)

-- one was greeted, and is kept or only its id is given
pub keep_others : (host host' ids ids' : List ℕ) (lines mid lines' : List Exchange) (id : ℕ) (line : Exchange) (out : Out) → length lines ≡ length ids → mid ≡ lines → host' ≡ host
    → (out ≡ More → (ids' ≡ ids ++ id ∷ []) × (lines' ≡ mid ++ line ∷ [])) → (out ≡ Close → (ids' ≡ ids) × (lines' ≡ mid))
    → (other : ℕ) (held : Option Holding) → other ≢ id → StandsAt host ids lines other held → StandsAt host' ids' lines' other held
keep_others host host' ids ids' lines mid lines' id line More even same eh more close other held ne at =
    stands_as _ _ _ _ _ _ other held eh (more refl).0 ((more refl).1 ∙ ap (λ l. l ++ line ∷ []) same) (push_others host ids lines id line even other held ne at)
keep_others host host' ids ids' lines mid lines' id line Close even same eh more close other held ne at =
    stands_as _ _ _ _ _ _ other held eh (close refl).0 ((close refl).1 ∙ same) at

-- one is changed, and holds what it held
pub set_same : (host ids : List ℕ) (lines : List Exchange) (p id : ℕ) (was line : Exchange) → AllPairs (λ a b. a < b) ids → length lines ≡ length ids → p < length ids → get_or ids p 0 ≡ id
    → was ≡ get_or lines p was → ((held : Holding) → HoldsExchange host id was held → HoldsExchange host id line held)
    → (held : Option Holding) → StandsAt host ids lines id held → StandsAt host ids (slice_set lines p line) id held
set_same host ids lines p id was line rising even in_p at_p is same None absent = absent
set_same host ids lines p id was line rising even in_p at_p is same (Some held) at =
    set_own host ids lines p id line even in_p at_p held (same held (subst (λ one. HoldsExchange host id one held) (sym is) (holds_there host ids lines id held p rising in_p at_p at was)))

-- one is changed, and holds what it held: each of them does
pub set_each : (host ids : List ℕ) (lines : List Exchange) (p id : ℕ) (was line : Exchange) → AllPairs (λ a b. a < b) ids → length lines ≡ length ids → p < length ids → get_or ids p 0 ≡ id
    → was ≡ get_or lines p was → ((held : Holding) → HoldsExchange host id was held → HoldsExchange host id line held)
    → (other : ℕ) (held : Option Holding) → StandsAt host ids lines other held → StandsAt host ids (slice_set lines p line) other held
set_each host ids lines p id was line rising even in_p at_p is same other held at = by (other == id) refl
  where
    by : (b : Bool) → (other == id) ≡ b → StandsAt host ids (slice_set lines p line) other held
    by true e =
        let own : other ≡ id = eqb-true other id e in
        subst (λ k. StandsAt host ids (slice_set lines p line) k held) (sym own)
        (set_same host ids lines p id was line rising even in_p at_p is same held (subst (λ k. StandsAt host ids lines k held) own at))
    by false e = set_others host ids lines p id line at_p other held (λ own. let so = eq-eqb other id own in cc (so, e)) at

-- what is foreseen of the one at a place is foreseen of its id
pub foreseen_there : {K : Type 0} (foresees : K → Expected → K → Type 0) (Asks : List ℕ → Expected → Type 0) (host ids : List ℕ) (lines : List Exchange) (p id : ℕ) (was : Exchange) (piece : List ℕ) (old new : K)
    → AllPairs (λ a b. a < b) ids → p < length ids → get_or ids p 0 ≡ id → was ≡ get_or lines p was
    → ((held : Holding) → HoldsExchange host id was held → IsForeseen foresees Asks held piece old new)
    → (held : Option Holding) → StandsAt host ids lines id held → AreForeseen foresees Asks held piece old new
foreseen_there foresees Asks host ids lines p id was piece old new rising in_p at_p is there None absent = absent p in_p at_p
foreseen_there foresees Asks host ids lines p id was piece old new rising in_p at_p is there (Some held) at =
    there held (subst (λ one. HoldsExchange host id one held) (sym is) (holds_there host ids lines id held p rising in_p at_p at was))

-- so is whether octets make a command whole
pub command_there : (host ids : List ℕ) (lines : List Exchange) (p id : ℕ) (was : Exchange) (piece : List ℕ) → AllPairs (λ a b. a < b) ids → p < length ids → get_or ids p 0 ≡ id → was ≡ get_or lines p was
    → ((held : Holding) → HoldsExchange host id was held → MakesCommand held piece) → (held : Option Holding) → StandsAt host ids lines id held → MakeCommand held piece
command_there host ids lines p id was piece rising in_p at_p is there None absent = absent p in_p at_p
command_there host ids lines p id was piece rising in_p at_p is there (Some held) at =
    there held (subst (λ one. HoldsExchange host id one held) (sym is) (holds_there host ids lines id held p rising in_p at_p at was))

pub no_command_there : (host ids : List ℕ) (lines : List Exchange) (p id : ℕ) (was : Exchange) (piece : List ℕ) → AllPairs (λ a b. a < b) ids → p < length ids → get_or ids p 0 ≡ id → was ≡ get_or lines p was
    → ((held : Holding) → HoldsExchange host id was held → MakesCommand held piece → ⊥) → (held : Option Holding) → StandsAt host ids lines id held → MakeCommand held piece → ⊥
no_command_there host ids lines p id was piece rising in_p at_p is there None absent makes = makes
no_command_there host ids lines p id was piece rising in_p at_p is there (Some held) at makes =
    there held (subst (λ one. HoldsExchange host id one held) (sym is) (holds_there host ids lines id held p rising in_p at_p at was)) makes

-- of an id that isn't found nothing is held
pub none_there : (host ids : List ℕ) (lines : List Exchange) (id : ℕ) (piece : List ℕ) → place_of_connection id ids ≡ None → (held : Option Holding) → StandsAt host ids lines id held → MakeCommand held piece → ⊥
none_there host ids lines id piece none None at makes = makes
none_there host ids lines id piece none (Some held) at makes = not_found ids id none at.place at.within at.is
