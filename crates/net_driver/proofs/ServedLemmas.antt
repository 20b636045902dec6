-- Rounds, one behind the others.
use Rattle.std.proofs.Common.{◌≡◌, ◌-◌, ℕ, Bool, true, false, List, [], ◌∷◌, ◌++◌, refl, sym, ap, ◌∙◌, subst, inl, inr}
use Rattle.dict_desk.specs.declared.fault.Fault.{Fault}
use Rattle.std.specs.Prelude.{Option, None, Some, Result, Ok, Err, is_err, is_ok}
use Rattle.std.specs.declared.io.Error.{Error}
use Rattle.dict_catalogue.specs.Steps.{Catalogue}
use Rattle.dict_desk.specs.Expected.{Expected}
use Rattle.net_hub.specs.declared.fault.HubFault.{HubFault}
use Rattle.net_hub.specs.declared.hub.Hub.{Hub}
use Rattle.net_hub.specs.declared.kind.Kind.{Kind}
use Rattle.net_outlet.specs.OutletCalls.{Call}
use Rattle.net_outlet.specs.declared.transport.Transport as transport
use Rattle.net_driver.specs.Asking.{Asking}
use Rattle.net_driver.specs.Served.{AreRounds, IsRoundMade, Round, ended, is_waited}
use Rattle.net_driver.specs.declared.event_loop.EventLoop.{EventLoop}
use Rattle.net_driver.specs.declared.serving.RoundsEnd.{RoundsEnd}
use Rattle.net_driver.specs.declared.serving.RoundsEnd.TheVariants.{Whole}

-- the wait behind a round in which something happened, or behind which the desk is closed
pub waits_not : (moved : Bool) (rounds : ℕ) → is_waited (Ok moved) true rounds ≡ false
waits_not true rounds = refl
waits_not false rounds = refl

-- a desk that doesn't show its summary is closed
pub closed_by_summary : {A E : Type 0} (closed : Bool) (result : Result A E) (told : Bool) → (closed ≡ false → is_ok result ≡ true) → told ≡ is_err result → told ≡ true → closed ≡ true
closed_by_summary true result told shows is fails = refl
closed_by_summary false (Ok value) told shows is fails = absurd (let never : false ≡ true = sym is ∙ fails in cc)
closed_by_summary false (Err fault) told shows is fails = absurd (let never : false ≡ true = shows refl in cc)

module _ {K T S Beside : Type 0} {G : transport.Ghosts T} (Shows : K → Catalogue → Type 0) (LeavesOneOf : K → List (Option Catalogue) → Type 0) (KeepsBeside : K → Beside → Type 0) (IsTrusted : K → Type 0) (has_failed is_closed : K → Bool)
    (expects : K → Expected → K → Type 0) (prepares : K → Result Bool Fault → K → Type 0) (taken coming : T → Option (List ℕ)) (made : T → Option (List Call)) (refuses : Hub → ℕ → Kind → Option HubFault → Type 0)
    (asked : S → Option (List (Asking T))) (told : S → List ℕ) (wait : ℕ) where
  -- so far these were made, with so many that are left, and none of them ended it
  abbrev pub AreMade : ℕ → EventLoop T S G → K → EventLoop T S G → K → List (Round K T S G) → ℕ → Type 0
  AreMade rounds old desk now left [] rest = (rest ≡ rounds) × (now ≡ old) × (left ≡ desk)
  AreMade rounds old desk now left (one ∷ others) rest = (one.before ≡ old) × (one.desk ≡ desk) × IsRoundMade Shows LeavesOneOf KeepsBeside IsTrusted has_failed is_closed expects prepares taken coming made refuses asked told wait rounds one
      × (ended one.result (is_closed one.left) one.waited rounds ≡ None) × AreMade (rounds - 1) one.after one.left now left others rest

  -- one more that didn't end it
  pub made_more : (rounds rest next : ℕ) (old now : EventLoop T S G) (desk left : K) (rs : List (Round K T S G)) (one : Round K T S G) → AreMade rounds old desk now left rs rest
      → one.before ≡ now → one.desk ≡ left → IsRoundMade Shows LeavesOneOf KeepsBeside IsTrusted has_failed is_closed expects prepares taken coming made refuses asked told wait rest one → ended one.result (is_closed one.left)
      one.waited rest
      ≡ None → next ≡ rest - 1
      → AreMade rounds old desk one.after one.left (rs ++ one ∷ []) next
  made_more rounds rest next old now desk left [] one (same, still, kept) before over is goes less = (
    before ∙ still,
    over ∙ kept,
    subst (λ (n : ℕ). IsRoundMade Shows LeavesOneOf KeepsBeside IsTrusted has_failed is_closed expects prepares taken coming made refuses asked told wait n one) same is,
    subst (λ (n : ℕ). ended one.result (is_closed one.left) one.waited n ≡ None) same goes,
    (less ∙ ap (λ (n : ℕ). n - 1) same, refl, refl),
  )
  made_more rounds rest next old now desk left (first ∷ rs) one (begins, on, was, went, then) before over is goes less =
      (begins, on, was, went, made_more (rounds - 1) rest next first.after now first.left left rs one then before over is goes less)

  -- one that ended it
  pub made_last : (rounds rest : ℕ) (old now : EventLoop T S G) (desk left : K) (rs : List (Round K T S G)) (one : Round K T S G) (result : Result RoundsEnd Error) → AreMade rounds old desk now left rs rest
      → one.before ≡ now → one.desk ≡ left → IsRoundMade Shows LeavesOneOf KeepsBeside IsTrusted has_failed is_closed expects prepares taken coming made refuses asked told wait rest one → ended one.result (is_closed one.left)
      one.waited rest
      ≡ Some result
      → AreRounds Shows LeavesOneOf KeepsBeside IsTrusted has_failed is_closed expects prepares taken coming made refuses asked told wait rounds old desk one.after one.left (rs ++ one ∷ []) result
  made_last rounds rest old now desk left [] one result (same, still, kept) before over is ends = (
    before ∙ still,
    over ∙ kept,
    subst (λ (n : ℕ). IsRoundMade Shows LeavesOneOf KeepsBeside IsTrusted has_failed is_closed expects prepares taken coming made refuses asked told wait n one) same is,
    inl (subst (λ (n : ℕ). ended one.result (is_closed one.left) one.waited n ≡ Some result) same ends, refl, refl, refl),
  )
  made_last rounds rest old now desk left (first ∷ rs) one result (begins, on, was, went, then) before over is ends =
      (begins, on, was, inr (went, made_last (rounds - 1) rest first.after now first.left left rs one result then before over is ends))

  -- all of them
  pub made_whole : (rounds rest : ℕ) (old now : EventLoop T S G) (desk left : K) (rs : List (Round K T S G)) → AreMade rounds old desk now left rs rest → rest ≡ 0
      → AreRounds Shows LeavesOneOf KeepsBeside IsTrusted has_failed is_closed expects prepares taken coming made refuses asked told wait rounds old desk now left rs (Ok Whole)
  made_whole rounds rest old now desk left [] (same, still, kept) none = (sym same ∙ none, still, kept, refl)
  made_whole rounds rest old now desk left (first ∷ rs) (begins, on, was, went, then) none =
      (begins, on, was, inr (went, made_whole (rounds - 1) rest first.after now first.left left rs then none))
