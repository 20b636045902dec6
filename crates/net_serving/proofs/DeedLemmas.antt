-- What was done to files, one thing after the other.
use Rattle.std.proofs.Common.{◌≡◌, ℕ, zero, suc, ◌<◌, List, [], ◌∷◌, ◌++◌, refl, sym, ap, subst, ◌∙◌, inl, inr, arith}
use Rattle.std.specs.Prelude.{Option, Some, None, Result}
use Rattle.std.proofs.lemmas.List.{append_assoc, append-nil}
use Rattle.net_serving.specs.Deeds.{Deed, Does, Opens, Reopens}
use Rattle.app_words.specs.declared.fault.ProgramFault.{ProgramFault}
use Rattle.net_serving.specs.Done.{AreDone, HasDone, HasReopened, HasTurned, IsClosedBehind, WasDone, closing}
use Rattle.net_serving.specs.Serving.{Stretch}

pub does_none : {K : Type 0} (old : Option (List (Deed K))) → Does old old []
does_none None = refl
does_none (Some before) = ap Some (sym (append-nil before))

pub does_both : {K : Type 0} (old between new : Option (List (Deed K))) (first second : List (Deed K)) → Does old between first → Does between new second → Does old new (first ++ second)
does_both None between new first second a b = subst (λ (h : Option (List (Deed _))). Does h new second) a b
does_both (Some before) between new first second a b =
    subst (λ (h : Option (List (Deed _))). Does h new second) a b ∙ ap Some (append_assoc before first second)

module _ {K : Type 0} (path : List ℕ) where
  -- a desk comes after these stretches: it is the first, or was opened again after the last of them, and this was done
  abbrev pub Reaches : K → List (Stretch K) → K → List (Deed K) → Type 0
  Reaches desk [] next deeds = (next ≡ desk) × (deeds ≡ [])
  Reaches desk (one ∷ others) next deeds =
      (one.opened ≡ desk) × ((again : K) × (more : List (Deed K)) × (deeds ≡ Reopens path one.left (Some again) ∷ more) × Reaches again others next more)

  done_more : (desk : K) (stretches : List (Stretch K)) (one : Stretch K) (last : Option K) (deeds step : List (Deed K)) → Reaches desk stretches one.opened deeds
      → AreDone path one.opened (one ∷ []) last step → AreDone path desk (stretches ++ one ∷ []) last (deeds ++ step)
  done_more desk [] one last deeds step (is, none) done =
      subst (λ (d : K). AreDone path d (one ∷ []) last (deeds ++ step)) is
      (subst (λ (ds : List (Deed K)). AreDone path one.opened (one ∷ []) last (ds ++ step)) (sym none) done)
  done_more desk (other ∷ others) one last deeds step (first, (again, more, e, rest)) done =
      (first, inr (again, more ++ step, ap (λ (ds : List (Deed K)). ds ++ step) e, done_more again others one last more step rest done))

  reaches_more : (desk : K) (stretches : List (Stretch K)) (one : Stretch K) (next : K) (deeds : List (Deed K)) → Reaches desk stretches one.opened deeds
      → Reaches desk (stretches ++ one ∷ []) next (deeds ++ Reopens path one.left (Some next) ∷ [])
  reaches_more desk [] one next deeds (is, none) =
      (is, (next, [], ap (λ (ds : List (Deed K)). ds ++ Reopens path one.left (Some next) ∷ []) none, (refl, refl)))
  reaches_more desk (other ∷ others) one next deeds (first, (again, more, e, rest)) =
      (first, (again, more ++ Reopens path one.left (Some next) ∷ [], ap (λ (ds : List (Deed K)). ds ++ Reopens path one.left (Some next) ∷ []) e, reaches_more again others one next more rest))

  -- these stretches were made, and a desk is open, over which more are made where rounds are left
  abbrev pub GoneOn : K → List (Stretch K) → K → ℕ → Option (List (Deed K)) → Option (List (Deed K)) → Type 0
  GoneOn desk stretches next left old new =
      (deeds : List (Deed K)) × Does old new deeds × AreDone path desk stretches (Some next) deeds × (0 < left → Reaches desk stretches next deeds)

  pub gone_first : (desk : K) (left : ℕ) (old : Option (List (Deed K))) → GoneOn desk [] desk left old old
  gone_first desk left old = ([], does_none old, (refl, refl), λ some. (refl, refl))

  module _ (desk : K) (stretches : List (Stretch K)) (one : Stretch K) (before : ℕ) (some : 0 < before) (old between new : Option (List (Deed K)))
      (gone : GoneOn desk stretches one.opened before old between) where
    pub turned : (last : Option K) → HasTurned path one.left last between new → HasDone path desk (stretches ++ one ∷ []) last old new
    turned last (inl (step, is, does)) =
        (gone.0 ++ step, done_more desk stretches one last gone.0 step (gone.3 some) (refl, inl (refl, is)), does_both old between new gone.0 step gone.1 does)
    turned last (inr (next, is, does)) =
        (gone.0 ++ Reopens path one.left (Some next) ∷ [], done_more desk stretches one last gone.0 _ (gone.3 some) (refl, inr (next, [], refl, (is, refl))), does_both old between new gone.0 _ gone.1 does)

    pub gone_more : (next : K) (left : ℕ) → HasTurned path one.left (Some next) between new → (0 < left → HasReopened path one.left next between new)
        → GoneOn desk (stretches ++ one ∷ []) next left old new
    gone_more next zero is again = let done = turned (Some next) is in (done.0, done.2, done.1, λ more. absurd (omega (arith, more)))
    gone_more next (suc left) is again = (
      gone.0 ++ Reopens path one.left (Some next) ∷ [],
      does_both old between new gone.0 _ gone.1 (again (omega arith)),
      done_more desk stretches one (Some next) gone.0 _ (gone.3 some) (refl, inr (next, [], refl, (refl, refl))),
      λ more. reaches_more desk stretches one next gone.0 (gone.3 some),
    )

-- the file was opened, served in stretches, and closed
pub was_done : {K A : Type 0} (Behind Shut : K → Type 0) (result : Result A ProgramFault) (path : List ℕ) (desk : K) (stretches : List (Stretch K)) (last : Option K) (old opened served new : Option (List (Deed K)))
    → Does old opened (Opens path (Some desk) ∷ []) → HasDone path desk stretches last opened served → Does served new (closing last) → IsClosedBehind Behind Shut result last → WasDone Behind Shut old new path desk stretches result
was_done Behind Shut result path desk stretches last old opened served new opens done closes shut =
    (last, done.0, done.1, does_both old served new (Opens path (Some desk) ∷ done.0) (closing last) (does_both old opened served (Opens path (Some desk) ∷ []) done.0 opens done.2) closes, shut)
