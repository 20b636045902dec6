-- Stretches, one behind the others.
use Rattle.std.proofs.Common.{◌≡◌, ◌⊎◌, ℕ, ◌<◌, List, [], ◌∷◌, ◌++◌, refl, subst, inl, inr, arith}
use Rattle.dict_desk.specs.declared.fault.Fault.{Fault}
use Rattle.std.specs.Prelude.{Option, Some, Bool, true, false, Result}
use Rattle.dict_catalogue.specs.Steps.{Catalogue}
use Rattle.dict_desk.specs.Expected.{Expected}
use Rattle.net_driver.specs.declared.driver.Driver.{Driver}
use Rattle.app_words.specs.declared.fault.ProgramFault.{ProgramFault}
use Rattle.net_serving.specs.Serving.{AreRoundsLeft, AreServed, CannotWait, Follows, HasGivenOut, HasShut, IsFirstStretch, IsNew, IsOpenBehind, IsOver, Stretch, WasOpened}

-- rounds are left, so it is the other
pub where_left : {A B C : Type 0} (left : ℕ) → (A × B × (left ≡ 0)) ⊎ C → 0 < left → C
where_left left (inl (is, answers, none)) some = absurd (omega (arith, none, some))
where_left left (inr other) some = other

module _ {K Beside : Type 0} (Shows : K → Catalogue → Type 0) (Leaves : K → List (Option Catalogue) → Type 0) (Keeps : K → Beside → Type 0) (Trusted : K → Type 0) (Opened : Option K → K → Type 0) (is_closed : K → Bool) where
  -- a desk that was opened by its path or again was opened
  pub was_opened : (former : Option K) (desk : K) → IsNew Shows Leaves Trusted (Opened former) desk → IsNew Shows Leaves Trusted (WasOpened Opened) desk
  was_opened former desk new = record { opened = (former, new.opened); alone = new.alone }

  -- a desk comes after these stretches: it is the first, or was opened again after the last of them
  abbrev pub GoesOn : ℕ → K → List (Stretch K) → K → ℕ → Type 0
  GoesOn rounds desk [] next left = (next ≡ desk) × (left ≡ rounds)
  GoesOn rounds desk (one ∷ []) next left = (is_closed one.left ≡ true) × Follows Shows Leaves Keeps Trusted one.left next × Opened (Some one.left) next × AreRoundsLeft one.ended left
  GoesOn rounds desk (one ∷ other ∷ others) next left = GoesOn rounds desk (other ∷ others) next left

  pub goes_more : (rounds : ℕ) (desk : K) (stretches : List (Stretch K)) (one : Stretch K) (next : K) (left : ℕ) → is_closed one.left ≡ true → Follows Shows Leaves Keeps Trusted one.left next → Opened (Some one.left) next → AreRoundsLeft
      one.ended left
      → GoesOn rounds desk (stretches ++ one ∷ []) next left
  goes_more rounds desk [] one next left closed follows again are = (closed, follows, again, are)
  goes_more rounds desk (other ∷ []) one next left closed follows again are = (closed, follows, again, are)
  goes_more rounds desk (other ∷ another ∷ stretches) one next left closed follows again are = goes_more rounds desk (another ∷ stretches) one next left closed follows again are

  pub open_more : (desk : K) (stretches : List (Stretch K)) (one : Stretch K) (next : K) (left : ℕ)
      → ((next ≡ one.left) × (is_closed one.left ≡ false)) ⊎ ((is_closed one.left ≡ true) × Follows Shows Leaves Keeps Trusted one.left next × Opened (Some one.left) next × AreRoundsLeft one.ended left)
      → IsOpenBehind Shows Leaves Keeps Trusted Opened is_closed desk (stretches ++ one ∷ []) next left
  open_more desk [] one next left is = is
  open_more desk (other ∷ []) one next left is = is
  open_more desk (other ∷ another ∷ stretches) one next left is = open_more desk (another ∷ stretches) one next left is

  pub first_goes : (rounds : ℕ) (desk : K) (stretches : List (Stretch K)) (one : Stretch K) → IsFirstStretch rounds desk stretches → GoesOn rounds desk stretches one.opened one.asked → IsFirstStretch rounds desk (stretches ++ one ∷ [])
  first_goes rounds desk [] one first goes = goes
  first_goes rounds desk (other ∷ stretches) one first goes = first

  alone : (has_failed : K → Bool) (expects : K → Expected → K → Type 0) (prepares : K → Result Bool Fault → K → Type 0) (wait : ℕ) (one : Stretch K) (a b c : Driver) → b ≡ a
      → IsOver Shows Leaves Keeps Trusted Opened has_failed is_closed expects prepares wait one b c → AreServed Shows Leaves Keeps Trusted Opened has_failed is_closed expects prepares wait (one ∷ []) a c
  alone has_failed expects prepares wait one a b c same over = (c, subst (λ (d : Driver). IsOver Shows Leaves Keeps Trusted Opened has_failed is_closed expects prepares wait one d c) same over, tt, refl)

  pub served_more : (has_failed : K → Bool) (expects : K → Expected → K → Type 0) (prepares : K → Result Bool Fault → K → Type 0) (wait rounds : ℕ) (desk : K) (stretches : List (Stretch K)) (one : Stretch K) (a b c : Driver)
      → AreServed Shows Leaves Keeps Trusted Opened has_failed is_closed expects prepares wait stretches a b
      → GoesOn rounds desk stretches one.opened one.asked
      → IsOver Shows Leaves Keeps Trusted Opened has_failed is_closed expects prepares wait one b c → AreServed Shows Leaves Keeps Trusted Opened has_failed is_closed expects prepares wait (stretches ++ one ∷ []) a c
  served_more has_failed expects prepares wait rounds desk [] one a b c served goes over = alone has_failed expects prepares wait one a b c served over
  served_more has_failed expects prepares wait rounds desk (other ∷ []) one a b c (between, first, gave, served) goes over = (between, first, goes, alone has_failed expects prepares wait one between b c served over)
  served_more has_failed expects prepares wait rounds desk (other ∷ next ∷ stretches) one a b c (between, first, gave, served) goes over =
      (between, first, gave, served_more has_failed expects prepares wait rounds desk (next ∷ stretches) one between b c served goes over)

  given_out : (Unreopened : K → ProgramFault → Type 0) (stretches : List (Stretch K)) (one : Stretch K) (fault : ProgramFault) → HasGivenOut is_closed Unreopened (one ∷ []) fault
      → HasGivenOut is_closed Unreopened (stretches ++ one ∷ []) fault
  given_out Unreopened [] one fault given = given
  given_out Unreopened (other ∷ []) one fault given = given
  given_out Unreopened (other ∷ another ∷ stretches) one fault given = given_out Unreopened (another ∷ stretches) one fault given

  shut_more : (Shut : K → Type 0) (stretches : List (Stretch K)) (one : Stretch K) → Shut one.left → HasShut Shut (stretches ++ one ∷ [])
  shut_more Shut [] one shut = shut
  shut_more Shut (other ∷ []) one shut = shut
  shut_more Shut (other ∷ another ∷ stretches) one shut = shut_more Shut (another ∷ stretches) one shut

  -- how the last one ends is how all end
  pub ends_more : (Shut : K → Type 0) (Unreopened : K → ProgramFault → Type 0) (stretches : List (Stretch K)) (one : Stretch K) (driver : Driver) (fault : ProgramFault)
      → (CannotWait driver fault × HasShut Shut (one ∷ [])) ⊎ HasGivenOut is_closed Unreopened (one ∷ []) fault
      → (CannotWait driver fault × HasShut Shut (stretches ++ one ∷ [])) ⊎ HasGivenOut is_closed Unreopened (stretches ++ one ∷ []) fault
  ends_more Shut Unreopened stretches one driver fault (inl (cannot_wait, shut)) = inl (cannot_wait, shut_more Shut stretches one shut)
  ends_more Shut Unreopened stretches one driver fault (inr given) = inr (given_out Unreopened stretches one fault given)
