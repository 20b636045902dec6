-- Where an octet cuts a list of octets in two.
use Rattle.std.specs.Prelude.{◌≡◌, ◌≢◌, ℕ, List, ◌∷◌, ◌++◌, Option, IfSome}
use Rattle.std.specs.List.{AllByRecursion}
use Rattle.dict_index.specs.Line.{behind_tab}

-- the octet doesn't stand in the list
abbrev pub HasNo : ℕ → List ℕ → Type 0
HasNo octet octets = AllByRecursion (λ x. x ≢ octet) octets

-- the list is what stands before the first such octet, the octet, and what stands behind it
pub record IsCutAt (octet : ℕ) (octets before behind : List ℕ) : Type 0 where
  pub whole : octets ≡ before ++ octet ∷ behind
  pub none : HasNo octet before

-- what stands behind two columns is the third, and the fourth where there is one, and has no further tab
pub record AreLast (rest third : List ℕ) (fourth : Option (List ℕ)) : Type 0 where
  pub whole : rest ≡ third ++ behind_tab fourth
  pub third_none : HasNo 9 third
  pub fourth_none : IfSome fourth (HasNo 9)

-- the line is these three columns, and the fourth where there is one, a tab between two, and has no further tab
pub record AreColumns (line first second third : List ℕ) (fourth : Option (List ℕ)) : Type 0 where
  pub whole : line ≡ first ++ (9 ∷ second ++ (9 ∷ third ++ behind_tab fourth))
  pub first_none : HasNo 9 first
  pub second_none : HasNo 9 second
  pub third_none : HasNo 9 third
  pub fourth_none : IfSome fourth (HasNo 9)
