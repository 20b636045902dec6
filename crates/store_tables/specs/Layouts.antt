-- How the tables of a version are laid out.

-- Plain: entries alone. Keyed: entries with keys, beside words and grams. Shown: the same, and what is shown of each entry.
-- Parted: editions without their texts, and the parts of the two files of each. What is derived of headwords isn't looked at.
pub data Layout : Type 0 where
  Plain : Layout
  Keyed : Layout
  Shown : Layout
  Parted : Layout
