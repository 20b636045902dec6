-- Values that are equal, and columns behind the rowid.
use Rattle.std.proofs.Common.{◌≡◌, ◌+◌, ℕ, ℤ, suc, List, [], ◌∷◌, map, filter, drop, Bool, true, Ordering, Less, Equal, Greater, refl, sym, ap, ◌∙◌, inl, inr, arith}
use Rattle.std.proofs.lemmas.Bool.{cases_Bool}
use Rattle.std.proofs.lemmas.Cmp.{int_cmp_total, tied_itself}
use Rattle.std.proofs.lemmas.Map.Lookups.{exact_signed}
use Rattle.std.specs.Ordering.{is_eq, int_cmp}
use Rattle.sqlite.specs.Order.{Row, column}
use Rattle.sqlite.specs.declared.types.Value.TheVariants.{Int}
use Rattle.store_tables.specs.Effects.{same_value}
use Rattle.store_tables.proofs.KitLemmas.{value_cmp-Int}

equal : (o : Ordering) → is_eq o ≡ true → o ≡ Equal
equal Less h = absurd (let e = h in cc)
equal Equal h = refl
equal Greater h = absurd (let e = h in cc)

pub ints : (a b : ℤ) → same_value (Int a) (Int b) ≡ true → a ≡ b
ints a b h = exact_signed a b (equal (int_cmp a b) (sym (ap is_eq (value_cmp-Int a b)) ∙ h))

pub ints_back : (a : ℤ) → same_value (Int a) (Int a) ≡ true
ints_back a = ap is_eq (value_cmp-Int a a) ∙ ap is_eq (tied_itself int_cmp_total a)

pub behind : (r : Row) (at : ℕ) → column r (at + 1) ≡ column (drop 1 r) at
behind [] at = refl
behind (x ∷ r) at = let next : at + 1 ≡ suc at = omega arith in ap (column (x ∷ r)) next

pub filter_map : {X Y : Type 0} (f : X → Y) (p : X → Bool) (q : Y → Bool) → ((x : X) → p x ≡ q (f x)) → (xs : List X) → map f (filter p xs) ≡ filter q (map f xs)
filter_map f p q same [] = refl
filter_map f p q same (x ∷ xs) = elim (cases_Bool (q (f x))) [
  | inl hit ↦ rw (same x, hit) (ap (λ l. f x ∷ l) (filter_map f p q same xs))
  | inr miss ↦ rw (same x, miss) (filter_map f p q same xs)
]
