-- What a query over one table answers: its rows that pass the test, in the order of its keys.
use Rattle.std.proofs.Common.{◌≡◌, ℕ, ◌-◌, ◌^◌, ◌+◌, ◌<◌, pos, negsuc, List, [], ◌∷◌, map, length, filter, slice_get, Bool, true, false, cond, None, Ordering, nat_le, refl, sym, ap, subst, subst₂, ◌∙◌, arith, IsSorted}
use Rattle.std.proofs.Common.{get_or, All, unwrap_or, inl, inr}
use Rattle.std.proofs.lemmas.List.{length-map, get_or-map}
use Rattle.std.proofs.lemmas.List.Elements.{All-map}
use Rattle.std.proofs.lemmas.Bool.{cases_Bool}
use Rattle.std.proofs.lemmas.List.Sorted.{IsPermutation-map, All-permutation}
use Rattle.std.specs.List.Sorted.{IsPermutation}
use Rattle.std.specs.List.{flat_map, list_all}
use Rattle.std.specs.Ordering.{is_lt}
use Rattle.sqlite.specs.declared.types.Value.TheVariants.{Int}
use Rattle.sqlite.specs.Order.{Row}
use Rattle.sqlite.specs.Tree.{Trees}
use Rattle.sqlite.specs.Term.{Term, Env, lit, eval_all, holds}
use Rattle.sqlite.specs.Query.{Query, Output, output, output_cmp, key_cmp, IsAnswer, inner, end}
use Rattle.sqlite.specs.Program.{overlay}
use Rattle.sqlite_value.specs.declared.keys.Key.{Key}

overlaid : (b : Bool) (t : ℕ) (rows : List Row) → unwrap_or (cond b (slice_get {X = List Row} [] (t - 2 ^ 31)) None) rows ≡ rows
overlaid true t rows = refl
overlaid false t rows = refl

module _ (params : Row) (tests : List Term) where
  abbrev pub env_of : Row → Env
  env_of r = params ∷ r ∷ []

  abbrev pub passes : Row → Bool
  passes r = list_all (holds (env_of r)) tests

  matched : (rows : List Row) → flat_map (λ r. cond (passes r) (env_of r ∷ []) []) rows ≡ map env_of (filter passes rows)
  matched [] = refl
  matched (r ∷ rows) = elim (cases_Bool (passes r)) [
    | inl held ↦ rw held (ap (λ rest. env_of r ∷ rest) (matched rows))
    | inr missed ↦ rw missed (matched rows)
  ]

-- the query of a table, with these tests, shown columns and keys
abbrev over : ℕ → List Term → List Term → List (Term × Key) → Query
over tree tests project order = record { from = inner tree end; filter = tests; group = None; project = project; distinct = false; collations = []; order = order; limit = lit (Int (negsuc 0)); offset = lit (Int (pos 0)) }

module _ (tree : ℕ) (tests project : List Term) (order : List (Term × Key)) (params : Row) (show keys : Row → Row)
    (shows : (r : Row) → eval_all project (params ∷ r ∷ []) ≡ show r)
    (keyed : (r : Row) → eval_all (map (λ (k : Term × Key). k.0) order) (params ∷ r ∷ []) ≡ keys (show r))
  where
    abbrev q : Query
    q = over tree tests project order

    abbrev env : Row → Env
    env r = params ∷ r ∷ []

    abbrev chosen : List Row → List Row
    chosen rows = filter (passes params tests) rows

    outputs_are : (rows : List Row) → map (λ (o : Output). o.1) (map (output q) (map env rows)) ≡ map show rows
    outputs_are [] = refl
    outputs_are (r ∷ rows) = rw (shows r) (ap (λ rest. show r ∷ rest) (outputs_are rows))

    abbrev HasItsKeys : Output → Type 0
    HasItsKeys o = o.0 ≡ keys o.1

    keyed_all : (rows : List Row) → All HasItsKeys (map (output q) (map env rows))
    keyed_all rows = All-map HasItsKeys (output q) (map env rows) (All-map (λ e. HasItsKeys (output q e)) env rows (λ k d low. keyed (get_or rows k d) ∙ ap keys (sym (shows (get_or rows k d)))))

    -- the order of two rows that are shown
    abbrev pub in_order : Row → Row → Ordering
    in_order a b = key_cmp 0 (map (λ (k : Term × Key). k.1) order) (keys a) (keys b)

    sorted_rows : (outs : List Output) → All HasItsKeys outs → IsSorted (output_cmp q) outs → IsSorted in_order (map (λ (o : Output). o.1) outs)
    sorted_rows outs keyed sorted k d from low =
        let e : Output = (keys d, d) in
        let last : k + 1 < length outs = omega (arith, low, length-map outs (λ (o : Output). o.1)) in
        let this : k < length outs = omega arith in
        let one = get_or-map (λ (o : Output). o.1) outs k e d this in
        let two = get_or-map (λ (o : Output). o.1) outs (k + 1) e d last in
        let before = sorted k e from last in
        rw (one, two) (subst₂ (λ x y. is_lt (key_cmp 0 (map (λ (k : Term × Key). k.1) order) x y) ≡ false) (keyed (k + 1) e last) (keyed k e this) before)

    module _ (db : Trees) (rows : List Row) (a : IsAnswer q (overlay db []) params rows) where
      staged : a.staged ≡ map env (chosen (db tree))
      staged = a.grouped ∙ rw (overlaid (nat_le (2 ^ 31) tree) tree (db tree)) (matched params tests (db tree))

      same : IsPermutation (map (output q) (map env (chosen (db tree)))) a.ordered
      same = subst (λ k. IsPermutation k a.ordered) (a.distinct ∙ ap (map (output q)) staged) a.same

      pub lists : IsPermutation (map show (chosen (db tree))) rows
      lists =
          let shown = IsPermutation-map (λ (o : Output). o.1) _ _ same in
          subst (IsPermutation (map show (chosen (db tree)))) (sym a.shown) (subst (λ k. IsPermutation k (map (λ (o : Output). o.1) a.ordered)) (outputs_are (chosen (db tree))) shown)

      pub sorts : IsSorted in_order rows
      sorts =
          let keyed = All-permutation HasItsKeys _ _ same (keyed_all (chosen (db tree))) in
          subst (IsSorted in_order) (sym a.shown) (sorted_rows a.ordered keyed a.sorted)
