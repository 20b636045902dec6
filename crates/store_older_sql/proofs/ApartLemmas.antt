-- In a sound database no two tables, indexes or views have one name.
use Rattle.std.proofs.Common.{◌≡◌, ℕ, Bool, true, false, List, [], ◌∷◌, ◌++◌, map, filter, refl, sym, ap, subst, ◌∙◌, inl, inr, codes, is_eq}
use Rattle.std.proofs.lemmas.Bool.{cases_Bool, and_parts, or_parts, or_from, not-true}
use Rattle.std.specs.List.{list_any}
use Rattle.sqlite.specs.Effect.{Database, IsDatabase}
use Rattle.sqlite.specs.Table.{Table}
use Rattle.sqlite_value.specs.Order.{Row, column, bytes, value_cmp}
use Rattle.sqlite_value.specs.declared.value.Value.TheVariants.{Text}
use Rattle.sqlite_value.proofs.OrderLemmas.{value_cmp-Text}
use Rattle.sqlite_trees.specs.Objects.{catalog_tree}
use Rattle.sqlite_trees.specs.Sound as sound
use Rattle.sqlite_trees.specs.Sound.{Head, head_at, may_follow, are_in_order}
use Rattle.sqlite_rules.specs.Lists.{Has}
use Rattle.sqlite_rules.proofs.ListLemmas.{has_left, has_right, has_filtered, some_from}
use Rattle.sqlite_schema.specs.Names.{same_name}
use Rattle.sqlite_schema.specs.declared.schema.Index.{Index}
use Rattle.sqlite_schema.specs.declared.schema.View.{View as Stored}
use Rattle.sqlite_catalog.specs.Listing.{AreListed, IsTableRow, IsIndexRow, IsViewRow, is_table_row, is_index_row, is_view_row}
use Rattle.sqlite_catalog.proofs.LayoutLemmas.{zipped_left, index_owner}
use Rattle.sqlite_catalog.proofs.SoundLemmas.{names_agree, lowered, list_parts}
use Rattle.sqlite_catalog.proofs.StepLemmas.{named_once, same_itself}

pub any_none : {X : Type 0} (p : X → Bool) (xs : List X) (x : X) → list_any p xs ≡ false → Has xs x → p x ≡ false
any_none p xs x none h = elim (cases_Bool (p x)) [ inl yes_it ↦ absurd (let a = some_from p xs x h yes_it in let both : true ≡ false = sym a ∙ none in cc) | inr no_it ↦ no_it ]

pub swapped : (a b : List ℕ) → same_name a b ≡ false → same_name b a ≡ false
swapped a b other = elim (cases_Bool (same_name b a)) [
  | inl hit ↦ absurd (let e : same_name a b ≡ true = (lowered a b).1 (sym ((lowered b a).0 hit)) in let both : true ≡ false = sym e ∙ other in cc)
  | inr miss ↦ miss
]

-- two that have one name have each other's
pub same_through : (a b c : List ℕ) → same_name a c ≡ true → same_name b c ≡ true → same_name a b ≡ true
same_through a b c one two = (lowered a b).1 ((lowered a c).0 one ∙ sym ((lowered b c).0 two))

pub other_through : (a b c : List ℕ) → same_name a c ≡ true → same_name a b ≡ false → same_name b c ≡ false
other_through a b c one other = elim (cases_Bool (same_name b c)) [
  | inl hit ↦ absurd (let e = same_through a b c one hit in let both : true ≡ false = sym e ∙ other in cc)
  | inr miss ↦ miss
]

-- ---- the rows of the list of objects

unseen : (earlier : List Head) (head : Head) → may_follow earlier head ≡ true → list_any (λ (e : Head). sound.same_name (bytes e.1) (bytes head.1)) earlier ≡ false
unfolding may_follow
unseen earlier head h = let p = and_parts _ _ h in not-true _ p.0

before : (earlier : List Head) (rows : List Row) → are_in_order earlier (map (head_at 1) rows) ≡ true → (e : Head) → Has earlier e → (s : Row) → Has rows s → sound.same_name (bytes e.1) (bytes (column s 2)) ≡ false
before earlier [] up e h s there = absurd there
before earlier (x ∷ rows) up e h s (inl same) =
    let p = and_parts _ _ up in
    subst (λ (r : Row). sound.same_name (bytes e.1) (bytes (column r 2)) ≡ false) (sym same) (any_none (λ (d : Head). sound.same_name (bytes d.1) (bytes (head_at 1 x).1)) earlier e (unseen earlier (head_at 1 x) p.0) h)
before earlier (x ∷ rows) up e h s (inr later) = let p = and_parts _ _ up in before (earlier ++ head_at 1 x ∷ []) rows p.1 e (has_left earlier (head_at 1 x ∷ []) e h) s later

distinct : (earlier : List Head) (rows : List Row) → are_in_order earlier (map (head_at 1) rows) ≡ true → (r s : Row) → Has rows r → Has rows s → (r ≡ s → ⊥) → same_name (bytes (column r 2)) (bytes (column s 2)) ≡ false
distinct earlier [] up r s h k other = absurd h
distinct earlier (x ∷ rows) up r s (inl a) (inl b) other = absurd (other (a ∙ sym b))
distinct earlier (x ∷ rows) up r s (inl a) (inr later) other =
    let p = and_parts _ _ up in
    subst (λ (z : Row). same_name (bytes (column z 2)) (bytes (column s 2)) ≡ false) (sym a)
    (names_agree (bytes (column x 2)) (bytes (column s 2)) ∙ before (earlier ++ head_at 1 x ∷ []) rows p.1 (head_at 1 x) (has_right earlier (head_at 1 x ∷ []) (head_at 1 x) (inl refl)) s later)
distinct earlier (x ∷ rows) up r s (inr later) (inl b) other =
    let p = and_parts _ _ up in
    subst (λ (z : Row). same_name (bytes (column r 2)) (bytes (column z 2)) ≡ false) (sym b)
    (swapped (bytes (column x 2)) (bytes (column r 2))
    (names_agree (bytes (column x 2)) (bytes (column r 2)) ∙ before (earlier ++ head_at 1 x ∷ []) rows p.1 (head_at 1 x) (has_right earlier (head_at 1 x ∷ []) (head_at 1 x) (inl refl)) r later))
distinct earlier (x ∷ rows) up r s (inr h) (inr k) other = let p = and_parts _ _ up in distinct (earlier ++ head_at 1 x ∷ []) rows p.1 r s h k other

-- ---- of which kind a row is

index_kind : (row : Row) → is_index_row row ≡ true → (is_table_row row ≡ false) × (is_view_row row ≡ false)
index_kind row h = or_parts _ _ (not-true _ h)

table_no_view : is_eq (value_cmp (Text (codes "table")) (Text (codes "view"))) ≡ false
table_no_view = ap is_eq (value_cmp-Text (codes "table") (codes "view"))

table_kind : (row : Row) → column row 1 ≡ Text (codes "table") → is_table_row row ≡ true → is_view_row row ≡ false
table_kind row is h =
    let p = and_parts _ _ h in
    or_from _ _ (ap (λ v. is_eq (value_cmp v (Text (codes "view")))) is ∙ table_no_view) (not-true _ p.1)

-- ---- the tables, indexes and views

module _ (db : Database) (whole : IsDatabase db) where
  abbrev objects : List Row
  objects = db.trees catalog_tree

  pub listed : AreListed objects db.schema
  listed = whole.lists.listed

  in_order : are_in_order [] (map (head_at 1) objects) ≡ true
  in_order = (list_parts objects listed.loads).1

  rows_apart : (r s : Row) → Has objects r → Has objects s → (r ≡ s → ⊥) → (a b : List ℕ) → column r 2 ≡ Text a → column s 2 ≡ Text b → same_name a b ≡ false
  rows_apart r s h k other a b is_a is_b = rw (is_a, is_b) at (distinct [] objects in_order r s h k other)

  pub table_index : (t : Table) (i : Index) → Has db.schema.tables t → Has db.schema.indexes i → same_name t.name i.name ≡ false
  table_index t i h k =
      let r = zipped_left IsTableRow (filter is_table_row objects) db.schema.tables t listed.tables h in
      let s = zipped_left (IsIndexRow db.schema.tables) (filter is_index_row objects) db.schema.indexes i listed.indexes k in
      let in_r = has_filtered is_table_row objects r.0 r.1 in
      let in_s = has_filtered is_index_row objects s.0 s.1 in
      rows_apart r.0 s.0 in_r.0 in_s.0 (λ same. absurd (let both : true ≡ false = sym in_r.1 ∙ ap is_table_row same ∙ (index_kind s.0 in_s.1).0 in cc)) t.name i.name r.2.described.name_is s.2.described.name_is

  pub table_view : (t : Table) (w : Stored) → Has db.schema.tables t → Has db.schema.views w → same_name t.name w.name ≡ false
  table_view t w h k =
      let r = zipped_left IsTableRow (filter is_table_row objects) db.schema.tables t listed.tables h in
      let s = zipped_left IsViewRow (filter is_view_row objects) db.schema.views w listed.views k in
      let in_r = has_filtered is_table_row objects r.0 r.1 in
      let in_s = has_filtered is_view_row objects s.0 s.1 in
      rows_apart r.0 s.0 in_r.0 in_s.0 (λ same. absurd (let both : true ≡ false = sym in_s.1 ∙ ap is_view_row (sym same) ∙ table_kind r.0 r.2.described.kind_is in_r.1 in cc)) t.name w.name r.2.described.name_is s.2.described.name_is

  pub index_view : (i : Index) (w : Stored) → Has db.schema.indexes i → Has db.schema.views w → same_name i.name w.name ≡ false
  index_view i w h k =
      let r = zipped_left (IsIndexRow db.schema.tables) (filter is_index_row objects) db.schema.indexes i listed.indexes h in
      let s = zipped_left IsViewRow (filter is_view_row objects) db.schema.views w listed.views k in
      let in_r = has_filtered is_index_row objects r.0 r.1 in
      let in_s = has_filtered is_view_row objects s.0 s.1 in
      rows_apart r.0 s.0 in_r.0 in_s.0 (λ same. absurd (let both : true ≡ false = sym in_s.1 ∙ ap is_view_row (sym same) ∙ (index_kind r.0 in_r.1).1 in cc)) i.name w.name r.2.described.name_is s.2.described.name_is

  text_same : (a b : List ℕ) → Text a ≡ Text b → a ≡ b
  text_same a b e = cc

  -- two indexes of one name are over one table
  pub index_index : (i j : Index) → Has db.schema.indexes i → Has db.schema.indexes j → (i.table ≡ j.table → ⊥) → same_name i.name j.name ≡ false
  index_index i j h k other =
      let r = zipped_left (IsIndexRow db.schema.tables) (filter is_index_row objects) db.schema.indexes i listed.indexes h in
      let s = zipped_left (IsIndexRow db.schema.tables) (filter is_index_row objects) db.schema.indexes j listed.indexes k in
      let in_r = has_filtered is_index_row objects r.0 r.1 in
      let in_s = has_filtered is_index_row objects s.0 s.1 in
      rows_apart r.0 s.0 in_r.0 in_s.0 (λ same. other (
      let names : r.2.table.name ≡ s.2.table.name = text_same _ _ (sym r.2.described.owner_is ∙ ap (λ (z : Row). column z 3) same ∙ s.2.described.owner_is) in
      let owner : r.2.table ≡ s.2.table = named_once db.schema.tables r.2.table s.2.table listed.named r.2.listed s.2.listed (subst (λ n. same_name r.2.table.name n ≡ true) names (same_itself r.2.table.name)) in
      index_owner r.2.table i _ r.2.defined ∙ ap (λ (t : Table). t.tree) owner ∙ sym (index_owner s.2.table j _ s.2.defined))) i.name j.name r.2.described.name_is s.2.described.name_is
