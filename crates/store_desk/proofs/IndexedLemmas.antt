-- The indexes of a desk over a command.
use Rattle.std.proofs.Common.{◌≡◌, ◌≢◌, ◌⊎◌, inl, inr, ℕ, ◌+◌, ◌-◌, ◌^◌, ◌≤◌, Bool, true, false, cond, List, [], ◌∷◌, map, length, nat_eq, refl, sym, ap, subst, ◌∙◌, arith}
use Rattle.std.specs.Prelude.{IsTrue, min, Contains, IsPermutation, Option, Some, None}
use Rattle.std.specs.List.{AllByRecursion}
use Rattle.std.proofs.lemmas.Bool.{eqb-true, false≢true}
use Rattle.std.proofs.lemmas.List.Elements.{All-contains_itself, recursion_from_All}
use Rattle.sqlite.specs.Effect.{Database}
use Rattle.sqlite.specs.Held.{Held, state}
use Rattle.sqlite_trees.specs.declared.store.Store.{Ghosts}
use Rattle.dict_text.proofs.AllLemmas.{all_flat_map_parts, all_map, all_weaker, all_unmapped}
use Rattle.dict_index.specs.Edition.{Edition, ReadEdition, edition_of}
use Rattle.dict_catalogue.specs.Items.{Stored, Item, regular, virtual, editions_of, numbers_of, item_as}
use Rattle.dict_catalogue.specs.Tests.{Holdings}
use Rattle.dict_catalogue.specs.Steps.{Catalogue, KeptFor, summary_of, with_effect}
use Rattle.dict_catalogue.specs.Views.{item_shown, summary_shown, command_meant}
use Rattle.dict_catalogue.specs.WellFormed.{IsWellFormed, how_many, is_install}
use Rattle.dict_catalogue.specs.declared.commands.Command.{Command as Typed}
use Rattle.dict_catalogue.specs.declared.commands.Command.TheVariants.{Install, Rollback, Retire, PutVirtual, Place}
use Rattle.dict_catalogue.specs.declared.summary.Item.{Item as TypedItem}
use Rattle.dict_catalogue.specs.declared.summary.Summary.{Summary}
use Rattle.dict_catalogue.proofs.WellFormedLemmas.{IfInstalled, each_after}
use Rattle.store_commands.specs.Installed.{HasTextOf}
use Rattle.dict_desk.specs.Shown.{HasEdition}
use Rattle.store_holdings.specs.Holds.{Holds}
use Rattle.store_holdings.specs.Indexes.{entries_under}
use Rattle.store_holdings.specs.HeldTexts.{HoldsText, text_rows}
use Rattle.store_holdings.specs.CutTexts.{ArePartsOf, AreOfInstalls, Cuts}
use Rattle.store_holdings.specs.KeptTexts.{PartNumbers}
use Rattle.store_rows.specs.Versions.{known}
use Rattle.store_rows.proofs.OrderLemmas.{all_with}
use Rattle.store_search.specs.Entries.{Indexed, entry_of}
use Rattle.store_desk.specs.Desk.{DeskState, ServesEdition, ServesEditions, is_closed}
use Rattle.store_desk.specs.Indexed.{HasPutIfSome, index_coming}
use Rattle.store_desk.specs.Left.{Counts}
use Rattle.store_desk.specs.declared.last.LastCall.TheVariants.{Fine}
use Rattle.store_desk.proofs.TextLemmas.{text_carried, text_short}

-- ---- what holds of each edition

pub each_both : (P Q R : Stored Edition → Type 0) → ((stored : Stored Edition) → P stored → Q stored → R stored) → (items : List (Item Edition)) → AllByRecursion (λ item. AllByRecursion P (editions_of item)) items
    → AllByRecursion (λ item. AllByRecursion Q (editions_of item)) items
    → AllByRecursion (λ item. AllByRecursion R (editions_of item)) items
each_both P Q R f items p q =
    all_with (λ item. AllByRecursion P (editions_of item)) (λ item. AllByRecursion Q (editions_of item)) (λ item. AllByRecursion R (editions_of item)) (λ item a b. all_with P Q R f (editions_of item) a b) items p q

-- each has its number in the range of the installs
pub each_low : (M : Catalogue) → IsWellFormed M → AllByRecursion (λ item. AllByRecursion (λ (stored : Stored Edition). stored.number ≤ M.installs) (editions_of item)) M.items
each_low M well =
    all_weaker (λ (item : Item Edition). AllByRecursion (λ n. (1 ≤ n) × (n ≤ M.installs)) (numbers_of item)) (λ item. AllByRecursion (λ (stored : Stored Edition). stored.number ≤ M.installs) (editions_of item))
    (λ item h. all_weaker (λ (stored : Stored Edition). (1 ≤ stored.number) × (stored.number ≤ M.installs)) (λ (stored : Stored Edition). stored.number ≤ M.installs) (λ stored low. low.1)
    (editions_of item) (all_unmapped (λ n. (1 ≤ n) × (n ≤ M.installs)) (λ (stored : Stored Edition). stored.number) (editions_of item) h)) M.items
    (all_flat_map_parts (λ n. (1 ≤ n) × (n ≤ M.installs)) numbers_of M.items well.edition_range)

-- each stands in the catalogue
pub each_has : (M : Catalogue) → AllByRecursion (λ item. AllByRecursion (λ (stored : Stored Edition). HasEdition M stored.number stored.content) (editions_of item)) M.items
each_has M =
    all_weaker (Contains M.items) (λ item. AllByRecursion (λ (stored : Stored Edition). HasEdition M stored.number stored.content) (editions_of item))
    (λ item there. all_weaker (Contains (editions_of item)) (λ (stored : Stored Edition). HasEdition M stored.number stored.content) (λ stored at. record { item = item; stands = there; stored = at })
    (editions_of item) (recursion_from_All (Contains (editions_of item)) (editions_of item) (All-contains_itself (editions_of item))))
    M.items (recursion_from_All (Contains M.items) M.items (All-contains_itself M.items))

-- what holds under the numbers of a summary
same_numbers : (P : ℕ → Type 0) (item : Item Edition) → AllByRecursion P (numbers_of (item_as (λ edition. edition.title) item)) → AllByRecursion P (numbers_of item)
same_numbers P (regular name current None) h = h
same_numbers P (regular name current (Some former)) h = h
same_numbers P (virtual name title members) h = h

pub each_numbered : (P : ℕ → Type 0) (M : Catalogue) (after : Summary) → summary_of M ≡ summary_shown after → AllByRecursion (λ item. AllByRecursion P (numbers_of (item_shown item))) after.items.items
    → AllByRecursion (λ item. AllByRecursion (λ (stored : Stored Edition). P stored.number) (editions_of item)) M.items
each_numbered P M after is h =
    let shown : AllByRecursion (λ item. AllByRecursion P (numbers_of item)) (map item_shown after.items.items) = all_map (λ (item : TypedItem). AllByRecursion P (numbers_of (item_shown item)))
    (λ item. AllByRecursion P (numbers_of item)) item_shown (λ item p. p) after.items.items h in
    let same : map (item_as (λ (edition : Edition). edition.title)) M.items ≡ map item_shown after.items.items = ap (λ (s : Holdings (List ℕ)). s.items) is in
    let parts = all_unmapped (λ (item : Item (List ℕ)). AllByRecursion P (numbers_of item)) (item_as (λ (edition : Edition). edition.title)) M.items
    (subst (λ (l : List (Item (List ℕ))). AllByRecursion (λ item. AllByRecursion P (numbers_of item)) l) (sym same) shown) in
    all_weaker (λ (item : Item Edition). AllByRecursion P (numbers_of (item_as (λ (edition : Edition). edition.title) item))) (λ item. AllByRecursion (λ (stored : Stored Edition). P stored.number) (editions_of item))
    (λ item p. all_unmapped P (λ (stored : Stored Edition). stored.number) (editions_of item) (same_numbers P item p)) M.items parts

-- ---- the number of the next install

how_many_few : {X : Type 0} (test : X → Bool) (xs : List X) → how_many test xs ≤ length xs
how_many_few test [] = omega arith
how_many_few test (x ∷ xs) = by_test (test x) (how_many_few test xs)
  where
    by_test : (b : Bool) → how_many test xs ≤ length xs → cond b 1 0 + how_many test xs ≤ length (x ∷ xs)
    by_test true h = omega arith
    by_test false h = omega arith

pub next_number : (M : Catalogue) → IsWellFormed M → (number : ℕ) → number ≡ min (M.installs + 1) (2 ^ 64 - 1) → number ≡ M.installs + 1
next_number M well number is =
    let few = how_many_few (λ (kept : KeptFor). is_install kept.reply.verb) M.kept in
    bound M.installs (how_many (λ (kept : KeptFor). is_install kept.reply.verb) M.kept) (length M.kept) number well.installs few well.accepted_limit is
  where
    bound : (a b c n : ℕ) → a ≡ b → b ≤ c → c ≤ 9223372036854775807 → n ≡ min (a + 1) (2 ^ 64 - 1) → n ≡ a + 1
    bound a b c n p q r e = omega arith

-- ---- what is put under it

put_same : (number q : ℕ) (b : Bool) (x y : Option (List Indexed)) → nat_eq number q ≡ b → number ≢ q → cond b x y ≡ y
put_same number q true x y e apart = absurd (apart (eqb-true number q e))
put_same number q false x y e apart = refl

pub put_beside : (number : ℕ) (coming : Option (List Indexed)) (old new : List (ℕ × List Indexed)) → HasPutIfSome number coming old new → (q : ℕ) → number ≢ q → entries_under q new ≡ entries_under q old
put_beside number (Some index) old new h q apart = h q ∙ put_same number q (nat_eq number q) (Some index) (entries_under q old) refl apart
put_beside number None old new h q apart = ap (entries_under q) h

put_there : (number : ℕ) (b : Bool) (x y : Option (List Indexed)) → nat_eq number number ≡ b → b ≡ true → cond b x y ≡ x
put_there number true x y e t = refl
put_there number false x y e t = absurd (false≢true t)

itself : (n : ℕ) → nat_eq n n ≡ true
itself n = grind arith

pub put_at : (number : ℕ) (index : List Indexed) (old new : List (ℕ × List Indexed)) → HasPutIfSome number (Some index) old new → entries_under number new ≡ Some index
put_at number index old new h = h number ∙ put_there number (nat_eq number number) (Some index) (entries_under number old) refl (itself number)

-- ---- the editions after a command

-- nothing is kept under the number that comes
none_kept : (installs : ℕ) (number : ℕ) (text : List ℕ) (texts : List (PartNumbers × List ℕ)) → number ≡ installs + 1 → AreOfInstalls installs texts → ArePartsOf number text texts
none_kept installs number text [] is made = tt
none_kept installs number text (kept ∷ texts) is made = ((λ same. absurd (let low = made.0 in let no : ⊥ = omega (arith, low, same, is) in no)), none_kept installs number text texts is made.1)

module _ {S : Type 0} (g : Ghosts S) (before : DeskState S) (new : Held S) (command : Typed) (mid after : List (ℕ × List Indexed)) (M : Catalogue) (well : IsWellFormed M)
    (put : HasPutIfSome (M.installs + 1) (index_coming command) before.indexes mid) where
  -- an edition that was there, or the one that comes
  Stays : Stored Edition → Type 0
  Stays stored = ServesEdition g before stored × (stored.number ≤ M.installs)

  pub record Comes (stored : Stored Edition) : Type 0 where
    pub reading : ReadEdition
    pub number : stored.number ≡ M.installs + 1
    pub says : stored.content ≡ edition_of reading
    pub coming : index_coming command ≡ Some (map entry_of reading.lines)
    pub there : HoldsText (state g new).committed (M.installs + 1) reading.text

  pub Is : Stored Edition → Type 0
  Is stored = Stays stored ⊎ Comes stored

  pub stays_is : (stored : Stored Edition) → ServesEdition g before stored → stored.number ≤ M.installs → Is stored
  unfolding Stays Is
  stays_is stored one low = inl (one, low)

  if_comes : (command' : Typed) → command' ≡ command → HasTextOf command' (M.installs + 1) (state g new).committed → IfInstalled Is (M.installs + 1) (command_meant command')
  unfolding IfInstalled Is
  if_comes (Install name edition) same there = inr (record { reading = edition.now; number = refl; says = refl; coming = ap index_coming (sym same); there = there })
  if_comes (Rollback name) same there = tt
  if_comes (Retire name) same there = tt
  if_comes (PutVirtual name title members) same there = tt
  if_comes (Place name at) same there = tt

  pub all_is : (id : List ℕ) → HasTextOf command (M.installs + 1) (state g new).committed → ServesEditions g before M → AllByRecursion (λ item. AllByRecursion Is (editions_of item)) (with_effect M id (command_meant command)).items
  unfolding Stays Is
  all_is id there served =
      each_after Stays Is (M.installs + 1) (command_meant command) M.items (λ one h. inl h) (if_comes command refl there)
      (each_both (ServesEdition g before) (λ (stored : Stored Edition). stored.number ≤ M.installs) Stays (λ stored a b. (a, b)) M.items served (each_low M well))

  -- how it stands then
  module _ (made : AreOfInstalls M.installs before.texts) (summary : Holdings (List ℕ)) (later : Counts) (fine : is_closed before.last ≡ false) (was_open : IsTrue (state g new).is_open → IsTrue (state g before.conn).is_open)
      (M' : Catalogue) (holds : Holds known (state g new).committed M') where
    abbrev desk_then : DeskState S
    desk_then = record { conn = new; summary = summary; last = Fine; indexes = after; texts = before.texts; counts = later }

    -- where it was there, its text stays
    abbrev TextStays : Stored Edition → Type 0
    TextStays stored = stored.number ≤ M.installs → IsPermutation (text_rows stored.number (state g before.conn).committed) (text_rows stored.number (state g new).committed)

    one_then : (stored : Stored Edition) → Is stored → HasEdition M' stored.number stored.content → TextStays stored → entries_under stored.number after ≡ entries_under stored.number mid → ServesEdition g desk_then stored
    unfolding Stays Is
    one_then stored (inl stays) has text same =
        let one = stays.0 in
        let apart : M.installs + 1 ≢ stored.number = λ e. (let low = stays.1 in let no : ⊥ = omega (arith, low, e) in no) in
        record {
          index = one.index;
          stands = same ∙ (put_beside (M.installs + 1) (index_coming command) before.indexes mid put stored.number apart ∙ one.stands);
          text = one.text;
          cuts = one.cuts;
          kept = one.kept;
          held = λ open' live. text_carried (state g before.conn).committed (state g new).committed stored.number one.text (text stays.1) (one.held fine (was_open live));
        }
    one_then stored (inr comes) has text same =
        let index = map entry_of comes.reading.lines in
        let there : HoldsText (state g new).committed stored.number comes.reading.text = subst (λ (n : ℕ). HoldsText (state g new).committed n comes.reading.text) (sym comes.number) comes.there in
        let short = text_short (state g new).committed M' stored.number stored.content holds has comes.reading.text there in
        let cuts : Cuts index stored.content comes.reading.text = record { lines = comes.reading.lines; entries = refl; cut = ap (λ (e : Edition). e.entries) comes.says; short = short } in
        let stands : entries_under (M.installs + 1) mid ≡ Some index = put_at (M.installs + 1) index before.indexes mid
        (subst (λ (coming : Option (List Indexed)). HasPutIfSome (M.installs + 1) coming before.indexes mid) comes.coming put) in
        record {
          index = index;
          stands = same ∙ subst (λ (n : ℕ). entries_under n mid ≡ Some index) (sym comes.number) stands;
          text = comes.reading.text;
          cuts = cuts;
          kept = none_kept M.installs stored.number comes.reading.text before.texts comes.number made;
          held = λ open' live. there;
        }

    pub all_then : AllByRecursion (λ item. AllByRecursion Is (editions_of item)) M'.items → AllByRecursion (λ item. AllByRecursion TextStays (editions_of item)) M'.items
        → AllByRecursion (λ item. AllByRecursion (λ (stored : Stored Edition). entries_under stored.number after ≡ entries_under stored.number mid) (editions_of item)) M'.items → ServesEditions g desk_then M'
    all_then is stay same =
        each_both (λ stored. Is stored × HasEdition M' stored.number stored.content × TextStays stored) (λ (stored : Stored Edition). entries_under stored.number after ≡ entries_under stored.number mid)
        (ServesEdition g desk_then) (λ stored all e. one_then stored all.0 all.1 all.2 e) M'.items
        (each_both Is (λ (stored : Stored Edition). HasEdition M' stored.number stored.content × TextStays stored) (λ stored. Is stored × HasEdition M' stored.number stored.content × TextStays stored)
        (λ stored a b. (a, b.0, b.1)) M'.items is
        (each_both (λ (stored : Stored Edition). HasEdition M' stored.number stored.content) TextStays (λ stored. HasEdition M' stored.number stored.content × TextStays stored) (λ stored a b. (a, b)) M'.items (each_has M') stay)) same

  -- a command that didn't act leaves them
  module _ (new_desk : DeskState S) (fine : is_closed new_desk.last ≡ false → is_closed before.last ≡ false) (was_open : IsTrue (state g new_desk.conn).is_open → IsTrue (state g before.conn).is_open)
      (committed : IsTrue (state g new_desk.conn).is_open → (state g new_desk.conn).committed ≡ (state g before.conn).committed)
      (settled : (q : ℕ) → q ≢ M.installs + 1 → entries_under q new_desk.indexes ≡ entries_under q mid) where
    pub all_stay : ((stored : Stored Edition) (one : ServesEdition g before stored) → ArePartsOf stored.number one.text new_desk.texts) → ServesEditions g before M → ServesEditions g new_desk M
    all_stay parts served =
        each_both (ServesEdition g before) (λ (stored : Stored Edition). stored.number ≤ M.installs) (ServesEdition g new_desk) stay M.items served (each_low M well)
      where
        stay : (stored : Stored Edition) → ServesEdition g before stored → stored.number ≤ M.installs → ServesEdition g new_desk stored
        stay stored one low =
            let apart : M.installs + 1 ≢ stored.number = λ e. (let no : ⊥ = omega (arith, low, e) in no) in
            record {
              index = one.index;
              stands = settled stored.number (λ e. apart (sym e)) ∙ (put_beside (M.installs + 1) (index_coming command) before.indexes mid put stored.number apart ∙ one.stands);
              text = one.text;
              cuts = one.cuts;
              kept = parts stored one;
              held = λ open' live. subst (λ (db : Database). HoldsText db stored.number one.text) (sym (committed live)) (one.held (fine open') (was_open live));
            }
