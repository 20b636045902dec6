-- What an accepted command makes of the parts of a catalogue in memory.
use Rattle.std.proofs.Common.{◌≡◌, ℕ, ◌+◌, ◌≤◌, ◌<◌, Bool, true, false, not, ◌||◌, ◌==◌, List, [], ◌∷◌, ◌++◌, length, map, refl, sym, ap, subst, ◌∙◌, cond, arith, bytes_eq}
use Rattle.std.specs.Prelude.{filter, Option, Some, None, option_map, unwrap_or, IfSome}
use Rattle.std.specs.List.{AllByRecursion, list_any}
use Rattle.std.specs.Option.{option_or}
use Rattle.std.proofs.lemmas.Bool.{eqb-true, eq-eqb, both_ways}
use Rattle.std.proofs.lemmas.List.{map-append, length-map}
use Rattle.std.proofs.lemmas.List.Folds.{find-append}
use Rattle.dict_index.specs.Edition.{Edition}
use Rattle.dict_text.specs.Names.{is_request_id}
use Rattle.dict_catalogue.specs.Items.{Stored, Item, regular, virtual, editions_of, numbers_of, edition_numbers, item_as}
use Rattle.dict_catalogue.specs.Commands.{Command, install, rollback, retire, put_virtual, place}
use Rattle.dict_catalogue.specs.Tests.{Holdings}
use Rattle.dict_catalogue.specs.Effects.{KeptReply, items_after, installs_after, effect, reply_to, editions_gone}
use Rattle.dict_catalogue.specs.Steps.{KeptFor, Catalogue, Outcome, accepted, refused, holdings, summary_of, kept_under, with_effect, step, IsStep, id_unlawful, id_kept, test_failed, none_failed}
use Rattle.dict_catalogue.specs.Views.{summary_shown, kept_shown, IsChangeOf}
use Rattle.dict_catalogue.specs.declared.planning.PlannedChange.{PlannedChange}
use Rattle.dict_catalogue.specs.WellFormed.{IsWellFormed, IsLawfulCommand}
use Rattle.dict_text.proofs.AllLemmas.{all_weaker, all_append, all_filter}
use Rattle.dict_catalogue.proofs.ListLemmas.{any_append_left, any_append_right}
use Rattle.dict_catalogue.proofs.StepLemmas.{step_is}
use Rattle.dict_catalogue.proofs.WellFormedLemmas.{EachEdition, IfInstalled, each_after, step_well_formed}
use Rattle.dict_desk.specs.Plain.{edition_by_number, no_edition, stored_from, item_from, filed_shown, catalogue_from, reply_at, ArePlaces, IsFoundByNumber, AreInStep, newly_installed, is_not_gone}
use Rattle.dict_desk.proofs.ReplyLemmas.{places_more}
use Rattle.dict_desk.specs.declared.replies.Filed.{Filed}

-- the step of a command whose id is lawful and new, where it is accepted
accepted_step : (M : Catalogue) (id : List ℕ) (command : Command Edition) (outcome : Outcome) (reply : KeptReply) → IsStep M id command outcome → is_request_id id ≡ true → kept_under M.kept id ≡ None
    → outcome.reply ≡ accepted reply → (outcome.catalogue ≡ with_effect M id command) × (reply ≡ reply_to command (effect command (holdings M)))
accepted_step M id command outcome reply (id_unlawful e o) lawful new told = absurd (both_ways (is_request_id id) e lawful)
accepted_step M id command outcome reply (id_kept other e k o) lawful new told = cc
accepted_step M id command outcome reply (test_failed refusal e k f o) lawful new told = let left : refused refusal ≡ accepted reply = sym (ap (λ (one : Outcome). one.reply) o) ∙ told in cc
accepted_step M id command outcome reply (none_failed e k h o) lawful new told =
    let same : accepted reply ≡ accepted (reply_to command (effect command (holdings M))) = sym told ∙ ap (λ (one : Outcome). one.reply) o in
    (ap (λ (one : Outcome). one.catalogue) o, cc)

-- which editions are held

none_early : (most number : ℕ) (editions : List (Stored Edition)) → most < number → AllByRecursion (λ stored. stored.number ≤ most) editions → edition_by_number number editions ≡ None
none_early most number [] above early = refl
none_early most number (one ∷ editions) above early = by_test (one.number == number) refl (none_early most number editions above early.1)
  where
    by_test : (b : Bool) → (one.number == number) ≡ b → edition_by_number number editions ≡ None → cond b (Some one) (edition_by_number number editions) ≡ None
    by_test true e h = let same : one.number ≡ number = eqb-true one.number number e in absurd (omega (arith, early.0))
    by_test false e h = h

held_longer : (editions new : List (Stored Edition)) (one : Stored Edition) → IsFoundByNumber editions one → IsFoundByNumber (editions ++ new) one
held_longer editions new one h = find-append (λ (stored : Stored Edition). stored.number == one.number) editions new ∙ ap (λ found. option_or found (edition_by_number one.number new)) h

held_new : (installs : ℕ) (command : Command Edition) (editions : List (Stored Edition)) → AllByRecursion (λ stored. stored.number ≤ installs) editions
    → IfInstalled (IsFoundByNumber (editions ++ newly_installed (installs + 1) command)) (installs + 1) command
unfolding IfInstalled
held_new installs (install name content) editions early =
    let one : Stored Edition = record { number = installs + 1; content = content } in
    find-append (λ (stored : Stored Edition). stored.number == installs + 1) editions (one ∷ [])
    ∙ (ap (λ found. option_or found (edition_by_number (installs + 1) (one ∷ []))) (none_early installs (installs + 1) editions (omega arith) early)
    ∙ ap (λ b. cond b (Some one) None) (eq-eqb (installs + 1) (installs + 1) refl))
held_new installs (rollback name) editions early = tt
held_new installs (retire name) editions early = tt
held_new installs (put_virtual name title members) editions early = tt
held_new installs (place name at) editions early = tt

-- each edition's number is one of the items' numbers
own_number : (editions : List (Stored Edition)) → AllByRecursion (λ (stored : Stored Edition). list_any (λ one. one == stored.number) (map (λ (stored : Stored Edition). stored.number) editions) ≡ true) editions
own_number [] = tt
own_number (first ∷ editions) = (
  ap (λ b. b || list_any (λ one. one == first.number) (map (λ (stored : Stored Edition). stored.number) editions)) (eq-eqb first.number first.number refl),
  all_weaker (λ (stored : Stored Edition). list_any (λ one. one == stored.number) (map (λ (stored : Stored Edition). stored.number) editions) ≡ true)
      (λ (stored : Stored Edition). list_any (λ one. one == stored.number) (first.number ∷ map (λ (stored : Stored Edition). stored.number) editions) ≡ true)
      (λ stored h. any_append_right (λ one. one == stored.number) (first.number ∷ []) (map (λ (stored : Stored Edition). stored.number) editions) h) editions (own_number editions),
)

own_numbers : (items : List (Item Edition)) → AllByRecursion (EachEdition (λ stored. list_any (λ one. one == stored.number) (edition_numbers items) ≡ true)) items
own_numbers [] = tt
own_numbers (item ∷ items) = (
  all_weaker (λ (stored : Stored Edition). list_any (λ one. one == stored.number) (numbers_of item) ≡ true) (λ (stored : Stored Edition). list_any (λ one. one == stored.number) (numbers_of item ++ edition_numbers items) ≡ true)
      (λ stored h. any_append_left (λ one. one == stored.number) (numbers_of item) (edition_numbers items) h) (editions_of item) (own_number (editions_of item)),
  all_weaker (EachEdition (λ stored. list_any (λ one. one == stored.number) (edition_numbers items) ≡ true)) (EachEdition (λ stored. list_any (λ one. one == stored.number) (numbers_of item ++ edition_numbers items) ≡ true))
      (λ other p. all_weaker (λ (stored : Stored Edition). list_any (λ one. one == stored.number) (edition_numbers items) ≡ true)
      (λ (stored : Stored Edition). list_any (λ one. one == stored.number) (numbers_of item ++ edition_numbers items) ≡ true)
      (λ stored h. any_append_right (λ one. one == stored.number) (numbers_of item) (edition_numbers items) h) (editions_of other) p) items (own_numbers items),
)

-- a number that stands after is not gone
not_gone : (number : ℕ) (before after : List ℕ) → list_any (λ one. one == number) after ≡ true → list_any (λ one. one == number) (filter (λ other. not (list_any (λ one. one == other) after)) before) ≡ false
not_gone number [] after h = refl
not_gone number (first ∷ before) after h = by_test (list_any (λ one. one == first) after) refl (first == number) refl (not_gone number before after h)
  where
    by_test : (there : Bool) → list_any (λ one. one == first) after ≡ there → (same : Bool) → (first == number) ≡ same → list_any (λ one. one == number) (filter (λ other. not (list_any (λ one. one == other) after)) before) ≡ false
        → list_any (λ one. one == number) (cond (not there) (first ∷ filter (λ other. not (list_any (λ one. one == other) after)) before) (filter (λ other. not (list_any (λ one. one == other) after)) before)) ≡ false
    by_test true e same s rest = rest
    by_test false e true s rest = absurd (both_ways (list_any (λ one. one == first) after) e (subst (λ n. list_any (λ one. one == n) after ≡ true) (sym (eqb-true first number s)) h))
    by_test false e false s rest = ap (λ b. b || list_any (λ one. one == number) (filter (λ other. not (list_any (λ one. one == other) after)) before)) s ∙ rest

-- an edition that stays is found where others are taken out
found_still : (gone : List ℕ) (number : ℕ) (editions : List (Stored Edition)) → not (list_any (λ one. one == number) gone) ≡ true → edition_by_number number (filter (is_not_gone gone) editions) ≡ edition_by_number number editions
found_still gone number [] h = refl
found_still gone number (first ∷ editions) h = by_test (is_not_gone gone first) refl (first.number == number) refl (found_still gone number editions h)
  where
    by_test : (there : Bool) → is_not_gone gone first ≡ there → (same : Bool) → (first.number == number) ≡ same → edition_by_number number (filter (is_not_gone gone) editions) ≡ edition_by_number number editions
        → edition_by_number number (cond there (first ∷ filter (is_not_gone gone) editions) (filter (is_not_gone gone) editions)) ≡ cond same (Some first) (edition_by_number number editions)
    by_test true e true s rest = ap (λ b. cond b (Some first) (edition_by_number number (filter (is_not_gone gone) editions))) s
    by_test true e false s rest = ap (λ b. cond b (Some first) (edition_by_number number (filter (is_not_gone gone) editions))) s ∙ rest
    by_test false e true s rest = absurd (both_ways (is_not_gone gone first) e (subst (λ n. not (list_any (λ one. one == n) gone) ≡ true) (sym (eqb-true first.number number s)) h))
    by_test false e false s rest = rest

held_still : (gone : List ℕ) (editions new : List (Stored Edition)) (one : Stored Edition) → IsFoundByNumber (editions ++ new) one × (is_not_gone gone one ≡ true) → IsFoundByNumber (filter (is_not_gone gone) editions ++ new) one
held_still gone editions new one (h, s) =
    find-append (λ (stored : Stored Edition). stored.number == one.number) (filter (is_not_gone gone) editions) new ∙ (ap (λ found. option_or found (edition_by_number one.number new)) (found_still gone one.number editions s)
    ∙ (sym (find-append (λ (stored : Stored Edition). stored.number == one.number) editions new) ∙ h))

both_all : {X : Type 0} (P Q : X → Type 0) (xs : List X) → AllByRecursion P xs → AllByRecursion Q xs → AllByRecursion (λ x. P x × Q x) xs
both_all P Q [] h g = tt
both_all P Q (x ∷ xs) h g = ((h.0, g.0), both_all P Q xs h.1 g.1)

each_both : (P Q R : Stored Edition → Type 0) → ((one : Stored Edition) → P one × Q one → R one) → (items : List (Item Edition)) → AllByRecursion (EachEdition P) items → AllByRecursion (EachEdition Q) items
    → AllByRecursion (EachEdition R) items
each_both P Q R w [] h g = tt
each_both P Q R w (item ∷ items) h g = (all_weaker (λ one. P one × Q one) R w (editions_of item) (both_all P Q (editions_of item) h.0 g.0), each_both P Q R w items h.1 g.1)

-- the items after a command are held by the editions that stay and the new one
held_after : (M : Catalogue) (id : List ℕ) (command : Command Edition) (editions : List (Stored Edition)) (gone : List ℕ) → gone ≡ editions_gone M.items (with_effect M id command).items
    → AllByRecursion (EachEdition (IsFoundByNumber editions)) M.items → AllByRecursion (λ stored. stored.number ≤ M.installs) editions
    → AllByRecursion (EachEdition (IsFoundByNumber (filter (is_not_gone gone) editions ++ newly_installed (M.installs + 1) command))) (with_effect M id command).items
held_after M id command editions gone is held early =
    let new = newly_installed (M.installs + 1) command in
    let after = items_after (M.installs + 1) command M.items in
    let longer : AllByRecursion (EachEdition (IsFoundByNumber (editions ++ new))) after =
    each_after (IsFoundByNumber editions) (IsFoundByNumber (editions ++ new)) (M.installs + 1) command M.items (held_longer editions new) (held_new M.installs command editions early) held in
    let kept : AllByRecursion (EachEdition (λ stored. is_not_gone gone stored ≡ true)) after =
    all_weaker (EachEdition (λ stored. list_any (λ one. one == stored.number) (edition_numbers after) ≡ true)) (EachEdition (λ stored. is_not_gone gone stored ≡ true))
    (λ item p. all_weaker (λ (stored : Stored Edition). list_any (λ one. one == stored.number) (edition_numbers after) ≡ true) (λ (stored : Stored Edition). is_not_gone gone stored ≡ true)
    (λ stored h. ap not (ap (λ (numbers : List ℕ). list_any (λ one. one == stored.number) numbers) is ∙ not_gone stored.number (edition_numbers M.items) (edition_numbers after) h)) (editions_of item) p) after (own_numbers after) in
    each_both (IsFoundByNumber (editions ++ new)) (λ stored. is_not_gone gone stored ≡ true) (IsFoundByNumber (filter (is_not_gone gone) editions ++ new)) (held_still gone editions new) after longer kept

-- the whole

from_title : (editions : List (Stored Edition)) (one : Stored Edition) → IsFoundByNumber editions one → stored_from editions (record { number = one.number; content = one.content.title }) ≡ one
from_title editions one h = ap (λ found. titled one.number (unwrap_or (option_map (λ (stored : Stored Edition). stored.content) found) no_edition)) h
  where
    titled : ℕ → Edition → Stored Edition
    titled number content = record { number = number; content = content }

from_titles : (editions : List (Stored Edition)) (item : Item Edition) → EachEdition (IsFoundByNumber editions) item → item_from editions (item_as (λ edition. edition.title) item) ≡ item
from_titles editions (regular name current None) h = ap (λ one. regular name one None) (from_title editions current h.0)
from_titles editions (regular name current (Some former)) h =
    ap (λ one. regular name one (Some (stored_from editions (record { number = former.number; content = former.content.title })))) (from_title editions current h.0)
    ∙ ap (λ one. regular name current (Some one)) (from_title editions former h.1.0)
from_titles editions (virtual name title members) h = refl

whole_items : (editions : List (Stored Edition)) (items : List (Item Edition)) → AllByRecursion (EachEdition (IsFoundByNumber editions)) items → map (item_from editions) (map (item_as (λ edition. edition.title)) items) ≡ items
whole_items editions [] h = refl
whole_items editions (item ∷ items) h = ap (λ first. first ∷ map (item_from editions) (map (item_as (λ edition. edition.title)) items)) (from_titles editions item h.0) ∙ ap (λ rest. item ∷ rest) (whole_items editions items h.1)

installs_grow : (command : Command Edition) (installs : ℕ) → installs ≤ installs_after command installs
installs_grow (install name content) installs = omega arith
installs_grow (rollback name) installs = omega arith
installs_grow (retire name) installs = omega arith
installs_grow (put_virtual name title members) installs = omega arith
installs_grow (place name at) installs = omega arith

new_number : (command : Command Edition) (installs : ℕ) → newly_installed (installs_after command installs) command ≡ newly_installed (installs + 1) command
new_number (install name content) installs = refl
new_number (rollback name) installs = refl
new_number (retire name) installs = refl
new_number (put_virtual name title members) installs = refl
new_number (place name at) installs = refl

new_early : (command : Command Edition) (installs : ℕ) → AllByRecursion (λ (stored : Stored Edition). stored.number ≤ installs_after command installs) (newly_installed (installs_after command installs) command)
new_early (install name content) installs = (omega arith, tt)
new_early (rollback name) installs = tt
new_early (retire name) installs = tt
new_early (put_virtual name title members) installs = tt
new_early (place name at) installs = tt

module _ (summary after : Holdings (List ℕ)) (editions : List (Stored Edition)) (replies : List Filed) (places places_after : List ℕ → Option ℕ) (id : List ℕ) (command : Command Edition) (gone : List ℕ) (reply : KeptReply) (filed : Filed)
    (parts : AreInStep summary editions replies places) (lawful : IsLawfulCommand command)
    (id_lawful : is_request_id id ≡ true) (id_new : kept_under (catalogue_from summary editions replies).kept id ≡ None)
    (told : (step (catalogue_from summary editions replies) id command).reply ≡ accepted reply)
    (summed : after ≡ summary_of (step (catalogue_from summary editions replies) id command).catalogue)
    (went : gone ≡ editions_gone (catalogue_from summary editions replies).items (step (catalogue_from summary editions replies) id command).catalogue.items)
    (filed_is : filed_shown filed ≡ record { id = id; reply = reply })
    (placed : (text : List ℕ) → places_after text ≡ cond (bytes_eq id text) (Some (length replies)) (places text)) where
  abbrev M : Catalogue
  M = catalogue_from summary editions replies

  abbrev N : Catalogue
  N = (step M id command).catalogue

  abbrev left : List (Stored Edition)
  left = filter (is_not_gone gone) editions ++ newly_installed after.installs command

  effected : (N ≡ with_effect M id command) × (reply ≡ reply_to command (effect command (holdings M)))
  effected = accepted_step M id command (step M id command) reply (step_is M id command (step M id command) refl) id_lawful id_new told

  installs_are : after.installs ≡ installs_after command summary.installs
  installs_are = ap (λ (h : Holdings (List ℕ)). h.installs) summed ∙ ap (λ (c : Catalogue). c.installs) effected.0

  left_is : left ≡ filter (is_not_gone gone) editions ++ newly_installed (M.installs + 1) command
  left_is = ap (λ news. filter (is_not_gone gone) editions ++ news) (ap (λ n. newly_installed n command) installs_are ∙ new_number command summary.installs)

  held_here : AllByRecursion (EachEdition (IsFoundByNumber left)) N.items
  held_here = subst (λ (c : Catalogue). AllByRecursion (EachEdition (IsFoundByNumber left)) c.items) (sym effected.0) (subst (λ es. AllByRecursion (EachEdition (IsFoundByNumber es)) (with_effect M id command).items) (sym left_is)
      (held_after M id command editions gone (went ∙ ap (λ (c : Catalogue). editions_gone M.items c.items) effected.0) parts.held parts.early))

  kept_here : map filed_shown (replies ++ filed ∷ []) ≡ N.kept
  kept_here = map-append filed_shown replies (filed ∷ []) ∙ (ap (λ one. map filed_shown replies ++ one ∷ []) (filed_is ∙ ap (λ (r : KeptReply). kept_for r) effected.1) ∙ sym (ap (λ (c : Catalogue). c.kept) effected.0))
    where
      kept_for : KeptReply → KeptFor
      kept_for r = record { id = id; reply = r }

  pub catalogue_is : catalogue_from after left (replies ++ filed ∷ []) ≡ N
  catalogue_is = same _ _ _ _ _ _ (ap (λ (h : Holdings (List ℕ)). map (item_from left) h.items) summed ∙ whole_items left N.items held_here) kept_here (ap (λ (h : Holdings (List ℕ)). h.installs) summed)
    where
      whole : List (Item Edition) → List KeptFor → ℕ → Catalogue
      whole items kept installs = record { items = items; kept = kept; installs = installs }

      same : (i1 i2 : List (Item Edition)) (k1 k2 : List KeptFor) (n1 n2 : ℕ) → i1 ≡ i2 → k1 ≡ k2 → n1 ≡ n2 → whole i1 k1 n1 ≡ whole i2 k2 n2
      same i1 i2 k1 k2 n1 n2 p q r = cc

  pub parts_after : AreInStep after left (replies ++ filed ∷ []) places_after
  parts_after = record {
    whole = summed ∙ ap summary_of (sym catalogue_is);
    held = subst (λ (c : Catalogue). AllByRecursion (EachEdition (IsFoundByNumber left)) c.items) (sym catalogue_is) held_here;
    early = all_append (λ (stored : Stored Edition). stored.number ≤ after.installs) (filter (is_not_gone gone) editions) (newly_installed after.installs command)
        (all_filter (λ (stored : Stored Edition). stored.number ≤ after.installs) (is_not_gone gone) editions
        (all_weaker (λ (stored : Stored Edition). stored.number ≤ summary.installs) (λ (stored : Stored Edition). stored.number ≤ after.installs) (λ stored p. grows p) editions parts.early))
        (subst (λ (n : ℕ). AllByRecursion (λ (stored : Stored Edition). stored.number ≤ n) (newly_installed n command)) (sym installs_are) (new_early command summary.installs));
    filed = subst (ArePlaces places_after) (sym (map-append filed_shown replies (filed ∷ []))) (places_more (map filed_shown replies) (filed_shown filed) places places_after parts.filed id_unused placed_so);
    well_formed = subst IsWellFormed (sym catalogue_is) (step_well_formed M id command lawful parts.well_formed);
  }
    where
      same_id : (filed_shown filed).id ≡ id
      same_id = ap (λ (one : KeptFor). one.id) filed_is

      id_unused : kept_under (map filed_shown replies) (filed_shown filed).id ≡ None
      id_unused = ap (kept_under (map filed_shown replies)) same_id ∙ id_new

      placed_so : (text : List ℕ) → places_after text ≡ cond (bytes_eq (filed_shown filed).id text) (Some (length (map filed_shown replies))) (places text)
      placed_so text = placed text ∙ (ap (λ (one : List ℕ). cond (bytes_eq one text) (Some (length replies)) (places text)) (sym same_id)
          ∙ ap (λ (n : ℕ). cond (bytes_eq (filed_shown filed).id text) (Some n) (places text)) (sym (length-map replies filed_shown)))

      grows : {n : ℕ} → n ≤ summary.installs → n ≤ after.installs
      grows p = let more = installs_grow command summary.installs in let is = installs_are in omega arith

-- the parts that are left, and the catalogue that they make
pub accepted_parts : (summary : Holdings (List ℕ)) (editions left news : List (Stored Edition)) (replies replies_after : List Filed) (places places_after : List ℕ → Option ℕ) (before : Catalogue) (id : List ℕ)
    (command : Command Edition) (change : PlannedChange) (filed : Filed)
    → catalogue_from summary editions replies ≡ before → AreInStep summary editions replies places → IsLawfulCommand command → is_request_id id ≡ true → kept_under before.kept id ≡ None
    → IsChangeOf before (step before id command) change → filed_shown filed ≡ record { id = id; reply = kept_shown change.kept }
    → news ≡ newly_installed change.summary.installs command → left ≡ filter (is_not_gone change.gone.items) editions ++ news → replies_after ≡ replies ++ filed ∷ []
    → ((text : List ℕ) → places_after text ≡ cond (bytes_eq id text) (Some (length replies)) (places text))
    → AreInStep (summary_shown change.summary) left replies_after places_after × (catalogue_from (summary_shown change.summary) left replies_after ≡ (step before id command).catalogue)
accepted_parts summary editions left news replies replies_after places places_after before id command change filed seen parts lawful id_lawful unused planned filed_is news_are left_is replies_are placed =
    let M = catalogue_from summary editions replies in
    let after = summary_shown change.summary in
    let reply = kept_shown change.kept in
    let unused_here = subst (λ (c : Catalogue). kept_under c.kept id ≡ None) (sym seen) unused in
    let told_here = subst (λ (c : Catalogue). (step c id command).reply ≡ accepted reply) (sym seen) planned.reply in
    let summed_here = subst (λ (c : Catalogue). after ≡ summary_of (step c id command).catalogue) (sym seen) planned.summary in
    let went_here = subst (λ (c : Catalogue). change.gone.items ≡ editions_gone c.items (step c id command).catalogue.items) (sym seen) planned.gone in
    let left_all : left ≡ filter (is_not_gone change.gone.items) editions ++ newly_installed after.installs command = left_is ∙ ap (λ ns. filter (is_not_gone change.gone.items) editions ++ ns) news_are in
    let parts_then = parts_after summary after editions replies places places_after id command change.gone.items reply filed parts lawful id_lawful unused_here told_here summed_here went_here filed_is placed in
    let catalogue_then = catalogue_is summary after editions replies places places_after id command change.gone.items reply filed parts lawful id_lawful unused_here told_here summed_here went_here filed_is placed in (
      subst (λ (es : List (Stored Edition)). AreInStep after es replies_after places_after) (sym left_all)
          (subst (λ (rs : List Filed). AreInStep after (filter (is_not_gone change.gone.items) editions ++ newly_installed after.installs command) rs places_after) (sym replies_are) parts_then),
      ap (λ (es : List (Stored Edition)). catalogue_from after es replies_after) left_all
          ∙ (ap (λ (rs : List Filed). catalogue_from after (filter (is_not_gone change.gone.items) editions ++ newly_installed after.installs command) rs) replies_are
          ∙ (catalogue_then ∙ ap (λ (c : Catalogue). (step c id command).catalogue) seen)),
    )

-- the parts stay in step where nothing of them changes
pub parts_same : (summary : Holdings (List ℕ)) (editions editions_after : List (Stored Edition)) (replies replies_after : List Filed) (places places_after : List ℕ → Option ℕ) → AreInStep summary editions replies places
    → editions_after ≡ editions → replies_after ≡ replies → ((text : List ℕ) → places_after text ≡ places text) → AreInStep summary editions_after replies_after places_after
parts_same summary editions editions_after replies replies_after places places_after parts e r p =
    subst (λ (es : List (Stored Edition)). AreInStep summary es replies_after places_after) (sym e) (subst (λ (rs : List Filed). AreInStep summary editions rs places_after) (sym r)
    (record {
      whole = parts.whole;
      held = parts.held;
      early = parts.early;
      filed = record {
        told = λ id. ap (reply_at (map filed_shown replies)) (p id) ∙ parts.filed.told id;
        within = λ id. subst (λ (found : Option ℕ). IfSome found (λ (n : ℕ). n < length (map filed_shown replies))) (sym (p id)) (parts.filed.within id);
      };
      well_formed = parts.well_formed;
    }))
