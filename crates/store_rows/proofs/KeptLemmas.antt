-- One record of a kept reply more.
use Rattle.std.proofs.Common.{◌≡◌, ℕ, suc, ◌+◌, ◌≤◌, ◌<◌, Bool, ◌⊎◌, inl, inr, List, [], ◌∷◌, ◌++◌, length, refl, ap, sym, subst, ◌∙◌, arith, append_assoc, Option, Some, None}
use Rattle.std.specs.Prelude.{map, cond}
use Rattle.std.specs.List.{AllByRecursion}
use Rattle.std.proofs.lemmas.List.{length-append, length-map, map-append}
use Rattle.store_tables.specs.Records as spec
use Rattle.dict_text.proofs.AllLemmas.{all_push}
use Rattle.dict_catalogue.specs.Steps.{KeptFor}
use Rattle.dict_catalogue.specs.WellFormed.{is_install, IsLawfulReply, IsNumberedFrom}
use Rattle.dict_catalogue.specs.declared.reply.Verb.{Verb}
use Rattle.dict_catalogue.proofs.ListLemmas.{sum_append}
use Rattle.store_rows.specs.Tables.{Tables}
use Rattle.store_rows.specs.Written.{kept_record}
use Rattle.store_rows.specs.Stands.{Stands}
use Rattle.store_rows.specs.Given.{IsReply, IsNoReply}
use Rattle.store_rows.specs.Taken.{StandsForNone, AreKept, HasTaken, with_kept}
use Rattle.store_rows.specs.declared.reader.Reader.{Reader}
use Rattle.store_rows.proofs.OnceLemmas.{head_same, tail_same}

numbered_more : (n : ℕ) (replies : List KeptFor) (reply : KeptFor) → IsNumberedFrom n replies → reply.reply.number ≡ n + length replies → IsNumberedFrom n (replies ++ reply ∷ [])
numbered_more n [] reply h e = (e ∙ (let z : n + 0 ≡ n = omega arith in z), tt)
numbered_more n (one ∷ replies) reply h e = (h.0, numbered_more (n + 1) replies reply h.1 (e ∙ (let z : n + suc (length replies) ≡ (n + 1) + length replies = omega arith in z)))

counted : (installed : ℕ) (verb : Verb) (b : Bool) → is_install verb ≡ b → installed + (cond (is_install verb) 1 0 + 0) ≡ installed + cond b 1 0
counted installed verb b e = ap (λ c. installed + (cond c 1 0 + 0)) e ∙ (let z : cond b 1 0 + 0 ≡ cond b 1 0 = omega arith in ap (λ n. installed + n) z)

pub kept_more : (accepted installed : ℕ) (rows : List spec.KeptRecord) (row : spec.KeptRecord) (verb : Verb) (b : Bool) → AreKept accepted installed rows → accepted < 9223372036854775807 → IsReply (accepted + 1) verb row
    → is_install verb ≡ b → AreKept (accepted + 1) (installed + cond b 1 0) (rows ++ row ∷ [])
kept_more accepted installed rows row verb b h few is e = record {
  replies = h.replies ++ is.reply ∷ [];
  are = (λ i. h.are i ++ is.is i ∷ []) ∙ sym (map-append kept_record h.replies (is.reply ∷ []));
  lawful = all_push IsLawfulReply h.replies is.reply h.lawful is.lawful;
  numbered = numbered_more 1 h.replies is.reply h.numbered (is.numbered ∙ (let z : accepted + 1 ≡ 1 + accepted = omega arith in z) ∙ ap (λ n. 1 + n) (sym h.many));
  many = length-append h.replies (is.reply ∷ []) ∙ ap (λ n. n + 1) h.many;
  few = omega arith;
  installs = sum_append (λ kept. cond (is_install kept.reply.verb) 1 0) h.replies (is.reply ∷ []) ∙ (λ i. h.installs i + (cond (is_install (is.did i)) 1 0 + 0)) ∙ counted installed verb b e;
}

pub kept_taken : (version : ℕ) (old new : Reader) (taken : Tables) (row : spec.KeptRecord) → new.edition ≡ old.edition → new.items ≡ old.items → new.installs ≡ old.installs →
    AreKept new.accepted new.installed (taken.kept ++ row ∷ []) → HasTaken version old taken → HasTaken version new (with_kept taken row)
kept_taken version old new taken row edition items installs kept h =
    let shown = ap (λ xs. map Rattle.dict_catalogue.specs.Views.item_shown xs.items) items in
    record {
      marks = h.marks ∙ ap (λ n. Rattle.store_rows.specs.Written.mark_record version n ∷ []) (sym installs);
      items = h.items ∙ ap (Rattle.store_rows.specs.Written.numbered Rattle.store_rows.specs.Written.item_record 0) (sym shown);
      members = subst (AllByRecursion (Rattle.store_rows.specs.Stands.HoldsMembers taken.members)) (sym shown) h.members;
      owners = subst (λ xs. AllByRecursion (λ (r : spec.Member). Rattle.std.specs.Prelude.IsTrue (Rattle.dict_catalogue.specs.Items.is_known xs r.owner)) taken.members) (sym shown) h.owners;
      lawful = (λ i. Rattle.store_rows.specs.Tests.has_lawful_items (installs i) (shown i)) ∙ h.lawful;
      titles = subst (AllByRecursion (Rattle.store_rows.specs.Taken.HoldsTitles (with_kept taken row))) (sym shown) (titles_same (Rattle.store_rows.specs.Taken.items_in old) h.titles);
      numbers = subst (λ xs. AllByRecursion (λ (r : spec.EditionRecord). Rattle.std.specs.Prelude.IsTrue (Rattle.store_rows.specs.Stands.has_number xs r.number)) taken.editions) (sym shown) h.numbers;
      entries = subst (λ xs. AllByRecursion (λ (r : spec.EntryRecord). Rattle.std.specs.Prelude.IsTrue (Rattle.store_rows.specs.Stands.has_number xs r.edition)) taken.entries) (sym shown) h.entries;
      hand = subst (λ x. Rattle.store_rows.specs.Taken.IsInHand x (with_kept taken row)) (sym edition) (same_hand old.edition h.hand);
      kept = kept;
    }
  where
    same_hand : (edition : Option Rattle.store_rows.specs.declared.reader.InHand.InHand) → Rattle.store_rows.specs.Taken.IsInHand edition taken → Rattle.store_rows.specs.Taken.IsInHand edition (with_kept taken row)
    same_hand None h = h
    same_hand (Some hand) h = record { front = h.front; row = h.row; last = h.last; number = h.number; text = h.text; entries = h.entries }

    item_same : (item : Rattle.dict_catalogue.specs.Items.Item (List ℕ)) → Rattle.store_rows.specs.Taken.HoldsTitles taken item → Rattle.store_rows.specs.Taken.HoldsTitles (with_kept taken row) item
    item_same item h = Rattle.store_rows.proofs.TakenLemmas.titles_same taken (with_kept taken row) item (all_numbers (Rattle.dict_catalogue.specs.Items.numbers_of item)) h
      where
        all_numbers : (numbers : List ℕ) → AllByRecursion (λ number. Rattle.store_rows.proofs.TakenLemmas.SameAt number taken (with_kept taken row)) numbers
        all_numbers [] = tt
        all_numbers (number ∷ numbers) = (record { editions = refl; entries = refl }, all_numbers numbers)

    titles_same : (items : List (Rattle.dict_catalogue.specs.Items.Item (List ℕ))) → AllByRecursion (Rattle.store_rows.specs.Taken.HoldsTitles taken) items
        → AllByRecursion (Rattle.store_rows.specs.Taken.HoldsTitles (with_kept taken row)) items
    titles_same [] h = tt
    titles_same (item ∷ items) h = (item_same item h.0, titles_same items h.1)

next_reply : (n : ℕ) (replies : List KeptFor) (zs more : List spec.KeptRecord) (row : spec.KeptRecord) → AllByRecursion IsLawfulReply replies → IsNumberedFrom n replies → zs ++ row ∷ more ≡ map kept_record replies →
    (reply : KeptFor) × (row ≡ kept_record reply) × IsLawfulReply reply × (reply.reply.number ≡ n + length zs)
next_reply n [] [] more row h k e = absurd (cc)
next_reply n [] (z ∷ zs) more row h k e = absurd (cc)
next_reply n (reply ∷ replies) [] more row h k e = (reply, head_same _ _ _ _ e, h.0, k.0 ∙ (let z : n ≡ n + 0 = omega arith in z))
next_reply n (reply ∷ replies) (z ∷ zs) more row h k e =
    let rest = next_reply (n + 1) replies zs more row h.1 k.1 (tail_same _ _ _ _ e) in
    (rest.0, rest.1, rest.2, rest.3 ∙ (let z : (n + 1) + length zs ≡ n + suc (length zs) = omega arith in z))

pub kept_refused : (version : ℕ) (reader : Reader) (taken : Tables) (row : spec.KeptRecord) → HasTaken version reader taken → (IsNoReply (reader.accepted + 1) row) ⊎ (9223372036854775807 ≤ reader.accepted)
    → StandsForNone version (with_kept taken row)
kept_refused version reader taken row h why tables M goes stands =
    let whole : (taken.kept ++ row ∷ []) ++ goes.kept.0 ≡ map kept_record M.kept = sym goes.kept.1 ∙ stands.kept in
    let next = next_reply 1 M.kept taken.kept goes.kept.0 row stands.well_formed.replies stands.well_formed.numbered (sym (append_assoc taken.kept (row ∷ []) goes.kept.0) ∙ whole) in
    let many : length taken.kept ≡ reader.accepted = ap length h.kept.are ∙ length-map h.kept.replies kept_record ∙ h.kept.many in
    let all : length M.kept ≡ (length taken.kept + 1) + length goes.kept.0 = sym (length-map M.kept kept_record) ∙ ap length (sym whole) ∙ length-append (taken.kept ++ row ∷ []) goes.kept.0
    ∙ ap (λ n. n + length goes.kept.0) (length-append taken.kept (row ∷ [])) in
    let few : length M.kept ≤ 9223372036854775807 = stands.well_formed.accepted_limit in
    decide why (λ no. no next.0 next.1 next.2 (next.3 ∙ (let z : 1 + length taken.kept ≡ reader.accepted + 1 = omega arith in z))) (λ full. omega arith)
  where
    decide : {P Q : Type 0} → P ⊎ Q → (P → ⊥) → (Q → ⊥) → ⊥
    decide (inl p) f g = f p
    decide (inr q) f g = g q
