-- The kept replies and their places.
use Rattle.std.proofs.Common.{◌≡◌, ℕ, zero, suc, ◌<◌, Bool, true, false, List, [], ◌∷◌, ◌++◌, length, map, get_or, refl, sym, ap, subst, ◌∙◌, cond, arith, bytes_eq}
use Rattle.std.specs.Prelude.{Option, Some, None, IfSome, option_map, slice_get}
use Rattle.std.proofs.lemmas.List.{length-map, length-append}
use Rattle.dict_catalogue.proofs.ItemLemmas.{same_text, text_itself}
use Rattle.dict_catalogue.specs.Steps.{KeptFor, kept_under}
use Rattle.dict_catalogue.specs.Views.{kept_shown}
use Rattle.dict_desk.specs.Plain.{filed_shown, reply_at, ArePlaces}
use Rattle.dict_desk.specs.declared.replies.Filed.{Filed}

pub place_within : (replies : List Filed) (places : List ℕ → Option ℕ) (id : List ℕ) (place : ℕ) → ArePlaces places (map filed_shown replies) → Some place ≡ places id → place < length replies
place_within replies places id place filed e =
    let below : place < length (map filed_shown replies) = subst (λ (found : Option ℕ). IfSome found (λ (p : ℕ). p < length (map filed_shown replies))) (sym e) (filed.within id) in
    subst (λ (n : ℕ). place < n) (length-map replies filed_shown) below

reply_got : (replies : List Filed) (place : ℕ) (d : Filed) → place < length replies → reply_at (map filed_shown replies) (Some place) ≡ Some (kept_shown (get_or replies place d).reply)
reply_got [] place d below = absurd (omega arith)
reply_got (one ∷ replies) zero d below = refl
reply_got (one ∷ replies) (suc place) d below = reply_got replies place d (omega arith)

pub reply_told : (replies : List Filed) (places : List ℕ → Option ℕ) (id : List ℕ) (place : ℕ) (one : Filed) → ArePlaces places (map filed_shown replies) → Some place ≡ places id
    → one ≡ get_or replies place one → Some (kept_shown one.reply) ≡ kept_under (map filed_shown replies) id
reply_told replies places id place one filed e is =
    ap (λ (k : Filed). Some (kept_shown k.reply)) is ∙ (sym (reply_got replies place one (place_within replies places id place filed e)) ∙ (ap (reply_at (map filed_shown replies)) e ∙ filed.told id))

-- one more reply, under a new id

under_other : (kept : List KeptFor) (one : KeptFor) (id : List ℕ) → bytes_eq one.id id ≡ false → kept_under (kept ++ one ∷ []) id ≡ kept_under kept id
under_other [] one id e = ap (λ b. cond b (Some one.reply) None) e
under_other (first ∷ kept) one id e = ap (λ found. cond (bytes_eq first.id id) (Some first.reply) found) (under_other kept one id e)

under_new : (kept : List KeptFor) (one : KeptFor) → kept_under kept one.id ≡ None → kept_under (kept ++ one ∷ []) one.id ≡ Some one.reply
under_new [] one h = ap (λ b. cond b (Some one.reply) None) (text_itself one.id)
under_new (first ∷ kept) one h = by_test (bytes_eq first.id one.id) h (under_new kept one)
  where
    by_test : (b : Bool) → cond b (Some first.reply) (kept_under kept one.id) ≡ None → (kept_under kept one.id ≡ None → kept_under (kept ++ one ∷ []) one.id ≡ Some one.reply)
        → cond b (Some first.reply) (kept_under (kept ++ one ∷ []) one.id) ≡ Some one.reply
    by_test true e rest = cc
    by_test false e rest = rest e

got_last : (kept : List KeptFor) (one : KeptFor) → slice_get (kept ++ one ∷ []) (length kept) ≡ Some one
got_last [] one = refl
got_last (first ∷ kept) one = got_last kept one

got_front : (kept : List KeptFor) (one : KeptFor) (n : ℕ) → n < length kept → slice_get (kept ++ one ∷ []) n ≡ slice_get kept n
got_front [] one n below = absurd (omega arith)
got_front (first ∷ kept) one zero below = refl
got_front (first ∷ kept) one (suc n) below = got_front kept one n (omega arith)

module _ (kept : List KeptFor) (one : KeptFor) (places after : List ℕ → Option ℕ) (filed : ArePlaces places kept) (new : kept_under kept one.id ≡ None)
    (changed : (id : List ℕ) → after id ≡ cond (bytes_eq one.id id) (Some (length kept)) (places id)) where
  told_at : (id : List ℕ) (found : Option ℕ) → places id ≡ found → bytes_eq one.id id ≡ false → reply_at (kept ++ one ∷ []) found ≡ kept_under (kept ++ one ∷ []) id
  told_at id None e apart = ap (reply_at kept) (sym e) ∙ (filed.told id ∙ sym (under_other kept one id apart))
  told_at id (Some n) e apart =
      let below : n < length kept = subst (λ (found : Option ℕ). IfSome found (λ (m : ℕ). m < length kept)) e (filed.within id) in
      ap (option_map (λ (k : KeptFor). k.reply)) (got_front kept one n below) ∙ (ap (reply_at kept) (sym e) ∙ (filed.told id ∙ sym (under_other kept one id apart)))

  told_by : (id : List ℕ) (same : Bool) → bytes_eq one.id id ≡ same → reply_at (kept ++ one ∷ []) (cond same (Some (length kept)) (places id)) ≡ kept_under (kept ++ one ∷ []) id
  told_by id true e =
      ap (option_map (λ (k : KeptFor). k.reply)) (got_last kept one) ∙ sym (subst (λ (text : List ℕ). kept_under (kept ++ one ∷ []) text ≡ Some one.reply) (same_text one.id id e) (under_new kept one new))
  told_by id false e = told_at id (places id) refl e

  within_by : (id : List ℕ) (same : Bool) (found : Option ℕ) → IfSome found (λ (n : ℕ). n < length kept) → IfSome (cond same (Some (length kept)) found) (λ (n : ℕ). n < length (kept ++ one ∷ []))
  within_by id true found h = let longer = length-append kept (one ∷ []) in omega arith
  within_by id false None h = tt
  within_by id false (Some n) h = let longer = length-append kept (one ∷ []) in omega arith

  pub places_more : ArePlaces after (kept ++ one ∷ [])
  places_more = record {
    told = λ id. ap (reply_at (kept ++ one ∷ [])) (changed id) ∙ told_by id (bytes_eq one.id id) refl;
    within = λ id. subst (λ (found : Option ℕ). IfSome found (λ (n : ℕ). n < length (kept ++ one ∷ []))) (sym (changed id)) (within_by id (bytes_eq one.id id) (places id) (filed.within id));
  }
