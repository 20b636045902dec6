-- What the parts of an index are asked, as selections.
use Rattle.std.proofs.Common.{◌≡◌, ℕ, Bool, true, false, ◌&&◌, List, [], ◌∷◌, length, filter, refl, ap, sym, Result, Ok, Err}
use Rattle.std.specs.List.{range_with_len}
use Rattle.std.specs.Result.{IfOk}
use Rattle.std.specs.Str.{bytes_eq}
use Rattle.std.proofs.lemmas.List.Elements.{filter_agree}
use Rattle.store_places.specs.Places.{key_at, places_where}
use Rattle.store_places.specs.Orders.{is_between}
use Rattle.store_places.proofs.PlaceLemmas.{exact_between}

pub then_too : {A E : Type 0} (P Q : A → Type 0) (r : Result A E) → ((x : A) → P x → Q x) → IfOk r P → IfOk r Q
then_too P Q (Ok x) f h = f x h
then_too P Q (Err e) f h = tt

none : (xs : List ℕ) → filter (λ place. false) xs ≡ []
none [] = refl
none (x ∷ xs) = none xs

pub none_where : (keys : List (List ℕ)) → [] ≡ places_where (λ key. false) keys
none_where keys = sym (none (range_with_len 0 (length keys)))

every : (xs : List ℕ) → filter (λ place. true) xs ≡ xs
every [] = refl
every (x ∷ xs) = ap (λ l. x ∷ l) (every xs)

pub all_where : (keys : List (List ℕ)) → range_with_len 0 (length keys) ≡ places_where (λ key. true) keys
all_where keys = sym (every (range_with_len 0 (length keys)))

pub exact_where : (key : List ℕ) (keys : List (List ℕ)) → places_where (is_between key key) keys ≡ places_where (λ other. bytes_eq other key) keys
exact_where key keys = filter_agree _ _ (λ place. exact_between key (key_at keys place)) (range_with_len 0 (length keys))

either : (a b : Bool) → (a && b) ≡ (b && a)
either true true = refl
either true false = refl
either false true = refl
either false false = refl

pub both_where : (p q : List ℕ → Bool) (keys : List (List ℕ)) → places_where (λ key. p key && q key) keys ≡ places_where (λ key. q key && p key) keys
both_where p q keys = filter_agree _ _ (λ place. either (p (key_at keys place)) (q (key_at keys place))) (range_with_len 0 (length keys))
