-- Lengths in decimal, and the parts of a body.
use Rattle.std.proofs.Common.{◌≡◌, ◌≢◌, ◌<◌, ◌≤◌, ◌+◌, ◌%◌, ◌^◌, ℕ, zero, suc, Bool, true, false, List, [], ◌∷◌, ◌++◌, length, get_or, decimal, refl, sym, ap, ◌∙◌, subst, arith}
use Rattle.std.specs.Prelude.{Option, Some, None, MatchOption, if◌then◌else◌}
use Rattle.std.specs.List.{list_all}
use Rattle.std.specs.Char.{is_ascii_digit}
use Rattle.std.specs.Str.Parse.{digits_value}
use Rattle.std.proofs.Math.Nat.{pow-le-pow_right}
use Rattle.std.proofs.lemmas.Fmt.{decimal-digits_value, decimal_by_steps, decimal_digit, decimal_nonempty, decimal_injective, digits_decimal, first_decimal, length-decimal-le}
use Rattle.std.proofs.lemmas.Int.Digits.{digits_value-lt}
use Rattle.std.proofs.lemmas.List.{length-append}
use Rattle.std.proofs.lemmas.Str.Parse.{IsNumeralModel, numerals_by_value, tells_all_ascii_digits}
use Rattle.dict_index.specs.Cuts.{HasNo, IsCutAt}
use Rattle.dict_index.proofs.CutLemmas.{one_cut}
use Rattle.http_service.specs.Actions.{IsInstallBody}

own : IsNumeralModel (λ ds. list_all is_ascii_digit ds ≡ true) (digits_value 10)
own = numerals_by_value _ tells_all_ascii_digits

-- digits without a leading zero
pub size_read : (ds : List ℕ) → 0 < length ds → length ds ≤ 8 → (get_or ds 0 0 ≡ 48 → length ds ≡ 1) → list_all is_ascii_digit ds ≡ true
    → (ds ≡ decimal (digits_value 10 ds)) × (digits_value 10 ds < 10 ^ 8)
size_read ds some few lead all = (sym (decimal-digits_value own ds all some lead (omega (arith, small))), small)
  where
    bound : digits_value 10 ds < 10 ^ length ds
    bound = digits_value-lt 10 ds (own.to ds all)

    small : digits_value 10 ds < 10 ^ 8
    small =
        let power : 10 ^ length ds ≤ 10 ^ 8 = pow-le-pow_right (omega arith) few in
        omega (arith, power, bound)

-- none of the octets that are no such digits
pub size_not_empty : (ds : List ℕ) → length ds ≡ 0 → (n : ℕ) → n < 10 ^ 8 → ds ≡ decimal n → ⊥
size_not_empty ds none n small is = omega (arith, decimal_nonempty n (omega arith), ap length is)

pub size_not_long : (ds : List ℕ) → 8 < length ds → (n : ℕ) → n < 10 ^ 8 → ds ≡ decimal n → ⊥
size_not_long ds long n small is = omega (arith, length-decimal-le 8 n (omega arith) small (omega arith), ap length is)

pub size_not_led : (ds : List ℕ) → 1 < length ds → get_or ds 0 0 ≡ 48 → (n : ℕ) → n < 10 ^ 8 → ds ≡ decimal n → ⊥
size_not_led ds long lead zero small is = omega (arith, ap length (is ∙ decimal_digit 0 (omega arith)))
size_not_led ds long lead (suc n) small is = omega (arith, first_decimal (suc n) (omega arith) (omega arith), ap (λ l. get_or l 0 0) is)

pub size_not_other : (ds : List ℕ) → list_all is_ascii_digit ds ≡ false → (n : ℕ) → n < 10 ^ 8 → ds ≡ decimal n → ⊥
size_not_other ds other n small is =
    let all : list_all is_ascii_digit ds ≡ true = ap (list_all is_ascii_digit) is ∙ digits_decimal own n (omega arith) in
    let same : false ≡ true = sym other ∙ all in
    cc

-- what the digits say
pub size_result : (ds : List ℕ) (r : Option ℕ) → 0 < length ds → length ds ≤ 8 → (get_or ds 0 0 ≡ 48 → length ds ≡ 1) → r ≡ (if list_all is_ascii_digit ds then Some (digits_value 10 ds) else None)
    → MatchOption r ((n : ℕ) → n < 10 ^ 8 → ds ≡ decimal n → ⊥) (λ n. (ds ≡ decimal n) × (n < 10 ^ 8))
size_result ds r some few lead is = subst (λ o. MatchOption o ((n : ℕ) → n < 10 ^ 8 → ds ≡ decimal n → ⊥) (λ n. (ds ≡ decimal n) × (n < 10 ^ 8))) (sym is) (told (list_all is_ascii_digit ds) refl)
  where
    told : (b : Bool) → list_all is_ascii_digit ds ≡ b → MatchOption (if b then Some (digits_value 10 ds) else None) ((n : ℕ) → n < 10 ^ 8 → ds ≡ decimal n → ⊥) (λ n. (ds ≡ decimal n) × (n < 10 ^ 8))
    told true all = size_read ds some few lead all
    told false other = size_not_other ds other

-- no LF in a number
has_no_push : (b x : ℕ) (xs : List ℕ) → HasNo b xs → x ≢ b → HasNo b (xs ++ x ∷ [])
has_no_push b x [] h other = (other, tt)
has_no_push b x (y ∷ xs) h other = (h.0, has_no_push b x xs h.1 other)

pub no_line_feed : (n : ℕ) → n < 2 ^ 64 → HasNo 10 (decimal n)
no_line_feed = decimal_by_steps (λ m ds. HasNo 10 ds) (λ m l. (λ e. omega (arith, e), tt)) (λ m ds l h. has_no_push 10 (48 + m % 10) ds h (λ e. omega (arith, e)))

none_at_cut : (b : ℕ) (xs ys : List ℕ) → HasNo b (xs ++ b ∷ ys) → ⊥
none_at_cut b [] ys h = h.0 refl
none_at_cut b (x ∷ xs) ys h = none_at_cut b xs ys h.1

-- the parts of a body
pub no_parts : (body index text : List ℕ) → HasNo 10 body → IsInstallBody body index text → ⊥
no_parts body index text none parts = none_at_cut 10 (decimal (length index)) (index ++ text) (subst (HasNo 10) parts.is none)

same_cut : (body digits rest index text : List ℕ) → IsCutAt 10 body digits rest → IsInstallBody body index text → (digits ≡ decimal (length index)) × (rest ≡ index ++ text)
same_cut body digits rest index text cut parts =
    let few = parts.few in
    one_cut 10 digits rest (decimal (length index)) (index ++ text) cut.none (no_line_feed (length index) (omega (arith, few))) (sym cut.whole ∙ parts.is)

pub unread_parts : (body digits rest index text : List ℕ) → IsCutAt 10 body digits rest → ((n : ℕ) → n < 10 ^ 8 → digits ≡ decimal n → ⊥) → IsInstallBody body index text → ⊥
unread_parts body digits rest index text cut unread parts = unread (length index) parts.few (same_cut body digits rest index text cut parts).0

pub short_parts : (body digits rest index text : List ℕ) (size : ℕ) → IsCutAt 10 body digits rest → digits ≡ decimal size → size < 10 ^ 8 → length rest < size → IsInstallBody body index text → ⊥
short_parts body digits rest index text size cut is small short parts =
    let same = same_cut body digits rest index text cut parts in
    let few = parts.few in
    let equal : size ≡ length index = decimal_injective size (length index) (omega (arith, small)) (omega (arith, few)) (sym is ∙ same.0) in
    omega (arith, equal, short, ap length same.1, length-append index text)
