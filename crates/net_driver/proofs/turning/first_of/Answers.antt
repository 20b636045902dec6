use Rattle.std.proofs.Common.{◌≡◌, ◌<◌, ◌+◌, ◌-◌, ◌∙◌, ℕ, List, [], drop, length, get_or, sym, ap, arith, rules}
use Rattle.std.proofs.lemmas.List.{at_drop_more}
use Rattle.std.proofs.Math.Seq.{drop-length}
use Rattle.std.specs.Prelude.{◌&&◌, Some, max, nat_le, nat_lt, if◌then◌else◌}
use Rattle.net_connection.specs.Handing.{held_for}
use Rattle.net_connection.specs.declared.connection.Connection.{Connection}
use Rattle.net_driver.specs.Turning.{first_of, longest}
use Rattle.net_driver.proofs.turning.first_of.Goals as goal

-- one more before those that were looked at
first_before : {T : Type 0} (all : List (Connection T)) (i n : ℕ) (one : Connection T) → i + 1 ≡ n → i < length all → one ≡ get_or all i one
    → first_of (drop i all) ≡ (if nat_lt 0 (held_for one) && nat_le (longest (drop n all)) (held_for one) then Some one.id else first_of (drop n all))
first_before all i n one next within is =
    at_drop_more first_of all i one within
    ∙ ap (λ it. if nat_lt 0 (held_for it) && nat_le (longest (drop (i + 1) all)) (held_for it) then Some it.id else first_of (drop (i + 1) all)) (sym is)
    ∙ ap (λ k. if nat_lt 0 (held_for one) && nat_le (longest (drop k all)) (held_for one) then Some one.id else first_of (drop k all)) next

longest_before : {T : Type 0} (all : List (Connection T)) (i n : ℕ) (one : Connection T) → i + 1 ≡ n → i < length all → one ≡ get_or all i one
    → longest (drop i all) ≡ max (held_for one) (longest (drop n all))
longest_before all i n one next within is =
    at_drop_more longest all i one within ∙ ap (λ it. max (held_for it) (longest (drop (i + 1) all))) (sym is) ∙ ap (λ k. max (held_for one) (longest (drop k all))) next

none_left : {T : Type 0} (all : List (Connection T)) (n : ℕ) → n ≡ length all → drop n all ≡ []
none_left all n is = ap (λ k. drop k all) is ∙ drop-length all

whole_left : {T : Type 0} (all : List (Connection T)) (n : ℕ) → n ≡ 0 → drop n all ≡ all
whole_left all n is = ap (λ k. drop k all) is

pub loop-place-init : goal.loop-place-init
loop-place-init g c =
    let none = none_left c.args.all.now (length c.args.all.now - 0) (omega arith) in
    record { first = sym (ap first_of none); longest = sym (ap longest none) }

pub loop-place-preserved : goal.loop-place-preserved
loop-place-preserved g c =
    let all = c.args.all.now in
    let place = c.loop-place.place in
    let within : place < length all = search rules in
    let n = length all - place in
    let i = length all - (place + 1) in
    let next : i + 1 ≡ n = omega (arith, within) in
    let one = c.index-all-all.result in
    let at : (length all - place) - 1 ≡ i = omega (arith, within) in
    let is : one ≡ get_or all i one = c.index-all-all.is ∙ ap (λ (k : ℕ). get_or all k one) at in
    let before = c.before-first.ensures in
    record {
      first = before.first ∙ ap (λ (m : ℕ). if nat_lt 0 (held_for one) && nat_le m (held_for one) then Some one.id else c.loop-place.first.0) c.loop-place.invariant.longest
          ∙ ap (λ f. if nat_lt 0 (held_for one) && nat_le (longest (drop n all)) (held_for one) then Some one.id else f) c.loop-place.invariant.first
          ∙ sym (first_before all i n one next (omega (arith, within)) is);
      longest = before.longest ∙ ap (λ (m : ℕ). max (held_for one) m) c.loop-place.invariant.longest ∙ sym (longest_before all i n one next (omega (arith, within)) is);
    }

pub returns : goal.returns
returns g c =
    let all = c.args.all.now in
    c.loop-place.invariant.first ∙ ap first_of (whole_left all (length all - c.loop-place.place) (omega (arith, c.loop-place-test.false)))
