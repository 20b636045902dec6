-- What is taken of an event's octets, call by call.
use Rattle.std.proofs.Common.{◌≡◌, ◌≢◌, ℕ, ◌+◌, ◌≤◌, ◌<◌, Bool, true, false, List, [], ◌∷◌, ◌++◌, ◌-◌, refl, sym, ap, ◌∙◌, inl, inr, rules, subst, append_assoc, take, drop, length, All, length-append, arith}
use Rattle.std.specs.Prelude.{◌&&◌, ◌||◌, nat_le, ◌==◌, if◌then◌else◌, Option, Some, None, Result, Ok, Err, OnErr}
use Rattle.std.specs.Io.KnownBytes.{Appends, Keeps}
use Rattle.std.proofs.lemmas.List.{take-append-le, drop-append-le, take-append-drop, length-take}
use Rattle.std.proofs.Math.Seq.{take-append_seam, take-append-add}
use Rattle.std.proofs.lemmas.List.Elements.{All-append}
use Rattle.net_outlet.specs.OutletCalls.{Call, MakesCalls, is_vain, sends, sent_by}
use Rattle.std.specs.declared.io.Error.{Error}
use Rattle.std.proofs.lemmas.Bool.Decides.{eqb_tells, leb_tells}
use Rattle.net_outlet.specs.Outlets.{Follow, HasTakenOctets, IsStuck, MakesSendings, are_well, end_in_vain, is_in_vain, is_sending, is_well, PutsSome}
use Rattle.net_outlet.specs.Outlets.{end_in_failure, give_up, gives_up, has_call_failed, leave_tries, tries_after, vain_count}
use Rattle.net_outlet.specs.Queues.{waiting}
use Rattle.net_outlet.specs.declared.queue.Queue.{Queue}
use Rattle.net_outlet.specs.declared.trail.Trail.{Trail}
use Rattle.net_outlet.specs.declared.calls.Sent.{Sent}
use Rattle.net_outlet.specs.declared.calls.Sent.TheVariants as sents

appended : (l : List ℕ) (c : Option (List ℕ)) (y : List ℕ) → Appends (Some l) c y → c ≡ Some (l ++ y)
appended l None y never = absurd never
appended l (Some z) y is = ap Some is

kept : (l : List ℕ) (c : Option (List ℕ)) → Keeps (Some l) c → c ≡ Some l
kept l None never = absurd never
kept l (Some z) is = ap Some is

pub taken_more : (a b c : Option (List ℕ)) (x y : List ℕ) → HasTakenOctets a b x → Appends b c y → HasTakenOctets a c (x ++ y)
taken_more a b c x y has more = λ before is.
    appended (before ++ x) c y (subst (λ (o : Option (List ℕ)). Appends o c y) (has before is) more) ∙ ap Some (append_assoc before x y)

pub taken_same : (a b c : Option (List ℕ)) (x : List ℕ) → HasTakenOctets a b x → Keeps b c → HasTakenOctets a c x
taken_same a b c x has same = λ before is. kept (before ++ x) c (subst (λ (o : Option (List ℕ)). Keeps o c) (has before is) same)

front_within : (before after : List Call) → take (length before) after ≡ before → length before ≤ length after
front_within before after is = omega (arith, length-take (length before) after, ap length is)

one_sending : (sent : Sent) → All (λ call. is_sending call ≡ true) (sends 1048576 sent ∷ [])
one_sending sent = search rules

some_one : {A : Type 0} (x y : A) → Some x ≡ Some y → x ≡ y
some_one x y same = cc

more_calls : (before mid : List Call) (c : Option (List Call)) (sent : Sent) → (take (length before) mid ≡ before) × All (λ call. is_sending call ≡ true) (drop (length before) mid)
    → c ≡ Some (mid ++ sends 1048576 sent ∷ []) → (c ≢ None) × ((after : List Call) → c ≡ Some after → (take (length before) after ≡ before) × All (λ call. is_sending call ≡ true) (drop (length before) after))
more_calls before mid c sent (front, rest) is =
    let n : length before ≤ length mid = front_within before mid front in
    let tail = All-append (λ call. is_sending call ≡ true) (drop (length before) mid) (sends 1048576 sent ∷ []) rest (one_sending sent) in
    rw is (
      (λ none. cc),
      λ after whole. subst (λ (l : List Call). (take (length before) l ≡ before) × All (λ call. is_sending call ≡ true) (drop (length before) l)) (some_one _ _ whole) (
        take-append-le (length before) mid (sends 1048576 sent ∷ []) n ∙ front,
        subst (λ (l : List Call). All (λ call. is_sending call ≡ true) l) (sym (drop-append-le (length before) mid (sends 1048576 sent ∷ []) n)) tail,
      ),
    )

pub calls_more : (a b c : Option (List Call)) (sent : Sent) → MakesSendings a b → MakesCalls b c (sends 1048576 sent ∷ []) → MakesSendings a c
calls_more a None c sent has makes = λ before is. absurd ((has before is).0 refl)
calls_more a (Some mid) c sent has makes = λ before is. more_calls before mid c sent ((has before is).1 mid refl) makes

one_follows : (first last : List Call → Bool) (call : Call) (before mid : List Call) (c : Option (List Call)) → ((l : List Call) → first l ≡ true → last (l ++ call ∷ []) ≡ true)
    → (take (length before) mid ≡ before) × (first (drop (length before) mid) ≡ true) → c ≡ Some (mid ++ call ∷ [])
    → (c ≢ None) × ((after : List Call) → c ≡ Some after → (take (length before) after ≡ before) × (last (drop (length before) after) ≡ true))
one_follows first last call before mid c so (front, rest) is =
    let n : length before ≤ length mid = front_within before mid front in
    rw is (
      (λ none. cc),
      λ after whole. subst (λ (l : List Call). (take (length before) l ≡ before) × (last (drop (length before) l) ≡ true)) (some_one _ _ whole) (
        take-append-le (length before) mid (call ∷ []) n ∙ front,
        ap last (drop-append-le (length before) mid (call ∷ []) n) ∙ so (drop (length before) mid) rest,
      ),
    )

-- one more call follows
pub follow_more : (first last : List Call → Bool) (call : Call) (a b c : Option (List Call)) → ((l : List Call) → first l ≡ true → last (l ++ call ∷ []) ≡ true)
    → Follow first a b → MakesCalls b c (call ∷ []) → Follow last a c
follow_more first last call a None c so has makes = λ before is. absurd ((has before is).0 refl)
follow_more first last call a (Some mid) c so has makes = λ before is. one_follows first last call before mid c so ((has before is).1 mid refl) makes

and_both : (a b : Bool) → a ≡ true → b ≡ true → (a && b) ≡ true
and_both true b is more = more
and_both false b is more = cc

or_first : (a b : Bool) → a ≡ true → (a || b) ≡ true
or_first true b is = refl
or_first false b is = cc

or_then : (a b : Bool) → b ≡ true → (a || b) ≡ true
or_then true b is = refl
or_then false b is = is

and_first : (a b : Bool) → (a && b) ≡ true → a ≡ true
and_first true b is = refl
and_first false b is = cc

and_then : (a b : Bool) → (a && b) ≡ true → b ≡ true
and_then true b is = is
and_then false b is = cc

pub well_more : (call : Call) → is_well call ≡ true → (l : List Call) → are_well l ≡ true → are_well (l ++ call ∷ []) ≡ true
well_more call well [] all = and_both (is_well call) true well refl
well_more call well (x ∷ xs) all = and_both (is_well x) (are_well (xs ++ call ∷ [])) (and_first (is_well x) (are_well xs) all) (well_more call well xs (and_then (is_well x) (are_well xs) all))

pub vain_more : (call : Call) → is_in_vain call ≡ true → (l : List Call) → are_well l ≡ true → end_in_vain (l ++ call ∷ []) ≡ true
vain_more call vain [] all = vain
vain_more call vain (x ∷ []) all = and_both (is_well x) (is_in_vain call) (and_first (is_well x) true all) vain
vain_more call vain (x ∷ y ∷ xs) all =
    and_both (is_well x) (end_in_vain ((y ∷ xs) ++ call ∷ [])) (and_first (is_well x) (are_well (y ∷ xs)) all) (vain_more call vain (y ∷ xs) (and_then (is_well x) (are_well (y ∷ xs)) all))

count_more : (call : Call) (l : List Call) → vain_count (l ++ call ∷ []) ≡ vain_count l + (if is_in_vain call then 1 else 0)
count_more call [] = refl
count_more call (x ∷ xs) = omega (arith, count_more call xs)

failure_more : (call : Call) → has_call_failed call ≡ true → (l : List Call) → end_in_failure (l ++ call ∷ []) ≡ true
failure_more call failed [] = failed
failure_more call failed (x ∷ []) = failed
failure_more call failed (x ∷ y ∷ xs) = failure_more call failed (y ∷ xs)

eqb_is : (m n : ℕ) → (m == n) ≡ true → m ≡ n
eqb_is m n is = elim (eqb_tells m n) [ inl same ↦ same.1 | inr other ↦ absurd (let never : true ≡ false = sym is ∙ other.0 in cc) ]

is_eqb : (m n : ℕ) → m ≡ n → (m == n) ≡ true
is_eqb m n is = elim (eqb_tells m n) [ inl same ↦ same.0 | inr other ↦ absurd (other.1 is) ]

is_leb : (m n : ℕ) → m ≤ n → nat_le m n ≡ true
is_leb m n is = elim (leb_tells m n) [ inl same ↦ same.0 | inr other ↦ absurd (omega (arith, is, other.1)) ]

not_zero : (n : ℕ) → (n == 0) ≡ false → 0 < n
not_zero n isnt = elim (eqb_tells n 0) [ inl same ↦ absurd (let never : true ≡ false = sym same.0 ∙ isnt in cc) | inr other ↦ omega (arith, other.1) ]

counted : (tries : ℕ) (l : List Call) → leave_tries tries l ≡ true → vain_count l + tries ≡ 4096
counted tries l is = eqb_is (vain_count l + tries) 4096 (and_then (are_well l) (vain_count l + tries == 4096) is)

well_left : (tries : ℕ) (l : List Call) → leave_tries tries l ≡ true → are_well l ≡ true
well_left tries l is = and_first (are_well l) (vain_count l + tries == 4096) is

left_more : (tries : ℕ) (sent : Sent) → gives_up tries sent ≡ false → (l : List Call) → leave_tries tries l ≡ true → leave_tries (tries_after tries sent) (l ++ sends 1048576 sent ∷ []) ≡ true
left_more tries sents.Nothing isnt l is =
    and_both _ _ (well_more (sends 1048576 sents.Nothing) refl l (well_left tries l is))
    (is_eqb _ 4096 (omega (arith, counted tries l is, not_zero tries isnt, count_more (sends 1048576 sents.Nothing) l)))
left_more tries sents.Interrupted isnt l is =
    and_both _ _ (well_more (sends 1048576 sents.Interrupted) refl l (well_left tries l is))
    (is_eqb _ 4096 (omega (arith, counted tries l is, not_zero tries isnt, count_more (sends 1048576 sents.Interrupted) l)))
left_more tries sents.Some isnt l is =
    and_both _ _ (well_more (sends 1048576 sents.Some) refl l (well_left tries l is))
    (is_eqb _ 4096 (omega (arith, counted tries l is, count_more (sends 1048576 sents.Some) l)))
left_more tries sents.Failed isnt l is = cc

given_up : (tries : ℕ) (sent : Sent) → gives_up tries sent ≡ true → (l : List Call) → leave_tries tries l ≡ true → give_up (l ++ sends 1048576 sent ∷ []) ≡ true
given_up tries sents.Nothing gives l is =
    let last : vain_count (l ++ sends 1048576 sents.Nothing ∷ []) ≡ 4097 = omega (arith, counted tries l is, eqb_is tries 0 gives, count_more (sends 1048576 sents.Nothing) l) in
    and_both _ _ (vain_more (sends 1048576 sents.Nothing) refl l (well_left tries l is)) (and_both _ _ (is_leb _ 4097 (omega (arith, last))) (or_first _ _ (is_eqb _ 4097 last)))
given_up tries sents.Interrupted gives l is =
    let last : vain_count (l ++ sends 1048576 sents.Interrupted ∷ []) ≡ 4097 = omega (arith, counted tries l is, eqb_is tries 0 gives, count_more (sends 1048576 sents.Interrupted) l) in
    and_both _ _ (vain_more (sends 1048576 sents.Interrupted) refl l (well_left tries l is)) (and_both _ _ (is_leb _ 4097 (omega (arith, last))) (or_first _ _ (is_eqb _ 4097 last)))
given_up tries sents.Some gives l is = cc
given_up tries sents.Failed gives l is =
    let few : vain_count (l ++ sends 1048576 sents.Failed ∷ []) ≤ 4097 = omega (arith, counted tries l is, count_more (sends 1048576 sents.Failed) l) in
    and_both _ _ (vain_more (sends 1048576 sents.Failed) refl l (well_left tries l is)) (and_both _ _ (is_leb _ 4097 few) (or_then _ _ (failure_more (sends 1048576 sents.Failed) refl l)))

-- a sending follows after which the event goes on, or gives up
pub well_sent : (tries : ℕ) (sent : Sent) (a b c : Option (List Call)) → gives_up tries sent ≡ false → Follow (leave_tries tries) a b → MakesCalls b c (sends 1048576 sent ∷ []) → Follow (leave_tries (tries_after tries sent)) a c
well_sent tries sent a b c isnt has makes = follow_more (leave_tries tries) (leave_tries (tries_after tries sent)) (sends 1048576 sent) a b c (left_more tries sent isnt) has makes

pub sent_in_vain : (tries : ℕ) (sent : Sent) (a b c : Option (List Call)) → gives_up tries sent ≡ true → Follow (leave_tries tries) a b → MakesCalls b c (sends 1048576 sent ∷ []) → Follow give_up a c
sent_in_vain tries sent a b c gives has makes = follow_more (leave_tries tries) give_up (sends 1048576 sent) a b c (given_up tries sent gives) has makes

-- as many were offered as waited
pub offered : (a b : Option (List Call)) (octets waits : List ℕ) (sent : Sent) (outcome : Result ℕ Error) → octets ≡ waits → length waits ≡ 1048576 → sent ≡ sent_by outcome
    → MakesCalls a b (sends (length octets) (sent_by outcome) ∷ []) → MakesCalls a b (sends 1048576 sent ∷ [])
offered a b octets waits sent outcome same full is made =
    subst (λ (n : ℕ). MakesCalls a b (sends n sent ∷ [])) (ap length same ∙ full) (subst (λ (s : Sent). MakesCalls a b (sends (length octets) s ∷ [])) (sym is) made)

pub gives_in_vain : (tries : ℕ) (sent : Sent) → gives_up tries sent ≡ true → is_vain sent ≡ true
gives_in_vain tries sents.Nothing gives = refl
gives_in_vain tries sents.Interrupted gives = refl
gives_in_vain tries sents.Some gives = cc
gives_in_vain tries sents.Failed gives = refl

taken_none : (none : Bool) → is_vain (if none then sents.Nothing else sents.Some) ≡ true → none ≡ true
taken_none true vain = refl
taken_none false vain = cc

-- a call that took octets isn't in vain
pub none_taken : (sent : Sent) (outcome : Result ℕ Error) (count : ℕ) → sent ≡ sent_by outcome → outcome ≡ Ok count → is_vain sent ≡ true → count ≡ 0
none_taken sent outcome count is ok vain = eqb_is count 0 (taken_none (count == 0) (sym (ap is_vain (is ∙ ap sent_by ok)) ∙ vain))

-- of lists that are the same with these behind them, a front is put
pub cut_short : (a b r s : List ℕ) → a ++ r ≡ b ++ s → length r ≤ length s → (k : ℕ) × (k ≤ length s) × (a ≡ b ++ take k s)
cut_short a b r s same h =
    let k = length s - length r in
    let n : length a ≡ length b + k = omega (arith, ap length same, length-append a r, length-append b s, h) in (
      k,
      omega arith,
      sym (take-append_seam a r) ∙ ap (λ l. take (length a) l) same ∙ ap (λ i. take i (b ++ s)) n ∙ take-append-add b s k,
    )

-- a full queue stays full, or what was taken of it counts
pub still_full : (a b c d : List ℕ) → a ++ b ≡ c ++ d → length d ≡ 1048576 → length a + length b < 1048576 → ⊥
still_full a b c d same full h = omega (arith, ap length same, length-append a b, length-append c d)

pub on_err : {A E : Type 0} (r : Result A E) (P : Type 0) → P → OnErr r P
on_err (Ok a) P is = tt
on_err (Err e) P is = is

pub on_err_of : {A E : Type 0} (r : Result A E) (P Q : Type 0) → (P → Q) → OnErr r P → OnErr r Q
on_err_of (Ok a) P Q so is = tt
on_err_of (Err e) P Q so is = so is

pub halves : (n : ℕ) (a b r : List ℕ) → a ≡ take n r → b ≡ drop n r → a ++ b ≡ r
halves n a b r front back = ap (λ l. l ++ b) front ∙ ap (λ l. take n r ++ l) back ∙ take-append-drop n r

pub joined : (t w a b r : List ℕ) → a ++ b ≡ r → (t ++ (w ++ a)) ++ b ≡ (t ++ w) ++ r
joined t w a b r same =
    append_assoc t (w ++ a) b ∙ ap (λ l. t ++ l) (append_assoc w a b ∙ ap (λ l. w ++ l) same) ∙ sym (append_assoc t w r)

pub same_waiting : (q r : Queue) → r.octets ≡ q.octets → r.sent ≡ q.sent → waiting r ≡ waiting q
same_waiting q r octets sent = ap (λ o. drop r.sent o.items) octets ∙ ap (λ n. drop n q.octets.items) sent

pub puts_noted : (bytes : List ℕ) (t0 : Trail) (q0 : Queue) (t : Trail) (q r : Queue) → r.octets ≡ q.octets → r.sent ≡ q.sent → PutsSome bytes t0 q0 t q → PutsSome bytes t0 q0 t r
puts_noted bytes t0 q0 t q r octets sent (k, within, put) = (k, within, ap (λ w. t.octets ++ w) (same_waiting q r octets sent) ∙ put)

-- as many wait as may, and the last call took nothing
pub stuck_full : (a b : Option (List Call)) (n : ℕ) (q : Queue) → length (waiting q) ≡ 1048576 → length q.refused.octets ≡ n → Follow give_up a b → IsStuck a b n q
stuck_full a b n q full same vain = (λ few. (full, vain), λ more. absurd (omega (arith, same, more)))
