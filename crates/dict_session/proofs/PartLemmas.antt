-- What a front of octets is, where the desk broke them off; and what two calls leave of the desk.
use Rattle.std.proofs.Common.{ℕ, ◌<◌, List, ◌++◌, Bool, true, arith, length, take, drop, refl, sym, ap, ◌∙◌, inl, append_assoc, length-append, take-append-drop}
use Rattle.std.specs.Prelude.{Option, Err}
use Rattle.std.proofs.lemmas.List.{take-append-le, take_all}
use Rattle.dict_proto.specs.Streams.{Stream, PutsAll}
use Rattle.dict_proto.proofs.PutLemmas.{all_after, appends_longer, appends_after, front_after, front_longer}
use Rattle.dict_catalogue.specs.Steps.{Catalogue}
use Rattle.dict_desk.specs.declared.lookup.What.{What}
use Rattle.dict_session.specs.Answers.{count_octets, counted_rows}
use Rattle.dict_session.specs.Desks.{Stays}
use Rattle.dict_session.specs.Spoken.{IsBeginning}
use Rattle.dict_session.specs.Ending.{PutsPart, PutsBeginning, Breaks, PutsAnswer}
use Rattle.dict_session.specs.declared.step.PutFault.{PutFault}
use Rattle.dict_session.specs.declared.step.PutFault.TheVariants.{Sink, Desk}

-- what was put whole is a front of more
pub part_of : (a b : Stream) (xs ys : List ℕ) → PutsAll a b xs → PutsPart a b (xs ++ ys)
part_of a b xs ys h = record {
  front = (length xs, omega (arith, length-append xs ys), rw (take-append-le (length xs) xs ys (omega arith), take_all (length xs) xs (omega arith)) h.octets);
  failures = h.failures;
}

pub part_longer : (a b : Stream) (xs ys : List ℕ) → PutsPart a b xs → PutsPart a b (xs ++ ys)
part_longer a b xs ys h = record { front = appends_longer a.octets b.octets xs ys h.front; failures = h.failures }

pub part_after : (a b c : Stream) (xs ys : List ℕ) → PutsAll a b xs → PutsPart b c ys → PutsPart a c (xs ++ ys)
part_after a b c xs ys h g = record { front = appends_after a.octets b.octets c.octets xs ys h.octets g.front; failures = g.failures ∙ h.failures }

-- xs was put, and then a front of ys
pub breaks_after : (failed : Bool) (fault : PutFault) (a b c : Stream) (xs ys : List ℕ) → PutsAll a b xs → Breaks failed fault b c ys → Breaks failed fault a c (xs ++ ys)
breaks_after failed Sink a b c xs ys h p = front_after a b c xs ys h p
breaks_after failed Desk a b c xs ys h p = (p.0, part_after a b c xs ys h p.1)

pub breaks_longer : (failed : Bool) (fault : PutFault) (a b : Stream) (xs ys : List ℕ) → Breaks failed fault a b xs → Breaks failed fault a b (xs ++ ys)
breaks_longer failed Sink a b xs ys p = front_longer a b xs ys p
breaks_longer failed Desk a b xs ys p = (p.0, part_longer a b xs ys p.1)

-- a front of some octets that stand behind others and before more, which are both there, is a beginning of all
pub beginning_after : (xs ys zs : List ℕ) (k : ℕ) → 0 < length xs → 0 < length zs → IsBeginning (xs ++ take k ys) (xs ++ (ys ++ zs))
beginning_after xs ys zs k some more = record {
  rest = drop k ys ++ zs;
  are = ap (λ l. xs ++ (l ++ zs)) (sym (take-append-drop k ys)) ∙ (ap (λ l. xs ++ l) (append_assoc (take k ys) (drop k ys) zs) ∙ sym (append_assoc xs (take k ys) (drop k ys ++ zs)));
  some = λ e. omega (arith, ap length e, length-append xs (take k ys), some);
  more = λ e. omega (arith, ap length e, length-append (drop k ys) zs, more);
}

-- the number of the rows was put, and then a front of ys, and zs was to come
pub begun_after : (what : What) (count : ℕ) (a b c : Stream) (ys zs : List ℕ) → 0 < length (count_octets what count) → 0 < length zs → PutsAll a b (count_octets what count) → PutsPart b c ys
    → PutsBeginning (counted_rows what) a c (count_octets what count ++ (ys ++ zs))
begun_after what count a b c ys zs some more h p =
    let xs = count_octets what count in
    (xs ++ take p.front.0 ys, beginning_after xs ys zs p.front.0 some more, (count, take p.front.0 ys, refl), all_after a b c xs (take p.front.0 ys) h (record { octets = p.front.2; failures = p.failures }))

-- an answer that was broken off among its rows
pub breaks_answer : (what : What) (count : ℕ) (failed : Bool) (fault : PutFault) (a b c : Stream) (ys zs : List ℕ) → 0 < length (count_octets what count) → 0 < length zs → PutsAll a b (count_octets what count) → Breaks failed fault b c ys
    → PutsAnswer failed (Err fault) a c (count_octets what count ++ (ys ++ zs)) (counted_rows what) true
breaks_answer what count failed Sink a b c ys zs some more h p = inl (front_after a b c (count_octets what count) (ys ++ zs) h (front_longer b c ys zs p))
breaks_answer what count failed Desk a b c ys zs some more h p = (p.0, begun_after what count a b c ys zs some more h p.1)

module _ {S Beside : Type 0} (Shows : S → Catalogue → Type 0) (LeavesOneOf : S → List (Option Catalogue) → Type 0) (KeepsBeside : S → Beside → Type 0) (IsTrusted : S → Type 0) (is_closed : S → Bool) where
  pub stays_same : (a : S) → Stays Shows LeavesOneOf KeepsBeside IsTrusted is_closed a a
  stays_same a = record { trust = λ t. t; shows = λ t m h. h; leaves = λ ms h. h; beside = λ beside h. h; closed = λ e. e }

  pub stays_after : (a b c : S) → Stays Shows LeavesOneOf KeepsBeside IsTrusted is_closed a b → Stays Shows LeavesOneOf KeepsBeside IsTrusted is_closed b c → Stays Shows LeavesOneOf KeepsBeside IsTrusted is_closed a c
  stays_after a b c h k = record {
    trust = λ t. h.trust (k.trust t);
    shows = λ t m s. k.shows t m (h.shows (k.trust t) m s);
    leaves = λ ms l. k.leaves ms (h.leaves ms l);
    beside = λ beside kept. k.beside beside (h.beside beside kept);
    closed = λ e. k.closed (h.closed e);
  }
