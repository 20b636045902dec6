use Rattle.std.proofs.Common.{◌≡◌, ℕ, Bool, true, false, not, List, refl, sym, ap, ◌∙◌}
use Rattle.std.proofs.lemmas.Bool.{false≢true}
use Rattle.std.proofs.lemmas.Slice.Eq.{bytes_eq-Decides}
use Rattle.dict_match.specs.Key.{key_of}
use Rattle.store_search.specs.Entries.{Indexed, entry_at}
use Rattle.store_places.specs.Places.{key_at}
use Rattle.store_search.proofs.EditionLemmas.{key_there}
use Rattle.store_search.proofs.same.is_entry.Goals as goal

abbrev built : List ℕ → List ℕ → ℕ → ℕ → Indexed
built key shown start size = record { key = key; shown = shown; start = start; size = size }

same_parts : (x : Indexed) (key shown : List ℕ) (start size : ℕ) → x.key ≡ key → x.shown ≡ shown → x.start ≡ start → x.size ≡ size → x ≡ built key shown start size
same_parts x key shown start size k t a b =
    ap (λ v. built v x.shown x.start x.size) k ∙ ap (λ v. built key v x.start x.size) t ∙ ap (λ v. built key shown v x.size) a ∙ ap (built key shown start) b

not_false : (b : Bool) → not b ≡ false → b ≡ true
not_false true e = refl
not_false false e = absurd (false≢true (sym e))

pub returns-clause-same : goal.returns-clause-same
returns-clause-same c told =
    let place = c.args.place in
    let other = c.args.other.now in
    let x = entry_at c.args.entries.now place in
    let keys_same = (bytes_eq-Decides c.get.result.now c.as_bytes.result.now).0 (not_false _ (sym c.ne.ensures ∙ c.if-ne.false)) in
    let texts_same = (bytes_eq-Decides c.shown_octets.result.now c.as_bytes-2.result.now).0 (sym c.eq.ensures ∙ told) in
    same_parts x (key_of other.headword.now) other.shown.now other.offset other.size
    (sym (key_there c.args.entries.now place) ∙ ap (λ keys. key_at keys place) (sym c.keys.ensures.keys) ∙ sym c.get.ensures ∙ keys_same ∙ c.as_bytes.ensures ∙ c.requires)
    (sym c.shown_octets.ensures ∙ texts_same ∙ c.as_bytes-2.ensures.value) (sym c.span-span.ensures.start ∙ c.if-span-other.false) (sym c.span-span.ensures.size ∙ c.if-span-other-2.false)

pub returns-clause-other : goal.returns-clause-other
returns-clause-other c told same =
    let shown = c.shown_octets.ensures ∙ ap (λ (e : Indexed). e.shown) same ∙ sym c.as_bytes-2.ensures.value in
    absurd (false≢true (sym told ∙ c.eq.ensures ∙ (bytes_eq-Decides c.shown_octets.result.now c.as_bytes-2.result.now).1 shown))

pub returns-then-ne-clause-other : goal.returns-then-ne-clause-other
returns-then-ne-clause-other c told same =
    let key = c.get.ensures ∙ ap (λ keys. key_at keys c.args.place) c.keys.ensures.keys ∙ key_there c.args.entries.now c.args.place ∙ ap (λ (e : Indexed). e.key) same ∙ sym c.requires ∙ sym c.as_bytes.ensures in
    absurd (false≢true (sym (ap not ((bytes_eq-Decides c.get.result.now c.as_bytes.result.now).1 key)) ∙ sym c.ne.ensures ∙ c.if-ne.true))
