-- The index in memory of an edition that may come, as far as it is made.
use Rattle.std.proofs.Common.{◌≡◌, ℕ, ◌+◌, ◌≤◌, List, ◌∷◌, [], ◌++◌, length, map, take, arith, sym, ap, subst, ◌∙◌}
use Rattle.std.specs.Prelude.{Some, slice_get}
use Rattle.std.proofs.lemmas.List.{length-map, length-take, length-take-le, take_all}
use Rattle.std.proofs.lemmas.Option.{get_or_from_slice_get, slice_get_within}
use Rattle.dict_index.specs.Edition.{ReadEdition}
use Rattle.dict_index.specs.Line.{Line}
use Rattle.dict_index.specs.Meaning.{IsReadEdition}
use Rattle.store_search.specs.Entries.{Indexed, entry_of}
use Rattle.store_commands.specs.Filing.{HasSameRows}
use Rattle.store_commands.specs.Installs.{IsReadInstall}
use Rattle.store_commands.specs.declared.filing.Filing.{Filing}
use Rattle.store_commands.specs.declared.reads.ReadInstall.{ReadInstall}
use Rattle.store_desk.specs.Coming.{IsIndexOfInstall}
use Rattle.store_desk.specs.declared.making.IndexPart.{IndexPart}
use Rattle.store_desk.specs.declared.making.IndexPart.TheVariants.{Entries, Parts, Lost}
use Rattle.store_search.proofs.EditionLemmas.{one_more}

-- one entry more
pub entry_next : (lines : List Line) (i : ℕ) (said : Line) (before after : List Indexed) → slice_get lines i ≡ Some said → before ≡ map entry_of (take i lines) → after ≡ before ++ entry_of said ∷ [] → after
    ≡ map entry_of (take (i + 1) lines)
entry_next lines i said before after there was put =
    put ∙ ap (λ (l : List Indexed). l ++ entry_of said ∷ []) was ∙ one_more entry_of lines i said (slice_get_within lines i said there) (sym (get_or_from_slice_get lines i said said there))

-- as many entries are taken as the index has
pub as_many : (lines : List Line) (n : ℕ) (taken : List Indexed) → n ≤ length lines → taken ≡ map entry_of (take n lines) → length taken ≡ n
as_many lines n taken le is = ap length is ∙ (length-map (take n lines) entry_of ∙ length-take-le n lines le)

-- and no more than there are
pub few_taken : (lines : List Line) (n : ℕ) (taken : List Indexed) → taken ≡ map entry_of (take n lines) → length taken ≤ length lines
few_taken lines n taken is = omega (arith, ap length is, length-map (take n lines) entry_of, length-take n lines)

pub front_of : (lines : List Line) (n : ℕ) (taken : List Indexed) → n ≤ length lines → taken ≡ map entry_of (take n lines) → taken ≡ map entry_of (take (length taken) lines)
front_of lines n taken le is = subst (λ (m : ℕ). taken ≡ map entry_of (take m lines)) (sym (as_many lines n taken le is)) is

module _ (index text : List ℕ) (reading : ReadEdition) (h : IsReadEdition index text reading) (one : (index text : List ℕ) (a b : ReadEdition) → IsReadEdition index text a → IsReadEdition index text b → a ≡ b) (taken : List Indexed) where
  -- of whatever edition the files say
  pub front_of_any : taken ≡ map entry_of (take (length taken) reading.lines) → (other : ReadEdition) → IsReadEdition index text other → taken ≡ map entry_of (take (length taken) other.lines)
  front_of_any is other k = subst (λ (r : ReadEdition). taken ≡ map entry_of (take (length taken) r.lines)) (one index text reading other h k) is

  pub whole_of_any : length reading.lines ≤ length taken → taken ≡ map entry_of (take (length taken) reading.lines) → (other : ReadEdition) → IsReadEdition index text other → taken ≡ map entry_of other.lines
  whole_of_any le is other k = subst (λ (r : ReadEdition). taken ≡ map entry_of r.lines) (one index text reading other h k) (is ∙ ap (map entry_of) (take_all (length taken) reading.lines le))

-- only how much was filed differs
pub install_same : (r : ReadInstall) (after : Filing) → HasSameRows r.filing after → IsReadInstall r → IsReadInstall (record r { filing = after })
install_same r after same known =
    subst (λ (f : Filing). IsReadInstall (record r { filing = f })) (sym same) (record {
      drawn = record { number = known.drawn.number };
      read = known.read;
      all = known.all;
      stored = known.stored;
    })

pub index_same : (r : ReadInstall) (after : Filing) (part : IndexPart) → HasSameRows r.filing after → IsIndexOfInstall r part → IsIndexOfInstall (record r { filing = after }) part
index_same r after part same is = subst (λ (f : Filing). IsIndexOfInstall (record r { filing = f }) part) (sym same) (by part is)
  where
    by : (p : IndexPart) → IsIndexOfInstall r p → IsIndexOfInstall (record r { filing = record r.filing { is_begun = after.is_begun; parts_filed = after.parts_filed } }) p
    by (Entries builder) k = k
    by (Parts making) k = k
    by Lost k = k
