use Rattle.std.proofs.Common.{ℕ, List, refl, subst, inr}
use Rattle.dict_index.specs.Edition.{edition_of}
use Rattle.dict_index.specs.Meaning.{IsReadEdition}
use Rattle.app_words.proofs.installing.install_octets.Goals as goal

pub returns-clause-installed : goal.returns-clause-installed
returns-clause-installed g c = inr (
  edition_of c.in-Ok.edition,
  (
    c.in-Ok.edition,
    subst (λ (octets : List ℕ). IsReadEdition octets c.args.text.items c.in-Ok.edition) c.deref.ensures.value
        (subst (λ (octets : List ℕ). IsReadEdition c.deref.result.now octets c.in-Ok.edition) c.deref-2.ensures.value c.in-Ok.ensures.edition),
    refl,
  ),
  c.install_edition.ensures.changed,
)
