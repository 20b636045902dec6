use Rattle.std.proofs.Common.{ℕ, List, refl, ◌∙◌, subst, Err, codes}
use Rattle.dict_index.specs.Edition.{edition_of}
use Rattle.dict_index.specs.Meaning.{IsReadEdition}
use Rattle.dict_catalogue.specs.Commands.{install}
use Rattle.dict_catalogue.specs.Steps.{empty_catalogue, step}
use Rattle.dict_desk.specs.Applying.{Applies}
use Rattle.dict_desk.specs.declared.fault.Fault.{Fault as DeskFault}
use Rattle.app_commands.specs.Plain.{catalogue_of}
use Rattle.app_commands.proofs.PlainLemmas.{install_refused, install_accepted}
use Rattle.app_commands.proofs.plain.install_octets.Goals as goal

pub returns-in-Ok-install : goal.returns-in-Ok-install
unfolding catalogue_of
returns-in-Ok-install g c = λ trusted shown.
    let edition = edition_of c.in-Ok.edition in
    let applied = c.in-Ok-install.ensures.value trusted empty_catalogue shown in
    record {
      edition = edition;
      lawful = install_accepted c.args.name.now edition _ applied.0;
      said = (
        c.in-Ok.edition,
        subst (λ (octets : List ℕ). IsReadEdition octets c.args.text.items c.in-Ok.edition) c.deref.ensures.value
            (subst (λ (octets : List ℕ). IsReadEdition c.deref.result.now octets c.in-Ok.edition) c.deref-2.ensures.value c.in-Ok.ensures.edition),
        refl,
      );
      shows = applied.1;
    }

pub returns-in-Err-Refused : goal.returns-in-Err-Refused
returns-in-Err-Refused g c = λ trusted shown.
    let edition = edition_of c.in-Ok.edition in
    let applied = subst (λ (fault : DeskFault). Applies (g.D.Lookup.shows c.install.new.desk) empty_catalogue (step empty_catalogue (codes "plain") (install c.args.name.now edition)) (Err fault))
    c.in-Err-Refused.field-0-is (c.in-Err-Refused.ensures.value trusted empty_catalogue shown) in
    let told = install_refused c.args.name.now edition c.in-Err-Refused.refusal applied.0 in (
      c.in-Err-Refused.refusal-is ∙ told.0,
      told.1,
      (
        edition,
        (
          c.in-Ok.edition,
          subst (λ (octets : List ℕ). IsReadEdition octets c.args.text.items c.in-Ok.edition) c.deref.ensures.value
              (subst (λ (octets : List ℕ). IsReadEdition c.deref.result.now octets c.in-Ok.edition) c.deref-2.ensures.value c.in-Ok.ensures.edition),
          refl,
        ),
      ),
    )
