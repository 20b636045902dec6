use Rattle.std.proofs.Common.{◌≡◌, ℕ, List, ap, sym, subst, ◌∙◌}
use Rattle.std.specs.Prelude.{option_map}
use Rattle.dict_index.specs.Edition.{Edition}
use Rattle.dict_catalogue.specs.Items.{Stored}
use Rattle.dict_catalogue.specs.Views.{summary_shown}
use Rattle.dict_index.specs.Found.{is_found}
use Rattle.dict_desk.specs.PlainEntries.{LieWithin}
use Rattle.dict_desk.specs.Plain.{edition_by_number}
use Rattle.dict_desk.specs.Shown.{count_of}
use Rattle.dict_desk.specs.declared.lookup.What.{What}
use Rattle.dict_desk.specs.declared.lookup.What.TheVariants.{Entries, Headwords}
use Rattle.dict_desk.proofs.DeskLemmas.{same_some, none_some, has_here, held_here, note_holds}
use Rattle.dict_desk.proofs.plain.PlainDeskLookup.count.Goals as goal
use Rattle.dict_desk.proofs.plain.PlainDeskLookup.count.Goals.{in-Entries, in-Headwords}

pub returns-in_default-clause-value : goal.returns-in_default-clause-value
returns-in_default-clause-value c = λ trusted M edition shown has.
    none_some _ _ (ap (option_map (λ found. found.now)) (sym c.in_default.is) ∙ (c.edition_numbered.ensures ∙ (ap (edition_by_number c.args.number) c.deref.ensures.value
    ∙ held_here (summary_shown c.self.inside.summary) c.self.inside.editions.items c.self.inside.replies.items _ c.self.invariant.0 c.args.number edition (has_here M _ _ c.args.number edition c.self.view_is shown.0 has))))

pub returns-clause-value : goal.returns-clause-value
returns-clause-value c = λ trusted M edition shown has.
    let same = same_some _ _ (ap (option_map (λ found. found.now)) (sym c.in-Some.is) ∙ (c.edition_numbered.ensures ∙ (ap (edition_by_number c.args.number) c.deref.ensures.value
    ∙ held_here (summary_shown c.self.inside.summary) c.self.inside.editions.items c.self.inside.replies.items _ c.self.invariant.0 c.args.number edition (has_here M _ _ c.args.number edition c.self.view_is shown.0 has)))) in
    let told : (what : What) (n : ℕ) → n ≡ count_of what c.args.strategy c.as_bytes.result.now c.in-Some.edition.now.content → c.args.what ≡ what → c.match-what.result ≡ n
    → c.match-what.result ≡ count_of c.args.what c.args.strategy c.args.query.now edition =
    λ what n counted is same_result. same_result ∙ (counted ∙ (ap (λ (query : List ℕ). count_of what c.args.strategy query c.in-Some.edition.now.content) c.as_bytes.ensures
    ∙ (ap (λ (stored : Stored Edition). count_of what c.args.strategy c.args.query.now stored.content) same ∙ ap (λ (w : What). count_of w c.args.strategy c.args.query.now edition) (sym is)))) in
    elim c.match-what.branch [
      | in-Entries w ↦ told Entries c.hits-hits.result.entries c.hits-hits.ensures.entries w.in-Entries.is w.result-is
      | in-Headwords w ↦ told Headwords c.hits-hits.result.headwords c.hits-hits.ensures.headwords w.in-Headwords.is w.result-is
    ]

pub invariant_of-self-2 : goal.invariant_of-self-2
invariant_of-self-2 c = (
  c.self.invariant.0,
  note_holds c.self.inside.editions.items c.note.result c.in-Some.edition.now c.args.number c.args.strategy c.args.query.now c.hits-hits.result.span
      (sym (ap (option_map (λ found. found.now)) (sym c.in-Some.is) ∙ (c.edition_numbered.ensures ∙ ap (edition_by_number c.args.number) c.deref.ensures.value))) c.note.ensures
      (subst (λ (query : List ℕ). LieWithin (is_found c.args.strategy query) c.in-Some.edition.now.content.entries c.hits-hits.result.span.first c.hits-hits.result.span.end) c.as_bytes.ensures c.hits-hits.ensures.within),
)
