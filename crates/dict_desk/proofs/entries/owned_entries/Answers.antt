use Rattle.std.proofs.Common.{◌≡◌, ℕ, List, sym, ap, ◌∙◌, subst, arith}
use Rattle.std.proofs.lemmas.Grind.{common_steps}
use Rattle.std.specs.List.{AllByRecursion}
use Rattle.dict_index.specs.Line.{Line}
use Rattle.dict_index.specs.Views.{HasItsKey as HasKeyRead}
use Rattle.dict_text.proofs.AllLemmas.{all_push, all_at}
use Rattle.dict_desk.specs.PlainEntries.{shown_by, IsKeyedByHeadword, AreLinked, IsLastShown}
use Rattle.dict_desk.proofs.LinkLemmas.{linked_more}
use Rattle.dict_desk.proofs.PlaceLemmas.{HasPlaces, places_more}
use Rattle.dict_desk.proofs.entries.owned_entries.Goals as goal

pub owned_entry-requires : goal.owned_entry-requires
owned_entry-requires c = subst HasKeyRead (sym c.entry-item.is) (all_at HasKeyRead c.args.entries.now c.loop-entry.entry-index c.entry-item.result c.requires (omega arith))

pub loop-entry-preserved : goal.loop-entry-preserved
loop-entry-preserved c =
    let items = c.in_ok-push.ensures.items in
    let before = c.loop-entry.owned.items in
    let kept = c.in_ok-kept.kept in
    let shown = c.entry-item.result.shown in
    let same : shown_by kept ≡ shown.now = ap (λ (line : Line). line.shown) c.in_ok-kept.ensures.line in
    let last : IsLastShown before (shown_by kept) kept.said.value.earlier =
    subst (λ (text : List ℕ). IsLastShown before text kept.said.value.earlier) (sym same)
    (subst (IsLastShown before shown.now) (sym (c.in_ok-kept.ensures.link ∙ c.in_ok-earlier.ensures.old)) (c.loop-entry.invariant.places shown)) in
    record {
      lines = grind (arith, common_steps);
      keys = subst (AllByRecursion IsKeyedByHeadword) (sym items) (all_push IsKeyedByHeadword before kept c.loop-entry.invariant.keys c.in_ok-kept.ensures.key);
      links = subst AreLinked (sym items) (linked_more before kept c.loop-entry.invariant.links last);
      places = subst (HasPlaces c.insert.new.self) (sym items) (places_more c.loop-entry.places c.insert.new.self shown before kept c.len.result (c.len.ensures ∙ c.loop-entry.owned.ok.0) c.in_ok-earlier.ensures.updates same
          c.loop-entry.invariant.places);
    }
