use Rattle.std.proofs.Common.{false, refl, sym, subst}
use Rattle.std.specs.Prelude.{None}
use Rattle.sqlite.specs.Held.{state}
use Rattle.store_holdings.specs.CutTexts.{ArePartsOf}
use Rattle.dict_catalogue.specs.Views.{summary_shown}
use Rattle.store_desk.specs.Desk.{ServesEdition}
use Rattle.store_desk.specs.Indexed.{IsHeldCut}
use Rattle.store_desk.specs.KeptParts.{KeepsTexts}
use Rattle.store_desk.specs.Left.{counted}
use Rattle.store_desk.proofs.ServedLemmas.{each_edition}
use Rattle.store_desk.specs.declared.last.LastCall.TheVariants.{Fine}
use Rattle.store_desk.proofs.desk.Desk.over.Goals as goal

pub invariant_of-result : goal.invariant_of-result
invariant_of-result g c = (
  record { limit = c.requires.limit; ended = c.requires.autocommit; range = c.requires.range; holds = λ fine. c.requires.holds; filed = λ fine. tt },
  subst (KeepsTexts Fine (summary_shown c.args.summary)) (sym c.new.ensures) (record { made = tt; none = λ failed. refl }),
)

pub returns-clause-shows : goal.returns-clause-shows
returns-clause-shows g c = λ M summary well rests indexed. record {
  summary = summary;
  well_formed = well;
  holds = λ fine clean live. (rests clean).holds;
  served = λ clean. each_edition (IsHeldCut (state g.S.Store c.args.conn).committed c.args.indexes)
      (ServesEdition g.S.Store (record { conn = c.args.conn; summary = summary_shown c.args.summary; last = Fine; indexes = c.args.indexes; texts = c.new.result; counts = counted 0 false c.of.result None None }))
      (λ stored one. record { index = one.index; stands = one.stands; text = one.text; cuts = one.cuts; kept = subst (ArePartsOf stored.number one.text) (sym c.new.ensures) tt; held = λ fine live. one.held }) M.items (indexed clean);
}
