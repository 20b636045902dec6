use Rattle.std.proofs.Common.{◌∙◌}
use Rattle.http_service.proofs.foreseeing.foresee_change.Goals as goal

pub returns-clause-foreseen : goal.returns-clause-foreseen
returns-clause-foreseen g c = λ taken values are.
    let told = c.expect_change.ensures.foreseen taken in
    record {
      asked = told.asked;
      asks = record { id = c.in-Some.id.now; one = c.in-Some.ensures values are; lawful = c.may_act.ensures.lawful c.if-not-may_act.false; says = told.asks };
      told = record { between = c.may_act.new.desk; finds = c.may_act.ensures.finds c.if-not-may_act.false; told = told.told; took = c.expect_change.ensures.took taken ∙ (c.may_act.ensures.finds c.if-not-may_act.false).answered };
    }

pub returns-clause-anew : goal.returns-clause-anew
returns-clause-anew g c = λ taken trusted M shown values are.
    let told = c.expect_change.ensures.foreseen taken in
    let noted = c.expect_change.ensures.trust trusted in
    record {
      asked = told.asked;
      asks = record {
        asks = record { id = c.in-Some.id.now; one = c.in-Some.ensures values are; lawful = c.may_act.ensures.lawful c.if-not-may_act.false; says = told.asks };
        anew = c.may_act.ensures.anew c.if-not-may_act.false noted M shown;
      };
      told = record { between = c.may_act.new.desk; finds = c.may_act.ensures.finds c.if-not-may_act.false; told = told.told; took = c.expect_change.ensures.took taken ∙ (c.may_act.ensures.finds c.if-not-may_act.false).answered };
    }
