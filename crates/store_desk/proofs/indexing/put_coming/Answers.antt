use Rattle.std.proofs.Common.{List, refl, subst}
use Rattle.std.specs.Prelude.{Some}
use Rattle.std.proofs.lemmas.Result.{on_ok_weaker}
use Rattle.store_search.specs.Entries.{Indexed}
use Rattle.store_desk.specs.Indexed.{HasPutIfSome}
use Rattle.store_desk.proofs.StandingLemmas.{on_err_with}
use Rattle.store_desk.proofs.indexing.put_coming.Goals as goal

pub returns-in_ok-making-in-Install-clause-put : goal.returns-in_ok-making-in-Install-clause-put
returns-in_ok-making-in-Install-clause-put c = rw c.in-Install.is (on_ok_weaker c.put_unmade.result
    (λ put. subst (λ (index : List Indexed). HasPutIfSome c.args.number (Some index) c.args.indexes.now c.put_unmade.new.self) c.in_ok-making-in-Install.ensures put) c.put_unmade.ensures.put)

pub returns-in_ok-making-in-Install-clause-asked : goal.returns-in_ok-making-in-Install-clause-asked
returns-in_ok-making-in-Install-clause-asked c = rw c.in-Install.is (on_err_with _ refl)

pub returns-in_err-making-in-Install-clause-asked : goal.returns-in_err-making-in-Install-clause-asked
returns-in_err-making-in-Install-clause-asked c = rw c.in-Install.is (on_err_with _ refl)
