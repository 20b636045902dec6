use Rattle.store_tables.proofs.MadeLemmas.{made_own, kept_own}
use Rattle.store_tables.proofs.laws.made_laws.Goals as goal

pub returns-clause-made : goal.returns-clause-made
returns-clause-made c = made_own

pub returns-clause-kept : goal.returns-clause-kept
returns-clause-kept c = kept_own
