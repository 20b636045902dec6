use Rattle.dict_match.specs.declared.strategy.Strategy.TheVariants.{Prefix, Suffix}
use Rattle.dict_match.proofs.DecideLemmas.{fit_law}
use Rattle.dict_match.proofs.matching.fits.Goals as goal

pub returns-in-Prefix : goal.returns-in-Prefix
returns-in-Prefix c = rw (c.in-Prefix.is, c.starts_with.ensures.value) (fit_law Prefix c.args.query.now c.args.key.now)

pub returns-in-Suffix : goal.returns-in-Suffix
returns-in-Suffix c = rw (c.in-Suffix.is, c.ends_with.ensures.value) (fit_law Suffix c.args.query.now c.args.key.now)
