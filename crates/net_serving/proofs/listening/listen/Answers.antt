use Rattle.std.proofs.Common.{inr}
use Rattle.net_serving.proofs.ListenLemmas.{told_front}
use Rattle.net_serving.proofs.listening.listen.Goals as goal

pub returns-clause-begins : goal.returns-clause-begins
returns-clause-begins g c = inr (
  c.in-Ok.driver,
  c.in-Ok.ensures.binds,
  told_front c.in-Ok.driver.addresses c.addresses-dict.result c.in-Err-put_addresses.fault _ c.addresses-dict.ensures c.in-Err-put_addresses.ensures,
)
