use Rattle.net_driver.proofs.binding.bind_both.Goals as goal

pub returns-in-Err-watch : goal.returns-in-Err-watch
returns-in-Err-watch g c = (
  (c.in-Ok.bound.0, c.in-Ok.bound.1, c.in-Ok.ensures),
  (c.in-Ok-listen.bound.0, c.in-Ok-listen.bound.1, c.in-Ok-listen.ensures),
  c.in-Err-watch.ensures,
)
