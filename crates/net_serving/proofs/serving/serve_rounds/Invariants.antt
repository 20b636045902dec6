use Rattle.std.proofs.Common.{◌≡◌, ◌<◌, ◌+◌, ◌^◌, List}
use Rattle.std.specs.Duration.{as_nanos}
use Rattle.net_serving.specs.Serving.{AreServed, IsFirstStretch, IsNew, IsOpen, IsOpenBehind, Stretch, WasOpened}
use Rattle.net_serving.proofs.DeedLemmas.{GoneOn}
use Rattle.net_serving.proofs.StretchLemmas.{GoesOn}
use Rattle.net_serving.proofs.serving.serve_rounds.Given as goal

abbrev pub invariant-loop-pending : goal.invariant-loop-pending
invariant-loop-pending g l = record {
  served : (stretches : List (Stretch _)) × AreServed g.K.Lookup.shows g.K.Lookup.leaves_one_of g.K.Lookup.keeps_beside g.K.Lookup.is_trusted g.D.DeskOpener.is_opened g.K.Lookup.has_failed g.K.Lookup.is_closed g.K.Preparer.expects
      g.K.Preparer.prepares
      (as_nanos l.fn.wait) stretches l.fn.driver l.driver
      × IsFirstStretch l.fn.rounds l.fn.desk stretches
      × (0 < l.pending.left → GoesOn g.K.Lookup.shows g.K.Lookup.leaves_one_of g.K.Lookup.keeps_beside g.K.Lookup.is_trusted g.D.DeskOpener.is_opened g.K.Lookup.is_closed l.fn.rounds l.fn.desk stretches l.pending.desk l.pending.left)
      × GoneOn l.fn.path l.fn.desk stretches l.pending.desk l.pending.left (g.D.DeskOpener.history l.fn.desks) (g.D.DeskOpener.history l.desks)
      × IsOpenBehind g.K.Lookup.shows g.K.Lookup.leaves_one_of g.K.Lookup.keeps_beside g.K.Lookup.is_trusted g.D.DeskOpener.is_opened g.K.Lookup.is_closed l.fn.desk stretches l.pending.desk l.pending.left;
  opened : 0 < l.pending.left → IsNew g.K.Lookup.shows g.K.Lookup.leaves_one_of g.K.Lookup.is_trusted (WasOpened g.D.DeskOpener.is_opened) l.pending.desk;
  stands : IsOpen g.K.Lookup.is_closed (IsNew g.K.Lookup.shows g.K.Lookup.leaves_one_of g.K.Lookup.is_trusted (WasOpened g.D.DeskOpener.is_opened)) l.pending.desk;
  made : l.fn.driver.event_loop.rounds + l.fn.rounds < 2 ^ 64 → l.driver.event_loop.rounds + l.pending.left ≡ l.fn.driver.event_loop.rounds + l.fn.rounds;
}

abbrev pub decreases-loop-pending : goal.decreases-loop-pending
decreases-loop-pending g l = l.pending.left
