use Rattle.net_outlet.specs.Queues.{counts_of}
use Rattle.net_connection.proofs.delivering.deliver_through.Given as goal

abbrev pub ghosts-deliver_from : goal.ghosts-deliver_from
ghosts-deliver_from g a = record {
  taken = g.T.Transport.taken a.transport;
  coming = g.T.Transport.coming a.transport;
  made = g.T.Transport.made a.transport;
  counts = counts_of a.queue;
}
