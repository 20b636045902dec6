use Rattle.store_desk.proofs.laws.committed_may_stay.Goals as goal

pub returns : goal.returns
returns g c = g.met.S.Store.stays c.args.conn.now.store
