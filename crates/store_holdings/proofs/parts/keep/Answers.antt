use Rattle.store_holdings.proofs.AskLemmas.{put_by}
use Rattle.store_holdings.proofs.parts.keep.Goals as goal

pub returns : goal.returns
returns c =
    put_by c.put-put.result c.args.installs (c.args.number, c.args.part) c.args.octets.items c.args.texts.now c.put-put.new.self c.if-number-installs.false c.put-put.ensures.put c.put-put.ensures.refused
