use Rattle.std.proofs.Common.{◌≡◌, length, arith}
use Rattle.net_hub.proofs.HubLemmas.{keep_others}
use Rattle.net_hub.proofs.RunLemmas.{count_kept}
use Rattle.net_hub.proofs.hub.Hub.opened.Goals as goal

pub returns-clause-others : goal.returns-clause-others
returns-clause-others g c = λ other held ne at.
    let even : length c.args.self.now.lines.items ≡ length c.args.self.now.book.ids.items = omega (arith, c.args.self.now.even, c.args.self.now.lines.ok.0, c.args.self.now.book.ids.ok.0) in
    keep_others c.args.self.now.host.now _ c.args.self.now.book.ids.items _ c.args.self.now.lines.items c.reserve.new.self.items _ c.args.id c.greet-out.new.self c.greet-out.result even
    c.reserve.ensures.items c.keep.ensures.host c.keep.ensures.more c.keep.ensures.close other held ne at

pub returns-clause-count : goal.returns-clause-count
returns-clause-count g c = count_kept c.args.self.now.book.ids.items c.keep.new.self.book.ids.items c.args.id c.args.kind c.greet-out.result _ _ c.keep.ensures.more c.keep.ensures.close
