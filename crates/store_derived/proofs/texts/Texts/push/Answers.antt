use Rattle.store_derived.proofs.RunLemmas.{put_are, put_runs}
use Rattle.store_derived.proofs.texts.Texts.push.Goals as goal

pub invariant_of-self : goal.invariant_of-self
invariant_of-self c =
    let put = c.put_text.ensures in
    put_are c.put_text.result c.self.inside.octets.items c.self.inside.begins c.put_text.new.octets.items c.put_text.new.begins c.args.text.now c.self.invariant put.octets put.begins put.octets_refused put.begins_refused

pub returns-clause-pushed : goal.returns-clause-pushed
returns-clause-pushed c =
    let put = c.put_text.ensures in
    put_runs c.put_text.result c.self.inside.octets.items c.self.inside.begins c.put_text.new.octets.items c.put_text.new.begins c.args.text.now c.args.self.now c.self.view_is c.self.invariant put.octets put.begins
