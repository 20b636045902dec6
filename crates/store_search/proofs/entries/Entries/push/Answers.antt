use Rattle.store_search.proofs.StoredLemmas.{put_are, put_stored, put_same}
use Rattle.store_search.proofs.entries.Entries.push.Goals as goal

pub invariant_of-self : goal.invariant_of-self
invariant_of-self c =
    let here = c.self.inside in
    let put = c.put_entry.ensures in
    put_are here.keys here.shown c.put_entry.new.keys c.put_entry.new.shown here.spans c.put_entry.new.spans c.args.key.now c.args.shown.now c.args.span c.self.invariant c.requires c.utf8.shown c.put_entry.result put.keys put.shown
    put.spans put.keys_refused put.shown_refused put.spans_refused

pub returns-clause-pushed : goal.returns-clause-pushed
returns-clause-pushed c =
    let here = c.self.inside in
    let put = c.put_entry.ensures in
    put_stored here.keys here.shown c.put_entry.new.keys c.put_entry.new.shown here.spans c.put_entry.new.spans c.args.key.now c.args.shown.now c.args.span c.self.invariant c.requires c.utf8.shown c.put_entry.result c.args.self.now
    c.self.view_is put.keys put.shown put.spans

pub returns-clause-refused : goal.returns-clause-refused
returns-clause-refused c =
    let here = c.self.inside in
    let put = c.put_entry.ensures in
    put_same here.keys here.shown c.put_entry.new.keys c.put_entry.new.shown here.spans c.put_entry.new.spans c.args.key.now c.args.shown.now c.args.span c.self.invariant c.requires c.utf8.shown c.put_entry.result c.args.self.now
    c.self.view_is put.keys_refused put.shown_refused put.spans_refused
