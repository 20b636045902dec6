use Rattle.std.proofs.Common.{◌∷◌, []}
use Rattle.store_derived.proofs.RunLemmas.{put_are, put_runs}
use Rattle.store_derived.proofs.lists.PlaceLists.push_new.Goals as goal

pub invariant_of-self : goal.invariant_of-self
invariant_of-self c =
    let put = c.put_new.ensures in
    put_are c.put_new.result c.self.inside.places.items c.self.inside.begins c.put_new.new.places.items c.put_new.new.begins (c.args.place ∷ []) c.self.invariant put.places put.begins put.places_refused put.begins_refused

pub returns : goal.returns
returns c =
    let put = c.put_new.ensures in
    put_runs c.put_new.result c.self.inside.places.items c.self.inside.begins c.put_new.new.places.items c.put_new.new.begins (c.args.place ∷ []) c.args.self.now c.self.view_is c.self.invariant put.places put.begins
