use Rattle.std.proofs.Common.{◌≡◌, ap, ◌∙◌, subst}
use Rattle.std.specs.Result.{IfOk}
use Rattle.std.specs.Str.{bytes_eq}
use Rattle.store_search.specs.Entries.{keys_of}
use Rattle.store_places.specs.Places.{places_where}
use Rattle.store_search.proofs.IndexLemmas.{exact_where}
use Rattle.store_search.proofs.index.Index.with_key.Goals as goal

pub returns : goal.returns
returns c =
    let key = c.args.key.now in
    let keys = c.keys.result.now in
    let same = exact_where key keys ∙ ap (places_where (λ other. bytes_eq other key)) (c.keys.ensures.keys ∙ ap keys_of c.self.view_is) in
    subst (λ l. IfOk c.places_between.result (λ places. places.items ≡ l)) same c.places_between.ensures
