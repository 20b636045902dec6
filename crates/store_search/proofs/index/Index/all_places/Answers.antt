use Rattle.std.proofs.Common.{◌≡◌, ap, sym, ◌∙◌, subst, length, rules}
use Rattle.std.specs.List.{range_with_len}
use Rattle.std.specs.Result.{IfOk}
use Rattle.std.proofs.lemmas.List.{length-map}
use Rattle.store_search.specs.Entries.{key_in, keys_of}
use Rattle.store_search.proofs.IndexLemmas.{all_where}
use Rattle.store_search.proofs.index.Index.all_places.Goals as goal

pub returns : goal.returns
returns c =
    let entries = c.args.self.now in
    let size : c.len.result ≡ length entries = search rules in
    let all = ap (range_with_len 0) (size ∙ sym (length-map entries key_in)) ∙ all_where (keys_of entries) in
    subst (λ l. IfOk c.first_places.result (λ places. places.items ≡ l)) all c.first_places.ensures
