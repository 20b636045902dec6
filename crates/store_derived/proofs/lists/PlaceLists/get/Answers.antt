use Rattle.std.proofs.Common.{◌≡◌, ◌+◌, ◌≤◌, ◌<◌, length, get_or, ap, ◌∙◌, arith, rules}
use Rattle.std.proofs.lemmas.List.{get_or_default}
use Rattle.store_derived.specs.Runs.{end_at}
use Rattle.store_derived.proofs.RunLemmas.{run_past, run_read, end_bounds}
use Rattle.store_derived.proofs.lists.PlaceLists.get.Goals as goal

pub returns-then-at-len : goal.returns-then-at-len
returns-then-at-len c =
    let past : length c.self.inside.begins ≤ c.args.at = search rules in
    run_past c.self.inside.places.items c.self.inside.begins c.args.self.now c.args.at c.self.view_is past

pub slice_bounds-result-count : goal.slice_bounds-result-count
slice_bounds-result-count c =
    let all = c.self.inside.places.items in
    let begins = c.self.inside.begins in
    let at = c.args.at in
    let within : at < length begins = search rules in
    let long : c.len-len.result ≡ length all = search rules in
    let from : c.get_or-from.result ≡ get_or begins at 0 = c.get_or-from.ensures ∙ get_or_default begins at c.len-len.result 0 within in
    let to : c.get_or-to.result ≡ end_at all begins at = c.get_or-to.ensures ∙ ap (get_or begins (at + 1)) long in
    let bounds = end_bounds all begins at c.self.invariant within in
    omega (arith, from, to, bounds.0)

pub slice_bounds-result-start : goal.slice_bounds-result-start
slice_bounds-result-start c = slice_bounds-result-count c

pub slice_bounds-result-end-2 : goal.slice_bounds-result-end-2
slice_bounds-result-end-2 c =
    let all = c.self.inside.places.items in
    let begins = c.self.inside.begins in
    let at = c.args.at in
    let within : at < length begins = search rules in
    let long : c.len-len.result ≡ length all = search rules in
    let to : c.get_or-to.result ≡ end_at all begins at = c.get_or-to.ensures ∙ ap (get_or begins (at + 1)) long in
    let bounds = end_bounds all begins at c.self.invariant within in
    let size : length c.deref.result.now ≡ length all = ap length c.deref.ensures.value in
    omega (arith, to, size, bounds.1)

pub returns : goal.returns
returns c =
    let all = c.self.inside.places.items in
    let begins = c.self.inside.begins in
    let at = c.args.at in
    let within : at < length begins = search rules in
    let long : c.len-len.result ≡ length all = search rules in
    let from : c.get_or-from.result ≡ get_or begins at 0 = c.get_or-from.ensures ∙ get_or_default begins at c.len-len.result 0 within in
    let to : c.get_or-to.result ≡ end_at all begins at = c.get_or-to.ensures ∙ ap (get_or begins (at + 1)) long in
    run_read all begins c.deref.result.now c.args.self.now at c.get_or-from.result c.get_or-to.result c.self.view_is within c.deref.ensures.value from to
