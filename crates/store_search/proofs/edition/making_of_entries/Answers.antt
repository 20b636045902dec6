use Rattle.std.proofs.Common.{List, [], ◌∷◌, ◌++◌, length, map, sym, ap, ◌∙◌, arith}
use Rattle.std.proofs.lemmas.List.{length-map, take_all}
use Rattle.dict_index.specs.Views.{line_of}
use Rattle.dict_index.specs.declared.entry.Entry.{Entry}
use Rattle.store_search.specs.Entries.{Indexed, entry_of}
use Rattle.store_search.proofs.EditionLemmas.{mapped_twice, one_more}
use Rattle.store_search.proofs.edition.making_of_entries.Goals as goal

pub loop-entry-preserved : goal.loop-entry-preserved
loop-entry-preserved c =
    c.in_ok-push.ensures.pushed ∙ ap (λ (l : List Indexed). l ++ entry_of (line_of c.entry-item.result) ∷ []) c.loop-entry.invariant
    ∙ one_more (λ (entry : Entry). entry_of (line_of entry)) c.args.entries.now c.loop-entry.entry-index c.entry-item.result (omega arith) c.entry-item.is

pub making-requires : goal.making-requires
making-requires c =
    let all = c.loop-entry.invariant ∙ ap (map (λ (entry : Entry). entry_of (line_of entry))) (take_all c.loop-entry.entry-index c.args.entries.now (omega arith)) in
    omega (arith, ap length all, length-map c.args.entries.now (λ (entry : Entry). entry_of (line_of entry)), c.requires)

pub returns : goal.returns
returns c =
    let all = c.loop-entry.invariant ∙ ap (map (λ (entry : Entry). entry_of (line_of entry))) (take_all c.loop-entry.entry-index c.args.entries.now (omega arith)) in
    c.making.ensures.same ∙ all ∙ sym (mapped_twice line_of entry_of c.args.entries.now)
