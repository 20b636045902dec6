use Rattle.std.proofs.Common.{◌≡◌, ap, length, sym, ◌∙◌}
use Rattle.dict_index.specs.Edition.{Edition}
use Rattle.dict_desk.specs.Shown.{count_of}
use Rattle.dict_desk.specs.declared.lookup.What.{What}
use Rattle.store_search.specs.Found.{found_entries, found_headwords}
use Rattle.store_search.specs.declared.found.Counted.{Counted}
use Rattle.store_holdings.specs.CutTexts.{IsIndexOf}
use Rattle.store_holdings.proofs.IndexLemmas.{entries_counted, headwords_counted, fewer_of}
use Rattle.store_holdings.proofs.StateLemmas.{each_ok}
use Rattle.store_holdings.proofs.lookups.counted.Goals as goal

pub returns-in-Entries-clause-count : goal.returns-in-Entries-clause-count
returns-in-Entries-clause-count c =
    let index = c.args.index.now in
    let query = c.args.query.now in
    each_ok c.count_entries.result (λ (counted : Counted). counted.count ≡ length (found_entries c.args.strategy query index))
    (λ (counted : Counted). (edition : Edition) → IsIndexOf index edition → counted.count ≡ count_of c.args.what c.args.strategy query edition)
    (λ counted h edition is. h ∙ (entries_counted c.args.strategy query index edition c.edition_laws.ensures.entries_counted is
    ∙ ap (λ (what : What). count_of what c.args.strategy query edition) (sym c.in-Entries.is))) c.count_entries.ensures.count

pub returns-in-Headwords-clause-count : goal.returns-in-Headwords-clause-count
returns-in-Headwords-clause-count c =
    let index = c.args.index.now in
    let query = c.args.query.now in
    each_ok c.count_headwords.result (λ (counted : Counted). counted.count ≡ length (found_headwords c.args.strategy query index))
    (λ (counted : Counted). (edition : Edition) → IsIndexOf index edition → counted.count ≡ count_of c.args.what c.args.strategy query edition)
    (λ counted h edition is. h ∙ (headwords_counted c.args.strategy query index edition c.edition_laws.ensures.headwords_counted is
    ∙ ap (λ (what : What). count_of what c.args.strategy query edition) (sym c.in-Headwords.is))) c.count_headwords.ensures.count

pub returns-in-Entries-clause-fewer : goal.returns-in-Entries-clause-fewer
returns-in-Entries-clause-fewer c = fewer_of c.args.strategy c.args.query.now c.args.index.now c.edition_laws.ensures.entries_counted c.count_entries.result c.count_entries.ensures.fewer

pub returns-in-Headwords-clause-fewer : goal.returns-in-Headwords-clause-fewer
returns-in-Headwords-clause-fewer c = fewer_of c.args.strategy c.args.query.now c.args.index.now c.edition_laws.ensures.entries_counted c.count_headwords.result c.count_headwords.ensures.fewer
