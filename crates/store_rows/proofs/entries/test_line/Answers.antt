use Rattle.std.proofs.Common.{rules}
use Rattle.dict_index.specs.WellFormed.{IsEntryHeadword, IsEditionText}
use Rattle.store_rows.specs.Given.{line_with}
use Rattle.store_rows.proofs.RecordLemmas.{line_told}
use Rattle.store_rows.proofs.entries.test_line.Goals as goal

pub returns-clause-is : goal.returns-clause-is
returns-clause-is c =
    let lawful : IsEditionText c.in-Some.body.now = c.is_edition_text.ensures.0 c.if-not-is_edition_text.false in
    line_told c.args.text.now c.in-Some.body.now (line_with c.args.headword.now c.args.offset c.args.size c.args.shown.now)
    c.in-Some.ensures.0 c.in-Some.ensures.1 lawful (let told = rw c.in-Some-2.is at c.in_ok-entry_key.ensures in let h : IsEntryHeadword c.args.headword.now = search (rules, told.0) in h)
    (c.is_shown.ensures.0 c.if-not-is_shown.false)
