use Rattle.std.proofs.Common.{◌≡◌, ◌<◌, ◌≤◌, ◌+◌, ◌-◌, pos, length, slice_index_or, [], arith, rules, sym, subst, ◌∙◌}
use mir.Syntax.{w64}
use mir.Val.{SFits}
use Rattle.store_holdings.specs.Files.{parts_under}
use Rattle.store_rows.specs.FileParts.{part_at}
use Rattle.store_rows.specs.Parts.{parts_of}
use Rattle.store_holdings.proofs.FilePlaceLemmas.{both_length, first_at, second_at}
use Rattle.store_migration.proofs.KitLemmas.{signed_back, lent_part}
use Rattle.store_migration.proofs.files.EditionFiles.part.Goals as goal

pub part_of-requires-else-place-before : goal.part_of-requires-else-place-before
part_of-requires-else-place-before c =
    let files = c.args.self.now in
    let both : length (parts_under files.number files.index.now files.text.now) ≡ length (parts_of files.index.now) + length (parts_of files.text.now) = both_length files.number files.index.now files.text.now in
    let place : c.args.place < length (parts_under files.number files.index.now files.text.now) = c.requires in
    omega (arith, place, both, c.part_count-before.ensures.count, c.if-place-before.false)

pub returns-then-place-before : goal.returns-then-place-before
returns-then-place-before c =
    let files = c.args.self.now in
    let fits : SFits w64 files.number = search rules in
    let low : c.args.place < length (parts_of files.index.now) = omega (arith, c.part_count-before.ensures.count, c.if-place-before.true) in
    (rw (signed_back files.number fits) at c.part_of.ensures) ∙ sym (first_at files.number files.index.now files.text.now c.args.place (lent_part c.part_of.result) low)

pub returns-else-place-before : goal.returns-else-place-before
returns-else-place-before c =
    let files = c.args.self.now in
    let fits : SFits w64 files.number = search rules in
    let n = length (parts_of files.index.now) in
    let behind : n ≤ c.args.place = omega (arith, c.part_count-before.ensures.count, c.if-place-before.false) in
    let one = c.part_of-else-place-before.result in
    subst (λ k. lent_part one ≡ part_at files.number (pos 1) (c.args.place - k) (slice_index_or (parts_of files.text.now) (c.args.place - k) [])) c.part_count-before.ensures.count
    (rw (signed_back files.number fits) at c.part_of-else-place-before.ensures)
    ∙ sym (second_at files.number files.index.now files.text.now c.args.place (lent_part one) behind c.requires)
