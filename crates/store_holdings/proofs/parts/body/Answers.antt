use Rattle.std.proofs.Common.{◌≡◌, ◌+◌, ◌-◌, ◌++◌, ℕ, Ok, drop, length, take, subst, arith}
use Rattle.std.proofs.lemmas.Result.{err_from_is_err_and}
use Rattle.store_tables.specs.Effects.{Has}
use Rattle.store_sql.specs.PartTable.{part as part_table}
use Rattle.store_rows.proofs.IntervalLemmas.{cut_further}
use Rattle.store_holdings.proofs.AskLemmas.{clean_first, has_still, keeps_none, keeps_then, open_still, reads_err, reads_none, reads_ok, reads_then}
use Rattle.store_holdings.proofs.CutLemmas.{cut_ended, cut_none, cut_whole}
use Rattle.store_holdings.proofs.TakenLemmas.{more_more, none_more}
use Rattle.store_holdings.proofs.parts.body.Goals as goal

-- ---- part by part

pub parts-init : goal.parts-init
parts-init g c = record {
  reads = reads_none c.args.number c.args.conn.now (Ok c.in-Ok.octets) tt;
  keeps = keeps_none;
  is = λ clean text has. cut_none text c.in-Ok.octets.items c.args.start c.in-Ok.ensures.items;
  fewer = omega (arith, c.in-Ok.ensures.len);
  counted = (0, none_more c.args.rows_taken.now (omega arith));
}

pub put_part-requires : goal.put_part-requires
put_part-requires g c = open_still (Has part_table) c.parts.invariant.reads c.requires

pub parts-preserved : goal.parts-preserved
parts-preserved g c =
    let before = c.parts.invariant in
    record {
      reads = reads_ok (reads_then c.args.number before.reads c.in_ok-put_part.ensures.reads);
      keeps = keeps_then before.reads before.keeps c.put_part.ensures.reads c.put_part.ensures.keeps;
      is = λ clean text has.
          let was = clean_first c.put_part.ensures.reads clean in
          let there = has_still before.reads before.keeps was text has in
          let old = c.parts.octets.items in
          let new = c.put_part.new.to.items in
          let at : c.in-Some.place ≡ c.args.start + c.len-done.result = omega (arith, c.in-Some.ensures) in
          cut_further text old new c.args.start c.len-done.result (omega arith) c.in_ok-put_part.ensures.more (before.is was text has)
          (subst (λ (k : ℕ). new ≡ old ++ take (length new - length old) (drop k text)) at (c.in_ok-put_part.ensures.put clean text there));
      fewer = omega (arith, c.in_ok-put_part.ensures.most);
      counted =
          let first = before.counted in
          let second = c.in_ok-put_part.ensures.counted in
          (first.0 + second.0, more_more c.args.rows_taken.now c.parts.rows_taken c.put_part.new.rows_taken first.0 second.0 first.1 second.1);
    }

pub parts-smaller : goal.parts-smaller
parts-smaller g c = omega (arith, c.in_ok-put_part.ensures.more, c.in_ok-put_part.ensures.most)

-- ---- a part wasn't given

pub returns-in_err-put_part-clause-reads : goal.returns-in_err-put_part-clause-reads
returns-in_err-put_part-clause-reads g c =
    let p = err_from_is_err_and c.from_residual.result c.from_residual.ensures.1 in
    rw (p.1, p.2) (reads_err (reads_then c.args.number c.parts.invariant.reads c.in_err-put_part.ensures.reads))

pub returns-in_err-put_part-clause-keeps : goal.returns-in_err-put_part-clause-keeps
returns-in_err-put_part-clause-keeps g c = keeps_then c.parts.invariant.reads c.parts.invariant.keeps c.put_part.ensures.reads c.put_part.ensures.keeps

-- ---- the text ends

pub returns-in_default-checked_add-clause-value : goal.returns-in_default-checked_add-clause-value
returns-in_default-checked_add-clause-value g c clean text short has =
    let is = c.parts.invariant.is clean text has in
    cut_ended text c.parts.octets.items c.args.start c.args.size is c.parts.invariant.fewer (omega (arith, short, c.in_default-checked_add.ensures))

pub returns-then-len-done-clause-value : goal.returns-then-len-done-clause-value
returns-then-len-done-clause-value g c clean text short has =
    let before = c.parts.invariant in
    let was = clean_first c.put_part.ensures.reads clean in
    let there = has_still before.reads before.keeps was text has in
    let old = c.parts.octets.items in
    let new = c.put_part.new.to.items in
    let at : c.in-Some.place ≡ c.args.start + c.len-done.result = omega (arith, c.in-Some.ensures) in
    let is =
    cut_further text old new c.args.start c.len-done.result (omega arith) c.in_ok-put_part.ensures.more (before.is was text has)
    (subst (λ (k : ℕ). new ≡ old ++ take (length new - length old) (drop k text)) at (c.in_ok-put_part.ensures.put clean text there)) in
    let ends = c.in_ok-put_part.ensures.ended clean text there (omega arith) (omega arith) in
    cut_ended text new c.args.start c.args.size is (omega (arith, c.in_ok-put_part.ensures.most)) (omega (arith, at, ends))

-- ---- all is there

pub returns-clause-value : goal.returns-clause-value
returns-clause-value g c clean text short has = cut_whole text c.parts.octets.items c.args.start c.args.size (c.parts.invariant.is clean text has) (omega arith)

pub returns-then-len-done-clause-reads : goal.returns-then-len-done-clause-reads
returns-then-len-done-clause-reads g c = reads_ok (reads_then c.args.number c.parts.invariant.reads c.in_ok-put_part.ensures.reads)

pub returns-then-len-done-clause-keeps : goal.returns-then-len-done-clause-keeps
returns-then-len-done-clause-keeps g c = keeps_then c.parts.invariant.reads c.parts.invariant.keeps c.put_part.ensures.reads c.put_part.ensures.keeps

pub returns-then-len-done-clause-counted : goal.returns-then-len-done-clause-counted
returns-then-len-done-clause-counted g c =
    let first = c.parts.invariant.counted in
    let second = c.in_ok-put_part.ensures.counted in
    (first.0 + second.0, more_more c.args.rows_taken.now c.parts.rows_taken c.put_part.new.rows_taken first.0 second.0 first.1 second.1)
