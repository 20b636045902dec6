use Rattle.std.proofs.Common.{◌≡◌, ◌++◌, List, map, sym, subst, ◌∙◌}
use Rattle.std.proofs.lemmas.Int.{to_z-of_z}
use mir.Syntax.{w64}
use Rattle.std.proofs.lemmas.Result.{on_ok_weaker}
use Rattle.store_tables.specs.Records.{EntryRecord}
use Rattle.store_scans.specs.Entries.{AreNextTaken, IsStoredIndexOf}
use Rattle.store_scans.specs.Indexing.{indexed_of}
use Rattle.store_scans.proofs.LineLemmas.{index_read}
use Rattle.store_scans.proofs.TakerLemmas.{if_err_then}
use Rattle.store_scans.proofs.index.read_index.Goals as goal

pub returns-in_default-clause-damaged : goal.returns-in_default-clause-damaged
returns-in_default-clause-damaged c = λ is n e. absurd (c.in_default.ensures.below n (to_z-of_z w64 c.args.number c.ranges.number ∙ e))

pub returns-clause-read : goal.returns-clause-read
returns-clause-read c =
    let first = c.args.reader.now in
    let last = c.read_lines.new.reader in
    on_ok_weaker c.read_lines.result
    (λ read. subst (λ n. (all : List EntryRecord) × IsStoredIndexOf n c.args.octets.now all × AreNextTaken n first.reader last.reader all × (last.index ≡ first.index ++ map indexed_of all))
    (sym c.in-Some.ensures.number ∙ to_z-of_z w64 c.args.number c.ranges.number) (index_read c.in-Some._number first last c.args.octets.now read))
    c.read_lines.ensures.read

pub returns-clause-damaged : goal.returns-clause-damaged
returns-clause-damaged c = if_err_then _ _ c.read_lines.result (λ fault wrong is n e. wrong is) c.read_lines.ensures.damaged
