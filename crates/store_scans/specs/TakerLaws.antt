-- Nothing was taken: the laws of what takes records.
use Rattle.std.proofs.Common.{ℕ, List, [], refl, sym, subst, append-nil}
use Rattle.sqlite.specs.Order.{Row}
use Rattle.store_rows.specs.Parts.{parts_of}
use Rattle.store_rows.specs.Apart.{HasTakenIds, HasTakenRowids}
use Rattle.store_rows.specs.Taken.{HasTaken}
use Rattle.store_tables.specs.Records as spec
use Rattle.store_rows.specs.declared.reader.Reader.{Reader}
use Rattle.store_rows.specs.declared.apart.IdReader.{IdReader}
use Rattle.store_rows.specs.declared.apart.RowidReader.{RowidReader}
use Rattle.store_sql.specs.PartRecords.{stored_part}
use Rattle.store_scans.specs.declared.census.Census.{Census}
use Rattle.store_scans.specs.declared.census.PartCensus.{PartCensus}
use Rattle.store_scans.specs.declared.indexing_reader.IndexingReader.{IndexingReader}
use Rattle.store_scans.specs.Takers.{takes_rowids, takes_replies, takes_ids}
use Rattle.store_scans.specs.Entries.{AreTaken}
use Rattle.store_scans.specs.IndexingReader.{AreTakenAndIndexed, takes_plain, takes_old, takes_shown}
use Rattle.store_scans.specs.Files.{TakesParts}
use Rattle.store_scans.specs.Census.{TakesCensus, TakesPartCensus}

pub no_rowids : {R : Type 0} (stored : R → Row) (rowids : RowidReader) → takes_rowids stored rowids [] rowids
no_rowids stored rowids = ([], refl, λ before h. subst (HasTakenRowids rowids) (sym (append-nil before)) h)

pub no_taken : (reader : Reader) → AreTaken reader reader []
no_taken reader version taken h = subst (λ (entries : List spec.EntryRecord). HasTaken version reader (record taken { entries = entries })) (sym (append-nil taken.entries)) h

pub no_added : (taker : IndexingReader) → AreTakenAndIndexed taker taker []
no_added taker = record { taken = no_taken taker.reader; index = sym (append-nil taker.index) }

pub no_plain : (taker : IndexingReader) → takes_plain taker [] taker
no_plain = no_added

pub no_old : (taker : IndexingReader) → takes_old taker [] taker
no_old = no_added

pub no_shown : (taker : IndexingReader) → takes_shown taker [] taker
no_shown = no_added

pub no_replies : (reader : Reader) → takes_replies reader [] reader
no_replies reader version taken h = subst (λ (kept : List spec.KeptRecord). HasTaken version reader (record taken { kept = kept })) (sym (append-nil taken.kept)) h

pub no_ids : (ids : IdReader) → takes_ids ids [] ids
no_ids ids before h = subst (HasTakenIds ids) (sym (append-nil before)) h

pub no_parts : (octets : List ℕ) → TakesParts octets [] octets
no_parts octets = record { parts = sym (append-nil (parts_of octets)); numbers = refl }

pub no_census : {R : Type 0} (stored : R → Row) (census : Census) → TakesCensus stored census [] census
no_census stored census = record { numbers = refl; rowids = no_rowids stored census.rowids; known = tt }

pub no_part_census : (census : PartCensus) → TakesPartCensus census [] census
no_part_census census = record { numbers = refl; orphans = refl; rowids = no_rowids stored_part census.rowids; known = tt }
