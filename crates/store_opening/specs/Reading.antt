-- What calls that only read leave of a connection, and why they fail: as `store_scans` tells it.
pub use Rattle.store_scans.specs.Reading.{Same, StaysUnlessShut, OnlyReads, IsVast, HasFailedToRead, IsExcusedReading, IsOfOpening, fault_of_store, reading_fault_of, fault_of_rows, fault_told}
