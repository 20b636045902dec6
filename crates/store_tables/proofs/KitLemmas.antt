-- The lemmas of sqlite's inner crates that the proofs of this crate and of the statements' above it cite: a new toolchain that moves one is met here.
pub use Rattle.sqlite_catalog.proofs.LayoutLemmas.{index_owner}
pub use Rattle.sqlite_catalog.proofs.SoundLemmas.{lowered}
pub use Rattle.sqlite_catalog.proofs.StepLemmas.{no_index, no_table, no_view, same_itself, table_below}
pub use Rattle.sqlite_rules.proofs.ActionLemmas.{no_works}
pub use Rattle.sqlite_rules.proofs.ListLemmas.{all_from, all_has, has_filtered, has_left, has_right, test_from, test_has}
pub use Rattle.sqlite_rules.proofs.RuleLemmas.{refers_same}
pub use Rattle.sqlite_value.proofs.OrderLemmas.{value_cmp-Int, value_cmp_total}
