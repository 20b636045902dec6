-- Why a call that reads the catalogue fails.
use Rattle.std.proofs.Common.{◌≡◌, inl, inr, ℕ, Bool, List, filter, refl, sym, subst}
use Rattle.std.specs.Prelude.{Result, IfErr, IsErrAnd}
use Rattle.std.specs.List.{AllByRecursion}
use Rattle.sqlite.specs.Order.{Row}
use Rattle.sqlite.specs.declared.error.Error.{Error}
use Rattle.sqlite.specs.State.{State, IsUnchanged}
use Rattle.dict_text.proofs.AllLemmas.{all_filter}
use Rattle.store_sql.specs.Columns.{Content, HasColumns}
use Rattle.store_tables.specs.Effects.{rows_of, FailsToRead}
use Rattle.store_sql.specs.Reads.{FailsToList}
use Rattle.store_sql.proofs.StreamLemmas.{passed_on}
use Rattle.store_sql.specs.declared.records.ReadError.{ReadError}
use Rattle.store_sql.specs.declared.records.ReadError.TheVariants.{NoRecord, Store}
use Rattle.dict_catalogue.specs.Steps.{Catalogue}
use Rattle.dict_desk.specs.declared.fault.Fault.{Fault}
use Rattle.dict_desk.specs.declared.fault.Fault.TheVariants.{Memory}
use Rattle.store_holdings.proofs.LookupLemmas.{all_contains}
use Rattle.store_holdings.specs.Faults.{fault_of, fault_of_read, IsUnreadCatalogue, FailsToReadCatalogue}
use Rattle.store_holdings.specs.Holds.{Holds}
use Rattle.store_rows.specs.Versions.{known}

pub read_fails : (old new : State) (e : Error) → FailsToRead old new e → FailsToReadCatalogue old new (fault_of e)
read_fails old new e (inl fails) = inr (e, refl, fails)
read_fails old new e (inr limit) = inl (limit.2, subst (λ e. IsUnreadCatalogue old (fault_of e)) (sym limit.0) (inl limit.1))

-- some rows of a table could not be read, each of which stands for a record in a catalogue
pub list_fails : (name : List ℕ) (test : Row → Bool) (columns : List Content) (old new : State) → ((M : Catalogue) → Holds known old.now M → AllByRecursion (HasColumns columns) (rows_of name old.now))
    → (e : ReadError) → FailsToList columns (filter test (rows_of name old.now)) old new e → FailsToReadCatalogue old new (fault_of_read e)
list_fails name test columns old new readable NoRecord h =
    inl (h.0, inr (λ M holds. h.1.2 (all_contains (HasColumns columns) (filter test (rows_of name old.now)) h.1.0 (all_filter (HasColumns columns) test (rows_of name old.now) (readable M holds)) h.1.1)))
list_fails name test columns old new readable (Store e) (inl fails) = read_fails old new e fails
list_fails name test columns old new readable (Store e) (inr refused) = inl (refused.0, subst (λ e. IsUnreadCatalogue old (fault_of e)) (sym refused.1) tt)

-- a growth was refused after what was read
pub refused_memory : {X : Type 0} (old new : State) (result : Result X Fault) → IsErrAnd result (λ fault. fault ≡ Memory) → IsUnchanged old new → IfErr result (FailsToReadCatalogue old new)
refused_memory old new result is same = passed_on (FailsToReadCatalogue old new) Memory result is (inl (same, tt))
