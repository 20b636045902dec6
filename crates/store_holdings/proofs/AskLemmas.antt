-- What lookups leave of a connection, and of the parts of texts that are kept: none, one, and one behind another.
use Rattle.std.proofs.Common.{◌≡◌, inl, inr, ℕ, ◌≤◌, List, [], get_or, refl, sym, subst, arith}
use Rattle.std.specs.Prelude.{IsTrue, Some, Result, Ok, Err, IfErr, OnOk, OnErr}
use Rattle.std.specs.List.{AllByRecursion}
use Rattle.std.specs.Map.{lookup, remove_entry}
use Rattle.sqlite_trees.specs.declared.store.Store.{Ghosts}
use Rattle.sqlite.specs.Effect.{Database}
use Rattle.sqlite.specs.Held.{Held, state}
use Rattle.sqlite.specs.State.{State, HasCleanDisk, IsUnchanged, Survives}
use Rattle.sqlite.proofs.Callers.{unchanged_then}
use Rattle.sqlite.proofs.StateLemmas.{survives_then}
use Rattle.store_tables.specs.Effects.{WhileOpen}
use Rattle.store_rows.specs.Parts.{parts_of}
use Rattle.store_holdings.specs.HeldTexts.{HoldsText}
use Rattle.store_holdings.specs.KeptTexts.{PartNumbers, same_key, with_text}
use Rattle.store_holdings.proofs.KeptLemmas.{all_without, all_with, all_found}
use Rattle.dict_desk.specs.declared.fault.Fault.{Fault}
use Rattle.dict_desk.specs.declared.fault.Fault.TheVariants.{Memory}
use Rattle.store_holdings.specs.Searches.{IsOfStore, IsReadFrom, IsUnreadEdition, ReadsStore, number_in_column}
use Rattle.store_holdings.specs.CutTexts.{IsPartOf, ArePartsOf, AreOfInstalls, MayKeep, HasText, IsAtMostRead, FailsToFind, KeepsParts}
use Rattle.store_holdings.proofs.LookupLemmas.{fails_behind}
use Rattle.store_holdings.proofs.StateLemmas.{clean_before, each_err, on_ok}

-- a part is put, or a growth is refused
pub put_by : {T E : Type 0} (result : Result T E) (installs : ℕ) (key : PartNumbers) (octets : List ℕ) (old new : List (PartNumbers × List ℕ)) → key.0 ≤ installs → OnOk result (new ≡ with_text key octets old)
    → OnErr result (new ≡ old) → MayKeep installs key octets old new
put_by (Ok value) installs key octets old new low put same = inr (low, put)
put_by (Err error) installs key octets old new low put same = inl same

-- the one that is kept under a number is that part of the text
pub part_kept : (number part : ℕ) (octets : List ℕ) (texts : List (PartNumbers × List ℕ)) → lookup (same_key (number, part)) texts ≡ Some octets → (text : List ℕ) → ArePartsOf number text texts → octets ≡ get_or (parts_of text) part []
part_kept number part octets texts there text are = all_found (IsPartOf number text) (number, part) octets texts there are refl

-- what holds of each holds of each behind it
all_kept : (P : PartNumbers × List ℕ → Type 0) (installs : ℕ) (key : PartNumbers) (octets : List ℕ) (old new : List (PartNumbers × List ℕ)) → MayKeep installs key octets old new → (key.0 ≤ installs → P (key, octets))
    → AllByRecursion P old → AllByRecursion P new
all_kept P installs key octets old new (inl same) one all = subst (AllByRecursion P) (sym same) all
all_kept P installs key octets old new (inr put) one all = subst (AllByRecursion P) (sym put.1) (all_with P key octets old (one put.0) all)

survives_itself : (s : State) → Survives s s (λ _. ⊥)
survives_itself s = record { clean = omega arith; shield = λ h. h; counts = omega arith; limit = refl; closes = λ clean live. inl live; crash = λ clean db may. inl may }

module _ {S : Type 0} (g : Ghosts S) where
  -- ---- a connection that was read from at most

  read_then : (a b c : Held S) → IsAtMostRead g a b → IsAtMostRead g b c → IsAtMostRead g a c
  read_then a b c (inl same) second = subst (λ (h : Held S). IsAtMostRead g h c) same second
  read_then a b c (inr first) (inl same) = inr (subst (λ (h : Held S). IsUnchanged (state g a) (state g h)) (sym same) first)
  read_then a b c (inr first) (inr second) = inr (unchanged_then (state g a) (state g b) (state g c) first second)

  -- what the database showed it shows still
  shows_still : (P : Database → Type 0) (a b : Held S) → IsAtMostRead g a b → (IsTrue (state g a).is_open → P (state g a).now) → IsTrue (state g b).is_open → P (state g b).now
  shows_still P a b (inl same) h live = subst (λ (s : Held S). P (state g s).now) (sym same) (h (subst (λ (s : Held S). IsTrue (state g s).is_open) same live))
  shows_still P a b (inr same) h live = subst P (sym same.0.now_is) (h same.0.was_open)

  -- a failure behind what was read
  find_behind : (number : ℕ) (a b c : Held S) (fault : Fault) → Survives (state g a) (state g b) (λ _. ⊥) → IsAtMostRead g a b → FailsToFind g number b c fault → FailsToFind g number a c fault
  find_behind number a b c fault survives (inl same) h = subst (λ (s : Held S). FailsToFind g number s c fault) same h
  find_behind number a b c fault survives (inr same) (inl h) = inr (inl (subst (λ (s : Held S). IsUnchanged (state g a) (state g s)) (sym h.1) same, subst (IsUnreadEdition (number_in_column number) (state g a)) (sym h.0) tt))
  find_behind number a b c fault survives (inr same) (inr h) = inr (fails_behind (number_in_column number) (state g a) (state g b) (state g c) same survives fault h)

module _ {S : Type 0} {g : Ghosts S} where
  -- ---- how a lookup ends

  -- the store wasn't asked, whether memory was refused or not
  pub reads_none : {T : Type 0} (number : ℕ) (a : Held S) (result : Result T Fault) → IfErr result (λ fault. fault ≡ Memory) → ReadsStore g (IsAtMostRead g) (FailsToFind g number) a a result
  reads_none number a (Ok value) memory = record { same = λ clean. inl refl; failed = λ clean. tt; kinds = tt; mode = λ none. none; survives = survives_itself (state g a) }
  reads_none number a (Err fault) memory = record { same = λ clean. tt; failed = λ clean. inl (memory, refl); kinds = subst IsOfStore (sym memory) tt; mode = λ none. none; survives = survives_itself (state g a) }

  -- another value was given, or the fault was passed on
  pub reads_ok : {T U : Type 0} {Reads : Held S → Held S → Type 0} {FailsToRead Others : Held S → Held S → Fault → Type 0} {a b : Held S} {x : T} {y : U} → ReadsStore g Reads FailsToRead a b (Ok x) → ReadsStore g Reads Others a b (Ok y)
  reads_ok reads = record { same = reads.same; failed = λ clean. tt; kinds = tt; mode = reads.mode; survives = reads.survives }

  pub reads_err : {T U : Type 0} {Reads Others : Held S → Held S → Type 0} {FailsToRead : Held S → Held S → Fault → Type 0} {a b : Held S} {fault : Fault} → ReadsStore g {T = T} Reads FailsToRead a b (Err fault)
      → ReadsStore g {T = U} Others FailsToRead a b (Err fault)
  reads_err reads = record { same = λ clean. tt; failed = reads.failed; kinds = reads.kinds; mode = reads.mode; survives = reads.survives }

  -- what was read from was read from at most
  pub reads_most : {T : Type 0} {FailsToRead Others : Held S → Held S → Fault → Type 0} {a b : Held S} {result : Result T Fault} → ReadsStore g (IsReadFrom g) FailsToRead a b result
      → ((fault : Fault) → FailsToRead a b fault → Others a b fault) → ReadsStore g (IsAtMostRead g) Others a b result
  reads_most {FailsToRead = FailsToRead} {Others = Others} {a = a} {b = b} {result = result} reads weaker = record {
    same = λ clean. on_ok result (IsReadFrom g a b) (IsAtMostRead g a b) (λ same. inr same) (reads.same clean);
    failed = λ clean. each_err result (FailsToRead a b) (Others a b) weaker (reads.failed clean);
    kinds = reads.kinds;
    mode = reads.mode;
    survives = reads.survives;
  }

  -- one was made, and then another
  pub reads_then : {T U : Type 0} {FailsToRead : Held S → Held S → Fault → Type 0} (number : ℕ) {a b c : Held S} {value : T} {result : Result U Fault} → ReadsStore g (IsAtMostRead g) FailsToRead a b (Ok value)
      → ReadsStore g (IsAtMostRead g) (FailsToFind g number) b c result → ReadsStore g (IsAtMostRead g) (FailsToFind g number) a c result
  reads_then number {a} {b} {c} {result = result} first second =
      let read : HasCleanDisk (state g c) → IsAtMostRead g a b = λ clean. first.same (clean_before (state g b) (state g c) second.survives clean) in
      record {
        same = λ clean. on_ok result (IsAtMostRead g b c) (IsAtMostRead g a c) (read_then g a b c (read clean)) (second.same clean);
        failed = λ clean. each_err result (FailsToFind g number b c) (FailsToFind g number a c) (λ (fault : Fault) h. find_behind g number a b c fault first.survives (read clean) h) (second.failed clean);
        kinds = second.kinds;
        mode = λ none. second.mode (first.mode none);
        survives = survives_then (state g a) (state g b) (state g c) (λ _. ⊥) (λ _. ⊥) (λ _. ⊥) (λ _ db none. none) (λ _ db none. none) first.survives second.survives;
      }

  -- where no disk has failed, none had
  pub clean_first : {T : Type 0} {Reads : Held S → Held S → Type 0} {FailsToRead : Held S → Held S → Fault → Type 0} {a b : Held S} {result : Result T Fault} → ReadsStore g Reads FailsToRead a b result
      → HasCleanDisk (state g b) → HasCleanDisk (state g a)
  clean_first {a = a} {b = b} reads clean = clean_before (state g a) (state g b) reads.survives clean

  pub open_still : {T : Type 0} {FailsToRead : Held S → Held S → Fault → Type 0} (P : Database → Type 0) {a b : Held S} {value : T} → ReadsStore g (IsAtMostRead g) FailsToRead a b (Ok value)
      → WhileOpen (state g a) P → WhileOpen (state g b) P
  open_still P {a} {b} reads h = λ clean. shows_still g P a b (reads.same clean) (h (clean_first reads clean))

  -- ---- the parts that are kept

  -- none was asked for
  pub keeps_none : {installs number : ℕ} {a b : Held S} {x : List (PartNumbers × List ℕ)} → KeepsParts g installs number a b x x
  keeps_none = record { texts = λ clean other text are held. are; made = λ made. made }

  -- one was taken out, and it isn't kept
  pub keeps_left : {installs number : ℕ} (part : ℕ) {a b : Held S} {x y : List (PartNumbers × List ℕ)} → y ≡ remove_entry (same_key (number, part)) x → KeepsParts g installs number a b x y
  keeps_left {installs} {number} part {x = x} left = record {
    texts = λ clean other text are held. subst (ArePartsOf other text) (sym left) (all_without (IsPartOf other text) (number, part) x are);
    made = λ made. subst (AreOfInstalls installs) (sym left) (all_without (λ kept. kept.0.0 ≤ installs) (number, part) x made);
  }

  -- one was taken out or read, and may be kept from then on
  module _ (installs number part : ℕ) (old new : Held S) (x y z : List (PartNumbers × List ℕ)) (octets : List ℕ) (first : KeepsParts g installs number old new x y) (may : MayKeep installs (number, part) octets y z)
      (is : HasCleanDisk (state g new) → (text : List ℕ) → HasText (state g old) number text x → octets ≡ get_or (parts_of text) part []) where
    pub keeps_kept : KeepsParts g installs number old new x z
    keeps_kept = record {
      texts = λ clean other text are held.
          all_kept (IsPartOf other text) installs (number, part) octets y z may
          (λ low same.
          is clean text (record {
            kept = subst (λ (n : ℕ). ArePartsOf n text x) (sym same) are;
            held = λ live. subst (λ (n : ℕ). HoldsText (state g old).now n text) (sym same) (held (sym same) live);
          }))
          (first.texts clean other text are held);
      made = λ made. all_kept (λ kept. kept.0.0 ≤ installs) installs (number, part) octets y z may (λ low. low) (first.made made);
    }

  -- some were asked for, and then some more
  pub keeps_then : {T U : Type 0} {FailsToRead Others : Held S → Held S → Fault → Type 0} {installs number : ℕ} {a b c : Held S} {x y z : List (PartNumbers × List ℕ)} {value : T} {result : Result U Fault}
      → ReadsStore g (IsAtMostRead g) FailsToRead a b (Ok value) → KeepsParts g installs number a b x y → ReadsStore g (IsAtMostRead g) Others b c result → KeepsParts g installs number b c y z → KeepsParts g installs number a c x z
  keeps_then {a = a} {b = b} read first later second = record {
    texts = λ clean other text are held.
        let before = clean_first later clean in
        second.texts clean other text (first.texts before other text are held) (λ is. shows_still g (λ (db : Database). HoldsText db other text) a b (read.same before) (held is));
    made = λ made. second.made (first.made made);
  }

  -- the text is there still
  pub has_still : {T : Type 0} {FailsToRead : Held S → Held S → Fault → Type 0} {installs number : ℕ} {a b : Held S} {x y : List (PartNumbers × List ℕ)} {value : T} → ReadsStore g (IsAtMostRead g) FailsToRead a b (Ok value)
      → KeepsParts g installs number a b x y → HasCleanDisk (state g b) → (text : List ℕ) → HasText (state g a) number text x → HasText (state g b) number text y
  has_still {number} {a} {b} read keeps clean text has = record { kept = keeps.texts clean number text has.kept (λ _. has.held); held = shows_still g (λ (db : Database). HoldsText db number text) a b (read.same clean) has.held }
