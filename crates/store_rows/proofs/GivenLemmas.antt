-- Records that are given one after another.
use Rattle.std.proofs.Common.{◌≡◌, ℕ, suc, pos, ◌+◌, ◌<◌, true, false, List, [], ◌∷◌, ◌++◌, length, take, drop, get_or, ap, sym, ◌∙◌, append-nil}
use Rattle.std.specs.Prelude.{string_bytes, bytes_eq, String}
use Rattle.std.specs.declared.alloc.Global.{Global}
use Rattle.store_tables.specs.Records as spec
use Rattle.store_tables.specs.Typed.{owned_member}
use Rattle.store_tables.specs.declared.records.Member.{Member}
use Rattle.store_tables.specs.declared.records.StoredRow.{StoredRow as Row}
use Rattle.store_rows.specs.Tables.{members_of_owner}
use Rattle.store_rows.specs.Written.{numbered, member_record}
use Rattle.store_rows.specs.Given.{members_given, OnDamage}
use Rattle.store_rows.specs.declared.fault.RowsFault.{RowsFault}
use Rattle.store_rows.specs.declared.fault.RowsFault.TheVariants.{Damaged, Memory}
use Rattle.store_rows.proofs.ListLemmas.{numbered_length, numbered_push, next_is, filter_more, filter_rest}

-- members

pub other_owner : (rows : List (Row (Member (String Global)))) (i : ℕ) (row : Row (Member (String Global))) (owner : List ℕ) → i < length rows → row ≡ get_or rows i row → bytes_eq (string_bytes row.value.owner) owner ≡ false →
    members_of_owner owner (members_given (take (i + 1) rows)) ≡ members_of_owner owner (members_given (take i rows))
other_owner rows i row owner lt is named =
    filter_more (λ (one : Row (Member (String Global))). owned_member one.value) (λ one. bytes_eq one.owner owner) rows i row false lt is named ∙ append-nil _

pub next_member : (rows : List (Row (Member (String Global)))) (i : ℕ) (row : Row (Member (String Global))) (owner : List ℕ) (names after : List (List ℕ)) →
    i < length rows → row ≡ get_or rows i row → bytes_eq (string_bytes row.value.owner) owner ≡ true → string_bytes row.value.owner ≡ owner →
    members_of_owner owner (members_given (take i rows)) ≡ numbered (member_record owner) 0 names → row.value.ord ≡ pos (length names) → after ≡ names ++ string_bytes row.value.name ∷ [] →
    members_of_owner owner (members_given (take (i + 1) rows)) ≡ numbered (member_record owner) 0 after
next_member rows i row owner names after lt is named same done place push =
    filter_more (λ (one : Row (Member (String Global))). owned_member one.value) (λ one. bytes_eq one.owner owner) rows i row true lt is named
    ∙ (λ j. done j ++ record { owner = same j; ord = place j; name = string_bytes row.value.name } ∷ [])
    ∙ sym (numbered_push (member_record owner) names (string_bytes row.value.name))
    ∙ ap (numbered (member_record owner) 0) (sym push)

pub wrong_member : (rows : List (Row (Member (String Global)))) (i : ℕ) (row : Row (Member (String Global))) (owner : List ℕ) (names all : List (List ℕ)) →
    i < length rows → row ≡ get_or rows i row → bytes_eq (string_bytes row.value.owner) owner ≡ true →
    members_of_owner owner (members_given (take i rows)) ≡ numbered (member_record owner) 0 names → (row.value.ord ≡ pos (length names) → ⊥) →
    members_of_owner owner (members_given rows) ≡ numbered (member_record owner) 0 all → ⊥
wrong_member rows i row owner names all lt is named done wrong whole =
    let cut = filter_rest (λ (one : Row (Member (String Global))). owned_member one.value) (λ one. bytes_eq one.owner owner) rows i row lt is named in
    let found = next_is (member_record owner) all (members_of_owner owner (members_given (take i rows))) (members_of_owner owner (members_given (drop (suc i) rows))) (owned_member row.value) (sym cut ∙ whole) in
    let many : length (members_of_owner owner (members_given (take i rows))) ≡ length names = ap length done ∙ numbered_length (member_record owner) 0 names in
    wrong (ap (λ (r : spec.Member). r.ord) found.1 ∙ ap pos many)

pub wrong_member_told : (fault : RowsFault) (rows : List (Row (Member (String Global)))) (i : ℕ) (row : Row (Member (String Global))) (owner : List ℕ) (names : List (List ℕ)) →
    i < length rows → row ≡ get_or rows i row → bytes_eq (string_bytes row.value.owner) owner ≡ true →
    members_of_owner owner (members_given (take i rows)) ≡ numbered (member_record owner) 0 names → OnDamage fault (row.value.ord ≡ pos (length names) → ⊥) →
    OnDamage fault ((all : List (List ℕ)) → members_of_owner owner (members_given rows) ≡ numbered (member_record owner) 0 all → ⊥)
wrong_member_told Damaged rows i row owner names lt is named done wrong = λ all whole. wrong_member rows i row owner names all lt is named done wrong whole
wrong_member_told Memory rows i row owner names lt is named done wrong = tt
