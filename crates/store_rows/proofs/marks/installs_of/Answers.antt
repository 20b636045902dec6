use Rattle.std.proofs.Common.{◌≡◌, ℕ, [], ◌∷◌, arith, length, get_or}
use Rattle.std.proofs.lemmas.Result.{IfErr-weaker}
use Rattle.store_tables.specs.Typed.{owned_mark}
use Rattle.store_rows.specs.Written.{mark_record}
use Rattle.store_rows.specs.Given.{marks_given, OnDamage}
use Rattle.store_rows.proofs.RecordLemmas.{mark_told, one_mark}
use Rattle.store_rows.proofs.marks.installs_of.Goals as goal

pub returns-clause-damaged : goal.returns-clause-damaged
returns-clause-damaged c =
    let one : length c.args.marks.now ≡ 1 = omega arith in
    let mark = get_or c.args.marks.now 0 c.index-marks-0.result in
    IfErr-weaker c.installs_in.result (λ fault. OnDamage fault ((installs : ℕ) → owned_mark mark.value ≡ mark_record c.args.version installs → ⊥))
    (λ fault. OnDamage fault ((installs : ℕ) → marks_given c.args.marks.now ≡ mark_record c.args.version installs ∷ [] → ⊥))
    (λ fault h. mark_told fault c.args.version (marks_given c.args.marks.now) (owned_mark mark.value) (one_mark c.args.marks.now c.index-marks-0.result one) h) c.installs_in.ensures.damaged
