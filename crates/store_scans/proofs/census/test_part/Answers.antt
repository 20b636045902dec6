use Rattle.std.proofs.Common.{◌≡◌, true, false, rules, sym, subst, ◌∙◌}
use Rattle.std.proofs.lemmas.Int.{to_z-of_z}
use mir.Syntax.{w64}
use mir.Val.{SFits}
use Rattle.store_rows.specs.Order.{is_of}
use Rattle.store_scans.proofs.CensusLemmas.{known_stands, unknown_stands}
use Rattle.store_scans.proofs.TakerLemmas.{ok_always}
use Rattle.store_scans.proofs.census.test_part.Goals as goal

pub returns-then-is_in_file-clause-passes : goal.returns-then-is_in_file-clause-passes
returns-then-is_in_file-clause-passes c =
    let edition = c.args.part.now.part.edition in
    let fits : SFits w64 edition = search rules in
    let is = subst (λ m. c.is_one_of.result ≡ is_of c.args.numbers.now m) (to_z-of_z w64 edition fits) c.is_one_of.ensures in
    let found : c.is_one_of.result ≡ true = search rules in
    let there : c.is_in_file.result ≡ true = search rules in
    known_stands c.args.may_have_orphans c.args.numbers.now c.args.part.now c.is_one_of.result is found ∙ sym c.is_in_file.ensures ∙ there

pub returns-then-is_one_of-clause-damaged : goal.returns-then-is_one_of-clause-damaged
returns-then-is_one_of-clause-damaged c = λ e.
    let edition = c.args.part.now.part.edition in
    let fits : SFits w64 edition = search rules in
    let is = subst (λ m. c.is_one_of.result ≡ is_of c.args.numbers.now m) (to_z-of_z w64 edition fits) c.is_one_of.ensures in
    let found : c.is_one_of.result ≡ true = search rules in
    let none : c.is_in_file.result ≡ false = search rules in
    known_stands c.args.may_have_orphans c.args.numbers.now c.args.part.now c.is_one_of.result is found ∙ sym c.is_in_file.ensures ∙ none

pub returns-then-not-may_have_orphans-clause-damaged : goal.returns-then-not-may_have_orphans-clause-damaged
returns-then-not-may_have_orphans-clause-damaged c = λ e.
    let edition = c.args.part.now.part.edition in
    let fits : SFits w64 edition = search rules in
    let is = subst (λ m. c.is_one_of.result ≡ is_of c.args.numbers.now m) (to_z-of_z w64 edition fits) c.is_one_of.ensures in
    let missing : c.is_one_of.result ≡ false = search rules in
    let never : c.args.may_have_orphans ≡ false = search rules in
    unknown_stands c.args.may_have_orphans c.args.numbers.now c.args.part.now c.is_one_of.result is missing ∙ never

pub returns-clause-passes : goal.returns-clause-passes
returns-clause-passes c =
    let edition = c.args.part.now.part.edition in
    let fits : SFits w64 edition = search rules in
    let is = subst (λ m. c.is_one_of.result ≡ is_of c.args.numbers.now m) (to_z-of_z w64 edition fits) c.is_one_of.ensures in
    let missing : c.is_one_of.result ≡ false = search rules in
    let may : c.args.may_have_orphans ≡ true = search rules in
    ok_always c.note.result (unknown_stands c.args.may_have_orphans c.args.numbers.now c.args.part.now c.is_one_of.result is missing ∙ may)
