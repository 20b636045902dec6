use Rattle.std.proofs.Common.{◌≡◌, ◌+◌, ◌<◌, inl, true, false, arith, refl, sym, ◌∙◌, ◌++◌, ◌∷◌, [], subst}
use Rattle.std.proofs.lemmas.Result.{err_from_is_err_and}
use Rattle.store_tables.specs.Typed.{owned_kept}
use Rattle.store_rows.specs.Taken.{AreKept}
use Rattle.store_rows.proofs.KeptLemmas.{kept_more, kept_taken, kept_refused}
use Rattle.store_rows.proofs.reader.Reader.kept.Goals as goal

pub returns-in_err-verb-clause-damaged : goal.returns-in_err-verb-clause-damaged
returns-in_err-verb-clause-damaged c =
    let p = err_from_is_err_and c.from_residual.result c.from_residual.ensures.1 in
    rw p.1 (λ version taken h. kept_refused version c.args.self.now taken (owned_kept c.args.row.now) h (inl c.in_err-verb.ensures.damaged))

pub returns-then-is_install-clause-taken : goal.returns-then-is_install-clause-taken
returns-then-is_install-clause-taken c = λ version taken h.
    let few : c.args.self.now.accepted < 9223372036854775807 = omega arith in
    kept_taken version c.args.self.now _ taken (owned_kept c.args.row.now) refl refl refl
    (kept_more c.args.self.now.accepted c.args.self.now.installed taken.kept (owned_kept c.args.row.now) c.in_ok-verb.verb true h.kept few c.in_ok-verb.ensures.told (sym c.is_install.ensures ∙ c.if-is_install.true)) h

pub returns-else-is_install-clause-taken : goal.returns-else-is_install-clause-taken
returns-else-is_install-clause-taken c = λ version taken h.
    let few : c.args.self.now.accepted < 9223372036854775807 = omega arith in
    let more = kept_more c.args.self.now.accepted c.args.self.now.installed taken.kept (owned_kept c.args.row.now) c.in_ok-verb.verb false h.kept few c.in_ok-verb.ensures.told (sym c.is_install.ensures ∙ c.if-is_install.false) in
    let same : c.args.self.now.installed + 0 ≡ c.args.self.now.installed = omega arith in
    kept_taken version c.args.self.now _ taken (owned_kept c.args.row.now) refl refl refl
    (subst (λ n. AreKept (c.args.self.now.accepted + 1) n (taken.kept ++ owned_kept c.args.row.now ∷ [])) same more) h
