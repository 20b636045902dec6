use Rattle.std.proofs.Common.{◌≡◌, ◌+◌, ◌++◌, List, [], ◌∷◌, ℕ, get_or, map, take, sym, ap, ◌∙◌, subst, arith}
use Rattle.std.specs.Char.{to_ascii_lowercase}
use Rattle.httparse.specs.declared.spans.HeaderSpan.{HeaderSpan}
use Rattle.httparse.specs.Spans.{header_bytes}
use Rattle.http_request.specs.Fields.{values_of, AreValues}
use Rattle.http_request.proofs.ValuesLemmas.{values_more, own, own_same, own_other, values_other, values_first, values_next, one_some}
use Rattle.http_request.proofs.fields.values_of.Goals as goal
use Rattle.http_request.proofs.fields.values_of.Goals.{then-eq_ignore_ascii_case+in-Absent, then-eq_ignore_ascii_case+in-One, then-eq_ignore_ascii_case+in-Several, else-eq_ignore_ascii_case}

abbrev blank : HeaderSpan
blank = record { name = record { start = 0; end = 0 }; value = record { start = 0; end = 0 } }

pub loop-header-preserved : goal.loop-header-preserved
loop-header-preserved c =
    let name = c.args.name.now in
    let buf = c.args.buf.now in
    let i = c.loop-header.header-index in
    let h : HeaderSpan = get_or c.args.headers.now i blank in
    let old : List (List ℕ) = values_of name (map (header_bytes buf) (take i c.args.headers.now)) in
    let new : List (List ℕ) = values_of name (map (header_bytes buf) (take (i + 1) c.args.headers.now)) in
    let e : new ≡ old ++ own name (header_bytes buf h) = values_more name (header_bytes buf) c.args.headers.now i blank c.loop-header-test.true in
    let t = c.eq_ignore_ascii_case.ensures.test in
    let here = ap (map to_ascii_lowercase) c.of.ensures in
    elim c.if-eq_ignore_ascii_case.branch [
      | then-eq_ignore_ascii_case+in-Absent w ↦
          (let o : own name (header_bytes buf h) ≡ w.of-in-Absent.result.now ∷ [] = own_same name (header_bytes buf h) (sym here ∙ t.0 w.if-eq_ignore_ascii_case.true) ∙ ap (λ v. v ∷ []) (sym w.of-in-Absent.ensures) in
          subst (λ f. AreValues f new) (sym w.found-is) (values_first w.of-in-Absent.result old new _ (rw w.in-Absent.is at c.loop-header.invariant) o e))
      | then-eq_ignore_ascii_case+in-One w ↦
          subst (λ f. AreValues f new) (sym w.found-is) (values_next old new _ _ (one_some _ old (rw w.in-One.is at c.loop-header.invariant)) (own_same name (header_bytes buf h) (sym here ∙ t.0 w.if-eq_ignore_ascii_case.true)) e)
      | then-eq_ignore_ascii_case+in-Several w ↦
          (let many = rw w.in-Several.is at c.loop-header.invariant in
          subst (λ f. AreValues f new) (sym w.found-is) (values_next old new _ _ (omega (arith, many)) (own_same name (header_bytes buf h) (sym here ∙ t.0 w.if-eq_ignore_ascii_case.true)) e))
      | else-eq_ignore_ascii_case w ↦
          subst (λ f. AreValues f new) (sym w.found-is) (values_other c.loop-header.found old new _ c.loop-header.invariant (own_other name (header_bytes buf h) (λ same. cc (w.if-eq_ignore_ascii_case.false, t.1 (here ∙ same)))) e)
    ]
