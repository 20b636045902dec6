use Rattle.std.proofs.Common.{◌+◌, ◌≤◌, arith, inl, inr, length, refl, ◌∙◌, sym, subst}
use Rattle.dict_index.specs.Line.{body_in}
use Rattle.dict_index.specs.Tests.{IsHeadword, IsShown, IsText, HasShortLines}
use Rattle.dict_index.proofs.CutLemmas.{count_columns}
use Rattle.dict_index.proofs.LineLemmas.{line_from_columns, if_says}
use Rattle.dict_index.proofs.ReadLemmas.{number_fails, says_not, fourth_not, fourth_passes, headword_utf8, fourth_utf8}
use Rattle.dict_index.proofs.line.read_line.Goals as goal

pub returns-in_default-clause-refused : goal.returns-in_default-clause-refused
returns-in_default-clause-refused c before = inl (refl, λ tabs. elim tabs [ inl two ↦ c.in_default.ensures.0 two | inr three ↦ c.in_default.ensures.1 three ])

pub returns-in_default-interval_of-clause-refused : goal.returns-in_default-interval_of-clause-refused
returns-in_default-interval_of-clause-refused c before =
    inr (count_columns c.args.line.now _ _ _ _ c.in-Some.ensures, inl (refl, number_fails c.args.text.now before c.args.line.now _ _ _ _ c.in-Some.ensures c.in_default-interval_of.ensures.spelled))

pub as_text-headword-requires : goal.as_text-headword-requires
as_text-headword-requires c = headword_utf8 c.args.line.now _ _ _ _ c.requires c.in-Some.ensures

pub shown_of-requires : goal.shown_of-requires
shown_of-requires c = fourth_utf8 c.args.line.now _ _ _ _ c.requires c.in-Some.ensures

pub returns-in_default-cut_out-clause-refused : goal.returns-in_default-cut_out-clause-refused
returns-in_default-cut_out-clause-refused c before =
    let tabs = count_columns c.args.line.now _ _ _ _ c.in-Some.ensures in
    let spelled = c.in-Some-interval_of.ensures.spelled in
    let l = line_from_columns c.args.line.now _ _ _ _ _ _ c.in-Some.ensures spelled.0 spelled.1 in
    inr (tabs, inr ((_, l), inl (refl, says_not c.args.line.now _ (λ said. said.offset + said.size ≤ length c.args.text.now) l (λ within. let past = c.in_default-cut_out.ensures in omega arith))))

pub returns-in-Ok-None-clause-refused : goal.returns-in-Ok-None-clause-refused
returns-in-Ok-None-clause-refused c before =
    let tabs = count_columns c.args.line.now _ _ _ _ c.in-Some.ensures in
    let spelled = c.in-Some-interval_of.ensures.spelled in
    let l = line_from_columns c.args.line.now _ _ _ _ _ _ c.in-Some.ensures spelled.0 spelled.1 in
    let interval = if_says c.args.line.now _ (λ said. said.offset + said.size ≤ length c.args.text.now) l c.in-Some-cut_out.ensures.0 in
    let none = rw c.in-Ok-None.field-0-is at c.in-Ok-None.ensures in
    inr (tabs, inr ((_, l), inr (interval, inl (refl, says_not c.args.line.now _ (λ said. IsHeadword said.headword) l (λ h. none (subst IsHeadword (sym c.as_text-headword.ensures) h))))))

pub returns-in_default-shown_of-clause-refused : goal.returns-in_default-shown_of-clause-refused
returns-in_default-shown_of-clause-refused c before =
    let tabs = count_columns c.args.line.now _ _ _ _ c.in-Some.ensures in
    let spelled = c.in-Some-interval_of.ensures.spelled in
    let l = line_from_columns c.args.line.now _ _ _ _ _ _ c.in-Some.ensures spelled.0 spelled.1 in
    let interval = if_says c.args.line.now _ (λ said. said.offset + said.size ≤ length c.args.text.now) l c.in-Some-cut_out.ensures.0 in
    let some = rw c.in-Ok-Some.field-0-is at c.in-Ok-Some.ensures in
    let headword = if_says c.args.line.now _ (λ said. IsHeadword said.headword) l (subst IsHeadword c.as_text-headword.ensures some.0) in
    inr (tabs, inr ((_, l), inr (interval, inr (headword, inl (refl, fourth_not c.args.line.now _ _ _ _ IsShown _ c.in-Some.ensures l c.in_default-shown_of.ensures)))))

pub returns-in_default-text_of-clause-refused : goal.returns-in_default-text_of-clause-refused
returns-in_default-text_of-clause-refused c before =
    let tabs = count_columns c.args.line.now _ _ _ _ c.in-Some.ensures in
    let spelled = c.in-Some-interval_of.ensures.spelled in
    let l = line_from_columns c.args.line.now _ _ _ _ _ _ c.in-Some.ensures spelled.0 spelled.1 in
    let interval = if_says c.args.line.now _ (λ said. said.offset + said.size ≤ length c.args.text.now) l c.in-Some-cut_out.ensures.0 in
    let some = rw c.in-Ok-Some.field-0-is at c.in-Ok-Some.ensures in
    let headword = if_says c.args.line.now _ (λ said. IsHeadword said.headword) l (subst IsHeadword c.as_text-headword.ensures some.0) in
    let shown = fourth_passes c.args.line.now _ _ _ _ IsShown c.in-Some.ensures c.in-Some-shown_of.ensures.0 in
    let bad = says_not c.args.line.now _ (λ said. IsText (body_in c.args.text.now said)) l (λ h. c.in_default-text_of.ensures (subst IsText (sym c.in-Some-cut_out.ensures.1) h)) in
    inr (tabs, inr ((_, l), inr (interval, inr (headword, inr (shown, inl (refl, bad))))))

pub returns-then-not-has_short_lines-clause-refused : goal.returns-then-not-has_short_lines-clause-refused
returns-then-not-has_short_lines-clause-refused c before =
    let tabs = count_columns c.args.line.now _ _ _ _ c.in-Some.ensures in
    let spelled = c.in-Some-interval_of.ensures.spelled in
    let l = line_from_columns c.args.line.now _ _ _ _ _ _ c.in-Some.ensures spelled.0 spelled.1 in
    let interval = if_says c.args.line.now _ (λ said. said.offset + said.size ≤ length c.args.text.now) l c.in-Some-cut_out.ensures.0 in
    let some = rw c.in-Ok-Some.field-0-is at c.in-Ok-Some.ensures in
    let headword = if_says c.args.line.now _ (λ said. IsHeadword said.headword) l (subst IsHeadword c.as_text-headword.ensures some.0) in
    let shown = fourth_passes c.args.line.now _ _ _ _ IsShown c.in-Some.ensures c.in-Some-shown_of.ensures.0 in
    let body = if_says c.args.line.now _ (λ said. IsText (body_in c.args.text.now said)) l (subst IsText c.in-Some-cut_out.ensures.1 c.in-Some-text_of.ensures.0) in
    let cut = c.as_bytes.ensures.value ∙ (c.in-Some-text_of.ensures.1 ∙ c.in-Some-cut_out.ensures.1) in
    let bad = says_not c.args.line.now _ (λ said. HasShortLines (body_in c.args.text.now said)) l (λ h. c.if-not-has_short_lines.ensures (subst HasShortLines (sym cut) h)) in
    inr (tabs, inr ((_, l), inr (interval, inr (headword, inr (shown, inr (body, inl (refl, bad)))))))

pub returns-clause-passes : goal.returns-clause-passes
returns-clause-passes c before =
    let tabs = count_columns c.args.line.now _ _ _ _ c.in-Some.ensures in
    let spelled = c.in-Some-interval_of.ensures.spelled in
    let l = line_from_columns c.args.line.now _ _ _ _ _ _ c.in-Some.ensures spelled.0 spelled.1 in
    let interval = if_says c.args.line.now _ (λ said. said.offset + said.size ≤ length c.args.text.now) l c.in-Some-cut_out.ensures.0 in
    let some = rw c.in-Ok-Some.field-0-is at c.in-Ok-Some.ensures in
    let headword = if_says c.args.line.now _ (λ said. IsHeadword said.headword) l (subst IsHeadword c.as_text-headword.ensures some.0) in
    let shown = fourth_passes c.args.line.now _ _ _ _ IsShown c.in-Some.ensures c.in-Some-shown_of.ensures.0 in
    let body = if_says c.args.line.now _ (λ said. IsText (body_in c.args.text.now said)) l (subst IsText c.in-Some-cut_out.ensures.1 c.in-Some-text_of.ensures.0) in
    let short = if_says c.args.line.now _ (λ said. HasShortLines (body_in c.args.text.now said)) l
    (subst HasShortLines (c.as_bytes.ensures.value ∙ (c.in-Some-text_of.ensures.1 ∙ c.in-Some-cut_out.ensures.1)) c.if-not-has_short_lines.ensures) in
    (tabs, ((_, l), (interval, (headword, (shown, (body, (short, tt)))))))

pub returns-clause-text : goal.returns-clause-text
returns-clause-text c = c.as_text-headword.utf8
