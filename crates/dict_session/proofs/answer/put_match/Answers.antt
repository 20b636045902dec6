use Rattle.std.proofs.Common.{List, [], ℕ, true, false, refl, sym, ap, ◌∙◌, subst}
use Rattle.std.specs.Prelude.{◌&&◌, Option, is_some}
use Rattle.dict_match.specs.declared.strategy.Strategy.{Strategy}
use Rattle.dict_desk.specs.Asked.{strategy_of}
use Rattle.dict_desk.specs.declared.lookup.What.TheVariants.{Headwords}
use Rattle.dict_session.specs.Answers.{counted_rows, names_databases}
use Rattle.dict_session.specs.Ending.{PutsAnswer}
use Rattle.dict_session.specs.Places.{AskedPlaces, HoldsAsked, asked_in}
use Rattle.dict_session.specs.Rows.{answering, found_octets}
use Rattle.dict_session.specs.declared.asked.Asked.{Asked}
use Rattle.dict_session.proofs.FoundLemmas.{for_matches}
use Rattle.dict_session.proofs.AnswerLemmas.{match_unknown, match_unnamed, names_asked, none_asked, some_asked, held_few, match_held}
use Rattle.dict_session.proofs.LooksLemmas.{loud, quiet}
use Rattle.dict_session.proofs.answer.put_match.Goals as goal

pub returns-in-Ok-None-clause-value : goal.returns-in-Ok-None-clause-value
returns-in-Ok-None-clause-value g c = λ trusted M shown.
    let failed = g.L.Lookup.has_failed c.args.desk.now in
    let none = none_asked (asked_in M.items c.args.name.now) (subst (λ (o : Option Asked). HoldsAsked o (asked_in M.items c.args.name.now)) c.in-Ok-None.field-0-is (c.in-Ok-None.ensures.value M shown)) in
    subst (λ (answer : List ℕ). PutsAnswer failed c.put_whole.result (g.K.Sink.stream c.args.sink.now) (g.K.Sink.stream c.put_whole.new.sink) answer (counted_rows Headwords) true)
    (sym (match_unknown M c.args.name.now c.args.strategy.now c.args.word.now none)) (c.put_whole.ensures failed (counted_rows Headwords) true)

pub returns-in_default-clause-value : goal.returns-in_default-clause-value
returns-in_default-clause-value g c = λ trusted M shown.
    let failed = g.L.Lookup.has_failed c.args.desk.now in
    let held = some_asked M c.args.name.now c.in-Ok-Some.asked (g.met.L.Lookup.well_formed c.args.desk.now M shown)
    (subst (λ (o : Option Asked). HoldsAsked o (asked_in M.items c.args.name.now)) c.in-Ok-Some.field-0-is (c.in-Ok-Some.ensures.value M shown)) in
    subst (λ (answer : List ℕ). PutsAnswer failed c.put_whole-in_default.result (g.K.Sink.stream c.args.sink.now) (g.K.Sink.stream c.put_whole-in_default.new.sink) answer (counted_rows Headwords) true)
    (sym (match_unnamed M c.args.name.now c.args.strategy.now c.args.word.now c.in-Ok-Some.asked held c.in_default.ensures)) (c.put_whole-in_default.ensures failed (counted_rows Headwords) true)

pub returns-clause-value : goal.returns-clause-value
returns-clause-value g c = λ trusted M shown.
    let failed = g.L.Lookup.has_failed c.put_found.new.desk in
    let held = some_asked M c.args.name.now c.in-Ok-Some.asked (g.met.L.Lookup.well_formed c.args.desk.now M shown)
    (subst (λ (o : Option Asked). HoldsAsked o (asked_in M.items c.args.name.now)) c.in-Ok-Some.field-0-is (c.in-Ok-Some.ensures.value M shown)) in
    let asked = c.in-Ok-Some.asked in
    let strategy = c.in-Some.strategy in
    subst (λ (answer : List ℕ). PutsAnswer failed c.put_found.result (g.K.Sink.stream c.args.sink.now) (g.K.Sink.stream c.put_found.new.sink) answer (counted_rows Headwords) true)
    (ap (λ (key : List ℕ). found_octets (for_matches strategy key) M.items (answering (for_matches strategy key) M.items asked.places.items asked.is_first)) c.in-Ok.ensures
    ∙ match_held M c.args.name.now c.args.strategy.now c.args.word.now strategy asked held c.in-Some.ensures)
    (c.put_found.ensures.value trusted M shown (held_few M c.args.name.now asked (g.met.L.Lookup.well_formed c.args.desk.now M shown) held))

pub returns-in-Ok-None-clause-looks : goal.returns-in-Ok-None-clause-looks
returns-in-Ok-None-clause-looks g c = λ M shown. quiet _ c.put_whole.result _ _ refl _ _ _ _ _ (c.put_whole.ensures false (counted_rows Headwords) true)

pub returns-in-Err-clause-looks : goal.returns-in-Err-clause-looks
returns-in-Err-clause-looks g c = λ M shown. quiet _ c.put_unavailable.result _ _ refl _ _ [] _ _ (c.put_unavailable.ensures [] false (counted_rows Headwords))

pub returns-in_default-clause-looks : goal.returns-in_default-clause-looks
returns-in_default-clause-looks g c = λ M shown. quiet _ c.put_whole-in_default.result _ _ refl _ _ _ _ _ (c.put_whole-in_default.ensures false (counted_rows Headwords) true)

pub returns-in_default-key_of-clause-looks : goal.returns-in_default-key_of-clause-looks
returns-in_default-key_of-clause-looks g c = λ M shown. quiet _ c.put_unavailable-in_default-key_of.result _ _ refl _ _ [] _ _ (c.put_unavailable-in_default-key_of.ensures [] false (counted_rows Headwords))

pub returns-clause-looks : goal.returns-clause-looks
returns-clause-looks g c = λ M shown.
    let held = some_asked M c.args.name.now c.in-Ok-Some.asked (g.met.L.Lookup.well_formed c.args.desk.now M shown)
    (subst (λ (o : Option Asked). HoldsAsked o (asked_in M.items c.args.name.now)) c.in-Ok-Some.field-0-is (c.in-Ok-Some.ensures.value M shown)) in
    loud (names_databases M c.args.name.now && is_some (strategy_of c.args.strategy.now)) c.put_found.result _ _
    (ap (λ b. b && is_some (strategy_of c.args.strategy.now)) (names_asked M c.args.name.now ∙ ap (λ (o : Option AskedPlaces). is_some o) held.1) ∙ ap (λ (o : Option Strategy). is_some o) (sym c.in-Some.ensures))
