use Rattle.std.proofs.Common.{◌≡◌, ℕ, List, [], ◌∷◌, subst, ◌∙◌}
use Rattle.dict_index.specs.Edition.{edition_of}
use Rattle.dict_index.specs.Found.{row, info_rows}
use Rattle.dict_desk.proofs.HandingLemmas.{hands_all, hands_stopped}
use Rattle.store_holdings.proofs.RecordLemmas.{text_there, text_told}
use Rattle.store_holdings.proofs.lookups.info.Goals as goal

pub info_of_number-requires : goal.info_of_number-requires
info_of_number-requires g c = λ clean live. (c.requires clean live).headers

pub returns-in_default-clause-value : goal.returns-in_default-clause-value
returns-in_default-clause-value g c clean reading one = absurd (text_there c.in_ok-info.field-0 reading.info (c.in_ok-info.ensures.value clean reading one) c.in_default.not-Some)

pub returns-in-More-clause-value : goal.returns-in-More-clause-value
returns-in-More-clause-value g c clean reading one =
    let text : c.as_bytes.result.now ≡ reading.info = c.as_bytes.ensures.value ∙ text_told c.in_ok-info.field-0 c.in-Some.info reading.info (c.in_ok-info.ensures.value clean reading one) c.in-Some.is in
    hands_all g.T.RowSink.takes g.T.RowSink.stops c.args.sink.now c.take.new.self (info_rows (edition_of reading))
    (subst (λ (t : List ℕ). g.T.RowSink.takes c.args.sink.now (row [] t ∷ []) c.take.new.self) text (c.take.ensures.more c.in-More.is))

pub returns-clause-value : goal.returns-clause-value
returns-clause-value g c clean reading one =
    let text : c.as_bytes.result.now ≡ reading.info = c.as_bytes.ensures.value ∙ text_told c.in_ok-info.field-0 c.in-Some.info reading.info (c.in_ok-info.ensures.value clean reading one) c.in-Some.is in
    hands_stopped g.T.RowSink.takes g.T.RowSink.stops c.args.sink.now c.take.new.self (info_rows (edition_of reading))
    (subst (λ (t : List ℕ). g.T.RowSink.stops c.args.sink.now (row [] t ∷ []) c.take.new.self) text (c.take.ensures.stop c.in-Stop.is))
