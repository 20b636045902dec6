use Rattle.std.proofs.Common.{◌≡◌, sym, ap, ◌∙◌, subst}
use Rattle.dict_proto.specs.LineWords.{line_words}
use Rattle.dict_proto.specs.Meaning.{asked}
use Rattle.dict_proto.specs.Told.{Tells}
use Rattle.dict_proto.proofs.EncodingLemmas.{line_words-utf8}
use Rattle.dict_proto.proofs.MeaningLemmas.{meaning-readable, meaning-unreadable, readable-utf8}
use Rattle.dict_proto.proofs.PlaceLemmas.{some-texts, none-known}
use Rattle.dict_proto.proofs.line.parse_line.Goals as goal

pub returns-in_default : goal.returns-in_default
returns-in_default c = sym (meaning-unreadable c.args.line.now c.in_default.ensures)

pub parse_words-requires : goal.parse_words-requires
parse_words-requires c =
    let line = c.args.line.now in
    let same : c.as_bytes-octets.result.now ≡ line = c.as_bytes-octets.ensures.value ∙ c.in-Some.ensures.0 in
    record {
      texts = some-texts (line_words c.as_bytes-octets.result.now) (sym c.can_be_cut.ensures ∙ c.if-can_be_cut.true) (λ words e. line_words-utf8 line (readable-utf8 line c.in-Some.ensures.1) words (ap line_words (sym same) ∙ e));
    }

pub returns-then-can_be_cut : goal.returns-then-can_be_cut
returns-then-can_be_cut c =
    let same : c.as_bytes-octets.result.now ≡ c.args.line.now = c.as_bytes-octets.ensures.value ∙ c.in-Some.ensures.0 in
    subst (Tells c.parse_words.result) (ap (λ l. asked (line_words l)) same ∙ sym (meaning-readable c.args.line.now c.in-Some.ensures.1)) c.parse_words.ensures

pub returns-else-can_be_cut : goal.returns-else-can_be_cut
returns-else-can_be_cut c =
    let same : c.as_bytes-octets.result.now ≡ c.args.line.now = c.as_bytes-octets.ensures.value ∙ c.in-Some.ensures.0 in
    let none = none-known (line_words c.as_bytes-octets.result.now) (sym c.can_be_cut.ensures ∙ c.if-can_be_cut.false) in
    ap asked (sym none ∙ ap line_words same) ∙ sym (meaning-readable c.args.line.now c.in-Some.ensures.1)
