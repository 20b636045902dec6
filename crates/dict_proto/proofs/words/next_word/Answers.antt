use Rattle.std.proofs.Common.{sym, ap, ◌∙◌}
use Rattle.std.specs.Prelude.{is_some}
use Rattle.dict_proto.specs.Content.{content_of}
use Rattle.dict_proto.proofs.LineWordsLemmas.{line_words-none}
use Rattle.dict_proto.proofs.PlaceLemmas.{found-at, first-text, texts-some}
use Rattle.dict_proto.proofs.words.next_word.Goals as goal

pub returns-in_err-start : goal.returns-in_err-start
returns-in_err-start c = rw c.from_residual.ensures (line_words-none c.args.line.now (sym c.first_word_octet.ensures ∙ c.in_err-start.was))

pub first_word-requires : goal.first_word-requires
first_word-requires c = record { cut = ap is_some (sym (found-at c.args.line.now c.in_ok-start.start (sym c.first_word_octet.ensures ∙ c.in_ok-start.was))) ∙ texts-some _ c.requires.texts }

pub returns : goal.returns
returns c =
    let line = c.args.line.now in
    let start = c.in_ok-start.start in
    let found = sym c.first_word_octet.ensures ∙ c.in_ok-start.was in
    let texts = first-text line (content_of c.first_word.result.0) c.first_word.result.1.now start found c.requires.texts c.first_word.ensures in
    (found-at line start found ∙ c.first_word.ensures, texts.0, texts.1)
