use Rattle.std.proofs.Common.{◌+◌, ◌∷◌, [], take, length, refl, ap, sym, subst, ◌∙◌, arith, length-append}
use Rattle.std.specs.Str.{IsUtf8}
use Rattle.dict_text.specs.Lines.{text_lines}
use Rattle.dict_index.specs.Cuts.{IsCutAt}
use Rattle.dict_index.specs.Line.{IsLine}
use Rattle.dict_reading.proofs.ReaderLemmas.{whole_line, utf8_line, line_within, this_line, read_more, line_told}
use Rattle.dict_reading.proofs.reader.EditionReader.take_line.Goals as goal

pub take-requires-clause-utf8 : goal.take-requires-clause-utf8
take-requires-clause-utf8 c =
    let rest = c.split_at.result.1.now in
    subst IsUtf8 (sym (c.split_at-2.ensures.front ∙ whole_line rest c.in-Some.line.now c.in-Some._behind.now c.in-Some.ensures))
    (utf8_line rest c.in-Some.line.now c.in-Some._behind.now c.in-Some.ensures (subst IsUtf8 (sym c.split_at.ensures.back) c.requires.read.utf8))

pub returns-in-Ok-clause-read : goal.returns-in-Ok-clause-read
returns-in-Ok-clause-read c =
    let line = c.in-Some.line.now in
    let behind = c.in-Some._behind.now in
    let rest = c.split_at.result.1.now in
    let cut = subst (λ r. IsCutAt 10 r line behind) c.split_at.ensures.back c.in-Some.ensures in
    let long = ap length (c.split_at-2.ensures.front ∙ whole_line rest line behind c.in-Some.ensures) ∙ length-append line (10 ∷ []) in
    let within = line_within c.args.index.now c.args.text.now c.args.self.now c.requires.read line behind cut in
    let lines = take c.args.self.now.number (text_lines c.args.index.now) in
    read_more c.args.index.now c.args.text.now c.args.self.now c.requires.read line behind cut _ (ap (λ n. c.args.self.now.place + n) long) refl
    (c.in-Ok.ensures.added c.args.index.now (10 ∷ behind) lines cut.whole (omega (arith, within)) c.requires.read.gathers)
    (c.in-Ok.ensures.passes c.args.index.now (10 ∷ behind) lines cut.whole c.requires.read.gathers)

pub returns-in-Err-clause-refused : goal.returns-in-Err-clause-refused
returns-in-Err-clause-refused c =
    let line = c.in-Some.line.now in
    let behind = c.in-Some._behind.now in
    let cut = subst (λ r. IsCutAt 10 r line behind) c.split_at.ensures.back c.in-Some.ensures in
    let lines = take c.args.self.now.number (text_lines c.args.index.now) in
    line_told c.args.index.now c.args.text.now c.args.self.now c.requires.read line behind cut c.in-Err.fault c.at_line.result c.at_line.ensures
    (c.in-Err.ensures.refused c.args.index.now (10 ∷ behind) lines cut.whole c.requires.read.gathers)

pub returns-in-Ok-clause-octets : goal.returns-in-Ok-clause-octets
returns-in-Ok-clause-octets c said is =
    let line = c.in-Some.line.now in
    let behind = c.in-Some._behind.now in
    let rest = c.split_at.result.1.now in
    let cut = subst (λ r. IsCutAt 10 r line behind) c.split_at.ensures.back c.in-Some.ensures in
    let long = ap length (c.split_at-2.ensures.front ∙ whole_line rest line behind c.in-Some.ensures) ∙ length-append line (10 ∷ []) in
    let at = this_line c.args.index.now c.args.text.now c.args.self.now c.requires.read line behind cut in
    let size = c.in-Ok.ensures.size.0 said (subst (λ l. IsLine l said) at is) in
    omega (arith, long, ap length at, size)
