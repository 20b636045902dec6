use Rattle.std.proofs.Common.{◌+◌, ◌-◌, [], ◌∷◌, length, take, drop, sym, ap, ◌∙◌}
use Rattle.std.proofs.lemmas.List.{take_all}
use Rattle.std.specs.Option.{option_map}
use Rattle.dict_proto.specs.LineWords.{line_words, words_from, within}
use Rattle.dict_proto.specs.Content.{content_from}
use Rattle.dict_proto.specs.Places.{place_of}
use Rattle.dict_proto.proofs.LineWordsLemmas.{onto_all}
use Rattle.dict_proto.proofs.PlaceLemmas.{inside-at, blank-at, end-at}
use Rattle.dict_proto.proofs.ContentLemmas.{read-at, content-at, place-at}
use Rattle.dict_proto.proofs.words.first_word.Goals as goal

pub returns-then-ends_word : goal.returns-then-ends_word
returns-then-ends_word c =
    let text = c.args.text.now in
    let i = c.loop-i.i in
    c.loop-i.invariant.read
    ∙ (blank-at text i (place_of c.loop-i.place) (content_from within (take i text)) c.loop-i-test.true (sym c.ends_word.ensures ∙ c.if-ends_word.true)
    ∙ ap (λ spelling. option_map (λ words. content_from within spelling ∷ words) (line_words (take (length text - i) (drop i text)))) (sym c.new.ensures))

pub loop-i-preserved : goal.loop-i-preserved
loop-i-preserved c =
    let text = c.args.text.now in
    let i = c.loop-i.i in
    let place = place_of c.loop-i.place in
    let next = place_of c.after-place.result in
    let lt = c.loop-i-test.true in
    let ends = sym c.ends_word.ensures ∙ c.if-ends_word.false in
    let inside = c.loop-i.invariant.inside in
    record {
      inside = inside-at text i place next inside ends c.after-place.ensures;
      place = place-at text i place next lt c.loop-i.invariant.place c.after-place.ensures;
      read = c.loop-i.invariant.read ∙ (read-at text i place next (content_from within (take i text)) lt inside ends c.after-place.ensures
          ∙ ap (λ content. onto_all content (words_from next (drop (i + 1) text))) (sym (content-at text i place lt c.loop-i.invariant.place)));
    }

pub returns : goal.returns
returns c =
    let text = c.args.text.now in
    let i = c.loop-i.i in
    end-at text i (place_of c.loop-i.place) (content_from within (take i text)) c.loop-i-test.false c.loop-i.invariant.inside c.loop-i.invariant.read c.requires.cut
    ∙ ap (λ spelling. option_map (λ words. content_from within spelling ∷ words) (line_words [])) (take_all i text c.loop-i-test.false ∙ sym c.new-2.ensures)
