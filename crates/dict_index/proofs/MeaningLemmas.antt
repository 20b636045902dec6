-- From what the steps of reading found to what a pair of files means.
use Rattle.std.proofs.Common.{◌≡◌, ℕ, ◌+◌, ◌<◌, ◌⊎◌, inl, inr, List, [], ◌∷◌, length, take, map, refl, sym, ap, ◌∙◌, subst, arith}
use Rattle.std.proofs.lemmas.Bool.{cases_lt}
use Rattle.std.specs.Prelude.{Some, None, IfSome, is_some, true, false}
use Rattle.std.specs.List.{AllZip}
use Rattle.std.specs.BTreeMap.{get_by_text}
use Rattle.dict_text.specs.Lines.{text_lines}
use Rattle.dict_index.specs.Line.{Line, IsLine}
use Rattle.dict_index.specs.Reserved.{title_in, title_from, info_in, info_from, short_key, info_key}
use Rattle.dict_index.specs.Tests.{Passes, PassesWhole, PassesLine, IsTitle, line_at}
use Rattle.dict_index.specs.Refusals.{whole_tests, line_tests}
use Rattle.dict_index.specs.Order.{rank, IsOfLine, Precedes}
use Rattle.dict_index.specs.Meaning.{IsFault, IsTestMade, IsReadEdition}
use Rattle.dict_index.specs.Refused.{PassesEach, PassLines, StopsAt, PassWholes, FailsWhole, IsTitleFault, IsIndexFault, IsLinesFault}
use Rattle.dict_index.specs.Gathered.{HasGathered}
use Rattle.dict_index.specs.Views.{line_of, octets_of}
use Rattle.dict_index.specs.declared.fault.EditionRefusal.{EditionRefusal}
use Rattle.dict_index.specs.declared.fault.EditionRefusal.TheVariants.{IndexNotUtf8, NoTitle, BadTitle, TooManyEntries, TextTooLong, LastLine}
use Rattle.dict_index.specs.declared.fault.IndexFault.{IndexFault}
use Rattle.dict_index.specs.declared.fault.IndexFault.TheVariants.{Refused, Memory}
use Rattle.dict_index.specs.declared.gather.Gathered.{Gathered}
use Rattle.dict_index.proofs.LineLemmas.{one_said}
use Rattle.dict_index.proofs.OrderLemmas.{one_rank, whole_ranks, line_ranks, IsFirstInOrder, all_in_order, first_in_order}

-- a test of a line asks nothing of the whole
line_asks_no_whole : (f : EditionRefusal) (index text : List ℕ) → IsOfLine f → PassesWhole f index text
unfolding rank
line_asks_no_whole TextTooLong index text o = absurd (let low = o.0 in omega arith)
line_asks_no_whole IndexNotUtf8 index text o = absurd (let low = o.0 in omega arith)
line_asks_no_whole LastLine index text o = absurd (let low = o.0 in omega arith)
line_asks_no_whole TooManyEntries index text o = absurd (let low = o.0 in omega arith)
line_asks_no_whole NoTitle index text o = absurd (let high = o.1 in omega arith)
line_asks_no_whole BadTitle index text o = absurd (let high = o.1 in omega arith)
line_asks_no_whole _ index text o = tt

-- a test of the whole that is made before the lines' asks nothing of a line
whole_asks_no_line : (f : EditionRefusal) (text : List ℕ) (before : List (List ℕ)) (line : List ℕ) → rank f < length whole_tests → PassesLine f text before line
unfolding rank
whole_asks_no_line TextTooLong text before line lt = tt
whole_asks_no_line IndexNotUtf8 text before line lt = tt
whole_asks_no_line LastLine text before line lt = tt
whole_asks_no_line TooManyEntries text before line lt = tt
whole_asks_no_line NoTitle text before line lt = tt
whole_asks_no_line BadTitle text before line lt = tt
whole_asks_no_line _ text before line lt = absurd (omega arith)

-- the places of the title's tests
rank_no_title : rank NoTitle ≡ length whole_tests + length line_tests
unfolding rank
rank_no_title = refl

rank_bad_title : rank BadTitle ≡ length whole_tests + length line_tests + 1
unfolding rank
rank_bad_title = refl

-- a test of a line is one of the files at that line
passes_line : (f : EditionRefusal) (index text : List ℕ) (k : ℕ) → IsOfLine f → PassesLine f text (take k (text_lines index)) (line_at index k) → Passes f index text k
passes_line f index text k o p = (line_asks_no_whole f index text o, p)

passes_whole : (f : EditionRefusal) (index text : List ℕ) (k : ℕ) → rank f < length whole_tests → PassesWhole f index text → Passes f index text k
passes_whole f index text k lt p = (p, whole_asks_no_line f text (take k (text_lines index)) (line_at index k) lt)

-- files that pass the tests of the whole, and lines that pass theirs, pass each of them
whole_of : (f : EditionRefusal) (index text : List ℕ) (k : ℕ) → PassWholes index text → rank f < length whole_tests → Passes f index text k
whole_of f index text k wholes lt = passes_whole f index text k lt (all_in_order (λ g. PassesWhole g index text) 0 whole_tests whole_ranks wholes f (omega arith) lt)

line_of_all : (f : EditionRefusal) (index text : List ℕ) (k : ℕ) → PassesEach line_tests text (take k (text_lines index)) (line_at index k) → IsOfLine f → Passes f index text k
line_of_all f index text k passed o =
    passes_line f index text k o (all_in_order (λ g. PassesLine g text (take k (text_lines index)) (line_at index k)) (length whole_tests) line_tests line_ranks passed f o.0 o.1)

-- a test of the whole that fails first
pub whole_fault : (refusal : EditionRefusal) (index text : List ℕ) → FailsWhole refusal index text → IsFault index text refusal None
whole_fault refusal index text failing =
    let h = first_in_order (λ g. PassesWhole g index text) 0 whole_tests refusal whole_ranks failing in
    let high = h.high in
    record {
      at = 0;
      tells = inr ((λ o. let low = o.0 in omega arith), refl);
      made = λ o. absurd (let low = o.0 in omega arith);
      fails = λ p. h.fails p.0;
      earlier = λ f j p made. by_order h f j p;
    }
  where
    by_order : IsFirstInOrder (λ g. PassesWhole g index text) 0 (length whole_tests) refusal → (f : EditionRefusal) (j : ℕ) → Precedes f j refusal 0 → Passes f index text j
    by_order h f j (inl p) = passes_whole f index text j (let high = h.high in let lt = p.0 in omega arith) (h.earlier f (omega arith) p.0)
    by_order h f j (inr p) = absurd (let high = h.high in let low = p.1.0 in omega arith)

-- a test before the title's is one of the whole or one of a line
before_title : (f : EditionRefusal) → rank f < length whole_tests + length line_tests → (rank f < length whole_tests) ⊎ IsOfLine f
before_title f lt = elim (cases_lt (rank f) (length whole_tests)) [ inl whole ↦ inl whole | inr line ↦ inr (line, lt) ]

-- a line that a test stops at
pub stop_fault : (refusal : EditionRefusal) (index text : List ℕ) (k : ℕ) → PassWholes index text → StopsAt index text refusal k → IsFault index text refusal (Some (k + 1))
stop_fault refusal index text k wholes s =
    let h = first_in_order (λ g. PassesLine g text (take k (text_lines index)) (line_at index k)) (length whole_tests) line_tests refusal line_ranks s.first in
    let of_line : IsOfLine refusal = (h.low, h.high) in
    record {
      at = k;
      tells = inl (of_line, refl);
      made = λ o. s.there;
      fails = λ p. h.fails p.1;
      earlier = λ f j p made. by_order h f j p;
    }
  where
    by_order : IsFirstInOrder (λ g. PassesLine g text (take k (text_lines index)) (line_at index k)) (length whole_tests) (length whole_tests + length line_tests) refusal
        → (f : EditionRefusal) (j : ℕ) → Precedes f j refusal k → Passes f index text j
    by_order h f j (inl p) = elim (before_title f (let lt = p.0 in let high = h.high in omega arith)) [
      | inl whole ↦ whole_of f index text j wholes whole
      | inr line ↦ absurd (p.1 (line, (h.low, h.high)))
    ]
    by_order h f j (inr p) = elim p.2 [
      | inl before ↦ line_of_all f index text j (s.before j before) p.0
      | inr same ↦ subst (λ i. Passes f index text i) (sym same.0) (passes_line f index text k p.0 (h.earlier f p.0.0 same.1))
    ]

-- lines say one list of things
pub all_said_one : (lines : List (List ℕ)) (a b : List Line) → AllZip IsLine lines a → AllZip IsLine lines b → a ≡ b
all_said_one [] [] [] h k = refl
all_said_one [] [] (y ∷ b) h k = absurd k
all_said_one [] (x ∷ a) b h k = absurd h
all_said_one (l ∷ lines) [] b h k = absurd h
all_said_one (l ∷ lines) (x ∷ a) [] h k = absurd k
all_said_one (l ∷ lines) (x ∷ a) (y ∷ b) h k = ap (λ z. z ∷ a) (one_said l x y h.0 k.0) ∙ ap (λ ls. y ∷ ls) (all_said_one lines a b h.1 k.1)

module _ (index text : List ℕ) (wholes : PassWholes index text) (passed : PassLines index text (length (text_lines index))) where
  -- each test before the title's passes
  before_no_title : (f : EditionRefusal) (j : ℕ) → rank f < length whole_tests + length line_tests → IsTestMade f index j → Passes f index text j
  before_no_title f j lt made = elim (before_title f lt) [
    | inl whole ↦ whole_of f index text j wholes whole
    | inr line ↦ line_of_all f index text j (passed j (made line)) line
  ]

  module _ (said : List Line) (are : AllZip IsLine (text_lines index) said) where
    -- what the lines say is one list, so it has one title
    one_title : (all_said : List Line) → AllZip IsLine (text_lines index) all_said → title_in text all_said ≡ title_in text said
    one_title all_said others = ap (title_in text) (all_said_one (text_lines index) all_said said others are)

    pub no_title : title_in text said ≡ None → IsFault index text NoTitle None
    no_title none = record {
      at = 0;
      tells = inr ((λ o. let high = o.1 in omega (arith, rank_no_title)), refl);
      made = λ o. absurd (let high = o.1 in omega (arith, rank_no_title));
      fails = λ p. let bad : false ≡ true = sym (ap is_some none) ∙ p.0 said are in cc;
      earlier = λ f j p made. by_order f j p made;
    }
      where
        by_order : (f : EditionRefusal) (j : ℕ) → Precedes f j NoTitle 0 → IsTestMade f index j → Passes f index text j
        by_order f j (inl p) made = before_no_title f j (let lt = p.0 in omega (arith, rank_no_title)) made
        by_order f j (inr p) made = absurd (let high = p.1.1 in omega (arith, rank_no_title))

    pub has_title : (found : List ℕ) → title_in text said ≡ Some found → (j : ℕ) → Passes NoTitle index text j
    has_title found e j = ((λ all_said others. ap is_some (one_title all_said others ∙ e)), tt)

    pub bad_title : (found : List ℕ) → title_in text said ≡ Some found → ¬ IsTitle found → IsFault index text BadTitle None
    bad_title found e bad = record {
      at = 0;
      tells = inr ((λ o. let high = o.1 in omega (arith, rank_bad_title)), refl);
      made = λ o. absurd (let high = o.1 in omega (arith, rank_bad_title));
      fails = λ p. bad (subst (λ t. IfSome t IsTitle) e (p.0 said are));
      earlier = λ f j p made. by_order f j p made;
    }
      where
        by_order : (f : EditionRefusal) (j : ℕ) → Precedes f j BadTitle 0 → IsTestMade f index j → Passes f index text j
        by_order f j (inl p) made = elim (cases_lt (rank f) (length whole_tests + length line_tests)) [
          | inl before ↦ before_no_title f j before made
          | inr not_before ↦ (let lt = p.0 in let same : rank NoTitle ≡ rank f = omega (arith, rank_no_title, rank_bad_title) in subst (λ r. Passes r index text j) (one_rank NoTitle f same) (has_title found e j))
        ]
        by_order f j (inr p) made = absurd (let high = p.1.1 in omega (arith, rank_bad_title))

    pub title_fault : (fault : IndexFault) → IsTitleFault fault (title_in text said) → IsIndexFault fault index text
    title_fault (Refused NoTitle line) h = subst (IsFault index text NoTitle) (sym h.0) (no_title h.1)
    title_fault (Refused BadTitle line) h = subst (IsFault index text BadTitle) (sym h.0) (bad_title h.1 h.2 h.3)
    title_fault (Refused _ line) h = absurd h
    title_fault Memory h = tt

    -- no test fails
    pub all_pass : (found : List ℕ) → title_in text said ≡ Some found → IsTitle found → (f : EditionRefusal) (j : ℕ) → IsTestMade f index j → Passes f index text j
    unfolding rank
    all_pass found e good NoTitle j made = has_title found e j
    all_pass found e good BadTitle j made = ((λ all_said others. subst (λ t. IfSome t IsTitle) (sym (one_title all_said others ∙ e)) good), tt)
    all_pass found e good f j made = before_no_title f j (omega arith) made

  -- the title and the info of what was gathered
  pub gathered_title : (g : Gathered) (s : HasGathered text (text_lines index) g) → title_from (octets_of (get_by_text g.reserved short_key)) ≡ title_in text s.said
  gathered_title g s = ap title_from (s.reserved short_key refl)

  pub gathered_info : (g : Gathered) (s : HasGathered text (text_lines index) g) → info_from (octets_of (get_by_text g.reserved info_key)) ≡ info_in text s.said
  gathered_info g s = ap info_from (s.reserved info_key refl)

  -- what was gathered is the reading
  pub reading_from : (g : Gathered) (title info : List ℕ) → HasGathered text (text_lines index) g → title_from (octets_of (get_by_text g.reserved short_key)) ≡ Some title → IsTitle title → info
      ≡ info_from (octets_of (get_by_text g.reserved info_key)) →
      IsReadEdition index text (record { title = title; info = info; text = text; lines = map line_of g.entries.items })
  reading_from g title info s title_is good info_is = record {
    passes = all_pass s.said s.are title (sym (gathered_title g s) ∙ title_is) good;
    lines = s.said;
    said = s.are;
    entries = s.entries;
    title = sym (gathered_title g s) ∙ title_is;
    info = info_is ∙ gathered_info g s;
    whole = refl;
  }

  pub gathered_title_fault : (fault : IndexFault) (g : Gathered) → HasGathered text (text_lines index) g → IsTitleFault fault (title_from (octets_of (get_by_text g.reserved short_key))) → IsIndexFault fault index text
  gathered_title_fault fault g s h = title_fault s.said s.are fault (subst (IsTitleFault fault) (gathered_title g s) h)

-- why the lines are not gathered is why no edition is read
pub lines_fault_is : (fault : IndexFault) (index text : List ℕ) → PassWholes index text → IsLinesFault fault index text → IsIndexFault fault index text
lines_fault_is (Refused refusal line) index text wholes h = subst (IsFault index text refusal) (sym h.1) (stop_fault refusal index text h.0 wholes h.2)
lines_fault_is Memory index text wholes h = tt
