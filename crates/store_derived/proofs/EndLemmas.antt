-- The first and the last of runs of three octets, one run after another.
use Rattle.std.proofs.Common.{◌≡◌, ℕ, ◌+◌, ◌-◌, ◌<◌, ◌≤◌, true, false, cond, List, [], ◌∷◌, ◌++◌, drop, length, get_or, filter, Option, Some, None, refl, ap, sym, ◌∙◌, append_assoc, append-nil}
use Rattle.std.specs.Option.{option_or}
use Rattle.store_derived.specs.KeptGrams.{is_kept_gram, kept_grams}
use Rattle.store_derived.specs.Search.{Rows, AllRows, WithGrams, last_gram, by_ends}
use Rattle.store_derived.proofs.PieceLemmas.{gram_to_end, no_more}

-- what is looked at by the first run, where there is one, and the last
abbrev pub rows_with : Option (List ℕ) → List ℕ → Rows
rows_with None last = AllRows
rows_with (Some first) last = WithGrams first last

-- ---- one run behind others

last_behind : (g : List ℕ) (rest : List (List ℕ)) (gram : List ℕ) → last_gram g (rest ++ gram ∷ []) ≡ gram
last_behind g [] gram = refl
last_behind g (next ∷ rest) gram = last_behind next rest gram

first_of : Rows → List ℕ
first_of (WithGrams a b) = a
first_of _ = []

pub one_behind : (runs : List (List ℕ)) (first : Option (List ℕ)) (last gram : List ℕ) → rows_with first last ≡ by_ends runs → rows_with (option_or first (Some gram)) gram ≡ by_ends (runs ++ gram ∷ [])
unfolding first_of
one_behind [] None last gram e = refl
one_behind [] (Some first) last gram e = cc
one_behind (g ∷ rest) None last gram e = cc
one_behind (g ∷ rest) (Some first) last gram e = ap (λ x. WithGrams x gram) (ap first_of e) ∙ ap (WithGrams g) (sym (last_behind g rest gram))

-- the runs that were seen, and those from here on, are those of the query
pub record AreSeen (query : List ℕ) (end : ℕ) (rows : Rows) : Type 0 where
  pub seen : List (List ℕ)
  pub rows_are : rows ≡ by_ends seen
  pub left : seen ++ kept_grams (drop (end - 3) query) ≡ kept_grams query

pub none_seen : (query : List ℕ) → AreSeen query 3 AllRows
none_seen query = record { seen = []; rows_are = refl; left = refl }

pub kept_seen : (query : List ℕ) (end : ℕ) (rows rows' : Rows) → 3 ≤ end → end < length query + 1 → is_kept_gram (get_or query (end - 3) 0 ∷ get_or query (end - 2) 0 ∷ get_or query (end - 1) 0 ∷ []) ≡ true
    → ((runs : List (List ℕ)) → rows ≡ by_ends runs → rows' ≡ by_ends (runs ++ (get_or query (end - 3) 0 ∷ get_or query (end - 2) 0 ∷ get_or query (end - 1) 0 ∷ []) ∷ [])) → AreSeen query end rows → AreSeen query (end + 1) rows'
kept_seen query end rows rows' low fits kept grows old =
    let g = get_or query (end - 3) 0 ∷ get_or query (end - 2) 0 ∷ get_or query (end - 1) 0 ∷ [] in
    let rest = kept_grams (drop (end + 1 - 3) query) in
    let next : kept_grams (drop (end - 3) query) ≡ g ∷ rest = ap (filter is_kept_gram) (gram_to_end query end low fits) ∙ ap (λ b. cond b (g ∷ rest) rest) kept in
    record {
      seen = old.seen ++ g ∷ [];
      rows_are = grows old.seen old.rows_are;
      left = append_assoc old.seen (g ∷ []) rest ∙ ap (λ l. old.seen ++ l) (sym next) ∙ old.left;
    }

pub left_out_seen : (query : List ℕ) (end : ℕ) (rows : Rows) → 3 ≤ end → end < length query + 1 → is_kept_gram (get_or query (end - 3) 0 ∷ get_or query (end - 2) 0 ∷ get_or query (end - 1) 0 ∷ []) ≡ false → AreSeen query end rows
    → AreSeen query (end + 1) rows
left_out_seen query end rows low fits out old =
    let g = get_or query (end - 3) 0 ∷ get_or query (end - 2) 0 ∷ get_or query (end - 1) 0 ∷ [] in
    let rest = kept_grams (drop (end + 1 - 3) query) in
    let next : kept_grams (drop (end - 3) query) ≡ rest = ap (filter is_kept_gram) (gram_to_end query end low fits) ∙ ap (λ b. cond b (g ∷ rest) rest) out in
    record { seen = old.seen; rows_are = old.rows_are; left = ap (λ l. old.seen ++ l) (sym next) ∙ old.left }

pub all_seen : (query : List ℕ) (end : ℕ) (rows : Rows) → length query < end - 3 + 3 → AreSeen query end rows → rows ≡ by_ends (kept_grams query)
all_seen query end rows past old =
    old.rows_are ∙ ap by_ends (sym (append-nil old.seen) ∙ ap (λ l. old.seen ++ l) (sym (ap (filter is_kept_gram) (no_more query (end - 3) past))) ∙ old.left)
