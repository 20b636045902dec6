-- Lists that stand one after another in a longer one, told by where each of them begins.
use Rattle.std.specs.Prelude.{ℕ, ◌+◌, ◌<◌, ◌≤◌, List, length, map, slice_index, slice_index_or, slice_range}
use Rattle.std.specs.List.{range_with_len}

-- where the list at a place ends: where the next one begins, or at the end of all
abbrev pub end_at : List ℕ → List ℕ → ℕ → ℕ
end_at all begins at = slice_index_or begins (at + 1) (length all)

abbrev pub run_at : List ℕ → List ℕ → ℕ → List ℕ
run_at all begins at = slice_range all (slice_index begins at) (end_at all begins at)

abbrev pub runs : List ℕ → List ℕ → List (List ℕ)
runs all begins = map (run_at all begins) (range_with_len 0 (length begins))

-- none begins before the one before it, nor behind the end
pub record AreBegins (all begins : List ℕ) : Type 0 where
  pub rise : (at : ℕ) → at + 1 < length begins → slice_index begins at ≤ slice_index begins (at + 1)
  pub within : (at : ℕ) → at < length begins → slice_index begins at ≤ length all
