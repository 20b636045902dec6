-- Parts of texts that are kept in memory, those that were used last first.
use Rattle.std.specs.Prelude.{◌≡◌, ◌&&◌, ℕ, ◌≤◌, ◌-◌, Bool, nat_le, nat_eq, if◌then◌else◌, List, [], ◌∷◌, map, length, take, Option, None, Some, IfSome, Vec}
use Rattle.std.specs.List.{sum_by}
use Rattle.std.specs.Map.{remove_entry}
use Rattle.std.specs.declared.alloc.Global.{Global}
use Rattle.lru.specs.LruCache.{LruCache}

abbrev pub most_kept_octets : ℕ
most_kept_octets = 268435456

abbrev pub most_texts : ℕ
most_texts = 16384

-- the number of an edition, and that of a part of its text
abbrev pub PartNumbers : Type 0
PartNumbers = ℕ × ℕ

abbrev pub same_key : PartNumbers → PartNumbers → Bool
same_key a b = nat_eq a.0 b.0 && nat_eq a.1 b.1

-- how many octets the texts have, all together
abbrev pub octets_of_texts : List (PartNumbers × List ℕ) → ℕ
octets_of_texts texts = sum_by (λ kept. length kept.1) texts

-- the first of them, as many as have no more octets than this
abbrev pub fitting : ℕ → List (PartNumbers × List ℕ) → List (PartNumbers × List ℕ)
fitting room [] = []
fitting room (kept ∷ texts) = if nat_le (length kept.1) room then kept ∷ fitting (room - length kept.1) texts else []

-- a text is put first, in place of the one under its key, or where there are too many of the last
abbrev pub put_first : PartNumbers → List ℕ → List (PartNumbers × List ℕ) → List (PartNumbers × List ℕ)
put_first key text texts = (key, text) ∷ take (most_texts - 1) (remove_entry (same_key key) texts)

-- and then those go that were used least recently, until the rest fits. A text that is too long by itself isn't put
abbrev pub with_text : PartNumbers → List ℕ → List (PartNumbers × List ℕ) → List (PartNumbers × List ℕ)
with_text key text texts = if nat_le (length text) most_kept_octets then fitting most_kept_octets (put_first key text texts) else texts

-- ---- how they are held

abbrev pub texts_of : List (PartNumbers × Vec ℕ Global) → List (PartNumbers × List ℕ)
texts_of entries = map (λ e. (e.0, e.1.items)) entries

abbrev pub kept_texts : Option (LruCache PartNumbers (Vec ℕ Global)) → List (PartNumbers × List ℕ)
kept_texts None = []
kept_texts (Some cache) = texts_of cache.entries

-- their octets are counted, and are within the limit; so is how many there may be
pub record TextsAreCounted (kept : Option (LruCache PartNumbers (Vec ℕ Global))) (octets : ℕ) : Type 0 where
  pub counted : octets ≡ octets_of_texts (kept_texts kept)
  pub few : octets ≤ most_kept_octets
  pub cap : IfSome kept (λ (cache : LruCache PartNumbers (Vec ℕ Global)). cache.cap ≡ most_texts)
