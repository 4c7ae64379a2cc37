-- How the fixed words are stored (document 02, F-6): end to end in one list of bytes, with the place at which each starts.
use Rattle.std.specs.Prelude.{ℕ, suc, ◌+◌, ◌-◌, ◌<◌, ◌≡◌, List, length, take, drop, get_or, flat_map, scan, sum_by}
use Prim.Native.String.{String}
use Rattle.laws.specs.Bytes.{bytes}
use Rattle.words.specs.Words.{spellings, spelled}

-- how many bytes a word has
abbrev pub size : String → ℕ
size word = length (bytes word)

-- all fixed words end to end
unfoldable pub packed : List ℕ
packed = flat_map bytes spellings

-- the place at which each starts: the first at 0, each other where the one before it ends
unfoldable pub starts : List ℕ
starts = scan (λ at word. at + size word) (λ at word. at) 0 spellings

-- the start with this number, or the end of the bytes where there is none
abbrev pub start_in : List ℕ → List ℕ → ℕ → ℕ
start_in all places k = get_or places k (length all)

-- what stands from the start with this number to the next, or to the end
unfoldable pub word_in : List ℕ → List ℕ → ℕ → List ℕ
word_in all places k = take (start_in all places (suc k) - start_in all places k) (drop (start_in all places k) all)

-- document 02's sentences on how the fixed words are stored, and that each is stored once: the bytes, and the places at which words start
pub record StoredWords (all places : List ℕ) : Type 0 where
  -- exactly as long as all of them together
  pub as_long : length all ≡ sum_by size spellings
  -- each word once: no two are the same
  pub each_once : (j k : ℕ) → j < length spellings → k < length spellings → spelled j ≡ spelled k → j ≡ k
  -- a start for each word, in one byte
  pub each_starts : length places ≡ length spellings
  pub in_one_byte : (k : ℕ) → k < length places → get_or places k 0 < 256
  -- from each start to the next, or to the end, stands the word as document 01 spells it
  pub stands : (k : ℕ) → k < length places → word_in all places k ≡ spelled k
