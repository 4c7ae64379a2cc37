-- What the readers work with: where a row stands.
use Rattle.std.specs.Prelude.{ℕ, ◌+◌, ◌*◌, ◌≤◌, ◌≡◌, List, length}
use Rattle.contract.specs.Table.{word_at}

-- the words from r on are those of row i of a section
pub record RowAt (w : List ℕ) (start width i r : ℕ) : Type 0 where
  pub bound : r ≤ start + length w
  pub same : (j : ℕ) → word_at w (r + j) ≡ word_at w (start + i * width + j)
