-- Where the rows of a section stand. Assumes nothing.
use mathlib.Core.Path.{◌≡◌, sym, ap, ◌∙◌}
use mathlib.Core.List.{List}
use Prim.Native.Nat.{ℕ, ◌+◌, ◌*◌}
use native.Mathlib.Nat.{add-zero}
use Rattle.contract.specs.Table.{word_at}
use Rattle.contract.specs.Private.{RowAt}

-- the first word of a row
pub row_first : (w : List ℕ) (start width i r : ℕ) → RowAt w start width i r → word_at w r ≡ word_at w (start + i * width)
row_first w start width i r a = ap (word_at w) (sym (add-zero r)) ∙ a.same 0 ∙ ap (word_at w) (add-zero _)
