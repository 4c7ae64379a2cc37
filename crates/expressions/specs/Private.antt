-- For private functions only.
use Rattle.std.specs.Prelude.{ℕ, zero, suc, ◌≡◌, Bool, false, List, length}
use Rattle.entries.specs.Draft.{Draft}
use Rattle.reading_laws.specs.Walk.{Cursor, Walk, stop, draft, next_of, enclosed, nots, chain, operand_at}
use Rattle.cursors.specs.Packed.{is_stop, cursor_in}
use Rattle.expressions.specs.declared.terms.Nots.{Nots}
use Rattle.expressions.specs.declared.terms.Rank.{Rank}
use Rattle.expressions.specs.declared.terms.Rank.TheVariants.{Or, And, Sum, Product}

-- what code leaves of `~` in a row
pub record NotsAre (s : List ℕ) (c : Cursor) (n : List ℕ) (r : Nots) (m : List ℕ) : Type 0 where
  pub goes : is_stop r.next ≡ false
  pub same :
      (t : List ℕ) (go : ℕ → Cursor → Draft → Walk) → nots s (length s) 0 c (draft t n) go ≡ go r.many (cursor_in s r.next) (draft t m)

-- the number of a rank in the grammar
abbrev pub rank_number : Rank → ℕ
rank_number Or = 0
rank_number And = 1
rank_number Sum = 2
rank_number Product = 3

module _ (s : List ℕ) (h : Bool) where
  -- operands of a rank with its operators between them
  abbrev pub chain_at : ℕ → ℕ → Cursor → Draft → Walk
  chain_at n r = chain s r (operand_at s h n r)

  -- the same in parentheses, at the opening one
  unfoldable pub enclosed_at : ℕ → ℕ → Cursor → Draft → Walk
  enclosed_at zero r c p = stop 10 c.start
  enclosed_at (suc n) r c p = enclosed s (chain_at n r (next_of s c) p)
