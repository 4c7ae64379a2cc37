-- For private functions only.
use Rattle.std.specs.Prelude.{ℕ, Bool, false, eqb}
use Prim.Native.Char.{code}
use Rattle.laws.specs.Choice.{pick}
use Rattle.tokens.specs.Classes.{is_text}

-- text that does not close a comment
unfoldable pub is_comment_byte : ℕ → Bool
is_comment_byte b = pick (eqb b (code "\n")) false (is_text b)
