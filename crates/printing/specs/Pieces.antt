-- Pieces of printed lines: a word is stored into a list from a place on, where it has room.
use Rattle.std.specs.Prelude.{◌≡◌, List, map, ℕ, ◌+◌, ◌%◌, ◌≤◌, length, replicate, leb}
use Prim.Native.Char.{code}
use Rattle.std.proofs.lemmas.List.Edits.{sets}
use Rattle.laws.specs.Choice.{pick}
use Rattle.contract.specs.Decode.{word_of}

-- the list with a word from a place on; as it was where the word has no room
unfoldable pub put : List ℕ → ℕ → List ℕ → List ℕ
put old at w = pick (leb (at + length w) (length old)) (sets old at w) old

-- the place after the word; the same place where it has no room
unfoldable pub place_after : List ℕ → ℕ → List ℕ → ℕ
place_after old at w = pick (leb (at + length w) (length old)) (at + length w) at

-- the same of a word that has room
pub record Put (old : List ℕ) (at : ℕ) (w : List ℕ) (next : ℕ) (new : List ℕ) : Type 0 where
  pub place : next ≡ at + length w
  pub list : new ≡ sets old at w
  pub room : at + length w ≤ length old

abbrev pub spaces : ℕ → List ℕ
spaces n = replicate n (code " ")

-- the name or string whose length stands at word o of a table, its numbers as bytes
abbrev pub name_bytes : List ℕ → ℕ → List ℕ
name_bytes w o = map (λ b. b % 256) (word_of w o)
