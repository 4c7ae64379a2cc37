-- How the first thing that is wrong with the desk's arguments is said.
use Rattle.std.specs.Prelude.{List, ℕ, ◌++◌, codes, decimal}
use Rattle.arguments.specs.declared.Mistake.{Mistake}
use Rattle.arguments.specs.declared.Mistake.TheVariants.{Long, Unknown, Twice, Alone, Many, Without}
use Rattle.arguments.specs.declared.Fault.{Fault}

-- what is wrong, in words
abbrev pub words_of : Mistake → List ℕ
words_of Long = codes " is over 1024 bytes"
words_of Unknown = codes " is no option of the desk"
words_of Twice = codes " is an option given before"
words_of Alone = codes ": --review goes with no other option"
words_of Many = codes " is one FILE too many"
words_of Without = codes " is an option without its argument"

-- the argument by its number, and what is wrong with it
abbrev pub said : Fault → List ℕ
said f = codes "argument " ++ decimal f.place ++ words_of f.mistake
