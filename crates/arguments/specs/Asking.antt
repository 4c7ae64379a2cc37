-- What arguments of the desk ask for, one after the other, and the first thing that is wrong with them.
use Rattle.std.specs.Prelude.{ℕ, suc, Bool, true, false, ◌||◌, List, [], ◌∷◌, length, get_or, eqb, ltb, if◌then◌else◌, Option, Some, None, is_some, bytes_eq, Result, Ok, Err}
use Prim.Native.Char.{code}
use Rattle.laws.specs.Bytes.{bytes}
use Rattle.arguments.specs.declared.Argument.{Argument}
use Rattle.arguments.specs.declared.Argument.TheVariants.{Help, Explain, Review, Pages, File, Unknown, Long}
use Rattle.arguments.specs.declared.Mistake.{Mistake}
use Rattle.arguments.specs.declared.Mistake.TheVariants.{Twice, Alone, Many, Without}
use Rattle.arguments.specs.declared.Mistake.TheVariants as mistake
use Rattle.arguments.specs.declared.Fault.{Fault}
use Rattle.arguments.specs.declared.Asked.{Asked}

-- the most bytes of an argument
abbrev pub max_bytes : ℕ
max_bytes = 1024

-- what may be wrong
abbrev pub long : Mistake
long = mistake.Long

abbrev pub unknown : Mistake
unknown = mistake.Unknown

abbrev pub twice : Mistake
twice = Twice

abbrev pub alone : Mistake
alone = Alone

abbrev pub many : Mistake
many = Many

abbrev pub without : Mistake
without = Without

-- an argument over the most bytes; one that starts with `-`
abbrev pub is_long : List ℕ → Bool
is_long argument = ltb max_bytes (length argument)

abbrev pub starts_with_minus : List ℕ → Bool
starts_with_minus argument = eqb (get_or argument 0 0) (code "-")

-- what an argument is
abbrev pub kind_of : List ℕ → Argument
kind_of a =
    if is_long a then Long
    else if bytes_eq a (bytes "--help") then Help
    else if bytes_eq a (bytes "--explain") then Explain
    else if bytes_eq a (bytes "--review") then Review
    else if bytes_eq a (bytes "--pages") then Pages
    else if starts_with_minus a then Unknown
    else File

abbrev pub nothing_asked : Asked
nothing_asked = record { help = false; explain = false; review = false; pages = None; option = None; file = None }

-- argument n is wrong
abbrev pub wrong : ℕ → Mistake → Result Asked Fault
wrong n m = Err (record { place = n; mistake = m })

-- an option, the n-th argument: given before it is wrong, and so is one that goes with none of those given
abbrev pub once : ℕ → Bool → Bool → Asked → Result Asked Fault
once n given barred next =
    if given then wrong n twice
    else if barred then wrong n alone
    else Ok next

abbrev pub with_help : Asked → ℕ → Result Asked Fault
with_help a n = once n a.help a.review (record a { help = true })

abbrev pub with_explain : Asked → ℕ → Result Asked Fault
with_explain a n = once n a.explain a.review (record a { explain = true })

abbrev pub with_review : Asked → ℕ → Result Asked Fault
with_review a n = once n a.review ((a.help || a.explain) || is_some a.pages) (record a { review = true })

-- `--pages`: its OUT is still to come
abbrev pub with_pages : Asked → ℕ → Result Asked Fault
with_pages a n = once n (is_some a.pages) a.review (record a { option = Some n })

-- one FILE
abbrev pub with_file : Asked → ℕ → Result Asked Fault
with_file a n =
    if is_some a.file then wrong n many
    else Ok (record a { file = Some n })

-- the argument of the option before it, which stands at a place: OUT
abbrev pub with_out : Asked → ℕ → ℕ → List ℕ → Result Asked Fault
with_out a place n argument =
    if is_long argument then wrong n long
    else if starts_with_minus argument then wrong place without
    else Ok (record a { pages = Some n; option = None })

-- by what an argument is
abbrev pub taken : Asked → ℕ → Argument → Result Asked Fault
taken a n Help = with_help a n
taken a n Explain = with_explain a n
taken a n Review = with_review a n
taken a n Pages = with_pages a n
taken a n File = with_file a n
taken a n Unknown = wrong n unknown
taken a n Long = wrong n long

-- by the option that waits for its argument
abbrev pub heard_by : Option ℕ → Asked → ℕ → List ℕ → Result Asked Fault
heard_by None a n argument = taken a n (kind_of argument)
heard_by (Some place) a n argument = with_out a place n argument

-- what is asked with one more argument, the n-th
abbrev pub heard : Asked → ℕ → List ℕ → Result Asked Fault
heard a n argument = heard_by a.option a n argument

-- no argument is left: an option whose argument did not come is wrong
abbrev pub ended_by : Option ℕ → Asked → Result Asked Fault
ended_by None a = Ok a
ended_by (Some place) a = wrong place without

abbrev pub ended : Asked → Result Asked Fault
ended a = ended_by a.option a

-- once something is wrong, nothing more is heard
abbrev pub go_on : Result Asked Fault → (Asked → Result Asked Fault) → Result Asked Fault
go_on (Ok a) next = next a
go_on (Err fault) next = Err fault

-- what is asked with these arguments, the first of them the n-th
unfoldable pub asks_from : Asked → ℕ → List (List ℕ) → Result Asked Fault
asks_from a n [] = Ok a
asks_from a n (argument ∷ more) = go_on (heard a n argument) (λ b. asks_from b (suc n) more)

-- what a program's arguments ask for; they are numbered from 1
unfoldable pub asks : List (List ℕ) → Result Asked Fault
asks arguments = go_on (asks_from nothing_asked 1 arguments) ended
