-- A session line, the bytes before its LF: what it asks for, or the question that refuses it. A parser is given the place from which it
-- reads; it is done with what it read and the place after it, or says no, which is question 51.
use Rattle.std.specs.Prelude.{ℕ, zero, suc, ◌+◌, Bool, List, [], ◌∷◌, length, get_or, drop, eqb, leb, ℤ, pos, neg_ℤ}
use Prim.Native.Char.{code}
use Rattle.questions.specs.declared.Question.{Question}
use Rattle.questions.specs.declared.Question.TheVariants as ask
use Rattle.laws.specs.Choice.{pick}
use Rattle.laws.specs.Bytes.{bytes, same_bytes, starts_with}
use Rattle.words.specs.Words.{spelled, set_verb, ok_verb, tick as tickWord}
use Rattle.numbers.specs.Numbers.{within}
use Rattle.tokens.specs.Classes.{is_letter, is_digit, is_name_byte, run, decimal}
use Rattle.tokens.specs.Tokens.{between}

-- where a name stands in the line: its first byte, and the place after its last
pub record Span : Type 0 where
  pub start : ℕ
  pub end : ℕ

pub data Verb : Type 0 where
  set : Verb
  ok : Verb

-- x |-> 3
pub record Field : Type 0 where
  pub name : Span
  pub value : ℤ

-- Party VERB [ x |-> 3, .. ]
pub record Part : Type 0 where
  pub party : Span
  pub verb : Verb
  pub fields : List Field

-- Party : function
pub record Names : Type 0 where
  pub party : Span
  pub function : Span

-- ( values ) [ assets ]
pub record Lists : Type 0 where
  pub values : List ℤ
  pub assets : List ℤ

pub record Call : Type 0 where
  pub names : Names
  pub lists : Lists

pub data Asked : Type 0 where
  refused : Question → Asked
  tick : Asked
  jump : ℤ → Asked
  call : Call → Asked
  agreement : List Part → Asked

-- ---- parsers

pub data Parsed (A : Type 0) : Type 0 where
  done : A → ℕ → Parsed A
  no : Parsed A

abbrev pub Parser : Type 0 → Type 0
Parser A = ℕ → Parsed A

abbrev pub and_then : {A B : Type 0} → Parsed A → (A → Parser B) → Parsed B
and_then (done a n) f = f a n
and_then no f = no

-- one after the other, as the lines of a `do` block
abbrev pub ◌>>=◌ : {A B : Type 0} → Parser A → (A → Parser B) → Parser B
◌>>=◌ m f at = and_then (m at) f

abbrev pub ◌>>◌ : {A B : Type 0} → Parser A → Parser B → Parser B
◌>>◌ m k at = and_then (m at) (λ a. k)

-- nothing more to read
abbrev pub give : {A : Type 0} → A → Parser A
give a at = done a at

abbrev pub fail : {A : Type 0} → Parser A
fail at = no

-- the one, or if it says no the other, from the same place
abbrev pub otherwise : {A : Type 0} → Parsed A → Parsed A → Parsed A
otherwise (done a n) q = done a n
otherwise no q = q

-- a space is the byte 0x20 alone
unfoldable pub is_space : ℕ → Bool
is_space b = eqb b (code " ")

module _ (s : List ℕ) where
  -- ---- tokens, with free spaces before each

  -- the place of the next byte that is no space
  unfoldable pub skipped : ℕ → ℕ
  skipped at = at + run is_space (drop at s)

  -- whether the next token is this mark
  unfoldable pub is_next : List ℕ → ℕ → Bool
  is_next m at = starts_with (drop (skipped at) s) m

  unfoldable pub mark : List ℕ → Parser Unit
  mark m at = pick (is_next m at) (done tt (skipped at + length m)) no

  abbrev pub if_next : {A : Type 0} → List ℕ → Parser A → Parser A → Parser A
  if_next m p q at = pick (is_next m at) (p at) (q at)

  -- the line's end
  unfoldable pub end : Parser Unit
  end at = pick (leb (length s) (skipped at)) (done tt at) no

  -- the name that starts at i: a letter, then letters, digits and underscores
  unfoldable pub name_from : Parser Span
  name_from i =
      pick (is_letter (get_or s i 0))
      (done (record { start = i; end = i + run is_name_byte (drop i s) }) (i + run is_name_byte (drop i s)))
      no

  unfoldable pub name : Parser Span
  name at = name_from (skipped at)

  -- digits from i on, as the number that `sign` makes of them, within 64 bits
  unfoldable pub digits : (ℤ → ℤ) → Parser ℤ
  digits sign i =
      pick (is_digit (get_or s i 0))
      (pick (within (sign (pos (decimal 0 (drop i s)))))
      (done (sign (pos (decimal 0 (drop i s)))) (i + run is_digit (drop i s)))
      no)
      no

  -- the minus sign stands straight before its digits
  unfoldable pub integer : Parser ℤ
  integer at =
      pick (is_next (bytes "-") at) (digits neg_ℤ (skipped at + 1)) (digits (λ z. z) (skipped at))

  -- whether a name is this fixed word
  unfoldable pub is_word : Span → ℕ → Bool
  is_word n k = same_bytes (between s n.start n.end) (spelled k)

  -- this fixed word
  unfoldable pub word : ℕ → Parser Unit
  word k = do
    n ← name
    λ at. pick (is_word n k) (done tt at) no

  -- ---- lists

  -- One item or more with a mark between them, then what closes the list. Each item takes some of the line, so as many turns as the line
  -- has bytes are enough.
  unfoldable pub items : {A : Type 0} → Parser A → List ℕ → Parser Unit → ℕ → Parser (List A)
  items item separator close zero = fail
  items item separator close (suc turns) = do
    x ← item
    if_next separator
        (do mark separator; xs ← items item separator close turns; give (x ∷ xs))
        (do close; give (x ∷ []))

  -- a list in brackets, maybe empty
  unfoldable pub list : {A : Type 0} → List ℕ → Parser A → List ℕ → Parser (List A)
  list opening item closing = do
    mark opening
    if_next closing (do mark closing; give []) (items item (bytes ",") (mark closing) (length s))

  -- ---- the forms of a line

  -- the closing bracket and the line's end
  unfoldable pub closed : Asked → Parser Asked
  closed a = do
    mark (bytes "]")
    end
    give a

  -- the clock that a jump goes to, and the line's end after it
  unfoldable pub jump_end : Parser Asked
  jump_end = do
    T ← integer
    closed (jump T)

  -- [TICK], three tokens, or [TICK T], four, which is a jump (document 02, F-3)
  unfoldable pub tick_line : Parser Asked
  tick_line = do
    mark (bytes "[")
    word tickWord
    if_next (bytes "]") (closed tick) jump_end

  -- a call's names
  unfoldable pub names : Parser Names
  names = do
    p ← name
    mark (bytes ":")
    f ← name
    give (record { party = p; function = f })

  -- its values and assets, up to the line's end
  unfoldable pub lists : Parser Lists
  lists = do
    vs ← list (bytes "(") integer (bytes ")")
    hs ← list (bytes "[") integer (bytes "]")
    end
    give (record { values = vs; assets = hs })

  unfoldable pub call_line : Parser Asked
  call_line = do
    n ← names
    l ← lists
    give (call (record { names = n; lists = l }))

  -- any other verb says no
  unfoldable pub verb : Parser Verb
  verb = do
    n ← name
    λ at. pick (is_word n set_verb) (done set at) (pick (is_word n ok_verb) (done ok at) no)

  unfoldable pub field : Parser Field
  field = do
    n ← name
    mark (bytes "|->")
    z ← integer
    give (record { name = n; value = z })

  unfoldable pub part : Parser Part
  part = do
    p ← name
    v ← verb
    fs ← list (bytes "[") field (bytes "]")
    give (record { party = p; verb = v; fields = fs })

  unfoldable pub parts : Parser (List Part)
  parts = items part (bytes "||") end (length s)

  unfoldable pub agreement_line : Parser Asked
  agreement_line = do
    ps ← parts
    give (agreement ps)

-- what was read, or question 51
abbrev pub or_refused : Parsed Asked → Asked
or_refused (done a n) = a
or_refused no = refused ask.LineForm

-- questions 50 and 51
unfoldable pub asked : List ℕ → Asked
asked s =
    pick (leb (length s) 512)
    (or_refused (otherwise (tick_line s 0) (otherwise (call_line s 0) (agreement_line s 0))))
    (refused ask.LineLength)
