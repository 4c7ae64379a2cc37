-- What asking for a page answers, and what it leaves in the lent buffer, for a table and all entries given (`entries_of` of the lent
-- numbers and values). The page's number plays no part in the answer.
use Rattle.std.specs.Prelude.{ℕ, ◌≡◌, List, ◌++◌, length, drop, ltb, Result, Ok, Err}
use Rattle.questions.specs.declared.Question.{Question}
use Rattle.questions.specs.declared.Question.TheVariants as ask
use Rattle.laws.specs.Choice.{pick}
use Rattle.laws.specs.Lists.{every}
use Rattle.contract.specs.Decode.{contract_of}
use Rattle.contract.specs.Check.{passes}
use Rattle.pages.specs.Entries.{Entry, is_payout}
use Rattle.pages.specs.Page.{page_of}

-- the bytes of a page
abbrev pub page_bytes : ℕ
page_bytes = 5185

-- questions 60, 3 and 61, for a table, all entries given and the buffer's length
unfoldable pub paged : List ℕ → List Entry → ℕ → Result Unit Question
paged w es size =
    pick (ltb size page_bytes) (Err ask.PageRoom)
    (pick (passes w) (pick (every (is_payout (contract_of w)) es) (Ok tt) (Err ask.PageEntries)) (Err ask.TableCheck))

-- a page stands first, and the bytes after it are as they were; a refusal leaves all
unfoldable pub after : Result Unit Question → List ℕ → List ℕ → List ℕ
after (Ok u) page old = page ++ drop page_bytes old
after (Err q) page old = old

abbrev pub buffer_after : List ℕ → List Entry → ℕ → List ℕ → List ℕ
buffer_after w es n old = after (paged w es (length old)) (page_of (contract_of w) es n) old

-- a refused page leaves the bytes that were lent for it
abbrev pub RefusedPage : Type 0
RefusedPage = (w : List ℕ) (es : List Entry) (n : ℕ) (old : List ℕ) (q : Question) → paged w es (length old) ≡ Err q → buffer_after w es n old ≡ old
