-- Statements at work: memory, the labels sent so far, and the refusal met, if any.
use Rattle.std.specs.Prelude.{ℕ, suc, ◌+◌, ◌-◌, min, true, false, List, [], ◌∷◌, get_or, set, eqb, leb, ltb, ℤ, pos, negsuc, nat_abs, Option, Some, is_none, Ok, Err}
use Rattle.laws.specs.Choice.{pick}
use Rattle.questions.specs.declared.Question.{Question}
use Rattle.questions.specs.declared.Question.TheVariants as ask
use Rattle.numbers.specs.declared.Value.{Value}
use Rattle.numbers.specs.declared.Value.TheVariants.{Integer, Text}
use Rattle.numbers.specs.Numbers.{Answer, Truth}
use Rattle.contract.specs.Limits.{top, max_parties, max_assets}
use Rattle.contract.specs.Tree.{Holder, held, Action, assign, send, move, pay, move_all, pay_all, Block, none, perform, conditional, broken_block}
use Rattle.evaluation.specs.Memory.{Memory, memory_of, place_of}
use Rattle.evaluation.specs.Meaning.{value_of, truth_of}
use Rattle.statements.specs.declared.Label.{Label}

-- a memory that statements work on, with the labels that they have sent and the question that refused, if one did
pub record Work : Type 0 where
  pub kinds : List ℕ
  pub numbers : List ℤ
  pub texts : List ℕ
  -- the amounts of the assets, then of the asset parameters
  pub holdings : List ℕ
  pub labels : List Label
  pub count : ℕ
  pub refusal : Option Question

-- the kinds of labels
abbrev pub integer_label : ℕ
integer_label = 1

abbrev pub string_label : ℕ
string_label = 2

abbrev pub asset_label : ℕ
asset_label = 3

abbrev pub max_labels : ℕ
max_labels = 64

-- places for the amounts of 16 assets and 4 asset parameters
abbrev pub max_holdings : ℕ
max_holdings = 20

-- what expressions are worked out in, with value parameters v and clock t
abbrev pub memory_in : List ℤ → ℕ → Work → Memory
memory_in v t w = memory_of w.kinds w.numbers w.texts w.holdings v t

-- the work ends with a refusal
abbrev pub stopped : Work → Question → Work
stopped w q =
    record { kinds = w.kinds; numbers = w.numbers; texts = w.texts; holdings = w.holdings; labels = w.labels; count = w.count; refusal = Some q }

-- the work goes on if no refusal was met
unfoldable pub onward : Work → (Work → Work) → Work
onward w f = pick (is_none w.refusal) (f w) w

-- field x holds what its kind says: an integer, or a string by its number
abbrev pub filled : Work → ℕ → ℕ → ℤ → ℕ → Work
filled w x kind number text =
    record {
      kinds = set w.kinds x kind;
      numbers = set w.numbers x number;
      texts = set w.texts x text;
      holdings = w.holdings;
      labels = w.labels;
      count = w.count;
      refusal = w.refusal;
    }

-- field x gets a value
abbrev pub stored : Work → ℕ → Value → Work
stored w x (Integer z) = filled w x 1 z 0
stored w x (Text n) = filled w x 2 (pos 0) n

abbrev pub with_holdings : Work → List ℕ → Work
with_holdings w hs =
    record { kinds = w.kinds; numbers = w.numbers; texts = w.texts; holdings = hs; labels = w.labels; count = w.count; refusal = w.refusal }

-- a label after those sent so far
unfoldable pub labelled : Work → ℕ → ℕ → ℤ → ℕ → Work
labelled w kind party value group =
    pick (ltb w.count max_labels)
    (record {
      kinds = w.kinds;
      numbers = w.numbers;
      texts = w.texts;
      holdings = w.holdings;
      labels = set w.labels w.count (record { kind = kind; party = party; value = value; group = group });
      count = suc w.count;
      refusal = w.refusal;
    })
    w

-- a value is sent to a party: it comes from no group
abbrev pub sent : Work → ℕ → Value → Work
sent w a (Integer z) = labelled w integer_label a z 0
sent w a (Text n) = labelled w string_label a (pos n) 0

-- a party's number; past the last one, of no contract that was read
abbrev pub receiver : ℕ → ℕ
receiver a = min a max_parties

-- a holder's place, and the amount there
abbrev pub place : Holder → ℕ
place h = min (place_of h) max_holdings

-- the group of the name at place i, by the groups of names; `start` is the number of the function's first asset parameter
abbrev pub group_at : List ℕ → ℕ → ℕ → ℕ
group_at groups start i = get_or groups (pick (ltb i max_assets) i (start + (i - max_assets))) 0

abbrev pub amount_at : Work → ℕ → ℕ
amount_at w i = get_or w.holdings i 0

-- n moves from place i to place j: questions 35 and 36; a move to itself changes nothing
unfoldable pub moved : Work → ℕ → ℕ → ℕ → Work
moved w i j n =
    pick (ltb (amount_at w i) n) (stopped w ask.AmountHeld)
    -- of no contract that was read
    (pick (leb max_holdings j) (stopped w ask.TableCheck)
    (pick (eqb i j) w
    (pick (ltb top (amount_at w j + n)) (stopped w ask.SumFits)
    (with_holdings w (set (set w.holdings i (amount_at w i - n)) j (amount_at w j + n))))))

-- n is paid from place i to party a, the label with place i's group: question 35
unfoldable pub paid : (ℕ → ℕ) → Work → ℕ → ℕ → ℕ → Work
paid g w i a n =
    pick (ltb (amount_at w i) n) (stopped w ask.AmountHeld)
    (labelled (with_holdings w (set w.holdings i (amount_at w i - n))) asset_label a (pos n) (g i))

-- with a value
abbrev pub with_value : Work → Answer → (Value → Work) → Work
with_value w (Err q) f = stopped w q
with_value w (Ok v) f = f v

-- with an amount: an integer, question 31, that is 0 or more, question 34
abbrev pub with_amount : Work → Answer → (ℕ → Work) → Work
with_amount w (Err q) f = stopped w q
with_amount w (Ok (Text t)) f = stopped w ask.OperandKind
with_amount w (Ok (Integer (pos n))) f = f n
with_amount w (Ok (Integer (negsuc n))) f = stopped w ask.AmountSign

-- g gives the groups of places; `h -o k` means all of h
unfoldable pub performed : (ℕ → ℕ) → List ℤ → ℕ → Work → Action → Work
performed g v t w (assign e x) = with_value w (value_of (memory_in v t w) e) (stored w x)
performed g v t w (send e a) = with_value w (value_of (memory_in v t w) e) (sent w (receiver a))
performed g v t w (move e h k) = with_amount w (value_of (memory_in v t w) e) (moved w (place h) (place k))
performed g v t w (pay e h a) = with_amount w (value_of (memory_in v t w) e) (paid g w (place h) (receiver a))
performed g v t w (move_all h k) = with_amount w (value_of (memory_in v t w) (held h)) (moved w (place h) (place k))
performed g v t w (pay_all h a) = with_amount w (value_of (memory_in v t w) (held h)) (paid g w (place h) (receiver a))

-- the block of a conditional is run if its condition holds
abbrev pub by_truth : Work → Truth → Work → Work
by_truth w (Err q) after = stopped w q
by_truth w (Ok true) after = after
by_truth w (Ok false) after = w

-- the statements of a block in order
unfoldable pub ran : (ℕ → ℕ) → List ℤ → ℕ → Work → Block → Work
ran g v t w none = w
ran g v t w (perform b a) = onward (ran g v t w b) (λ x. performed g v t x a)
ran g v t w (conditional b c s) = onward (ran g v t w b) (λ x. by_truth x (truth_of (memory_in v t x) c) (ran g v t x s))
-- of no contract that was read
ran g v t w broken_block = stopped w ask.TableCheck

-- ---- a work whose parts stand apart

-- a label is so many words: kind, party, value, group
abbrev pub label_words : ℕ
label_words = 4

-- labels by their words
unfoldable pub labels_from : List ℤ → List Label
labels_from [] = []
labels_from (k ∷ []) = []
labels_from (k ∷ p ∷ []) = []
labels_from (k ∷ p ∷ v ∷ []) = []
labels_from (k ∷ p ∷ v ∷ g ∷ ws) = record { kind = nat_abs k; party = nat_abs p; value = v; group = nat_abs g } ∷ labels_from ws

abbrev pub work_from : List ℕ → List ℤ → List ℕ → List ℕ → List Label → ℕ → Option Question → Work
work_from kinds numbers texts holdings labels count refusal =
    record { kinds = kinds; numbers = numbers; texts = texts; holdings = holdings; labels = labels; count = count; refusal = refusal }

-- the same, the labels standing in a list of words
abbrev pub work_in : List ℕ → List ℤ → List ℕ → List ℕ → List ℤ → ℕ → Option Question → Work
work_in kinds numbers texts holdings words count refusal = work_from kinds numbers texts holdings (labels_from words) count refusal
