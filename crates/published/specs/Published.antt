-- The published rules (source 000, section 4): Table 2 and Table 3 as relations, one constructor a rule; [ASSET UPDATE] has two
-- constructors, and `event_failed` is document 01's. Where document 01 or 02 changes a rule or completes it, its words stand at that place. A
-- jump (document 02) is so many [TICK]s.
use Rattle.std.specs.Prelude.{ℕ, suc, ◌+◌, ◌-◌, ◌<◌, ◌≤◌, ◌≡◌, ◌↔◌, Bool, true, false, not, List, [], ◌∷◌, ◌++◌, length, map, get_or, take, drop, set, eqb, ℤ, pos, negsuc, Ok, Err}
use Rattle.std.specs.Int.Signed.{le_z}
use Rattle.questions.specs.declared.Question.{Question}
use Rattle.questions.specs.declared.Question.TheVariants as ask
use Rattle.numbers.specs.declared.Value.{Value}
use Rattle.numbers.specs.declared.Value.TheVariants.{Integer, Text}
use Rattle.contract.specs.Limits.{top, max_fields, max_assets, max_parameters}
use Rattle.laws.specs.Lists.{every, repeated, keep}
use Rattle.contract.specs.Tree as tree
use Rattle.contract.specs.Tree.{Word, Holder, Expression, held, field, Condition, Action, assign, send, move, pay, move_all, pay_all, Block, none, perform, conditional, broken_block, Event, Function, Verb, Clause, Contract}
use Rattle.evaluation.specs.Memory.{Memory, memory_of, place_of}
use Rattle.evaluation.specs.Meaning.{value_of, truth_of}
use Rattle.state.specs.declared.State.{State}
use Rattle.state.specs.declared.Pending.{Pending}
use Rattle.state.specs.States.{event_of, live, max_pending}
use Rattle.statements.specs.declared.Label.{Label}
use Rattle.statements.specs.Running.{integer_label, string_label, asset_label}
use Rattle.outcomes.specs.declared.Outcome.{Outcome}
use Rattle.outcomes.specs.declared.Stepped.{Stepped}
use Rattle.outcomes.specs.Outcomes.{refused}
use Rattle.machine.specs.Steps.{Invocation, precondition_holds}
use Rattle.agreements.specs.Agreement.{Part}

-- ---- runtime contracts: C(Φ, ℓ, Σ, Ψ), t

-- Φ: no state, or a state of the contract
pub data Phase : Type 0 where
  no_state : Phase
  in_state : ℕ → Phase

-- the statements of a residual, in order
pub data Statement : Type 0 where
  act : Action → Statement
  -- (B) { S }
  when : Condition → Block → Statement

-- `h -o t` means all of asset h, so the amount h from h
abbrev pub spelled : Action → Action
spelled (move_all h k) = move (held h) h k
spelled (pay_all h a) = pay (held h) h a
spelled (assign e x) = assign e x
spelled (send e a) = send e a
spelled (move e h k) = move e h k
spelled (pay e h a) = pay e h a

unfoldable pub in_order : Block → List Statement
in_order none = []
in_order (perform b a) = in_order b ++ (act (spelled a) ∷ [])
in_order (conditional b t s) = in_order b ++ (when t s ∷ [])
-- of no contract that was read
in_order broken_block = []

-- Σ: nothing, or S W => @Q', where W are the events of the contract's n-th function
pub data Residual : Type 0 where
  nothing : Residual
  left : (statements : List Statement) (n : ℕ) (events : List Event) (last : ℕ) → Residual

-- The memory ℓ of fields, assets and parameters has the clock t too, which `now` reads. Pending events stand in order, oldest first.
pub data Configuration : Type 0 where
  runtime : Phase → Memory → Residual → List Pending → Configuration

-- ---- the memory

-- [[E]]ℓ, whose definition source 000 omits: `value_of`, and of conditions `truth_of` (`&&` and `||` by document 02, F-5)

-- ℓ(h), the amount at the place of h
abbrev pub amount_of : Memory → Holder → ℕ
amount_of m h = get_or m.holdings (place_of h) 0

-- ℓ with other amounts
abbrev pub with_amounts : Memory → List ℕ → Memory
with_amounts m hs = memory_of m.kinds m.numbers m.texts hs m.values m.clock

-- ℓ[h ↦ n]
abbrev pub with_amount : Memory → Holder → ℕ → Memory
with_amount m h n = with_amounts m (set m.holdings (place_of h) n)

-- ℓ[x ↦ v]
abbrev pub with_value : Memory → ℕ → Value → Memory
with_value m x (Integer z) = memory_of (set m.kinds x 1) (set m.numbers x z) (set m.texts x 0) m.holdings m.values m.clock
with_value m x (Text n) = memory_of (set m.kinds x 2) (set m.numbers x (pos 0)) (set m.texts x n) m.holdings m.values m.clock

-- ℓ[z ↦ u, y ↦ v], of a function's value parameters and asset parameters
abbrev pub bound : Memory → List ℤ → List ℕ → Memory
bound m us vs =
    memory_of m.kinds m.numbers m.texts (m.holdings ++ take max_parameters (vs ++ repeated max_parameters 0)) us m.clock

-- ℓ without parameters
abbrev pub unbound : Memory → Memory
unbound m = memory_of m.kinds m.numbers m.texts (take max_assets m.holdings) [] m.clock

-- ---- Table 3, with the labels v -> A and v -o A

-- A published label has no group (document 02, F-7): here it has 0.
abbrev pub as_published : Label → Label
as_published l = record { kind = l.kind; party = l.party; value = l.value; group = 0 }

abbrev pub sends : Value → ℕ → Label
sends (Integer z) a = record { kind = integer_label; party = a; value = z; group = 0 }
sends (Text n) a = record { kind = string_label; party = a; value = pos n; group = 0 }

abbrev pub pays : ℕ → ℕ → Label
pays n a = record { kind = asset_label; party = a; value = pos n; group = 0 }

-- a memory and the statements left, the label sent if any, the memory and the statements left then; Φ, Ψ, W and Q' stay as they are
pub data Table3 : Memory → List Statement → List Label → Memory → List Statement → Type 0 where
  value_send : {m : Memory} {e : Expression} {a : ℕ} {v : Value} {rest : List Statement}
      → value_of m e ≡ Ok v
      → Table3 m (act (send e a) ∷ rest) (sends v a ∷ []) m rest
  -- A negative amount meets the published premise, so it is refused: the amount is a natural number here and below.
  asset_send : {m : Memory} {e : Expression} {h : Holder} {a n : ℕ} {rest : List Statement}
      → value_of m e ≡ Ok (Integer (pos n))
      → n ≤ amount_of m h
      → Table3 m (act (pay e h a) ∷ rest) (pays n a ∷ []) (with_amount m h (amount_of m h - n)) rest
  field_update : {m : Memory} {e : Expression} {x : ℕ} {v : Value} {rest : List Statement}
      → value_of m e ≡ Ok v
      → Table3 m (act (assign e x) ∷ rest) [] (with_value m x v) rest
  -- the other asset's sum fits
  asset_update : {m : Memory} {e : Expression} {h k : Holder} {n : ℕ} {rest : List Statement}
      → value_of m e ≡ Ok (Integer (pos n))
      → n ≤ amount_of m h → (place_of h ≡ place_of k → ⊥)
      → amount_of m k + n ≤ top
      → Table3 m (act (move e h k) ∷ rest) [] (with_amount (with_amount m h (amount_of m h - n)) k (amount_of m k + n)) rest
  -- A move from an asset to itself changes nothing (the published double update would mint).
  asset_update_self : {m : Memory} {e : Expression} {h k : Holder} {n : ℕ} {rest : List Statement}
      → value_of m e ≡ Ok (Integer (pos n))
      → n ≤ amount_of m h
      → place_of h ≡ place_of k
      → Table3 m (act (move e h k) ∷ rest) [] m rest
  cond_true : {m : Memory} {t : Condition} {s : Block} {rest : List Statement}
      → truth_of m t ≡ Ok true
      → Table3 m (when t s ∷ rest) [] m (in_order s ++ rest)
  cond_false : {m : Memory} {t : Condition} {s : Block} {rest : List Statement}
      → truth_of m t ≡ Ok false
      → Table3 m (when t s ∷ rest) [] m rest

-- any number of them, with their labels in order
pub data Statements : Memory → List Statement → List Label → Memory → List Statement → Type 0 where
  stop : {m : Memory} {ss : List Statement} → Statements m ss [] m ss
  next : {m m' m'' : Memory} {ss ss' ss'' : List Statement} {ls ls' : List Label}
      → Table3 m ss ls m' ss'
      → Statements m' ss' ls' m'' ss''
      → Statements m ss (ls ++ ls') m'' ss''

-- which question the amount e of h answers by no: e has no value, a string's is none, one below 0, or more than h holds
pub data NoAmount (m : Memory) (e : Expression) (h : Holder) : Question → Type 0 where
  refuses : {q : Question} → value_of m e ≡ Err q → NoAmount m e h q
  -- 31
  string : {n : ℕ} → value_of m e ≡ Ok (Text n) → NoAmount m e h ask.OperandKind
  -- 34
  negative : {n : ℕ} → value_of m e ≡ Ok (Integer (negsuc n)) → NoAmount m e h ask.AmountSign
  -- 35
  uncovered : {n : ℕ} → value_of m e ≡ Ok (Integer (pos n)) → amount_of m h < n → NoAmount m e h ask.AmountHeld

-- which question a statement answers by no (of a table that passes, one of 30 to 36: `failure_numbered`)
pub data Meets (m : Memory) : Statement → Question → Type 0 where
  send_meets : {e : Expression} {a : ℕ} {q : Question} → value_of m e ≡ Err q → Meets m (act (send e a)) q
  assign_meets : {e : Expression} {x : ℕ} {q : Question} → value_of m e ≡ Err q → Meets m (act (assign e x)) q
  pay_meets : {e : Expression} {h : Holder} {a : ℕ} {q : Question} → NoAmount m e h q → Meets m (act (pay e h a)) q
  move_meets : {e : Expression} {h k : Holder} {q : Question} → NoAmount m e h q → Meets m (act (move e h k)) q
  -- 36
  move_full : {e : Expression} {h k : Holder} {n : ℕ} → value_of m e ≡ Ok (Integer (pos n)) → n ≤ amount_of m h → (place_of h ≡ place_of k → ⊥)
      → top < amount_of m k + n
      → Meets m (act (move e h k)) ask.SumFits
  condition_meets : {t : Condition} {b : Block} {q : Question} → truth_of m t ≡ Err q → Meets m (when t b) q

-- no rule applies to what is left
pub record Stuck (m : Memory) (ss : List Statement) : Type 0 where
  pub no_rule : {ls : List Label} {m' : Memory} {ss' : List Statement} → Table3 m ss ls m' ss' → ⊥

-- ---- auxiliary predicates

-- x is the first of a list with this property, at place n
pub data First {A : Type 0} (P : A → Type 0) : ℕ → A → List A → Type 0 where
  here : {x : A} {xs : List A} → P x → First P 0 x (x ∷ xs)
  there : {n : ℕ} {x y : A} {xs : List A} → (P y → ⊥) → First P n x xs → First P (suc n) x (y ∷ xs)

pub data None {A : Type 0} (P : A → Type 0) : List A → Type 0 where
  end : None P []
  and : {x : A} {xs : List A} → (P x → ⊥) → None P xs → None P (x ∷ xs)

-- "Ready" includes the state, as section 4's summary says and its formula omits.
pub record Ready (c : Contract) (q t : ℕ) (p : Pending) : Type 0 where
  pub at_time : p.time ≡ t
  pub at_state : (event_of c p).state ≡ q

-- Q and the clock t have no ready event in Ψ
abbrev pub NothingReady : Contract → ℕ → Memory → List Pending → Type 0
NothingReady c q m = None (Ready c q m.clock)

-- p stands before r in the contract's text: its function's number is lower or, in the same function, its place among that function's
-- events is
pub data Before (p r : Pending) : Type 0 where
  by_function : p.function < r.function → Before p r
  by_event : p.function ≡ r.function → p.event < r.event → Before p r

-- p is ready, and no ready event of Ψ stands before it in the text; several may be foremost, if they are the same event of the text
pub record Foremost (c : Contract) (q t : ℕ) (Ψ : List Pending) (p : Pending) : Type 0 where
  pub ready : Ready c q t p
  pub none_before : None (λ r. Ready c q t r × Before r p) Ψ

-- @Q A : f is called by A, in state Q, by the name f
pub record Called (c : Contract) (q : ℕ) (i : Invocation) (f : Function) : Type 0 where
  pub in-state : f.state ≡ q
  pub by_party : i.caller ≡ get_or c.parties f.party []
  pub by_name : i.function ≡ f.name

-- [[W]]: the events with their times, event j of function n first. Events past their time are dropped.
pub data Times (m : Memory) (n : ℕ) : ℕ → List Event → List Pending → Type 0 where
  no_event : {j : ℕ} → Times m n j [] []
  pending : {j t : ℕ} {e : Event} {es : List Event} {ps : List Pending}
      → value_of m e.guard ≡ Ok (Integer (pos t))
      → m.clock ≤ t
      → Times m n (suc j) es ps
      → Times m n j (e ∷ es) (record { function = n; event = j; time = t } ∷ ps)
  dropped : {j : ℕ} {z : ℤ} {e : Event} {es : List Event} {ps : List Pending}
      → value_of m e.guard ≡ Ok (Integer z)
      → le_z (pos m.clock) z ≡ false
      → Times m n (suc j) es ps
      → Times m n j (e ∷ es) ps

-- all but the event at place k
abbrev pub without : ℕ → List Pending → List Pending
without k ps = take k ps ++ drop (suc k) ps

-- the clock rises by 1
abbrev pub after_tick : Memory → Memory
after_tick m = memory_of m.kinds m.numbers m.texts m.holdings m.values (suc m.clock)

-- amounts as integers
unfoldable pub integers : List ℕ → List ℤ
integers [] = []
integers (n ∷ ns) = pos n ∷ integers ns

-- ---- the agreement

-- ∅: no field has a value, no asset an amount
pub record Empty (m : Memory) : Type 0 where
  pub no_value : (x : ℕ) → x < max_fields → value_of m (field x) ≡ Err ask.FieldValue
  pub no_amount : (k : ℕ) → k < max_assets → get_or m.holdings k 0 ≡ 0

unfoldable pub field_names : Contract → List ℕ → List Word
field_names c [] = []
field_names c (x ∷ xs) = get_or c.fields x [] ∷ field_names c xs

-- a party's part says what its clause says, with a value for each field
pub record Says (c : Contract) (k : Clause) (p : Part) : Type 0 where
  pub party_is : p.party ≡ get_or c.parties k.party []
  pub verb_is : p.verb ≡ k.verb
  pub fields_are : p.fields ≡ field_names c k.fields
  pub values_are : length p.values ≡ length p.fields

-- the parties' clauses in the contract's order
pub data Parts (c : Contract) : List Clause → List Part → Type 0 where
  nobody : Parts c [] []
  party : {k : Clause} {p : Part} {ks : List Clause} {ps : List Part} → Says c k p → Parts c ks ps → Parts c (k ∷ ks) (p ∷ ps)

-- ℓ[x ↦ v] for fields and their integers, where the fields had no value
unfoldable pub with_integers : Memory → List ℕ → List ℤ → Memory
with_integers m [] zs = m
with_integers m (x ∷ xs) [] = m
with_integers m (x ∷ xs) (z ∷ zs) =
    with_integers (memory_of (set m.kinds x 1) (set m.numbers x z) m.texts m.holdings m.values m.clock) xs zs

-- a clause of SET sets its fields
abbrev pub with_clause : Memory → Clause → Part → Verb → Memory
with_clause m k p tree.set = with_integers m k.fields p.values
with_clause m k p tree.ok = m

unfoldable pub with_clauses : Memory → List Clause → List Part → Memory
with_clauses m [] ps = m
with_clauses m (k ∷ ks) [] = m
with_clauses m (k ∷ ks) (p ∷ ps) = with_clauses (with_clause m k p k.verb) ks ps

-- fields have these values
pub data Values (m : Memory) : List ℕ → List ℤ → Type 0 where
  no_field : Values m [] []
  a_field : {x : ℕ} {z : ℤ} {xs : List ℕ} {zs : List ℤ} → value_of m (field x) ≡ Ok (Integer z) → Values m xs zs → Values m (x ∷ xs) (z ∷ zs)

-- a clause of OK gives the values that were set
pub data Agreed (m : Memory) : List Clause → List Part → Type 0 where
  no_clause : Agreed m [] []
  set_by : {k : Clause} {p : Part} {ks : List Clause} {ps : List Part} → k.verb ≡ tree.set → Agreed m ks ps → Agreed m (k ∷ ks) (p ∷ ps)
  agreed_by : {k : Clause} {p : Part} {ks : List Clause} {ps : List Part}
      → k.verb ≡ tree.ok → Values m k.fields p.values → Agreed m ks ps → Agreed m (k ∷ ks) (p ∷ ps)

-- a field is one of a list
pub data In (x : ℕ) : List ℕ → Type 0 where
  first : {xs : List ℕ} → In x (x ∷ xs)
  later : {y : ℕ} {xs : List ℕ} → In x xs → In x (y ∷ xs)

-- clauses of this verb name field x
pub data Names (v : Verb) (x : ℕ) : List Clause → Type 0 where
  by_this : {k : Clause} {ks : List Clause} → k.verb ≡ v → In x k.fields → Names v x (k ∷ ks)
  by_another : {k : Clause} {ks : List Clause} → Names v x ks → Names v x (k ∷ ks)

-- ---- Table 2

-- the published label, or the rule's name where that label is empty
pub data Mark : Type 0 where
  agreement : List Part → Mark
  call : Invocation → Mark
  change : Mark
  match : Mark
  failure : Question → Mark
  time : Mark

pub data Table2 (c : Contract) : Configuration → Mark → Configuration → Type 0 where
  -- The parts are the contract's clauses. The assignments set and those agreed on are the same map: a field is set if and only if it is
  -- agreed on, and each value agreed on is the one set. A text that was read sets a field once; of a table that passes the last SET counts.
  agree : {m : Memory} {ps : List Part}
      → Empty m
      → Parts c c.clauses ps
      → ((x : ℕ) → Names tree.set x c.clauses ↔ Names tree.ok x c.clauses)
      → Agreed (with_clauses m c.clauses ps) c.clauses ps
      → Table2 c (runtime no_state m nothing []) (agreement ps) (runtime (in_state c.initial) (with_clauses m c.clauses ps) nothing [])
  -- As many arguments as parameters, asset arguments 0 or more. The first function that is called so: a text that was read has one only.
  function : {q n : ℕ} {f : Function} {m : Memory} {Ψ : List Pending} {i : Invocation} (vs : List ℕ)
      → First (Called c q i) n f c.functions
      → NothingReady c q m Ψ
      → length i.values ≡ length f.values
      → length vs ≡ length f.parameters
      → i.assets ≡ integers vs
      → precondition_holds (bound m i.values vs) f.precondition ≡ Ok true
      → Table2 c (runtime (in_state q) m nothing Ψ) (call i)
      (runtime (in_state q) (bound m i.values vs) (left (in_order f.body) n f.events f.last) Ψ)
  -- Leftovers in an asset parameter refuse the call. Up to 64 pending events. Parameters end with the code that names them; a handler
  -- names none.
  state_change : {q n q' : ℕ} {m : Memory} {W : List Event} {Ψ Ψ' : List Pending}
      → every (λ a. eqb a 0) (drop max_assets m.holdings) ≡ true
      → Times m n 0 W Ψ'
      → length Ψ + length Ψ' ≤ max_pending
      → Table2 c (runtime (in_state q) m (left [] n W q') Ψ) change (runtime (in_state q') (unbound m) nothing (Ψ ++ Ψ'))
  -- Among due events the one that stands first in the contract text is fired; for two of the same event in the text, the older.
  event_match : {q k : ℕ} {p : Pending} {m : Memory} {Ψ : List Pending}
      → First (Foremost c q m.clock Ψ) k p Ψ
      → Table2 c (runtime (in_state q) m nothing Ψ) match
      (runtime (in_state q) (bound m [] []) (left (in_order (event_of c p).handler) 0 [] (event_of c p).last) (without k Ψ))
  -- A failed handler consumes its event instead of sticking; the answer has the question that it meets. `Stuck` follows from `Meets`, and
  -- stands here as the published reason.
  event_failed : {q k : ℕ} {n : Question} {p : Pending} {m m' : Memory} {Ψ : List Pending} {ls : List Label} {s : Statement} {ss : List Statement}
      → First (Foremost c q m.clock Ψ) k p Ψ
      → Statements (bound m [] []) (in_order (event_of c p).handler) ls m' (s ∷ ss)
      → Stuck m' (s ∷ ss)
      → Meets m' s n
      → Table2 c (runtime (in_state q) m nothing Ψ) (failure n) (runtime (in_state q) m nothing (without k Ψ))
  -- Events whose time equals the old clock are dropped. The last clock value is top.
  tick : {q : ℕ} {m : Memory} {Ψ : List Pending}
      → m.clock < top → NothingReady c q m Ψ
      → Table2 c (runtime (in_state q) m nothing Ψ) time
      (runtime (in_state q) (after_tick m) nothing (keep (λ p. not (eqb p.time m.clock)) Ψ))

-- a rule of Table 2 that leaves a residual, the rules of Table 3 until no statement is left, and the change of state
pub data Whole (c : Contract) : Configuration → Mark → List Label → Configuration → Type 0 where
  whole : {C C' : Configuration} {μ : Mark} {Φ : Phase} {m m' : Memory} {ss : List Statement} {n q : ℕ} {W : List Event} {Ψ : List Pending} {ls : List Label}
      → Table2 c C μ (runtime Φ m (left ss n W q) Ψ)
      → Statements m ss ls m' []
      → Table2 c (runtime Φ m' (left [] n W q) Ψ) change C'
      → Whole c C μ ls C'

-- so many [TICK]s
pub data Ticks (c : Contract) : ℕ → Configuration → Configuration → Type 0 where
  no_tick : {C : Configuration} → Ticks c 0 C C
  one_more : {n : ℕ} {C C' C'' : Configuration} → Table2 c C time C' → Ticks c n C' C'' → Ticks c (suc n) C C''

-- where a jump to T ends: at T, or where an event is ready and the clock is not after T
pub data Stop (c : Contract) (T : ℤ) (q : ℕ) (m : Memory) (Ψ : List Pending) : Type 0 where
  at_time : pos m.clock ≡ T → Stop c T q m Ψ
  at_event : {k : ℕ} {p : Pending} → le_z (pos m.clock) T ≡ true → First (Ready c q m.clock) k p Ψ → Stop c T q m Ψ

-- a jump to T, where no event is ready now: so many [TICK]s, maybe none
pub data Jump (c : Contract) (T : ℤ) : Configuration → Configuration → Type 0 where
  jump : {n q : ℕ} {m₀ m : Memory} {Ψ₀ Ψ : List Pending}
      → NothingReady c q m₀ Ψ₀
      → Ticks c n (runtime (in_state q) m₀ nothing Ψ₀) (runtime (in_state q) m nothing Ψ)
      → Stop c T q m Ψ
      → Jump c T (runtime (in_state q) m₀ nothing Ψ₀) (runtime (in_state q) m nothing Ψ)

-- ---- the configuration of a state: idle

abbrev pub phase_of : Bool → ℕ → Phase
phase_of true q = in_state q
phase_of false q = no_state

abbrev pub memory_at : State → Memory
memory_at s = memory_of s.kinds s.numbers s.texts (take max_assets s.assets) [] s.clock

abbrev pub idle : State → Configuration
idle s = runtime (phase_of s.agreed s.state) (memory_at s) nothing (live s)

-- a step of the machine is refused: it hands back the state that it was given, and sends nothing
abbrev pub IsRefused : State → Stepped Question → Type 0
IsRefused s r = (q : Question) × (r ≡ refused s q)

-- a step of the machine comes out so, with these labels, their groups aside, and no more, and leads to the idle configuration C
pub record Comes (r : Stepped Question) (o : Outcome Question) (ls : List Label) (C : Configuration) : Type 0 where
  pub outcome_is : r.outcome ≡ o
  pub count_is : r.count ≡ length ls
  pub labels_are : map as_published (take r.count r.labels) ≡ ls
  pub leads_to : idle r.state ≡ C
