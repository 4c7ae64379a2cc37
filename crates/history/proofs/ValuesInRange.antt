-- In a memory within its ranges, expressions in scope give 64-bit integers and the contract's strings. Assumes nothing.
use mathlib.Core.Path.{◌≡◌, refl, sym, subst, ◌∙◌}
use mathlib.Core.Bool.{Bool, true, false, ◌&&◌}
use mathlib.Core.List.{List}
use Prim.Native.Nat.{ℕ, ◌<◌, ◌≤◌}
use native.Mathlib.Omega.{arith}
use lib.ListN.{length, get_or, set, length-set}
use lib.Seq.{get_or-set_same, get_or-set_other}
use lib.Dec.{eqb, ltb}
use lib.IntN.{ℤ, pos}
use borrow.Author.Tests.{ltb-true, lt-ltb, eqb-true, eqb-false}
use Rattle.laws.specs.Choice.{pick}
use Rattle.laws.proofs.Choice.{by_cases, pick_true, pick_false}
use Rattle.numbers.specs.Numbers.{within, in_range, eq_z, divided, arithmetic, applied, Answer}
use Rattle.numbers.specs.declared.Value.{Value}
use Rattle.numbers.specs.declared.Value.TheVariants.{Integer, Text}
use Rattle.numbers.specs.declared.Operator.{Operator}
use Rattle.numbers.specs.declared.Operator.TheVariants.{Plus, Minus, Times, Over}
use Rattle.contract.specs.Limits.{max_fields}
use Rattle.contract.specs.Tree.{Expression, constant, string, clock, field, value_parameter, held, apply, broken_expression}
use Rattle.contract.specs.Fits.{Scope, expression_in}
use Rattle.laws.proofs.Truths.{both_left, both_right, both_true}
use Rattle.evaluation.specs.Memory.{Memory}
use Rattle.evaluation.specs.Meaning.{field_value, joined, value_of}
use Rattle.state.specs.States.{field_ok}
use Rattle.std.specs.Prelude.{Ok, Err}

-- a value, and an answer
abbrev pub ValueIn : ℕ → Value → Type 0
ValueIn strings (Integer z) = within z ≡ true
ValueIn strings (Text n) = n < strings

abbrev pub AnswerIn : ℕ → Answer → Type 0
AnswerIn strings (Ok v) = ValueIn strings v
AnswerIn strings (Err n) = Unit {0}

-- ---- fields

-- slot i: one of the contract's fields, or nothing
abbrev pub slot_ok : ℕ → ℕ → ℕ → ℕ → ℤ → ℕ → Bool
slot_ok strings used i kind number text = field_ok strings kind number text && pick (ltb i used) true (eqb kind 0)

pub record Fields (strings used : ℕ) (ks : List ℕ) (ns : List ℤ) (ts : List ℕ) : Type 0 where
  pub kinds_length : length ks ≡ max_fields
  pub numbers_length : length ns ≡ max_fields
  pub texts_length : length ts ≡ max_fields
  pub slots : (i : ℕ) → i < max_fields → slot_ok strings used i (get_or ks i 0) (get_or ns i (pos 0)) (get_or ts i 0) ≡ true
  pub numbers_in : (i : ℕ) → i < max_fields → within (get_or ns i (pos 0)) ≡ true

-- a field of the contract gets a value
pub fields_set : {strings used : ℕ} {ks : List ℕ} {ns : List ℤ} {ts : List ℕ} (x kind : ℕ) (number : ℤ) (text : ℕ)
    → Fields strings used ks ns ts → x < used → used ≤ max_fields → field_ok strings kind number text ≡ true → within number ≡ true
    → Fields strings used (set ks x kind) (set ns x number) (set ts x text)
fields_set {strings} {used} {ks} {ns} {ts} x kind number text o h few e v =
    record {
      kinds_length = length-set ks x kind ∙ o.kinds_length;
      numbers_length = length-set ns x number ∙ o.numbers_length;
      texts_length = length-set ts x text ∙ o.texts_length;
      slots = λ i l. slot i l (eqb i x) refl;
      numbers_in = λ i l. number_in i l (eqb i x) refl;
    }
  where
    -- the one that is set
    here : slot_ok strings used x (get_or (set ks x kind) x 0) (get_or (set ns x number) x (pos 0)) (get_or (set ts x text) x 0) ≡ true
    here =
        (λ p. slot_ok strings used x
        (get_or-set_same ks x kind 0 (omega (arith, o.kinds_length)) p)
        (get_or-set_same ns x number (pos 0) (omega (arith, o.numbers_length)) p)
        (get_or-set_same ts x text 0 (omega (arith, o.texts_length)) p))
        ∙ both_true _ _ e (pick_true _ _ _ (lt-ltb x used h))

    slot : (i : ℕ) → i < max_fields → (b : Bool) → eqb i x ≡ b
        → slot_ok strings used i (get_or (set ks x kind) i 0) (get_or (set ns x number) i (pos 0)) (get_or (set ts x text) i 0) ≡ true
    slot i l true q =
        subst (λ (j : ℕ). slot_ok strings used j (get_or (set ks x kind) j 0) (get_or (set ns x number) j (pos 0)) (get_or (set ts x text) j 0) ≡ true)
        (sym (eqb-true i x q)) here
    slot i l false q =
        let ne = eqb-false i x q in
        (λ p. slot_ok strings used i (get_or-set_other ks x i kind 0 ne p) (get_or-set_other ns x i number (pos 0) ne p) (get_or-set_other ts x i text 0 ne p))
        ∙ o.slots i l

    number_in : (i : ℕ) → i < max_fields → (b : Bool) → eqb i x ≡ b → within (get_or (set ns x number) i (pos 0)) ≡ true
    number_in i l true q =
        subst (λ (j : ℕ). within (get_or (set ns x number) j (pos 0)) ≡ true) (sym (eqb-true i x q))
        ((λ p. within (get_or-set_same ns x number (pos 0) (omega (arith, o.numbers_length)) p)) ∙ v)
    number_in i l false q = (λ p. within (get_or-set_other ns x i number (pos 0) (eqb-false i x q) p)) ∙ o.numbers_in i l

-- ---- expressions

field_in : (strings kind : ℕ) (number : ℤ) (text : ℕ) → field_ok strings kind number text ≡ true → within number ≡ true → AnswerIn strings (field_value kind number text)
unfolding field_ok field_value
field_in strings kind number text e v =
    by_cases (AnswerIn strings) _ _ _ (λ _. tt) λ a.
    by_cases (AnswerIn strings) _ _ _ (λ _. v) λ b.
    let t : (eqb kind 2 && (eq_z number (pos 0) && ltb text strings)) ≡ true = sym (pick_false _ _ _ b) ∙ sym (pick_false _ _ _ a) ∙ e in
    ltb-true text strings (both_right (eq_z number (pos 0)) (ltb text strings) (both_right (eqb kind 2) _ t))

range_in : (strings : ℕ) (z : ℤ) → AnswerIn strings (in_range z)
unfolding in_range
range_in strings z = by_cases (AnswerIn strings) _ _ _ (λ e. e) (λ _. tt)

arithmetic_in : (strings : ℕ) (o : Operator) (a b : ℤ) → AnswerIn strings (arithmetic o a b)
unfolding divided
arithmetic_in strings Plus a b = range_in strings _
arithmetic_in strings Minus a b = range_in strings _
arithmetic_in strings Times a b = range_in strings _
arithmetic_in strings Over a b = by_cases (AnswerIn strings) _ _ _ (λ _. tt) (λ _. range_in strings _)

applied_in : (strings : ℕ) (o : Operator) (a b : Value) → AnswerIn strings (applied o a b)
applied_in strings o (Integer a) (Integer b) = arithmetic_in strings o a b
applied_in strings o (Integer a) (Text n) = tt
applied_in strings o (Text m) b = tt

joined_in : (strings : ℕ) (o : Operator) (x y : Answer) → AnswerIn strings (joined o x y)
joined_in strings o (Err n) y = tt
joined_in strings o (Ok a) (Err n) = tt
joined_in strings o (Ok a) (Ok b) = applied_in strings o a b

-- a memory that the scope's expressions may be worked out in
pub record MemoryIn (c : Scope) (m : Memory) : Type 0 where
  pub fields : Fields c.strings c.fields m.kinds m.numbers m.texts
  pub fields_few : c.fields ≤ max_fields
  pub values : (i : ℕ) → within (get_or m.values i (pos 0)) ≡ true

pub value_in : (c : Scope) (m : Memory) → MemoryIn c m → (e : Expression) → expression_in c e ≡ true → AnswerIn c.strings (value_of m e)
unfolding value_of expression_in
value_in c m o (constant n) i = range_in c.strings (pos n)
value_in c m o (string n) i = ltb-true n c.strings i
value_in c m o clock i = range_in c.strings (pos m.clock)
value_in c m o (field x) i =
    let h : x < max_fields = omega (arith, ltb-true x c.fields i, o.fields_few) in
    field_in c.strings (get_or m.kinds x 0) (get_or m.numbers x (pos 0)) (get_or m.texts x 0)
    (both_left _ _ (o.fields.slots x h)) (o.fields.numbers_in x h)
value_in c m o (value_parameter x) i = o.values x
value_in c m o (held h) i = range_in c.strings _
value_in c m o (apply p a b) i = joined_in c.strings p (value_of m a) (value_of m b)
value_in c m o broken_expression i = tt
