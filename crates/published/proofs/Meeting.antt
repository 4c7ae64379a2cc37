-- A statement that meets a no has no rule, and meets no other. Assumes nothing.
use mathlib.Core.Path.{◌≡◌, refl, sym, ap, ◌∙◌}
use mathlib.Core.List.{List, ◌∷◌}
use Prim.Native.Nat.{ℕ, ◌≤◌}
use native.Mathlib.Omega.{arith}
use lib.IntN.{pos, negsuc}
use Rattle.numbers.specs.declared.Value.TheVariants.{Integer, Text}
use Rattle.std.specs.Prelude.{Ok, Err}
use Rattle.questions.specs.declared.Question.{Question}
use Rattle.questions.specs.declared.Question.TheVariants as ask
use Rattle.numbers.specs.Numbers.{Answer}
use Rattle.numbers.proofs.Answers.{same_amount, same_refusal, no_value, no_text, no_negative, same_undecided, undecided}
use Rattle.contract.specs.Tree.{Holder, Expression}
use Rattle.evaluation.specs.Memory.{Memory}
use Rattle.evaluation.specs.Meaning.{value_of}
use Rattle.statements.specs.declared.Label.{Label}
use Rattle.published.specs.Published.{Statement, amount_of, Table3, value_send, asset_send, field_update, asset_update, asset_update_self, cond_true, cond_false, NoAmount, refuses, string, negative, uncovered, Meets, send_meets, assign_meets, pay_meets, move_meets, move_full, condition_meets, Stuck}

-- ---- no rule applies

no_amount : {m : Memory} {e : Expression} {h : Holder} {n : Question} {k : ℕ} → NoAmount m e h n → value_of m e ≡ Ok (Integer (pos k)) → k ≤ amount_of m h → ⊥
no_amount (refuses q) g l = no_value q g
no_amount (string q) g l = no_text q g
no_amount (negative q) g l = no_negative q g
no_amount (uncovered q f) g l = let y = same_amount q g in omega arith

no_rule : {m m' : Memory} {s : Statement} {rest ss : List Statement} {ls : List Label} {n : Question} → Meets m s n → Table3 m (s ∷ rest) ls m' ss → ⊥
no_rule (send_meets q) (value_send g) = no_value q g
no_rule (assign_meets q) (field_update g) = no_value q g
no_rule (pay_meets x) (asset_send g l) = no_amount x g l
no_rule (move_meets x) (asset_update g l d f) = no_amount x g l
no_rule (move_meets x) (asset_update_self g l d) = no_amount x g l
no_rule (move_full q l d f) (asset_update g l' d' f') = let y = same_amount q g in omega arith
no_rule (move_full q l d f) (asset_update_self g l' d') = d d'
no_rule (condition_meets q) (cond_true g) = undecided q g
no_rule (condition_meets q) (cond_false g) = undecided q g

pub meets_stuck : {m : Memory} {s : Statement} {n : Question} → Meets m s n → (rest : List Statement) → Stuck m (s ∷ rest)
meets_stuck x rest = record { no_rule = no_rule x }

-- ---- no other is met

-- the question of what is no amount; more than is held has 35
abbrev question_of : Answer → Question
question_of (Err n) = n
question_of (Ok (Text n)) = ask.OperandKind
question_of (Ok (Integer (negsuc n))) = ask.AmountSign
question_of (Ok (Integer (pos n))) = ask.AmountHeld

question_is : {m : Memory} {e : Expression} {h : Holder} {n : Question} → NoAmount m e h n → question_of (value_of m e) ≡ n
question_is (refuses q) = ap question_of q
question_is (string q) = ap question_of q
question_is (negative q) = ap question_of q
question_is (uncovered q l) = ap question_of q

pub one_no : {m : Memory} {s : Statement} {n k : Question} → Meets m s n → Meets m s k → n ≡ k
one_no (send_meets q) (send_meets q') = same_refusal q q'
one_no (assign_meets q) (assign_meets q') = same_refusal q q'
one_no (pay_meets x) (pay_meets y) = sym (question_is x) ∙ question_is y
one_no (move_meets x) (move_meets y) = sym (question_is x) ∙ question_is y
one_no (move_meets x) (move_full q l d f) = absurd (no_amount x q l)
one_no (move_full q l d f) (move_meets x) = absurd (no_amount x q l)
one_no (move_full q l d f) (move_full q' l' d' f') = refl
one_no (condition_meets q) (condition_meets q') = same_undecided q q'
