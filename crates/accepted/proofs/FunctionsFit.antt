-- The functions and clauses of a text without a finding fit its contract. Assumes nothing.
use mathlib.Core.Path.{◌≡◌, refl, sym, ap, subst, ◌∙◌}
use mathlib.Core.Bool.{Bool, true, false, ◌&&◌, ◌||◌}
use mathlib.Core.List.{List, [], ◌∷◌, ◌++◌}
use Prim.Native.Nat.{ℕ, zero, suc, ◌<◌, ◌≤◌}
use native.Mathlib.Omega.{arith}
use lib.ListN.{length}
use lib.Dec.{eqb, ltb, leb}
use borrow.Author.Tests.{le-leb}
use Rattle.laws.specs.Choice.{pick}
use Rattle.contract.specs.Tree.{Word}
use Rattle.contract.specs.Limits.{max_statements, max_values, max_parameters, max_fields}
use Rattle.contract.specs.Fits.{is_name, Scope, block_in, precondition_in, scope_of, function_in, clause_in, words_in, has_clause}
use Rattle.laws.proofs.Members.{every_first, every_second, every_append}
use Rattle.laws.proofs.Truths.{both_left, both_right, both_true, or_last}
use Rattle.laws.specs.Lists.{every}
use Rattle.reading.specs.Syntax.{Span, Function, Syntax}
use Rattle.reading.specs.Syntax as syntax
use Rattle.reading.specs.Grammar.{is_one_of}
use Rattle.reading.specs.Items.{Item, uses, opens, heads, in_function, of_each, declared, state_item, block_items, event_items, precondition_items, function_items, clause_items}
use Rattle.reading.specs.Items as kind
use Rattle.reading.specs.Rules.{word, number_of, is_among, known, numbers_in, clauses_in}
use Rattle.reading.specs.Resolve.{Names, within, each_of, latest_first, block_of, precondition_of, function_of, contract_in}
use Rattle.accepted.proofs.Judged.{Clean, clean_first, clean_second, latest_append}
use Rattle.accepted.proofs.Known.{words_for, is_known_in, plain, met, Knows, grows, shared_stays, known_few, plain_known, met_all, right_item}
use Rattle.accepted.proofs.Counts.{declared_known, declared_other}
use Rattle.reading.proofs.TokenKinds.{Each}
use Rattle.accepted.proofs.Sorted.{is_named, is_block, is_event, FunctionSorted}
use Rattle.accepted.proofs.CodeItems.{code_items, code_of, block_of_lem}
use Rattle.accepted.proofs.CodeInScope.{scope_in, block_in_lem, precondition_in_lem, block_few, events_in}

-- the kinds that names have, one by one
pub seven : (P : ℕ → Type 0) → P 0 → P 1 → P 2 → P 3 → P 4 → P 5 → P 6 → (k : ℕ) → k < 7 → P k
seven P a b c d e f g zero h = a
seven P a b c d e f g (suc zero) h = b
seven P a b c d e f g (suc (suc zero)) h = c
seven P a b c d e f g (suc (suc (suc zero))) h = d
seven P a b c d e f g (suc (suc (suc (suc zero)))) h = e
seven P a b c d e f g (suc (suc (suc (suc (suc zero))))) h = f
seven P a b c d e f g (suc (suc (suc (suc (suc (suc zero)))))) h = g
seven P a b c d e f g (suc (suc (suc (suc (suc (suc (suc k))))))) h = absurd (omega arith)

module _ (s : List ℕ) where
  -- the words of names are names
  pub words_named : (xs : List Span) → every (is_named s) xs ≡ true → every is_name (each_of (word s) xs) ≡ true
  unfolding every each_of
  words_named [] e = refl
  words_named (x ∷ xs) e = both_true _ _ (both_left (is_named s x) (every (is_named s) xs) e) (words_named xs (both_right (is_named s x) (every (is_named s) xs) e))

  -- what all functions share is known to the end of the text
  abbrev pub Reach : Names → List Item → Type 0
  Reach n b = (k : ℕ) → k < 7 → is_one_of (kind.value ∷ kind.parameter ∷ []) k ≡ false → (w : Word) → is_among w (known s k b) ≡ true → is_among w (words_for n k) ≡ true

  pub reach_back : (n : Names) (b is : List Item) → Reach n (latest_first b is) → Reach n b
  reach_back n b is r k h o w e = r k h o w (grows s k is b w (shared_stays k o is) e)

  pub knows_from : (n : Names) (b : List Item) (zs ys : List Word) → Reach n b → known s kind.value b ≡ zs → known s kind.parameter b ≡ ys → Knows s b (within n zs ys)
  unfolding is_one_of pick
  knows_from n b zs ys r v p =
      seven (λ k. (w : Word) → is_among w (known s k b) ≡ true → is_among w (words_for (within n zs ys) k) ≡ true)
      (r 0 (omega arith) refl)
      (r 1 (omega arith) refl)
      (r 2 (omega arith) refl)
      (λ w e. subst (λ (l : List Word). is_among w l ≡ true) v e)
      (λ w e. subst (λ (l : List Word). is_among w l ≡ true) p e)
      (r 5 (omega arith) refl)
      (r 6 (omega arith) refl)

  -- plain items that name no parameter are met by what all functions share
  pub met_shared : (n : Names) (b is : List Item) → every plain is ≡ true → Clean s b is → Reach n (latest_first b is) → every (met s (within n (known s kind.value (latest_first b is)) (known s kind.parameter (latest_first b is)))) is ≡ true
  met_shared n b is p c r = met_all s _ is b p c (knows_from n (latest_first b is) _ _ r refl refl)

  module _ (n : Names) (c : Syntax) where
    pub function_in_lem : (b : List Item) (f : Function) → FunctionSorted s f → Clean s b (function_items f) → Reach n (latest_first b (function_items f)) → function_in (contract_in s n c) (function_of s n f) ≡ true
    unfolding function_items function_in function_of latest_first known every is_known_in scope_of pick is_one_of words_in
    function_in_lem b f h l r =
        let zs = each_of (word s) f.values in
        let ys = each_of (word s) f.parameters in
        let m = within n zs ys in
        let first = state_item f.state ∷ uses (kind.party ∷ []) f.party ∷ [] in
        let dz = declared kind.value f.values in
        let dy = declared kind.parameter f.parameters in
        let b1 = latest_first b first in
        let b2 = heads f.place f.state f.party f.name ∷ b1 in
        let b3 = latest_first b2 dz in
        let b4 = latest_first b3 dy in
        let b5 = latest_first b4 (code_items f) in
        let code = code_items f in
        let l2 : Clean s b2 (dz ++ (dy ++ code)) = l.1.1.1 in
        let l3 : Clean s b3 (dy ++ code) = clean_second s b2 dz (dy ++ code) l2 in
        let l4 : Clean s b4 code = clean_second s b3 dy code l3 in
        let ends : latest_first b2 (dz ++ (dy ++ code)) ≡ b5 = latest_append b2 dz (dy ++ code) ∙ latest_append b3 dy code in
        let r5 : Reach n b5 = subst (Reach n) ends r in
        let r1 : Reach n b1 = reach_back n b1 (heads f.place f.state f.party f.name ∷ (dz ++ (dy ++ code))) r in
        let w = code_of s n f h in
        let v3 : known s kind.value b3 ≡ zs = declared_known s kind.value f.values b2 (clean_first s b2 dz (dy ++ code) l2) in
        let v4 : known s kind.value b4 ≡ zs = declared_other s kind.value kind.parameter refl f.parameters b3 ∙ v3 in
        let v5 : known s kind.value b5 ≡ zs = plain_known s kind.value code b4 (omega arith) w.plains ∙ v4 in
        let p3 : known s kind.parameter b3 ≡ [] = declared_other s kind.parameter kind.value refl f.values b2 in
        let p4 : known s kind.parameter b4 ≡ ys = declared_known s kind.parameter f.parameters b3 (clean_first s b3 dy code l3) ∙ ap (λ (x : List Word). x ++ ys) p3 in
        let p5 : known s kind.parameter b5 ≡ ys = plain_known s kind.parameter code b4 (omega arith) w.plains ∙ p4 in
        let ms : every (met s m) code ≡ true = met_all s m code b4 w.plains l4 (knows_from n b5 zs ys r5 v5 p5) in
        let mh = met_shared n b first refl (l.0, (l.1.0, tt)) r1 in
        let fz : length (known s kind.value b3) ≤ max_values = known_few s kind.value b3 in
        let fy : length (known s kind.parameter b4) ≤ max_parameters = known_few s kind.parameter b4 in
        let gz : length (known s kind.value b3) ≡ length zs = ap length v3 in
        let gy : length (known s kind.parameter b4) ≡ length ys = ap length p4 in
        let F = function_of s n f in
        let D = contract_in s n c in
        let whole : scope_of D (length zs) (length ys) ≡ scope_in m = refl in
        let blk = block_items in_function f.body.statements in
        let evs = of_each event_items f.body.events in
        let tail = state_item f.last ∷ [] in
        let pre = precondition_items f.precondition in
        let hb = both_left (is_block s f.body.statements) (every (is_event s) f.body.events) h.body in
        let he = both_right (is_block s f.body.statements) (every (is_event s) f.body.events) h.body in
        let m1 : every (met s m) (blk ++ (evs ++ tail)) ≡ true = every_second (met s m) pre (opens ∷ (blk ++ (evs ++ tail))) ms in
        let m2 : every (met s m) (evs ++ tail) ≡ true = every_second (met s m) blk (evs ++ tail) m1 in
        let k1 = (clean_second s b4 pre (opens ∷ (blk ++ (evs ++ tail))) l4).1 in
        let k2 = clean_second s (opens ∷ latest_first b4 pre) blk (evs ++ tail) k1 in
        both_true _ _ (both_left (is_among (word s f.state) n.states) _ mh)
        (both_true _ _ (or_last (is_among (word s f.party) n.parties) (both_left (is_among (word s f.party) n.parties || false) true (both_right (is_among (word s f.state) n.states) _ mh)))
        (both_true _ _ h.name
        (both_true _ _ (both_true _ _ (words_named f.values h.values) (le-leb (length zs) max_values (omega arith)))
        (both_true _ _ (both_true _ _ (words_named f.parameters h.parameters) (le-leb (length ys) max_parameters (omega arith)))
        (both_true _ _ (ap (λ (x : Scope). precondition_in x (precondition_of s m f.precondition)) whole ∙ precondition_in_lem s m f.precondition h.precondition (every_first (met s m) pre _ ms))
        (both_true _ _ (ap (λ (x : Scope). block_in x (block_of s m f.body.statements)) whole ∙ block_in_lem s in_function m f.body.statements hb (every_first (met s m) blk (evs ++ tail) m1))
        (both_true _ _ (le-leb _ max_statements (block_few s (latest_first b4 pre) blk _ _ (clean_first s (opens ∷ latest_first b4 pre) blk (evs ++ tail) k1) (block_of_lem s in_function m f.body.statements hb)))
        (both_true _ _ (events_in s D F m whole refl refl (latest_first (opens ∷ latest_first b4 pre) blk) f.body.events he (clean_first s (latest_first (opens ∷ latest_first b4 pre) blk) evs tail k2) (every_first (met s m) evs tail m2))
        (both_left (is_among (word s f.last) n.states) true (every_second (met s m) evs tail m2))))))))))

    pub functions_in : (b : List Item) (fs : List Function) → Each (FunctionSorted s) fs → Clean s b (of_each function_items fs) → Reach n (latest_first b (of_each function_items fs)) → every (function_in (contract_in s n c)) (each_of (function_of s n) fs) ≡ true
    unfolding of_each each_of every
    functions_in b [] h l r = refl
    functions_in b (f ∷ fs) h l r =
        let rest = of_each function_items fs in
        let r1 : Reach n (latest_first (latest_first b (function_items f)) rest) = subst (Reach n) (latest_append b (function_items f) rest) r in
        both_true _ _
        (function_in_lem b f h.0 (clean_first s b (function_items f) rest l) (reach_back n (latest_first b (function_items f)) rest r1))
        (functions_in (latest_first b (function_items f)) fs h.1 (clean_second s b (function_items f) rest l) r1)

    -- ---- clauses

    fields_in : (m : Names) (xs : List Span) → every (met s m) (of_each (λ x. uses (kind.field ∷ []) x ∷ []) xs) ≡ true → every (λ x. ltb x (length m.fields)) (numbers_in s m.fields xs) ≡ true
    unfolding of_each every numbers_in is_known_in
    fields_in m [] e = refl
    fields_in m (x ∷ xs) e =
        let a = is_among (word s x) m.fields in
        let r = every (met s m) (of_each (λ x. uses (kind.field ∷ []) x ∷ []) xs) in
        both_true _ _ (or_last a (both_left (a || false) r e)) (fields_in m xs (both_right (a || false) r e))

    pub clauses_in_lem :
        (zs ys : List Word) (ks : List syntax.Clause) → every (met s (within n zs ys)) (of_each clause_items ks) ≡ true
        → every (λ k. leb (length k.fields) max_fields) (clauses_in s n.parties n.fields ks) ≡ true
        → every (clause_in (contract_in s n c)) (clauses_in s n.parties n.fields ks) ≡ true
    unfolding of_each clause_items every clauses_in clause_in is_known_in
    clauses_in_lem zs ys [] e l = refl
    clauses_in_lem zs ys (k ∷ ks) e l =
        let m = within n zs ys in
        let a = is_among (word s k.party) n.parties in
        let xs = of_each (λ x. uses (kind.field ∷ []) x ∷ []) k.fields in
        let rest = of_each clause_items ks in
        let few = leb (length (numbers_in s n.fields k.fields)) max_fields in
        let fews = every (λ k. leb (length k.fields) max_fields) (clauses_in s n.parties n.fields ks) in
        let q = both_right (a || false) (every (met s m) (xs ++ rest)) e in
        both_true _ _
        (both_true _ _ (or_last a (both_left (a || false) (every (met s m) (xs ++ rest)) e))
        (both_true _ _ (fields_in m k.fields (every_first (met s m) xs rest q)) (both_left few fews l)))
        (clauses_in_lem zs ys ks (every_second (met s m) xs rest q) (both_right few fews l))

  length_numbers : (ws : List Word) (xs : List Span) → length (numbers_in s ws xs) ≡ length xs
  unfolding numbers_in
  length_numbers ws [] = refl
  length_numbers ws (x ∷ xs) = ap suc (length_numbers ws xs)

  pub length_clauses : (ps xs : List Word) (ks : List syntax.Clause) → length (clauses_in s ps xs ks) ≡ length ks
  unfolding clauses_in
  length_clauses ps xs [] = refl
  length_clauses ps xs (k ∷ ks) = ap suc (length_clauses ps xs ks)

  -- how many fields clauses have does not hang on the names known
  pub clause_lengths :
      (ps xs qs ys : List Word) (ks : List syntax.Clause)
      → every (λ k. leb (length k.fields) max_fields) (clauses_in s ps xs ks) ≡ every (λ k. leb (length k.fields) max_fields) (clauses_in s qs ys ks)
  unfolding every clauses_in
  clause_lengths ps xs qs ys [] = refl
  clause_lengths ps xs qs ys (k ∷ ks) =
      let e : length (numbers_in s xs k.fields) ≡ length (numbers_in s ys k.fields) = length_numbers xs k.fields ∙ sym (length_numbers ys k.fields) in
      let r = clause_lengths ps xs qs ys ks in
      (λ i. leb (e i) max_fields && r i)

  -- nor does a party's clause hang on the fields
  pub has_same : (ps xs ys : List Word) (ks : List syntax.Clause) (p : ℕ) → has_clause (clauses_in s ps xs ks) p ≡ has_clause (clauses_in s ps ys ks) p
  unfolding has_clause clauses_in
  has_same ps xs ys [] p = refl
  has_same ps xs ys (k ∷ ks) p = ap (λ (b : Bool). eqb (number_of (word s k.party) ps) p || b) (has_same ps xs ys ks p)

  pub clause_fields_plain : (xs : List Span) → every plain (of_each (λ x. uses (kind.field ∷ []) x ∷ []) xs) ≡ true
  unfolding of_each every
  clause_fields_plain [] = refl
  clause_fields_plain (x ∷ xs) = clause_fields_plain xs

  pub clauses_plain : (ks : List syntax.Clause) → every plain (of_each clause_items ks) ≡ true
  unfolding of_each clause_items every
  clauses_plain [] = refl
  clauses_plain (k ∷ ks) = every_append plain (of_each (λ x. uses (kind.field ∷ []) x ∷ []) k.fields) (of_each clause_items ks) (clause_fields_plain k.fields) (clauses_plain ks)

  clause_fields_right : (xs : List Span) → every (right_item s) (of_each (λ x. uses (kind.field ∷ []) x ∷ []) xs) ≡ true
  unfolding of_each every
  clause_fields_right [] = refl
  clause_fields_right (x ∷ xs) = clause_fields_right xs

  pub clauses_right : (ks : List syntax.Clause) → every (right_item s) (of_each clause_items ks) ≡ true
  unfolding of_each clause_items every
  clauses_right [] = refl
  clauses_right (k ∷ ks) = every_append (right_item s) (of_each (λ x. uses (kind.field ∷ []) x ∷ []) k.fields) (of_each clause_items ks) (clause_fields_right k.fields) (clauses_right ks)
