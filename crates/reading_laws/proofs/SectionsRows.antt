-- Words stored behind what a section holds already. Assumes nothing.
use mathlib.Core.Path.{◌≡◌, refl, sym, ap, ◌∙◌}
use mathlib.Core.Bool.{true}
use mathlib.Core.List.{List, [], ◌∷◌, ◌++◌, append_assoc, append-nil}
use Prim.Native.Nat.{ℕ, zero, suc, ◌+◌, ◌-◌, ◌*◌, ◌≤◌}
use native.Mathlib.Omega.{arith}
use native.Mathlib.Nat.{zero-add, sub-zero, suc-sub-suc, zero-sub, add-zero}
use lib.ListN.{length, get_or, drop, length-append}
use lib.Seq.{sets, sets-eq, length-sets}
use Rattle.contract.proofs.Zeros.{length_zeros, zeros_more}
use Rattle.contract.specs.Tree.{Word}
use Rattle.contract.specs.Limits.{max_name, max_string}
use Rattle.contract.specs.Fits.{is_name, is_string}
use Rattle.laws.specs.Lists.{every}
use Rattle.contract.specs.Table.{name_words, string_words, packed_words}
use Rattle.contract.specs.Encode.{zeros, padded, joined, name_row, string_row, packed_row}
use Rattle.contract_laws.proofs.Lengths.{length_padded, length_name_row, length_string_row, length_packed_row, length_joined}
use Rattle.reading_laws.proofs.TableSections.{sets_past, sets_front}

-- ---- zeros

pub zero_word : (n j : ℕ) → get_or (zeros n) j 0 ≡ 0
unfolding zeros
zero_word zero j = refl
zero_word (suc n) zero = refl
zero_word (suc n) (suc j) = zero_word n j

drop_zeros : (k n : ℕ) → drop k (zeros n) ≡ zeros (n - k)
unfolding zeros
drop_zeros zero n = ap zeros (sym (sub-zero n))
drop_zeros (suc k) zero = ap zeros (sym (zero-sub (suc k)))
drop_zeros (suc k) (suc n) = drop_zeros k n ∙ ap zeros (sym (suc-sub-suc n k))

pub sets_zeros : (n : ℕ) (vs : List ℕ) → length vs ≤ n → sets (zeros n) 0 vs ≡ vs ++ zeros (n - length vs)
sets_zeros n vs h =
    let l = length_zeros n in
    sets-eq vs (zeros n) 0 (omega arith)
    ∙ ap (λ (k : ℕ). vs ++ drop k (zeros n)) (zero-add (length vs))
    ∙ ap (λ (r : List ℕ). vs ++ r) (drop_zeros (length vs) n)

-- ---- lists filled up with zeros

pub padded_none : (n : ℕ) → padded n [] ≡ zeros n
unfolding padded
padded_none n = ap zeros (sub-zero n)

pub padded_zeros : (n : ℕ) (l : List ℕ) (z : ℕ) → length l + z ≤ n → padded n (l ++ zeros z) ≡ padded n l
unfolding padded
padded_zeros n l z h =
    let a = length-append l (zeros z) in
    let b = length_zeros z in
    let e : z + (n - length (l ++ zeros z)) ≡ n - length l = omega arith in
    append_assoc l (zeros z) (zeros (n - length (l ++ zeros z)))
    ∙ ap (λ (r : List ℕ). l ++ r) (sym (zeros_more z (n - length (l ++ zeros z))) ∙ ap zeros e)

-- words behind the others
pub padded_more : (n : ℕ) (l vs : List ℕ) → length l + length vs ≤ n → sets (padded n l) (length l) vs ≡ padded n (l ++ vs)
unfolding padded
padded_more n l vs h =
    let a = length-append l vs in
    let e : n - length l - length vs ≡ n - length (l ++ vs) = omega arith in
    ap (λ (k : ℕ). sets (l ++ zeros (n - length l)) k vs) (sym (add-zero (length l)))
    ∙ sets_past l (zeros (n - length l)) 0 vs
    ∙ ap (λ (r : List ℕ). l ++ r) (sets_zeros (n - length l) vs (omega arith))
    ∙ sym (append_assoc l vs (zeros (n - length l - length vs)))
    ∙ ap (λ (k : ℕ). l ++ vs ++ zeros k) e

-- words behind the others, some zeros between
pub padded_past : (n : ℕ) (l vs : List ℕ) (z : ℕ) → length l + (z + length vs) ≤ n
    → sets (padded n l) (length l + z) vs ≡ padded n (l ++ (zeros z ++ vs))
padded_past n l vs z h =
    let a = length-append l (zeros z) in
    let b = length_zeros z in
    let e : length l + z ≡ length (l ++ zeros z) = omega arith in
    (λ x. sets (sym (padded_zeros n l z (omega arith)) x) (e x) vs)
    ∙ padded_more n (l ++ zeros z) vs (omega arith)
    ∙ ap (padded n) (append_assoc l (zeros z) vs)

-- words that are the front of others with zeros behind them
pub padded_written : (n : ℕ) (l vs : List ℕ) (z : ℕ) → length l + (length vs + z) ≤ n
    → sets (padded n l) (length l) vs ≡ padded n (l ++ (vs ++ zeros z))
padded_written n l vs z h =
    let a = length-append l vs in
    padded_more n l vs (omega arith)
    ∙ sym (padded_zeros n (l ++ vs) z (omega arith))
    ∙ ap (padded n) (append_assoc l vs (zeros z))

-- ---- rows

pub joined_append : {A : Type 0} (row : A → List ℕ) (xs ys : List A) → joined row (xs ++ ys) ≡ joined row xs ++ joined row ys
unfolding joined
joined_append row [] ys = refl
joined_append row (x ∷ xs) ys =
    ap (λ (r : List ℕ). row x ++ r) (joined_append row xs ys) ∙ sym (append_assoc (row x) (joined row xs) (joined row ys))

pub joined_snoc : {A : Type 0} (row : A → List ℕ) (xs : List A) (x : A) → joined row (xs ++ (x ∷ [])) ≡ joined row xs ++ row x
unfolding joined
joined_snoc row xs x = joined_append row xs (x ∷ []) ∙ ap (λ (r : List ℕ). joined row xs ++ r) (append-nil (row x))

pub name_long : (xs : List Word) → every is_name xs ≡ true → length (joined name_row xs) ≡ length xs * name_words
name_long xs e = length_joined name_row is_name name_words length_name_row xs e

pub string_long : (xs : List Word) → every is_string xs ≡ true → length (joined string_row xs) ≡ length xs * string_words
string_long xs e = length_joined string_row is_string string_words length_string_row xs e

pub packed_long : (xs : List Word) → every is_name xs ≡ true → length (joined packed_row xs) ≡ length xs * packed_words
packed_long xs e = length_joined packed_row is_name packed_words length_packed_row xs e

-- a row is its front and zeros
pub name_row_front : (w : Word) → name_row w ≡ (length w ∷ w) ++ zeros (max_name - length w)
unfolding name_row padded
name_row_front w = refl

pub string_row_front : (w : Word) → string_row w ≡ (length w ∷ w) ++ zeros (max_string - length w)
unfolding string_row padded
string_row_front w = refl

pub name_row_long : (w : Word) → length w ≤ max_name → length (name_row w) ≡ name_words
unfolding name_row
name_row_long w h = ap suc (length_padded max_name w h)

-- words of a part, stored over
pub padded_replaced : (n : ℕ) (l m k : List ℕ) (i : ℕ) (vs : List ℕ) → i + length vs ≤ length m → sets m i vs ≡ k
    → sets (padded n (l ++ m)) (length l + i) vs ≡ padded n (l ++ k)
unfolding padded
padded_replaced n l m k i vs h e =
    let a = length-append l m in
    let b = length-append l k in
    let c : length k ≡ length m = ap length (sym e) ∙ length-sets m i vs in
    let d : n - length (l ++ m) ≡ n - length (l ++ k) = omega arith in
    sets_front (l ++ m) (zeros (n - length (l ++ m))) (length l + i) vs (omega arith)
    ∙ ap (λ (r : List ℕ). r ++ zeros (n - length (l ++ m))) (sets_past l m i vs)
    ∙ (λ x. l ++ e x ++ zeros (d x))
