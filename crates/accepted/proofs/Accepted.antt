-- The contract of an accepted text fits: its table passes question 3, and gives the contract back. Assumes nothing.
use mathlib.Core.Path.{◌≡◌, refl, sym, ap, subst, ◌∙◌}
use mathlib.Core.Bool.{Bool, true, false, ◌&&◌, ◌||◌}
use mathlib.Core.List.{List, [], ◌∷◌, ◌++◌}
use Prim.Native.Nat.{ℕ, ◌+◌, ◌<◌, ◌≤◌}
use native.Mathlib.Omega.{arith}
use lib.ListN.{length}
use lib.Dec.{eqb, leb}
use borrow.Author.Tests.{le-leb, leb-true, lt-ltb, ltb-true, eq-eqb, eqb-true}
use Rattle.laws.specs.Choice.{pick}
use Rattle.laws.proofs.Choice.{by_cases, true_false, pick_false}
use Rattle.contract.specs.Tree.{Word, Clause, Contract}
use Rattle.contract.specs.Limits.{max_parties, max_assets, max_fields, max_states, max_strings, max_clauses, max_functions, max_events, max_nodes}
use Rattle.contract.specs.Fits.{is_name, is_string, words_in, has_clause, fits}
use Rattle.laws.proofs.Members.{every_append, all_below_lem, below_at}
use Rattle.laws.proofs.Truths.{both_left, both_right, both_true, link, either_true, first_true, second_true}
use Rattle.laws.specs.Lists.{every, all_below}
use Rattle.contract.specs.Table.{table_length}
use Rattle.contract.specs.Encode.{encode}
use Rattle.contract.specs.Decode.{contract_of}
use Rattle.contract.specs.Check.{passes}
use Rattle.contract.proofs.Fitting.{FitsContract}
use Rattle.contract_laws.proofs.RoundTrip.{decode_encode}
use Rattle.contract_laws.proofs.Passing.{passing}
use Rattle.reading.specs.Syntax.{Syntax}
use Rattle.reading.specs.Grammar.{Parsed, done, no, parse, is_one_of}
use Rattle.reading.specs.Items.{Item, closes, of_each, declared, state_item, function_items, clause_items, items}
use Rattle.reading.specs.Items as kind
use Rattle.reading.specs.Rules.{Finding, fine, breaks, most, word, is_among, known, headers, count, clauses_in, distinct, is_set, parties_of, fields_set, agrees_well, keeps_rules, judge, judged}
use Rattle.reading.specs.Resolve.{Names, each_of, latest_first, function_of, names_in, contract_in, resolve}
use Rattle.reading.specs.Reading.{max_text, Reading, accepted, refused, ruled, parsed, read_text}
use Rattle.accepted.proofs.Judged.{Clean, judged_clean, clean_first, clean_second, latest_append, test_holds}
use Rattle.accepted.proofs.Known.{words_for, right_item, known_few, known_right, every_latest}
use Rattle.accepted.proofs.Counts.{tally, heads_in, tally_append, heads_append, count_latest, always_on, count_few, heads_few}
use Rattle.accepted.proofs.Sorted.{SyntaxSorted, parse_sorted}
use Rattle.accepted.proofs.CodeItems.{declared_right, functions_right, functions_nodes, functions_events, functions_heads}
use Rattle.reading.proofs.Mapped.{length_each}
use Rattle.accepted.proofs.Late.{late_known, functions_late}
use Rattle.accepted.proofs.FunctionsFit.{seven, Reach, reach_back, met_shared, functions_in, clauses_in_lem, clauses_plain, clauses_right, length_clauses, clause_lengths, has_same}

words_in_lem : (p : Word → Bool) (n : ℕ) (ws : List Word) → every p ws ≡ true → length ws ≤ n → words_in p n ws ≡ true
unfolding words_in
words_in_lem p n ws e h = both_true _ _ e (le-leb _ _ h)

-- a contract fits where each of its parts does
contract_fits : (c : Contract) → FitsContract c → fits c ≡ true
unfolding fits
contract_fits c h =
    both_true _ _ h.name
    (both_true _ _ (words_in_lem is_name max_parties c.parties h.parties h.parties_few)
    (both_true _ _ (words_in_lem is_name max_assets c.assets h.assets h.assets_few)
    (both_true _ _ (words_in_lem is_name max_fields c.fields h.fields h.fields_few)
    (both_true _ _ (words_in_lem is_name max_states c.states h.states h.states_few)
    (both_true _ _ (words_in_lem is_string max_strings c.strings h.strings h.strings_few)
    (both_true _ _ h.clauses
    (both_true _ _ (le-leb _ _ h.clauses_few)
    (both_true _ _ h.heard
    (both_true _ _ (lt-ltb _ _ h.initial)
    (both_true _ _ h.functions
    (both_true _ _ (le-leb _ _ h.functions_few)
    (both_true _ _ (le-leb _ _ h.events_few) (le-leb _ _ h.nodes_few)))))))))))))

-- the contract of a reading fits, if it has one
abbrev Fitting : Reading → Type 0
Fitting (accepted c) = fits c ≡ true
Fitting (refused q p) = Unit {0}

-- the agreement's clauses have room
rules_few : (n : ℕ) (ks : List Clause) → keeps_rules n ks ≡ true → (leb (length ks) max_clauses && every (λ k. leb (length k.fields) max_fields) ks) ≡ true
unfolding keeps_rules
rules_few n ks e = both_left _ _ e

-- a party of a SET or of an OK has a clause
has_more : (k : Clause) (ks : List Clause) (ps : List ℕ) (p : ℕ) (b : Bool) → b ≡ eqb p k.party → (is_one_of ps p ≡ true → has_clause ks p ≡ true)
    → pick b true (is_one_of ps p) ≡ true → has_clause (k ∷ ks) p ≡ true
unfolding has_clause pick
has_more k ks ps p true e f h = first_true _ (eq-eqb k.party p (sym (eqb-true p k.party (sym e))))
has_more k ks ps p false e f h = second_true (eqb k.party p) (f h)

has_party : (v : Bool) (ks : List Clause) (p : ℕ) → is_one_of (parties_of v ks) p ≡ true → has_clause ks p ≡ true
unfolding parties_of is_one_of has_clause
has_party v [] p e = true_false (sym e)
has_party true (k ∷ ks) p e =
    by_cases (λ (l : List ℕ). is_one_of l p ≡ true → has_clause (k ∷ ks) p ≡ true) (is_set k.verb) _ _
    (λ _. has_more k ks (parties_of true ks) p (eqb p k.party) refl (has_party true ks p))
    (λ _ h. second_true (eqb k.party p) (has_party true ks p h)) e
has_party false (k ∷ ks) p e =
    by_cases (λ (l : List ℕ). is_one_of l p ≡ true → has_clause (k ∷ ks) p ≡ true) (is_set k.verb) _ _
    (λ _ h. second_true (eqb k.party p) (has_party false ks p h))
    (λ _. has_more k ks (parties_of false ks) p (eqb p k.party) refl (has_party false ks p)) e

-- each party has a clause
rules_heard : (n : ℕ) (ks : List Clause) → keeps_rules n ks ≡ true → (p : ℕ) → p < n → has_clause ks p ≡ true
unfolding keeps_rules
rules_heard n ks e p h =
    let q : ℕ → Bool = λ a. is_one_of (parties_of true ks) a || is_one_of (parties_of false ks) a in
    let t =
    link
    ((leb (length ks) max_clauses && every (λ k. leb (length k.fields) max_fields) ks)
    ∷ distinct (fields_set (λ a. true) ks)
    ∷ every (agrees_well ks) ks
    ∷ all_below n q
    ∷ (distinct (parties_of true ks) && distinct (parties_of false ks))
    ∷ [])
    e in
    either_true _ _ (below_at q n (t 3) p h) (has_party true ks p) (has_party false ks p)

module _ (s : List ℕ) where
  -- ---- the items of a whole text

  -- the items after the clauses
  abbrev tail_items : Syntax → List Item
  tail_items c = closes c.closing c.clauses ∷ state_item c.initial ∷ of_each function_items c.functions

  all_right : (n : Names) (c : Syntax) → SyntaxSorted s c → every (right_item s) (items c) ≡ true
  unfolding items every
  all_right n c h =
      every_append (right_item s) (declared kind.asset c.assets) _ (declared_right s kind.asset refl c.assets h.assets)
      (every_append (right_item s) (declared kind.field c.fields) _ (declared_right s kind.field refl c.fields h.fields)
      (every_append (right_item s) (declared kind.party c.parties) _ (declared_right s kind.party refl c.parties h.parties)
      (every_append (right_item s) (of_each clause_items c.clauses) (tail_items c) (clauses_right s c.clauses)
      (both_true _ _ (pick_false _ _ _ refl ∙ h.initial) (functions_right s n c.functions h.functions)))))

  tally_most : (k : ℕ) (c : Syntax) → tally k (of_each function_items c.functions) ≤ tally k (items c)
  unfolding items tally
  tally_most k c =
      let a = declared kind.asset c.assets in
      let f = declared kind.field c.fields in
      let p = declared kind.party c.parties in
      let q = of_each clause_items c.clauses in
      let t = tail_items c in
      let e1 : tally k (a ++ (f ++ (p ++ (q ++ t)))) ≡ tally k a + tally k (f ++ (p ++ (q ++ t))) = tally_append k a (f ++ (p ++ (q ++ t))) in
      let e2 : tally k (f ++ (p ++ (q ++ t))) ≡ tally k f + tally k (p ++ (q ++ t)) = tally_append k f (p ++ (q ++ t)) in
      let e3 : tally k (p ++ (q ++ t)) ≡ tally k p + tally k (q ++ t) = tally_append k p (q ++ t) in
      let e4 : tally k (q ++ t) ≡ tally k q + tally k (of_each function_items c.functions) = tally_append k q t in
      let g : tally k (of_each function_items c.functions) ≤ tally k (a ++ (f ++ (p ++ (q ++ t)))) = omega arith in
      g

  heads_most : (c : Syntax) → heads_in (of_each function_items c.functions) ≤ heads_in (items c)
  unfolding items heads_in
  heads_most c =
      let a = declared kind.asset c.assets in
      let f = declared kind.field c.fields in
      let p = declared kind.party c.parties in
      let q = of_each clause_items c.clauses in
      let t = tail_items c in
      let e1 : heads_in (a ++ (f ++ (p ++ (q ++ t)))) ≡ heads_in a + heads_in (f ++ (p ++ (q ++ t))) = heads_append a (f ++ (p ++ (q ++ t))) in
      let e2 : heads_in (f ++ (p ++ (q ++ t))) ≡ heads_in f + heads_in (p ++ (q ++ t)) = heads_append f (p ++ (q ++ t)) in
      let e3 : heads_in (p ++ (q ++ t)) ≡ heads_in p + heads_in (q ++ t) = heads_append p (q ++ t) in
      let e4 : heads_in (q ++ t) ≡ heads_in q + heads_in (of_each function_items c.functions) = heads_append q t in
      let g : heads_in (of_each function_items c.functions) ≤ heads_in (a ++ (f ++ (p ++ (q ++ t)))) = omega arith in
      g

  -- a count of the whole text, within its limit
  counted : (k : ℕ) → eqb k kind.statement ≡ false → (c : Syntax) → Clean s [] (items c) → tally k (items c) ≤ most k
  unfolding count
  counted k e c l =
      let a : count k (latest_first [] (items c)) ≤ most k = count_few s k (items c) [] l (omega arith) in
      let b : count k (latest_first [] (items c)) ≡ 0 + tally k (items c) = count_latest k (items c) [] (always_on k e (items c)) in
      omega arith

  reach_all : (b : List Item) → Reach s (names_in s b) b
  unfolding is_one_of pick
  reach_all b =
      seven (λ k. is_one_of (kind.value ∷ kind.parameter ∷ []) k ≡ false → (w : Word) → is_among w (known s k b) ≡ true → is_among w (words_for (names_in s b) k) ≡ true)
      (λ _ w e. e) (λ _ w e. e) (λ _ w e. e) (λ o w e. true_false o) (λ o w e. true_false o) (λ _ w e. e) (λ _ w e. e)

  -- ---- the contract

  resolved_fits : (c : Syntax) → SyntaxSorted s c → Clean s [] (items c) → fits (resolve s c) ≡ true
  unfolding resolve items latest_first every headers judge pick
  resolved_fits c h l =
      let B = latest_first [] (items c) in
      let n = names_in s B in
      let a = declared kind.asset c.assets in
      let f = declared kind.field c.fields in
      let p = declared kind.party c.parties in
      let q = of_each clause_items c.clauses in
      let t = tail_items c in
      let fs = of_each function_items c.functions in
      let b1 = latest_first [] a in
      let b2 = latest_first b1 f in
      let b3 = latest_first b2 p in
      let b4 = latest_first b3 q in
      let b5 = closes c.closing c.clauses ∷ b4 in
      let b6 = state_item c.initial ∷ b5 in
      let ends : B ≡ latest_first b6 fs =
      latest_append [] a (f ++ (p ++ (q ++ t))) ∙ latest_append b1 f (p ++ (q ++ t)) ∙ latest_append b2 p (q ++ t) ∙ latest_append b3 q t in
      let l3 : Clean s b3 (q ++ t) = clean_second s b2 p (q ++ t) (clean_second s b1 f (p ++ (q ++ t)) (clean_second s [] a (f ++ (p ++ (q ++ t))) l)) in
      let l4 : Clean s b4 t = clean_second s b3 q t l3 in
      let r6 : Reach s n (latest_first b6 fs) = subst (Reach s n) ends (reach_all B) in
      let r5 : Reach s n b6 = reach_back s n b6 fs r6 in
      let r4 : Reach s n b4 = reach_back s n b4 (closes c.closing c.clauses ∷ state_item c.initial ∷ []) r5 in
      let mq = met_shared s n b3 q (clauses_plain s c.clauses) (clean_first s b3 q t l3) r4 in
      let mi = met_shared s n b5 (state_item c.initial ∷ []) refl (l4.1.0, tt) r5 in
      let ks = clauses_in s (known s kind.party b4) (known s kind.field b4) c.clauses in
      let kept = test_holds _ 14 c.closing l4.0 in
      let rules = rules_few (length (known s kind.party b4)) ks kept in
      let parties : n.parties ≡ known s kind.party b4 = ap (known s kind.party) ends ∙ late_known s kind.party t b4 (omega arith) (functions_late s n c.functions h.functions) in
      let heard : (p : ℕ) → p < length n.parties → has_clause (clauses_in s n.parties n.fields c.clauses) p ≡ true =
      λ p i. has_same s n.parties n.fields (known s kind.field b4) c.clauses p
      ∙ subst (λ (ps : List Word). (p < length ps → has_clause (clauses_in s ps (known s kind.field b4) c.clauses) p ≡ true)) (sym parties) (rules_heard (length (known s kind.party b4)) ks kept p) i in
      let few : leb (length ks) max_clauses ≡ true = both_left (leb (length ks) max_clauses) (every (λ k. leb (length k.fields) max_fields) ks) rules in
      let fields : every (λ k. leb (length k.fields) max_fields) ks ≡ true = both_right (leb (length ks) max_clauses) (every (λ k. leb (length k.fields) max_fields) ks) rules in
      let same : length (clauses_in s n.parties n.fields c.clauses) ≡ length ks = length_clauses s n.parties n.fields c.clauses ∙ sym (length_clauses s _ _ c.clauses) in
      let right : every (right_item s) B ≡ true = every_latest (right_item s) [] (items c) refl (all_right n c h) in
      let hf : length c.functions ≡ heads_in fs = sym (functions_heads s n c.functions h.functions) in
      let hm : heads_in fs ≤ heads_in (items c) = heads_most c in
      let hl : 0 + heads_in (items c) ≤ max_functions = heads_few s (items c) [] l (omega arith) in
      let lf : length (each_of (function_of s n) c.functions) ≡ length c.functions = length_each (function_of s n) c.functions in
      let en = functions_nodes s n c.functions h.functions in
      let ee = functions_events s n c.functions h.functions in
      let tn = tally_most kind.node c in
      let te = tally_most kind.event c in
      let cn : tally kind.node (items c) ≤ max_nodes = counted kind.node refl c l in
      let ce : tally kind.event (items c) ≤ max_events = counted kind.event refl c l in
      contract_fits (contract_in s n c)
      (record {
        name = h.name;
        parties = known_right s kind.party B right;
        parties_few = known_few s kind.party B;
        assets = known_right s kind.asset B right;
        assets_few = known_few s kind.asset B;
        fields = known_right s kind.field B right;
        fields_few = known_few s kind.field B;
        states = known_right s kind.state B right;
        states_few = known_few s kind.state B;
        strings = known_right s kind.string B right;
        strings_few = known_few s kind.string B;
        clauses = clauses_in_lem s n c _ _ c.clauses mq (clause_lengths s _ _ _ _ c.clauses ∙ fields);
        clauses_few = leb-true _ _ (ap (λ (m : ℕ). leb m max_clauses) same ∙ few);
        heard = all_below_lem (has_clause (clauses_in s n.parties n.fields c.clauses)) (length n.parties) heard;
        initial = ltb-true _ _ (both_left (is_among (word s c.initial) n.states) true mi);
        functions = functions_in s n c b6 c.functions h.functions l4.1.1 r6;
        functions_few = omega arith;
        events_few = omega arith;
        nodes_few = omega arith;
      })

  -- ---- readings

  ruled_fits : (c : Syntax) → SyntaxSorted s c → (f : Finding) → judged s [] fine (items c) ≡ f → Fitting (ruled s c f)
  ruled_fits c h fine e = resolved_fits c h (judged_clean s [] fine (items c) e).1
  ruled_fits c h (breaks q p) e = tt

  parsed_fits : (r : Parsed Syntax) → parse s ≡ r → Fitting (parsed s r)
  parsed_fits (done c n) e = ruled_fits c (parse_sorted s c n e) (judged s [] fine (items c)) refl
  parsed_fits (no q p) e = tt

  reading_fits : (words : ℕ) → Fitting (read_text s words)
  unfolding read_text
  reading_fits words =
      by_cases Fitting (leb (length s) max_text) _ _
      (λ _. by_cases Fitting (eqb words table_length) _ _ (λ _. parsed_fits (parse s) refl) (λ _. tt))
      (λ _. tt)

-- the contract of an accepted text fits
pub accepted_fits : (s : List ℕ) (words : ℕ) (c : Contract) → read_text s words ≡ accepted c → fits c ≡ true
accepted_fits s words c e = subst Fitting e (reading_fits s words)

-- its table passes question 3
pub accepted_passes : (s : List ℕ) (words : ℕ) (c : Contract) → read_text s words ≡ accepted c → passes (encode c) ≡ true
accepted_passes s words c e = passing c (accepted_fits s words c e)

-- and gives the contract back
pub accepted_read_back : (s : List ℕ) (words : ℕ) (c : Contract) → read_text s words ≡ accepted c → contract_of (encode c) ≡ c
accepted_read_back s words c e = decode_encode c (accepted_fits s words c e)
