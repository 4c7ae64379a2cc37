-- The node of a name that the pass looks up is the node of what the name stands for. Assumes nothing.
use mathlib.Core.Path.{◌≡◌, refl, sym, ap, ◌∙◌}
use mathlib.Core.Bool.{Bool, true, false, ◌||◌}
use mathlib.Core.List.{List, [], ◌∷◌, ◌++◌}
use Prim.Native.Nat.{ℕ, ◌+◌, ◌<◌}
use native.Mathlib.Omega.{arith}
use lib.Dec.{eqb}
use Rattle.laws.specs.Choice.{pick}
use Rattle.laws.proofs.Choice.{by_cases, true_false, pick_false}
use Rattle.contract.specs.Tree.{Word, Holder, asset, asset_parameter, Expression, field, value_parameter, held, assign, send, move, pay, move_all, pay_all}
use Rattle.contract.specs.Table.{field_kind, asset_kind, value_kind, parameter_kind, party_kind, value_move_kind, asset_move_kind, whole_move_kind}
use Rattle.contract.specs.Encode.{node, holder_node, expression_nodes, action_parts, action_kind}
use Rattle.contract.specs.Sizes.{expression_size, action_size}
use Rattle.entries.specs.declared.Known.{Known}
use Rattle.entries.specs.Draft.{number_in, among_in, unknown, seek, holder_in, stored_in, name_in, value_target, asset_target}
use Rattle.reading.specs.Items.{Item, Site, in_function, in_handler, value_kinds, asset_kinds}
use Rattle.reading.specs.Items as kind
use Rattle.reading.specs.Rules.{number_of, is_among, known, is_known}
use Rattle.reading.specs.Resolve.{Names, holder_of, name_of, send_of, move_of, move_all_of}
use Rattle.laws.proofs.Truths.{either_true, or_right, or_last}
use Rattle.reading_laws.proofs.NotedNames.{inside}
use Rattle.reading_laws.proofs.TablesGiven.{Agree}

abbrev pub node_of : Known → List ℕ
node_of x = node x.kind x.number 1

abbrev found : ℕ → ℕ → Known
found k i = record { kind = k; number = i }

-- ---- by the tests alone

name_case :
    (v y a f : Bool) (nv ny na nf : ℕ) → (v ≡ true → f ≡ false) → (y ≡ true → f ≡ false) → (y ≡ true → a ≡ false) → (a ≡ true → f ≡ false)
    → (a || (f || (v || (y || false)))) ≡ true
    → node_of (pick v (found value_kind nv) (pick y (found parameter_kind ny) (pick a (found asset_kind na) (pick f (found field_kind nf) unknown))))
    ≡ expression_nodes (pick f (field nf) (pick v (value_parameter nv) (held (pick a (asset na) (asset_parameter ny)))))
unfolding pick expression_nodes
name_case true y a true nv ny na nf h1 h2 h3 h4 k = true_false (h1 refl)
name_case true y a false nv ny na nf h1 h2 h3 h4 k = refl
name_case false true a true nv ny na nf h1 h2 h3 h4 k = true_false (h2 refl)
name_case false true true false nv ny na nf h1 h2 h3 h4 k = true_false (h3 refl)
name_case false true false false nv ny na nf h1 h2 h3 h4 k = refl
name_case false false true true nv ny na nf h1 h2 h3 h4 k = true_false (h4 refl)
name_case false false true false nv ny na nf h1 h2 h3 h4 k = refl
name_case false false false true nv ny na nf h1 h2 h3 h4 k = refl
name_case false false false false nv ny na nf h1 h2 h3 h4 k = true_false (sym k)

name_case_handler :
    (a f : Bool) (na nf i j : ℕ) → (a ≡ true → f ≡ false) → (a || (f || false)) ≡ true
    → node_of (pick a (found asset_kind na) (pick f (found field_kind nf) unknown))
    ≡ expression_nodes (pick f (field nf) (pick false (value_parameter i) (held (pick a (asset na) (asset_parameter j)))))
unfolding pick expression_nodes
name_case_handler true true na nf i j h k = true_false (h refl)
name_case_handler true false na nf i j h k = refl
name_case_handler false true na nf i j h k = refl
name_case_handler false false na nf i j h k = true_false (sym k)

holder_case : (a y : Bool) (na ny : ℕ) → (a || (y || false)) ≡ true
    → node_of (pick a (found asset_kind na) (pick y (found parameter_kind ny) unknown)) ≡ holder_node (pick a (asset na) (asset_parameter ny))
unfolding pick
holder_case true y na ny k = refl
holder_case false true na ny k = refl
holder_case false false na ny k = true_false (sym k)

holder_case_handler : (a : Bool) (na j : ℕ) → (a || false) ≡ true → node_of (pick a (found asset_kind na) unknown) ≡ holder_node (pick a (asset na) (asset_parameter j))
unfolding pick
holder_case_handler true na j k = refl
holder_case_handler false na j k = true_false (sym k)

held_case : (v y a f : Bool) (nv nf : ℕ) (h : Holder) → (a ≡ true → f ≡ false) → (a ≡ true → v ≡ false) → (y ≡ true → f ≡ false) → (y ≡ true → v ≡ false)
    → (a || (y || false)) ≡ true → pick f (field nf) (pick v (value_parameter nv) (held h)) ≡ held h
held_case v y a f nv nf h p q r t k =
    either_true a (y || false) k
    (λ e. pick_false _ _ _ (p e) ∙ pick_false _ _ _ (q e))
    (λ e. pick_false _ _ _ (r (or_last y e)) ∙ pick_false _ _ _ (t (or_last y e)))

-- what `->` and `-o` go to
send_case : (a f : Bool) (na nf : ℕ) (e : Expression) → (a || (f || false)) ≡ true
    → action_parts (pick a (send e na) (assign e nf)) ≡ expression_nodes e ++ node_of (pick a (found party_kind na) (pick f (found field_kind nf) unknown))
unfolding pick action_parts
send_case true f na nf e k = refl
send_case false true na nf e k = refl
send_case false false na nf e k = true_false (sym k)

move_case : (a : Bool) (na : ℕ) (e : Expression) (h t : Holder) (x : Known) → (a ≡ false → node_of x ≡ holder_node t)
    → action_parts (pick a (pay e h na) (move e h t)) ≡ expression_nodes e ++ (holder_node h ++ node_of (pick a (found party_kind na) x))
unfolding pick action_parts
move_case true na e h t x k = refl
move_case false na e h t x k = ap (λ (l : List ℕ). expression_nodes e ++ (holder_node h ++ l)) (sym (k refl))

move_all_case : (a : Bool) (na : ℕ) (h t : Holder) (x : Known) → (a ≡ false → node_of x ≡ holder_node t)
    → action_parts (pick a (pay_all h na) (move_all h t)) ≡ holder_node h ++ node_of (pick a (found party_kind na) x)
unfolding pick action_parts
move_all_case true na h t x k = refl
move_all_case false na h t x k = ap (λ (l : List ℕ). holder_node h ++ l) (sym (k refl))

pub send_kind : (n : Names) (e : Expression) (w : Word) → action_kind (send_of n e w) ≡ value_move_kind
send_kind n e w = by_cases (λ a. action_kind a ≡ value_move_kind) (is_among w n.parties) _ _ (λ _. refl) (λ _. refl)

pub move_kind : (n : Names) (e : Expression) (h : Holder) (w : Word) → action_kind (move_of n e h w) ≡ asset_move_kind
move_kind n e h w = by_cases (λ a. action_kind a ≡ asset_move_kind) (is_among w n.parties) _ _ (λ _. refl) (λ _. refl)

pub move_all_kind : (n : Names) (h : Holder) (w : Word) → action_kind (move_all_of n h w) ≡ whole_move_kind
move_all_kind n h w = by_cases (λ a. action_kind a ≡ whole_move_kind) (is_among w n.parties) _ _ (λ _. refl) (λ _. refl)

pub send_size : (n : Names) (e : Expression) (w : Word) → action_size (send_of n e w) ≡ expression_size e + 2
unfolding action_size
send_size n e w = by_cases (λ a. action_size a ≡ expression_size e + 2) (is_among w n.parties) _ _ (λ _. refl) (λ _. refl)

pub move_size : (n : Names) (e : Expression) (h : Holder) (w : Word) → action_size (move_of n e h w) ≡ expression_size e + 3
unfolding action_size
move_size n e h w = by_cases (λ a. action_size a ≡ expression_size e + 3) (is_among w n.parties) _ _ (λ _. refl) (λ _. refl)

pub move_all_size : (n : Names) (h : Holder) (w : Word) → action_size (move_all_of n h w) ≡ 3
unfolding action_size
move_all_size n h w = by_cases (λ a. action_size a ≡ 3) (is_among w n.parties) _ _ (λ _. refl) (λ _. refl)

module _ (s : List ℕ) where
  -- what notes tell about the words known
  pub record Looks (b : List Item) (n : List ℕ) : Type 0 where
    pub number : (k : ℕ) → k < 7 → (w : Word) → number_in s n k w ≡ number_of w (known s k b)
    pub among : (k : ℕ) → k < 7 → (w : Word) → among_in s n k w ≡ is_among w (known s k b)

  module _ (b : List Item) (n : List ℕ) (l : Looks b n) (w : Word) where
    seek_as : (k kind : ℕ) → k < 7 → {ws : List Word} → known s k b ≡ ws → {x y : Known} → x ≡ y → seek s n k kind w x ≡ pick (is_among w ws) (found kind (number_of w ws)) y
    unfolding seek
    seek_as k kind h {ws} e {x} {y} q =
        let a : among_in s n k w ≡ is_among w ws = l.among k h w ∙ ap (is_among w) e in
        let m : number_in s n k w ≡ number_of w ws = l.number k h w ∙ ap (number_of w) e in
        (λ i. pick (a i) (found kind (m i)) (q i))

  module _ (c : Site) (N : Names) (b : List Item) (a : Agree s c N b) (w : Word) where
    apart_as : (j k : ℕ) → j < 5 → k < 5 → eqb j k ≡ false → {us vs : List Word} → known s j b ≡ us → known s k b ≡ vs → is_among w us ≡ true → is_among w vs ≡ false
    apart_as j k hj hk n {us} {vs} p q e = sym (ap (is_among w) q) ∙ a.differ.apart j k hj hk n w (ap (is_among w) p ∙ e)

  module _ (N : Names) (b : List Item) (n : List ℕ) (l : Looks b n) (w : Word) where
    name_function : Agree s in_function N b → is_known s (value_kinds in_function) b w ≡ true → node_of (name_in s n false w) ≡ expression_nodes (name_of N w)
    unfolding name_in stored_in is_known pick
    name_function a k =
        let look = seek_as b n l w 3 value_kind (omega arith) a.values (seek_as b n l w 4 parameter_kind (omega arith) a.parameters
        (seek_as b n l w 1 asset_kind (omega arith) a.assets (seek_as b n l w 2 field_kind (omega arith) a.fields {x = unknown} {y = unknown} refl))) in
        ap node_of look
        ∙ name_case _ _ _ _ _ _ _ _
        (apart_as in_function N b a w 3 2 (omega arith) (omega arith) refl a.values a.fields)
        (apart_as in_function N b a w 4 2 (omega arith) (omega arith) refl a.parameters a.fields)
        (apart_as in_function N b a w 4 1 (omega arith) (omega arith) refl a.parameters a.assets)
        (apart_as in_function N b a w 1 2 (omega arith) (omega arith) refl a.assets a.fields)
        (sym (λ i. is_among w (a.assets i) || (is_among w (a.fields i) || (is_among w (a.values i) || (is_among w (a.parameters i) || false)))) ∙ k)

    name_handler : Agree s in_handler N b → is_known s (value_kinds in_handler) b w ≡ true → node_of (name_in s n true w) ≡ expression_nodes (name_of N w)
    unfolding name_in stored_in is_known pick number_of
    name_handler a k =
        let look = seek_as b n l w 1 asset_kind (omega arith) a.assets (seek_as b n l w 2 field_kind (omega arith) a.fields {x = unknown} {y = unknown} refl) in
        ap node_of look
        ∙ name_case_handler (is_among w N.assets) (is_among w N.fields) (number_of w N.assets) (number_of w N.fields) 0 (number_of w N.parameters)
        (apart_as in_handler N b a w 1 2 (omega arith) (omega arith) refl a.assets a.fields)
        (sym (λ i. is_among w (a.assets i) || (is_among w (a.fields i) || false)) ∙ k)
        ∙ (λ i. expression_nodes (pick (is_among w N.fields) (field (number_of w N.fields)) (pick (is_among w (a.values i)) (value_parameter (number_of w (a.values i))) (held (holder_of N w)))))

    -- what an expression names
    pub name_node : (c : Site) → Agree s c N b → is_known s (value_kinds c) b w ≡ true → node_of (name_in s n (inside c) w) ≡ expression_nodes (name_of N w)
    name_node in_function a k = name_function a k
    name_node in_handler a k = name_handler a k

    -- an asset or an asset parameter
    pub holder_node_lem : (c : Site) → Agree s c N b → is_known s (asset_kinds c) b w ≡ true → node_of (holder_in s n (inside c) w) ≡ holder_node (holder_of N w)
    unfolding holder_in is_known pick
    holder_node_lem in_function a k =
        ap node_of (seek_as b n l w 1 asset_kind (omega arith) a.assets (seek_as b n l w 4 parameter_kind (omega arith) a.parameters {x = unknown} {y = unknown} refl))
        ∙ holder_case (is_among w N.assets) (is_among w N.parameters) (number_of w N.assets) (number_of w N.parameters) (sym (λ i. is_among w (a.assets i) || (is_among w (a.parameters i) || false)) ∙ k)
    holder_node_lem in_handler a k =
        ap node_of (seek_as b n l w 1 asset_kind (omega arith) a.assets {x = unknown} {y = unknown} refl)
        ∙ holder_case_handler (is_among w N.assets) (number_of w N.assets) (number_of w N.parameters) (sym (λ i. is_among w (a.assets i) || false) ∙ k)

    -- such a name, read as an expression
    pub name_held : (c : Site) → Agree s c N b → is_known s (asset_kinds c) b w ≡ true → name_of N w ≡ held (holder_of N w)
    unfolding is_known number_of
    name_held in_function a k =
        held_case _ (is_among w N.parameters) (is_among w N.assets) _ _ _ _
        (apart_as in_function N b a w 1 2 (omega arith) (omega arith) refl a.assets a.fields)
        (apart_as in_function N b a w 1 3 (omega arith) (omega arith) refl a.assets a.values)
        (apart_as in_function N b a w 4 2 (omega arith) (omega arith) refl a.parameters a.fields)
        (apart_as in_function N b a w 4 3 (omega arith) (omega arith) refl a.parameters a.values)
        (sym (λ i. is_among w (a.assets i) || (is_among w (a.parameters i) || false)) ∙ k)
    name_held in_handler a k =
        let none : is_among w N.values ≡ false = sym (ap (is_among w) a.values) in
        pick_false _ _ _ (apart_as in_handler N b a w 1 2 (omega arith) (omega arith) refl a.assets a.fields (or_last _ (sym (λ i. is_among w (a.assets i) || false) ∙ k)))
        ∙ pick_false _ _ _ none

    pub send_parts : (c : Site) (e : Expression) → Agree s c N b → is_known s (kind.party ∷ kind.field ∷ []) b w ≡ true → action_parts (send_of N e w) ≡ expression_nodes e ++ node_of (value_target s n w)
    unfolding value_target is_known
    send_parts c e a k =
        send_case _ (is_among w N.fields) _ _ e (sym (λ i. is_among w (a.parties i) || (is_among w (a.fields i) || false)) ∙ k)
        ∙ ap (λ (x : Known). expression_nodes e ++ node_of x)
        (sym (seek_as b n l w 0 party_kind (omega arith) a.parties (seek_as b n l w 2 field_kind (omega arith) a.fields {x = unknown} {y = unknown} refl)))

    holder_else : (c : Site) → Agree s c N b → is_known s (kind.party ∷ asset_kinds c) b w ≡ true → is_among w N.parties ≡ false → node_of (holder_in s n (inside c) w) ≡ holder_node (holder_of N w)
    unfolding is_known
    holder_else c a k f = holder_node_lem c a (or_right (is_among w (known s 0 b)) _ (ap (is_among w) a.parties ∙ f) k)

    pub move_parts : (c : Site) (e : Expression) (h : Holder) → Agree s c N b → is_known s (kind.party ∷ asset_kinds c) b w ≡ true
        → action_parts (move_of N e h w) ≡ expression_nodes e ++ (holder_node h ++ node_of (asset_target s n (inside c) w))
    unfolding asset_target
    move_parts c e h a k =
        move_case _ _ e h (holder_of N w) (holder_in s n (inside c) w) (holder_else c a k)
        ∙ ap (λ (x : Known). expression_nodes e ++ (holder_node h ++ node_of x)) (sym (seek_as b n l w 0 party_kind (omega arith) a.parties refl))

    pub move_all_parts : (c : Site) (h : Holder) → Agree s c N b → is_known s (kind.party ∷ asset_kinds c) b w ≡ true
        → action_parts (move_all_of N h w) ≡ holder_node h ++ node_of (asset_target s n (inside c) w)
    unfolding asset_target
    move_all_parts c h a k =
        move_all_case _ _ h (holder_of N w) (holder_in s n (inside c) w) (holder_else c a k)
        ∙ ap (λ (x : Known). holder_node h ++ node_of x) (sym (seek_as b n l w 0 party_kind (omega arith) a.parties refl))
