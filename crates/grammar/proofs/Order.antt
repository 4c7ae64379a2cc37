-- Events stand in the text by function and then by event, and the contract has as many of them as the tree. Assumes nothing.
use mathlib.Core.Path.{◌≡◌, sym, ap, ◌∙◌}
use mathlib.Core.List.{List, [], ◌∷◌, ◌++◌}
use Prim.Native.Nat.{ℕ, zero, suc, ◌<◌, ◌≤◌}
use native.Mathlib.Omega.{arith}
use lib.ListN.{length, get_or}
use Rattle.tokens.specs.declared.Token.{Token}
use Rattle.tokens.proofs.Facts.{progress}
use Rattle.contract.specs.Tree as contract
use Rattle.reading.specs.Syntax.{Event, Body, Function, Syntax}
use Rattle.reading.specs.Items.{items}
use Rattle.reading.specs.Rules.{word}
use Rattle.reading.specs.Resolve.{Names, within, each_of, latest_first, event_of, function_of, names_in, resolve}
use Rattle.reading.proofs.Mapped.{length_each, each_at}
use Rattle.grammar.specs.Derivations.{Tokens, TokensOf, Starts, start_of, leaves, Braced, EventOf, BodyOf, FunctionOf, Each, Derives}
use Rattle.grammar.specs.Order.{places_in, event_places, event_place, InOrder}
use Rattle.grammar.proofs.Complete.{tokens_split, tokens_within}

-- ---- parts in a row

-- parts one after the other from lo up to hi, each between two places
abbrev Laid : {A : Type 0} → (ℕ → A → ℕ → Type 0) → ℕ → List A → ℕ → Type 0
Laid P lo [] hi = lo ≤ hi
Laid P lo (x ∷ xs) hi = (m : ℕ) × P lo x m × Laid P m xs hi

-- what lies between two places: they are in order, and it lies between any that are further apart
record Lies {A : Type 0} (P : ℕ → A → ℕ → Type 0) : Type 0 where
  ends : (lo : ℕ) (x : A) (hi : ℕ) → P lo x hi → lo ≤ hi
  wider : (lo a : ℕ) (x : A) (b hi : ℕ) → lo ≤ a → b ≤ hi → P a x b → P lo x hi

module _ {A : Type 0} (P : ℕ → A → ℕ → Type 0) (p : Lies P) where
  laid_lies : Lies (Laid P)
  laid_lies = record { ends = between; wider = further }
    where
      between : (lo : ℕ) (xs : List A) (hi : ℕ) → Laid P lo xs hi → lo ≤ hi
      between lo [] hi h = h
      between lo (x ∷ xs) hi h = omega (arith, p.ends lo x h.0 h.1, between h.0 xs hi h.2)

      further : (lo a : ℕ) (xs : List A) (b hi : ℕ) → lo ≤ a → b ≤ hi → Laid P a xs b → Laid P lo xs hi
      further lo a [] b hi l r h = let k : a ≤ b = h in omega arith
      further lo a (x ∷ xs) b hi l r h =
          (h.0, p.wider lo a x h.0 h.0 l (omega arith) h.1, further h.0 h.0 xs b hi (omega arith) r h.2)

  laid_also :
      {B : Type 0} (f : B → A) (lo : ℕ) (xs : List B) (m : ℕ) (x : B) (hi : ℕ) → Laid P lo (each_of f xs) m → P m (f x) hi
      → Laid P lo (each_of f (xs ++ (x ∷ []))) hi
  unfolding each_of
  laid_also f lo [] m x hi h k = (hi, p.wider lo m (f x) hi hi h (omega arith) k, omega arith)
  laid_also f lo (y ∷ xs) m x hi h k = (h.0, h.1, laid_also f h.0 xs m x hi h.2 k)

  -- part n lies between the ends
  laid_at : (d : A) (lo : ℕ) (xs : List A) (hi n : ℕ) → Laid P lo xs hi → n < length xs → P lo (get_or xs n d) hi
  laid_at d lo [] hi n h l = absurd (omega arith)
  laid_at d lo (x ∷ xs) hi zero h l = p.wider lo lo x h.0 hi (omega arith) (laid_lies.ends h.0 xs hi h.2) h.1
  laid_at d lo (x ∷ xs) hi (suc n) h l =
      p.wider lo h.0 _ hi hi (p.ends lo x h.0 h.1) (omega arith) (laid_at d h.0 xs hi n h.2 (omega arith))

  -- part n lies before a place, and the later part m after it
  laid_apart :
      (d : A) (lo : ℕ) (xs : List A) (hi n m : ℕ) → Laid P lo xs hi → n < m → m < length xs → (b : ℕ) × P lo (get_or xs n d) b × P b (get_or xs m d) hi
  laid_apart d lo [] hi n m h k l = absurd (omega arith)
  laid_apart d lo (x ∷ xs) hi n zero h k l = absurd (omega arith)
  laid_apart d lo (x ∷ xs) hi zero (suc m) h k l = (h.0, h.1, laid_at d h.0 xs hi m h.2 (omega arith))
  laid_apart d lo (x ∷ xs) hi (suc n) (suc m) h k l =
      let y = laid_apart d h.0 xs hi n m h.2 (omega arith) (omega arith) in
      (y.0, p.wider lo h.0 _ y.0 y.0 (p.ends lo x h.0 h.1) (omega arith) y.1, y.2)

-- a place from lo on and before hi
abbrev Within : ℕ → ℕ → ℕ → Type 0
Within lo x hi = (lo ≤ x) × (x < hi)

within_lies : Lies Within
within_lies = record { ends = λ lo x hi h. omega arith; wider = λ lo a x b hi l r h. omega arith }

-- places that rise from lo on and before hi
abbrev Rising : ℕ → List ℕ → ℕ → Type 0
Rising = Laid Within

rising_lies : Lies Rising
rising_lies = laid_lies Within within_lies

-- ---- tokens between two places

-- tokens that stand among others, in a row
data Among (us : List Token) : List Token → Type 0 where
  all : Among us us
  past : (ts : List Token) {vs : List Token} → Among us vs → Among us (ts ++ vs)
  until : {ts : List Token} (vs : List Token) → Among us ts → Among us (ts ++ vs)

module _ (s : List ℕ) where
  tokens_ends : (at : ℕ) (ts : List Token) (m : ℕ) → Tokens s at ts m → at ≤ m
  tokens_ends at [] m h = let e : at ≡ m = h in omega arith
  tokens_ends at (o ∷ ts) m h = omega (arith, (tokens_within s at o ts m h).0)

  among_tokens : (us ts : List Token) (at m : ℕ) → Among us ts → Tokens s at ts m → (a : ℕ) × (b : ℕ) × (at ≤ a) × (b ≤ m) × Tokens s a us b
  among_tokens us ts at m all h = (at, m, omega arith, omega arith, h)
  among_tokens us ts at m (past vs {vs = ws} k) h =
      let y = tokens_split s at vs ws m h in
      let z = among_tokens us ws y.0 m k y.2 in
      (z.0, z.1, omega (arith, tokens_ends at vs y.0 y.1, z.2), z.3, z.4)
  among_tokens us ts at m (until {ts = vs} ws k) h =
      let y = tokens_split s at vs ws m h in
      let z = among_tokens us vs at y.0 k y.1 in
      (z.0, z.1, z.2, omega (arith, tokens_ends y.0 ws m y.2, z.3), z.4)

  -- ---- places of events

  start_within : (ks : List ℕ) (ts us : List Token) (at m : ℕ) → Starts ks ts → Tokens s at (ts ++ us) m → Within at (start_of ts) m
  start_within ks [] us at m k h = absurd k
  start_within ks (o ∷ ts) us at m k h =
      let y = progress s at o h.0 in
      (y.0, omega (arith, y.1, tokens_ends o.end (ts ++ us) m h.1))

  event_within : (w : Event) (ts : List Token) (at m : ℕ) → EventOf w ts → Tokens s at ts m → Within at w.place m
  event_within w ts at m (EventOf.event {ts = us} _ k _ _ _ _ _ _ _) h = start_within leaves us _ at m k h

  body_rises : (i : Body) (ts : List Token) (at m : ℕ) → BodyOf i ts → Tokens s at ts m → Rising at (places_in i) m
  unfolding each_of
  body_rises i ts at m (BodyOf.statements d) h = tokens_ends at ts m h
  body_rises i ts at m (BodyOf.also {i = j} {w = w} {ts = us} {us = vs} d e) h =
      let y = tokens_split s at us vs m h in
      laid_also Within within_lies (λ w. w.place) at j.events y.0 w m (body_rises j us at y.0 d y.1) (event_within w vs y.0 m e y.2)

  function_rises : (f : Function) (ts : List Token) (at m : ℕ) → FunctionOf f ts → Tokens s at ts m → Rising at (places_in f.body) m
  function_rises g ts at m
      (FunctionOf.function {i = i} {ts = hs} {us = us} {vs = vs} {ws = ws} {rs = rs} _ a c f w _ _ _ _ _ _ _ (Braced.braced {ts = is} o e _ d _) _ _) h =
      let k = past hs (past (a ∷ c ∷ f ∷ []) (past us (past vs (past ws (until (w ∷ rs) (past (o ∷ []) (until (e ∷ []) all))))))) in
      let y = among_tokens is ts at m k h in
      rising_lies.wider at y.0 (places_in i) y.1 m y.2 y.3 (body_rises i is y.0 y.1 d y.4)

  functions_rise :
      (fs : List Function) (ts : List Token) (at m : ℕ) → Each FunctionOf fs ts → Tokens s at ts m → Laid Rising at (each_of (λ f. places_in f.body) fs) m
  unfolding each_of
  functions_rise fs ts at m Each.nothing h = tokens_ends at [] m h
  functions_rise fs ts at m (Each.also {xs = gs} {x = g} {ts = us} {us = vs} d e) h =
      let y = tokens_split s at us vs m h in
      laid_also Rising rising_lies (λ f. places_in f.body) at gs y.0 g m (functions_rise gs us at y.0 d y.1) (function_rises g vs y.0 m e y.2)

-- ---- from lists to numbers

there : (pss : List (List ℕ)) (n j : ℕ) → j < length (get_or pss n []) → n < length pss
there [] n j h = absurd (omega arith)
there (ps ∷ pss) zero j h = omega arith
there (ps ∷ pss) (suc n) j h = omega (arith, there pss n j h)

laid_in_order : (t : Syntax) (lo hi : ℕ) → Laid Rising lo (event_places t) hi → InOrder t
laid_in_order t lo hi h =
    let pss = event_places t in
    record {
      by_function =
          λ n m i j k a b.
          let y = laid_apart Rising rising_lies [] lo pss hi n m h k (there pss m j b) in
          let u = laid_at Within within_lies 0 lo (get_or pss n []) y.0 i y.1 a in
          let v = laid_at Within within_lies 0 y.0 (get_or pss m []) hi j y.2 b in
          omega (arith, u.1, v.0);
      by_event =
          λ n i j k b.
          let y = laid_apart Within within_lies 0 lo (get_or pss n []) hi i j (laid_at Rising rising_lies [] lo pss hi n h (there pss n j b)) k b in
          omega (arith, y.1.1, y.2.0);
    }

-- the tree that a text's tokens derive has its events in the order of the text
pub events_in_order : (s : List ℕ) (t : Syntax) (ts : List Token) → TokensOf s ts → Derives t ts → InOrder t
events_in_order s t ts h
    (Derives.contract {ts = js} {us = us} {vs = vs} {ws = ws} {rs = rs} {zs = zs} l n d g o c b e a z _ _ _ _ _ _ _ _ _ _ _ _ _ _ fs _) =
    let k = past (e ∷ a ∷ []) (past rs (until (z ∷ []) all)) in
    let k = past (l ∷ n ∷ d ∷ []) (past js (past us (past (g ∷ o ∷ []) (past vs (past (c ∷ b ∷ []) (past ws k)))))) in
    let y = among_tokens s zs ts 0 h.end k h.all in
    laid_in_order t y.0 y.1 (functions_rise s t.functions zs y.0 y.1 fs y.4)

-- ---- the contract of a tree

lengths_same : {A B C : Type 0} (f : A → B) (g : A → C) (xs : List A) → length (each_of f xs) ≡ length (each_of g xs)
lengths_same f g xs = length_each f xs ∙ sym (length_each g xs)

-- the contract has as many functions as the tree
pub resolved_functions : (s : List ℕ) (t : Syntax) → length (resolve s t).functions ≡ length (event_places t)
unfolding resolve
resolved_functions s t = lengths_same _ _ t.functions

-- what holds of both at each member holds of both at a place
both_at :
    {A B C : Type 0} (R : B → C → Type 0) (f : A → B) (g : A → C) → ((x : A) → R (f x) (g x)) → (xs : List A) (n : ℕ) (b : B) (c : C) → n < length (each_of g xs)
    → R (get_or (each_of f xs) n b) (get_or (each_of g xs) n c)
unfolding each_of
both_at R f g h [] n b c l = absurd (omega arith)
both_at R f g h (x ∷ xs) zero b c l = h x
both_at R f g h (x ∷ xs) (suc n) b c l = both_at R f g h xs n b c (omega arith)

function_events : (s : List ℕ) (ns : Names) (f : Function) → length (function_of s ns f).events ≡ length (places_in f.body)
unfolding function_of
function_events s ns f = lengths_same _ _ f.body.events

-- and each has as many events as in the tree
pub resolved_events :
    (s : List ℕ) (t : Syntax) (n : ℕ) (f : contract.Function) → n < length (event_places t)
    → length (get_or (resolve s t).functions n f).events ≡ length (get_or (event_places t) n [])
unfolding resolve
resolved_events s t n f = both_at (λ g ps. length g.events ≡ length ps) _ _ (function_events s _) t.functions n f []

-- event j of function n of the contract is that of the tree, whose place is `event_place`
pub resolved_event :
    (s : List ℕ) (t : Syntax) (n j : ℕ) (f : contract.Function) (e : contract.Event) (g : Function) (w : Event)
    → n < length t.functions → j < length (get_or t.functions n g).body.events
    → (ns : Names) × (get_or (get_or (resolve s t).functions n f).events j e ≡ event_of s ns (get_or (get_or t.functions n g).body.events j w))
    × (event_place t n j ≡ (get_or (get_or t.functions n g).body.events j w).place)
unfolding resolve function_of
resolved_event s t n j f e g w h k =
    let all : Names = names_in s (latest_first [] (items t)) in
    let x : Function = get_or t.functions n g in
    let ns : Names = within all (each_of (word s) x.values) (each_of (word s) x.parameters) in (
      ns,
      ap (λ (y : contract.Function). get_or y.events j e) (each_at (function_of s all) t.functions n g f h) ∙ each_at (event_of s ns) x.body.events j w e k,
      ap (λ (ps : List ℕ). get_or ps j 0) (each_at (λ y. places_in y.body) t.functions n g [] h) ∙ each_at (λ v. v.place) x.body.events j w 0 k,
    )
