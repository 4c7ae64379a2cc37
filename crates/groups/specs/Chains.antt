-- What the groups are: names that chains of moves join, the finest such grouping, numbered from 1 by their first names.
use Rattle.std.specs.Prelude.{ℕ, ◌≤◌, ◌<◌, ◌≡◌, Bool, true, false, ◌&&◌, ◌||◌, List, [], ◌∷◌, eqb, leb}
use Rattle.contract.specs.Tree.{Contract}
use Rattle.groups.specs.Groups.{Move, moves, numbers_name, group_of, firsts_below, first_of, max_names}

-- whether one of these moves goes from one of two names to the other, in either direction
unfoldable pub joins : List Move → ℕ → ℕ → Bool
joins [] a b = false
joins (m ∷ ms) a b = ((eqb m.source a && eqb m.target b) || (eqb m.source b && eqb m.target a)) || joins ms a b

-- a chain of moves from one name to another, each move taken in either direction
pub data Chain (ms : List Move) : ℕ → ℕ → Type 0 where
  here : {a : ℕ} → Chain ms a a
  by_move : {a b d : ℕ} → joins ms a b ≡ true → Chain ms b d → Chain ms a d

-- how many groups a contract has
abbrev pub group_count : Contract → ℕ
group_count c = firsts_below (numbers_name c) (first_of c) max_names

-- whether a number is a group's
abbrev pub is_group : Contract → ℕ → Bool
is_group c g = leb 1 g && leb g (group_count c)

-- the first name of the group with this number
pub record FirstOf (c : Contract) (g : ℕ) : Type 0 where
  pub name : ℕ
  pub is_name : numbers_name c name ≡ true
  pub number : group_of c name ≡ g
  pub first : (l : ℕ) → numbers_name c l ≡ true → group_of c l ≡ g → name ≤ l

-- proved (`grouped`) of every contract that fits
pub record Grouped (c : Contract) : Type 1 where
  -- two names have the same number exactly if a chain joins them
  pub chained : (k l : ℕ) → numbers_name c k ≡ true → numbers_name c l ≡ true → group_of c k ≡ group_of c l → Chain (moves c) k l
  pub same : (k l : ℕ) → numbers_name c k ≡ true → Chain (moves c) k l → group_of c k ≡ group_of c l
  -- what a chain leads to from a name is a name, and each end of a move is a name
  pub names_alone : (k l : ℕ) → numbers_name c k ≡ true → Chain (moves c) k l → numbers_name c l ≡ true
  pub ends : (a b : ℕ) → joins (moves c) a b ≡ true → numbers_name c a ≡ true
  -- The grouping is the finest that joins both ends of every such move: they have the same number, and what is the same at both ends of every
  -- move is the same in each group.
  pub both_ends : (a b : ℕ) → joins (moves c) a b ≡ true → group_of c a ≡ group_of c b
  pub finest : {A : Type 0} (h : ℕ → A) → ((a b : ℕ) → joins (moves c) a b ≡ true → h a ≡ h b)
      → (k l : ℕ) → numbers_name c k ≡ true → numbers_name c l ≡ true → group_of c k ≡ group_of c l → h k ≡ h l
  -- the numbers are 1 to the count of groups, and each is some group's
  pub from_one : (k : ℕ) → numbers_name c k ≡ true → 1 ≤ group_of c k
  pub to_count : (k : ℕ) → numbers_name c k ≡ true → group_of c k ≤ group_count c
  pub each_has : (g : ℕ) → 1 ≤ g → g ≤ group_count c → FirstOf c g
  -- by first names
  pub in_order : (f g : ℕ) (p : FirstOf c f) (q : FirstOf c g) → p.name < q.name → f < g
  -- every name is among the numbers of `groups`, and a number that is no name's has 0
  pub few : (k : ℕ) → numbers_name c k ≡ true → k < max_names
  pub nameless : (k : ℕ) → numbers_name c k ≡ false → group_of c k ≡ 0
