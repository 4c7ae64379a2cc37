-- Where a tree's events begin in the text, and that they stand there by function and then by event.
use Rattle.std.specs.Prelude.{ℕ, ◌<◌, List, [], length, get_or}
use Rattle.reading.specs.Syntax.{Body, Syntax}
use Rattle.reading.specs.Resolve.{each_of}

-- where each event of a body begins
abbrev pub places_in : Body → List ℕ
places_in i = each_of (λ w. w.place) i.events

-- of each function, where each of its events begins
abbrev pub event_places : Syntax → List (List ℕ)
event_places t = each_of (λ f. places_in f.body) t.functions

-- where event j of function n begins
abbrev pub event_place : Syntax → ℕ → ℕ → ℕ
event_place t n j = get_or (get_or (event_places t) n []) j 0

-- a function's events stand before those of later functions, and each event before the later ones of its function
pub record InOrder (t : Syntax) : Type 0 where
  pub by_function :
      (n m i j : ℕ) → n < m → i < length (get_or (event_places t) n []) → j < length (get_or (event_places t) m [])
      → event_place t n i < event_place t m j
  pub by_event : (n i j : ℕ) → i < j → j < length (get_or (event_places t) n []) → event_place t n i < event_place t n j
