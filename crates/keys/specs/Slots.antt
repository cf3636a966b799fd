-- Slots for keys: from the slot of a key one sees mostly at once whether it was met. Assumes nothing.
use Rattle.std.specs.Prelude.{◌≡◌, Bool, false, not, List, ℕ, ◌+◌, ◌%◌, ◌≤◌, ◌<◌, eqb, length, get_or, drop}
use Rattle.terms.specs.Lists.{some}

-- how many slots there are for keys, and the slot of a key
abbrev pub SLOTS : ℕ
SLOTS = 3967

unfoldable pub slot_of : ℕ → ℕ
slot_of k = k % SLOTS

pub record FreeSlots (slots : List ℕ) : Type 0 where
  pub size : length slots ≡ SLOTS
  pub free : (s : ℕ) → get_or slots s 0 ≡ 0

-- what a slot says of a key: 0 that it is at no place from `from` on, another number such a place, of this key or of another
pub record Said (keys : List ℕ) (from key said : ℕ) : Type 0 where
  pub nowhere : said ≡ 0 → some (eqb key) (drop from keys) ≡ false
  pub somewhere : 0 < said → (from ≤ said) × (said < length keys)

-- each key from `from` on has its slot taken, and a taken slot says a place from there on
-- (place 0 can't be told from a free slot: with it, when all is counted, the first is not kept)
pub record Slots (keys : List ℕ) (from : ℕ) (slots : List ℕ) : Type 0 where
  pub size : length slots ≡ SLOTS
  pub taken : 0 < from → (j : ℕ) → from ≤ j → j < length keys → 0 < get_or slots (slot_of (get_or keys j 0)) 0
  pub places : (s : ℕ) → 0 < get_or slots s 0 → (from ≤ get_or slots s 0) × (get_or slots s 0 < length keys)

-- whether the key at the place is the last of its kind, and the slots with it
pub record LastOf (keys : List ℕ) (at : ℕ) (slots : List ℕ) (r : Bool) : Type 0 where
  pub last : r ≡ not (some (eqb (get_or keys at 0)) (drop (at + 1) keys))
  pub known : Slots keys at slots
