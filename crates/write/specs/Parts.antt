-- What the steps of the writing do: a square read and transposed, entries laid, a part of a block written.
use Rattle.std.specs.Prelude.{◌≡◌, ◌⊎◌, List, Bool, true, ℕ, ◌+◌, ◌*◌, ◌%◌, ◌<◌, ◌≤◌, length, get_or}
use Rattle.terms.specs.Limits.{KINDS}
use Rattle.words.specs.Bit.{bit_at}
use Rattle.store.specs.Cells.{cell}

-- the first `count` words of `t` are word `w` of the rows from `start` on
pub record Square (l : List ℕ) (start w count : ℕ) (t : List ℕ) : Type 0 where
  pub size : length t ≡ 64
  pub at : (k : ℕ) → k < count → get_or t k 0 ≡ get_or l (start * 4 + w + k * 4) 0

-- the first `count` bits of word `k` of `t` say which of the rows from `start` on have interval w * 64 + k
pub record Columns (l : List ℕ) (start w count : ℕ) (t : List ℕ) : Type 0 where
  pub size : length t ≡ 64
  pub at : (k c : ℕ) → k < 64 → c < count → bit_at (get_or t k 0) c ≡ cell l (start + c) (w * 64 + k)

-- the words of a square, as they are
abbrev pub words_of : List ℕ → ℕ → ℕ
words_of t k = get_or t k 0

-- the lowest byte of each word of a square
abbrev pub bytes_of : List ℕ → ℕ → ℕ
bytes_of t k = get_or t k 0 % 256

-- nothing but zeros
abbrev pub zero_at : ℕ → ℕ
zero_at k = 0

-- `after` is `before` with `count` values from `base` on
pub record Laid (value : ℕ → ℕ) (base count : ℕ) (before after : List ℕ) : Type 0 where
  pub size : length after ≡ length before
  pub at : (k : ℕ) → k < count → get_or after (base + k) 0 ≡ value k
  pub others : (x : ℕ) → (x < base) ⊎ (base + count ≤ x) → get_or after x 0 ≡ get_or before x 0

-- the block at `base` is written at the intervals from `from` up to `to`, from `count` rows at `start`
pub record Part (l : List ℕ) (start count base from to : ℕ) (before after : List ℕ) : Type 0 where
  pub size : length after ≡ length before
  pub at : (p c : ℕ) → from ≤ p → p < to → c < count → bit_at (get_or after (base + p) 0) c ≡ cell l (start + c) p
  pub others : (x : ℕ) → (x < base + from) ⊎ (base + to ≤ x) → get_or after x 0 ≡ get_or before x 0

-- where `r` is true, the words of the rows of a pair, from `start` on, are 0
pub record Unused (l : List ℕ) (start : ℕ) (r : Bool) : Type 0 where
  pub none : r ≡ true → (k : ℕ) → k < KINDS * 4 → get_or l (start * 4 + k) 0 ≡ 0
