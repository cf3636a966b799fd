-- A square of 64 words of 64 bits, and its transpose, in six stages.
use Rattle.std.specs.Prelude.{◌≡◌, ◌⊎◌, List, ℕ, ◌+◌, ◌*◌, ◌-◌, ◌/◌, ◌%◌, ◌<◌, ◌≤◌, length, get_or}
use Rattle.words.specs.Bit.{bit_at}
use Rattle.transpose.specs.declared.Pair.{Pair}

-- bit `c` of word `k`
abbrev pub dot : List ℕ → ℕ → ℕ → ℕ
dot a k c = bit_at (get_or a k 0) c

-- runs of `j` indexes take turns: 0 on the low side, 1 on the high side
unfoldable pub side : ℕ → ℕ → ℕ
side j k = k / j % 2

-- the low one of the two indexes that the step `j` pairs
abbrev pub low_of : ℕ → ℕ → ℕ
low_of j k = k - side j k * j

-- from `base` on there is a run on the low side, then one on the high side
pub record Block (j base : ℕ) : Type 0 where
  pub room : base + (j + j) ≤ 64
  pub low : (k : ℕ) → base ≤ k → k < base + j → side j k ≡ 0
  pub high : (k : ℕ) → base + j ≤ k → k < base + (j + j) → side j k ≡ 1
  pub next : (base + (j + j)) % (j + j) ≡ 0

-- `j` is the distance of the two sides, and `m` has the bits on the low side
pub record Stage (j m : ℕ) : Type 0 where
  pub some : 0 < j
  pub step : j < 64
  pub low : (c : ℕ) → c < 64 → side j c ≡ 0 → (c + j < 64) × (side j (c + j) ≡ 1)
  pub high : (c : ℕ) → c < 64 → side j c ≡ 1 → (j ≤ c) × (side j (c - j) ≡ 0)
  pub back : (c : ℕ) → c < 64 → side j c ≡ 0 → j ≤ c → side j (c - j) ≡ 1
  pub mask : (c : ℕ) → c < 64 → bit_at m c + side j c ≡ 1
  pub block : (base : ℕ) → base < 64 → base % (j + j) ≡ 0 → Block j base

-- the high side of `u` and the low side of `v` change places
pub record Exchanged (j u v : ℕ) (r : Pair) : Type 0 where
  pub u_low : (c : ℕ) → c < 64 → side j c ≡ 0 → bit_at r.u c ≡ bit_at u c
  pub u_high : (c : ℕ) → c < 64 → side j c ≡ 1 → bit_at r.u c ≡ bit_at v (c - j)
  pub v_low : (c : ℕ) → c < 64 → side j c ≡ 0 → bit_at r.v c ≡ bit_at u (c + j)
  pub v_high : (c : ℕ) → c < 64 → side j c ≡ 1 → bit_at r.v c ≡ bit_at v c

-- word `k` of `b`: a bit whose side is not the word's has come from the other word, and from its other side
pub record RowSwapped (j : ℕ) (a b : List ℕ) (k : ℕ) : Type 0 where
  pub ll : (c : ℕ) → c < 64 → side j k ≡ 0 → side j c ≡ 0 → dot b k c ≡ dot a k c
  pub lh : (c : ℕ) → c < 64 → side j k ≡ 0 → side j c ≡ 1 → dot b k c ≡ dot a (k + j) (c - j)
  pub hl : (c : ℕ) → c < 64 → side j k ≡ 1 → side j c ≡ 0 → dot b k c ≡ dot a (k - j) (c + j)
  pub hh : (c : ℕ) → c < 64 → side j k ≡ 1 → side j c ≡ 1 → dot b k c ≡ dot a k c

-- the pairs whose low word is from `from` up to `to` are exchanged
pub record Span (j : ℕ) (a : List ℕ) (from to : ℕ) (b : List ℕ) : Type 0 where
  pub size : length b ≡ length a
  pub done : (k : ℕ) → k < 64 → from ≤ low_of j k → low_of j k < to → RowSwapped j a b k
  pub rest : (k : ℕ) → k < 64 → (low_of j k < from) ⊎ (to ≤ low_of j k) → get_or b k 0 ≡ get_or a k 0

-- every pair is exchanged
pub record Swapped (j : ℕ) (a b : List ℕ) : Type 0 where
  pub size : length b ≡ length a
  pub row : (k : ℕ) → k < 64 → RowSwapped j a b k

-- `b` is the transpose of `a`
pub record Transposed (a b : List ℕ) : Type 0 where
  pub size : length b ≡ length a
  pub at : (k c : ℕ) → k < 64 → c < 64 → dot b k c ≡ dot a c k
