-- What is lent to a call, what a call gives back, and when too little is lent.
use Rattle.std.specs.Prelude.{Bool, ◌||◌, List, ℕ, ltb, ℤ, length}
use Rattle.terms.specs.declared.Answer.{Answer}
use Rattle.terms.specs.Limits.{LABEL_ENTRIES, LINK_ENTRIES, SPAN_NUMBERS}
use Rattle.places.specs.Layout.{SIZE}
use Rattle.commands.specs.declared.Reply as Code

-- 01, State and tables: the four lent pieces of memory
pub record Buffers : Type 0 where
  pub block : List ℕ
  pub labels : List ℕ
  pub links : List ℕ
  pub spans : List ℤ

abbrev pub lent : List ℕ → List ℕ → List ℕ → List ℤ → Buffers
lent b t k s = record { block = b; labels = t; links = k; spans = s }

-- the answer, the bytes used and what is lent afterwards
pub record After : Type 0 where
  pub answer : Answer
  pub used : ℕ
  pub buffers : Buffers

abbrev pub after : Answer → ℕ → Buffers → After
after a u m = record { answer = a; used = u; buffers = m }

-- 01, Where a record is turned away: block or a table too short, or what else is lent to a call
abbrev pub is_short_or : Bool → ℕ → ℕ → ℕ → Bool
is_short_or other b t k = ltb b SIZE || (ltb t LABEL_ENTRIES || (ltb k LINK_ENTRIES || other))

-- 01, Where a record is turned away: block, a table or span buffer too short
abbrev pub is_short : ℕ → ℕ → ℕ → ℕ → Bool
is_short b t k s = is_short_or (ltb s SPAN_NUMBERS) b t k

abbrev pub short : Buffers → Bool
short m = is_short (length m.block) (length m.labels) (length m.links) (length m.spans)

-- what the code gives back, with what is lent then
abbrev pub after_of : Code.Reply → List ℕ → List ℕ → List ℕ → List ℤ → After
after_of r b t k s = after r.answer r.used (lent b t k s)
