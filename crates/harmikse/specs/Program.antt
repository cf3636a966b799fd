-- 01, The program's lines: which lines the program prints, from its input alone.
use Rattle.std.specs.Prelude.{◌≡◌, Bool, true, false, not, List, ℕ, suc, ◌≤◌, ◌<◌, T, eqb, pos, length, drop, replicate}
use Rattle.terms.specs.declared.Answer.{Answer}
use Rattle.terms.specs.Limits.{LABEL_ENTRIES, LINK_ENTRIES, SPAN_NUMBERS}
use Rattle.places.specs.Layout.{zeros, SIZE}
use Rattle.commands.specs.Call.{call}
use Rattle.commands.specs.Buffers.{Buffers, lent}
use Rattle.lines.specs.Lines.{codes, line_text}

-- 01, The program's lines: input is at most so many bytes
abbrev pub LIMIT : ℕ
LIMIT = 65_536

-- 01, The program's lines: what more prints
abbrev pub too_long_line : List ℕ
too_long_line = codes "input too long\n"

-- what the program lends at first: the empty state, and tables and span buffer of the least lengths
unfoldable pub fresh : Buffers
fresh = lent (zeros SIZE) (zeros LABEL_ENTRIES) (zeros LINK_ENTRIES) (replicate SPAN_NUMBERS (pos 0))

-- 01, The program's lines: the program stops at end and after refusal 3
abbrev pub goes_on : Answer → Bool
goes_on Answer.Done = true
goes_on Answer.Yes = true
goes_on Answer.No = true
goes_on (Answer.Contradiction item) = true
goes_on (Answer.Spans count) = true
goes_on Answer.End = false
goes_on (Answer.Refused number) = not (eqb number 3)

-- after n records the program has these buffers, and these bytes are left
pub data Reaches (input : List ℕ) : ℕ → Buffers → List ℕ → Type 0 where
  begun : Reaches input 0 fresh input
  handled :
      {n : ℕ} {m : Buffers} {s : List ℕ} → Reaches input n m s → T (goes_on (call m s).answer) →
      Reaches input (suc n) (call m s).buffers (drop (call m s).used s)

-- 01, The program's lines: the n-th line is that of the n-th record, counted from 1, and end prints nothing; a long input has its own
pub data Prints (input : List ℕ) : ℕ → List ℕ → Type 0 where
  too_long : LIMIT < length input → Prints input 1 too_long_line
  line_of :
      {n : ℕ} {m : Buffers} {s : List ℕ} → length input ≤ LIMIT → Reaches input n m s → ((call m s).answer ≡ Answer.End → ⊥) →
      Prints input (suc n) (line_text (suc n) (call m s).answer (call m s).buffers.spans)

-- 01, The program's lines: there are n lines and no more
pub data Whole (input : List ℕ) : ℕ → Type 0 where
  only_too_long : LIMIT < length input → Whole input 1
  at_end :
      {n : ℕ} {m : Buffers} {s : List ℕ} → length input ≤ LIMIT → Reaches input n m s → (call m s).answer ≡ Answer.End → Whole input n
  at_refusal_3 :
      {n : ℕ} {m : Buffers} {s : List ℕ} → length input ≤ LIMIT → Reaches input n m s → (call m s).answer ≡ Answer.Refused 3 →
      Whole input (suc n)
