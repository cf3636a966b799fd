-- 01, The program's lines: the bytes of a line.
use Rattle.std.specs.Prelude.{◌≡◌, true, false, cond, List, [], ◌∷◌, ◌++◌, ℕ, zero, suc, ◌+◌, ◌/◌, ◌%◌, ltb, ℤ, pos, negsuc, length}
use Prim.Native.Char.{code}
use Prim.Native.String.{String, [] as ε, ◌∷◌ as ◌▹◌}
use Rattle.codec.specs.Bytes.{put}
use Rattle.terms.specs.declared.Answer.{Answer}
use Rattle.terms.specs.declared.Answer.TheVariants.{Done, Yes, No, Contradiction, Spans, End, Refused}
use Rattle.terms.specs.Pairs.{pairs_of}
use Rattle.terms.specs.Limits.{NO_TOP, NO_BOTTOM}
use Rattle.terms.specs.Same.{same_depth}

-- a text's bytes: the codes of its characters
abbrev pub codes : String → List ℕ
codes ε = []
codes (c ▹ s) = code c ∷ codes s

-- a number's decimal digits, most significant first, without a leading zero: the last and at most k before it
unfoldable pub digits_up_to : ℕ → ℕ → List ℕ
digits_up_to zero n = (48 + n % 10) ∷ []
digits_up_to (suc k) n = elim (ltb n 10) [ true ↦ (48 + n) ∷ [] | false ↦ digits_up_to k (n / 10) ++ ((48 + n % 10) ∷ []) ]

-- 01, The program's lines: its number; a number of 64 bits has at most 20 digits
abbrev pub decimal : ℕ → List ℕ
decimal n = digits_up_to 19 n

-- 01, The program's lines: a depth, with its sign
unfoldable pub signed : ℤ → List ℕ
signed (pos n) = decimal n
signed (negsuc n) = codes "-" ++ decimal (suc n)

-- 01, The program's lines: `*` for no end, which is the number `none`
unfoldable pub end_text : ℤ → ℤ → List ℕ
end_text none z = cond (same_depth z none) (codes "*") (signed z)

-- 01, The program's lines: a pair as top:bottom, a blank before it
unfoldable pub pair_text : ℤ → ℤ → List ℕ
pair_text top bottom = codes " " ++ (end_text NO_TOP top ++ (codes ":" ++ end_text NO_BOTTOM bottom))

-- 01, The program's lines: each pair
unfoldable pub pairs_text : List ℤ → List ℕ
pairs_text [] = []
pairs_text (top ∷ []) = []
pairs_text (top ∷ (bottom ∷ rest)) = pair_text top bottom ++ pairs_text rest

-- 01, The program's lines: the answer, with its item, count or number
unfoldable pub words : Answer → List ℕ
words Done = codes "done"
words Yes = codes "yes"
words No = codes "no"
words (Contradiction item) = codes "contradiction " ++ decimal item
words (Spans count) = codes "spans " ++ decimal count
words End = codes "end"
words (Refused number) = codes "refused " ++ decimal number

-- 01, The program's lines: a record's number, a blank, its answer, and the pairs that it wrote
unfoldable pub line_text : ℕ → Answer → List ℤ → List ℕ
line_text number answer spans =
    decimal number ++ (codes " " ++ (words answer ++ (pairs_text (pairs_of answer spans) ++ codes "\n")))

-- a text laid from a place on, and the place behind it
pub record Laid (text before : List ℕ) (at : ℕ) (after : List ℕ) (next : ℕ) : Type 0 where
  pub place : next ≡ at + length text
  pub bytes : after ≡ put before at text
