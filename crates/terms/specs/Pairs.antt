-- The pairs that 01's answers tell of.
use Rattle.std.specs.Prelude.{List, ℕ, ◌*◌, ℤ, take}
use Rattle.terms.specs.declared.Answer.{Answer}
use Rattle.terms.specs.declared.Answer.TheVariants.{Done, Yes, No, Contradiction, Spans, End, Refused}

-- 01, Records: how many pairs an answer says that it wrote
abbrev pub pair_count : Answer → ℕ
pair_count Done = 0
pair_count Yes = 0
pair_count No = 0
pair_count (Contradiction item) = 0
pair_count (Spans count) = count
pair_count End = 0
pair_count (Refused number) = 0

-- 01, Records: those pairs, in a span buffer
abbrev pub pairs_of : Answer → List ℤ → List ℤ
pairs_of a s = take (2 * pair_count a) s
