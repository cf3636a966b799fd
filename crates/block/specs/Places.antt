-- What the arrays of a state take over from a block.
use Rattle.std.specs.Prelude.{◌≡◌, List, ℕ, ◌+◌, ◌*◌, ◌<◌, length, get_or, take}
use Rattle.terms.specs.declared.Rule.{Rule}
use Rattle.terms.specs.declared.Mark.{Mark}
use Rattle.places.specs.Layout.{HEADER, RULE_BYTES, MARK_BYTES, MARKS_AT}
use Rattle.places.specs.Read.{rule_read, mark_read}
use Rattle.block.specs.Block.{tab}

-- the rule in place i of a block
abbrev pub rule_from : List ℕ → ℕ → Rule
rule_from b i = rule_read b (HEADER + RULE_BYTES * i)

-- the mark in place i of a block
abbrev pub mark_from : List ℕ → ℕ → Mark
mark_from b i = mark_read b (MARKS_AT + MARK_BYTES * i)

-- an array of k places whose first n are f 0, f 1 ..
pub record Filled {X : Type 0} (k n : ℕ) (f : ℕ → X) (xs : List X) : Type 0 where
  pub places : length xs ≡ k
  pub first : take n xs ≡ tab f n

-- an array of k places whose first n are what R gives of each
pub record ReadBy {X : Type 0} (k n : ℕ) (R : ℕ → X → Type 0) (xs : List X) : Type 0 where
  pub places : length xs ≡ k
  pub each : (i : ℕ) (d : X) → i < n → R i (get_or xs i d)
