-- 01's operators by code and n.
use Rattle.std.specs.Prelude.{Bool, true, false, cond, ◌&&◌, ℕ, eqb, leb, Option, Some, None}
use Rattle.terms.specs.declared.Operator.{Operator}
use Rattle.terms.specs.declared.Operator.TheVariants.{Within, Between, Above, Below, Anywhere}
use Rattle.terms.specs.Limits.{WITHIN_MOST}

-- the operator where its n passes
abbrev pub read_if : Bool → Operator → Option Operator
read_if true o = Some o
read_if false o = None

-- 01, Operators: n's range for WITHIN
abbrev pub is_distance : ℕ → Bool
is_distance n = leb 1 n && leb n WITHIN_MOST

-- 01, Operators: the table's rows by code, each with what n may be
abbrev pub operator_of : ℕ → ℕ → Option Operator
operator_of c n =
    cond (eqb c 1) (read_if (is_distance n) (Within n))
    (cond (eqb c 2) (read_if (eqb n 0) Between)
    (cond (eqb c 3) (read_if (eqb n 0) Above)
    (cond (eqb c 4) (read_if (eqb n 0) Below)
    (cond (eqb c 5) (read_if (eqb n 0) Anywhere)
    None))))

-- 01, Operators: the first column of the table
abbrev pub code_of : Operator → ℕ
code_of (Within n) = 1
code_of Between = 2
code_of Above = 3
code_of Below = 4
code_of Anywhere = 5

-- and the n that goes with it
abbrev pub distance_of : Operator → ℕ
distance_of (Within n) = n
distance_of Between = 0
distance_of Above = 0
distance_of Below = 0
distance_of Anywhere = 0

-- an operator whose n is in range
abbrev pub is_operator : Operator → Bool
is_operator (Within n) = is_distance n
is_operator Between = true
is_operator Above = true
is_operator Below = true
is_operator Anywhere = true

-- an operator, and WITHIN 1 for what is none: it gives each set itself
abbrev pub or_identity : Option Operator → Operator
or_identity (Some o) = o
or_identity None = Within 1
