-- What the least model decides, reply by reply: the twin of `Decides`.
use Rattle.terms.specs.declared.Question.{Question}
use Rattle.terms.specs.Held.{Held}
use Rattle.logic.specs.Depths.{Derived}
use Rattle.decide.specs.Decides.{Verdict, Reply, Contradiction, Answered, Never, Lowest, SaysBy}

-- demand 2: the same by the least model, which has the statement or has not
abbrev pub Reads : Held → Question → Verdict → Type 0
Reads h q v = SaysBy (Derived h) (λ x i. Derived h x i → ⊥) q v

-- demand 2: contradiction where an item concerned has NEVER
abbrev pub Derives : Held → Question → Reply → Type 0
Derives h q (Contradiction a) = Lowest h q a
Derives h q (Answered v) = (Never h q → ⊥) × Reads h q v
