-- What the parts of the record call say.
use Rattle.std.specs.Prelude.{◌≡◌, Bool, not, List, [], ◌∷◌, ℕ, length, Result, IfOk}
use Rattle.terms.specs.declared.Refusal.{Refusal}
use Rattle.terms.specs.Otherwise.{by_number, tested_of}
use Rattle.refusals.specs.Refusals.{test, tested}
use Rattle.state.specs.declared.State.{State}
use Rattle.state.specs.State.{held_of}
use Rattle.block.specs.Block.{read_held, good}
use Rattle.questions.specs.Code.{HeldState}
use Rattle.charges.specs.Lines.{lines_of, line_tests}
use Rattle.service.specs.Tables.{in_line}
use Rattle.commands.specs.Buffers.{is_short_or}
use Rattle.commands.specs.Code.{Long}

-- what lent memory of these lengths came to: where it is long enough and the block good, what that holds
pub record FoundIn (other : Bool) (b : List ℕ) (t k : ℕ) (state : State) : Type 0 where
  pub room : Long other (length b) t k
  pub state_held : HeldState state
  pub held : held_of state ≡ read_held b

-- what lent memory came to, and the state that its block holds
pub record LentAs (other : Bool) (b : List ℕ) (t k : ℕ) (r : Result State Refusal) : Type 0 where
  pub said : tested_of (by_number r) ≡ tested (test (is_short_or other (length b) t k) 1 ∷ test (not (good b)) 2 ∷ [])
  pub found : IfOk r (FoundIn other b t k)

-- and what a charge on it came to, before it is made
pub record ToChargeAs (b : List ℕ) (t k a : ℕ) (ns : List ℕ) (r : Result State Refusal) : Type 0 where
  pub said :
      tested_of (by_number r)
      ≡ tested (test (is_short_or (in_line ns) (length b) t k) 1 ∷ test (not (good b)) 2 ∷ line_tests a (lines_of ns))
  pub found : IfOk r (FoundIn (in_line ns) b t k)
