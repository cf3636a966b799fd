-- What a block holds, and whether it is good.
use Rattle.std.specs.Prelude.{◌≡◌, Bool, true, false, Option, Some, None, cond, ◌&&◌, List, [], ◌∷◌, ◌++◌, ℕ, zero, suc, ◌+◌, ◌*◌, eqb, take}
use Rattle.codec.specs.Bytes.{little}
use Rattle.terms.specs.Held.{Held}
use Rattle.terms.specs.Lists.{limits}
use Rattle.state.specs.State.{held_of, CountsIn}
use Rattle.state.specs.declared.State.{State}
use Rattle.places.specs.Layout.{HEADER, RULE_BYTES, MARK_BYTES, MARKS_AT, SIZE, encode}
use Rattle.places.specs.Read.{rule_read, mark_read, settings_at}

-- f 0, f 1 .., n in all
unfoldable pub tab : {X : Type 0} → (ℕ → X) → ℕ → List X
tab f zero = []
tab f (suc n) = tab f n ++ (f n ∷ [])

-- what the counts, places and settings of a block give
unfoldable pub read_held : List ℕ → Held
read_held b = record {
  rules = tab (λ i. rule_read b (HEADER + RULE_BYTES * i)) (little 2 b 0);
  marks = tab (λ i. mark_read b (MARKS_AT + MARK_BYTES * i)) (little 2 b 2);
  settings = settings_at b;
}

unfoldable pub same_bytes : List ℕ → List ℕ → Bool
same_bytes [] [] = true
same_bytes [] (y ∷ ys) = false
same_bytes (x ∷ xs) [] = false
same_bytes (x ∷ xs) (y ∷ ys) = eqb x y && same_bytes xs ys

pub data Read : Type 0 where
  unreadable : Read
  holds : Held → Read

-- a block holds lists within the limits that it is the encoding of
unfoldable pub good : List ℕ → Bool
good b = limits (read_held b) && same_bytes (encode (read_held b)) (take SIZE b)

unfoldable pub decode : List ℕ → Read
decode b = cond (good b) (holds (read_held b)) unreadable

-- a state that is loaded from a good block
pub record LoadedFrom (b : List ℕ) (s : State) : Type 0 where
  pub verdict : good b ≡ true
  pub held : held_of s ≡ read_held b
  pub counts : CountsIn s

-- what loading a block tells: a state exactly where it is good
abbrev pub LoadedAs : List ℕ → Option State → Type 0
LoadedAs b (Some s) = LoadedFrom b s
LoadedAs b None = good b ≡ false
