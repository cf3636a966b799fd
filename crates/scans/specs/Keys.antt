-- Each rule, mark and depth as one number, so that two are compared at once. Assumes nothing.
use Rattle.std.specs.Prelude.{◌≡◌, List, [], ◌∷◌, map, ℕ, ◌+◌, ◌*◌, ◌%◌, ◌<◌, T, ℤ}
use Rattle.std.specs.Int.{w32}
use Rattle.std.proofs.Common.{SFits, of_z}
use Rattle.terms.specs.declared.Rule.{Rule}
use Rattle.terms.specs.declared.Atom.{Atom}
use Rattle.terms.specs.declared.Atom.TheVariants.{Has, Linked}
use Rattle.terms.specs.declared.Mark.{Mark}
use Rattle.terms.specs.Operators.{code_of, distance_of}
use Rattle.terms.specs.Same.{kind_of, first_of, second_of, third_of}
use Rattle.terms.specs.Held.{operator_in, is_mark}

-- five fields in one number: four bytes, and n above them
unfoldable pub packed_fields : ℕ → ℕ → ℕ → ℕ → ℕ → ℕ
packed_fields tag a b c n = tag + 256 * (a + 256 * (b + 256 * (c + 256 * n)))

-- a rule's kind and its operator's code in one byte
abbrev pub tag_of : Rule → ℕ
tag_of ρ = kind_of ρ + 8 * code_of (operator_in ρ)

-- a rule by its tag, names and distance
abbrev pub rule_key : Rule → ℕ
rule_key ρ = packed_fields (tag_of ρ) (first_of ρ) (second_of ρ) (third_of ρ) (distance_of (operator_in ρ))

-- a depth by its bits
abbrev pub depth_key : ℤ → ℕ
depth_key i = of_z w32 i

-- room for atoms and for ends in a mark's key: powers of two, above the atoms and the depths that marks in range have
abbrev pub ATOM_ROOM : ℕ
ATOM_ROOM = 4_096

abbrev pub END_ROOM : ℕ
END_ROOM = 262_144

-- an atom by its names, a label's below 1024 and a link's from there on
abbrev pub atom_number : Atom → ℕ
atom_number (Has a A) = a + 16 * A
atom_number (Linked a r b) = 1_024 + (a + 16 * (r + 8 * b))

-- an end by its lowest 18 bits
unfoldable pub end_number : ℤ → ℕ
end_number i = of_z w32 i % END_ROOM

-- a mark by its atom and both ends
unfoldable pub mark_key : Mark → ℕ
mark_key m = atom_number m.atom + ATOM_ROOM * (end_number m.top + END_ROOM * end_number m.bottom)

-- three names that are bytes
pub record Bytes (a b c : ℕ) : Type 0 where
  pub first : a < 256
  pub second : b < 256
  pub third : c < 256

-- a rule whose names are bytes
abbrev pub ByteRule : Rule → Type 0
ByteRule ρ = Bytes (first_of ρ) (second_of ρ) (third_of ρ)

-- a depth of 32 bits
abbrev pub DepthFits : ℤ → Type 0
DepthFits i = SFits w32 i

-- a mark in range
abbrev pub MarkFits : Mark → Type 0
MarkFits m = T (is_mark m)

-- each element has P
unfoldable pub All : {X : Type 0} → (X → Type 0) → List X → Type 0
All P [] = Unit {0}
All P (x ∷ xs) = P x × All P xs

-- a key of x, and that x is such that its key tells it from others
pub record KeyOf {X : Type 0} (key : X → ℕ) (P : X → Type 0) (x : X) (k : ℕ) : Type 0 where
  pub is : k ≡ key x
  pub fits : P x

-- the same of a list
pub record KeysOf {X : Type 0} (key : X → ℕ) (P : X → Type 0) (xs : List X) (ks : List ℕ) : Type 0 where
  pub are : ks ≡ map key xs
  pub fit : All P xs

-- each number is one that R gives for the element at its place
unfoldable pub Paired : {X : Type 0} → (X → ℕ → Type 0) → List X → List ℕ → Type 0
Paired R [] [] = Unit {0}
Paired R [] (k ∷ ks) = ⊥
Paired R (x ∷ xs) [] = ⊥
Paired R (x ∷ xs) (k ∷ ks) = R x k × Paired R xs ks
