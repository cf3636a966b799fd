-- The ends of the ranges, written as bytes and read back: one table and one theorem, by computing. Assumes nothing.
use mathlib.Core.Path.{◌≡◌, refl}
use mathlib.Core.List.{List, [], ◌∷◌, map}
use Prim.Native.Nat.{ℕ}
use lib.IntN.{ℤ, pos, negsuc}
use mir.Syntax.{Width, w32, w64}
use Rattle.codec.specs.Bytes.{little, bytes, signed_at, bytes_of_signed}

-- a number, its width in bytes, and the bytes, lowest first
pub data End : Type 0 where
  natural : (size x : ℕ) (bs : List ℕ) → End
  integer : (width : Width) (size : ℕ) (z : ℤ) (bs : List ℕ) → End

-- the number of an entry, with or without sign
abbrev pub number : End → ℤ
number (natural k x bs) = pos x
number (integer w k z bs) = z

-- the bytes of an entry
abbrev pub laid : End → List ℕ
laid (natural k x bs) = bs
laid (integer w k z bs) = bs

-- the bytes that the number is written as
abbrev pub written : End → List ℕ
written (natural k x bs) = bytes k x
written (integer w k z bs) = bytes_of_signed w k z

-- the number that the bytes read as
abbrev pub read : End → ℤ
read (natural k x bs) = pos (little k bs 0)
read (integer w k z bs) = signed_at w k bs 0

-- 0 and 2 ^ 16 - 1; 0 and 2 ^ 32 - 1; -2 ^ 31, -1, 0 and 2 ^ 31 - 1; -2 ^ 63, -1, 0 and 2 ^ 63 - 1
abbrev pub ends : List End
ends =
    natural 2 0 (0 ∷ 0 ∷ [])
    ∷ natural 2 65535 (255 ∷ 255 ∷ [])
    ∷ natural 4 0 (0 ∷ 0 ∷ 0 ∷ 0 ∷ [])
    ∷ natural 4 4294967295 (255 ∷ 255 ∷ 255 ∷ 255 ∷ [])
    ∷ integer w32 4 (negsuc 2147483647) (0 ∷ 0 ∷ 0 ∷ 128 ∷ [])
    ∷ integer w32 4 (negsuc 0) (255 ∷ 255 ∷ 255 ∷ 255 ∷ [])
    ∷ integer w32 4 (pos 0) (0 ∷ 0 ∷ 0 ∷ 0 ∷ [])
    ∷ integer w32 4 (pos 2147483647) (255 ∷ 255 ∷ 255 ∷ 127 ∷ [])
    ∷ integer w64 8 (negsuc 9223372036854775807) (0 ∷ 0 ∷ 0 ∷ 0 ∷ 0 ∷ 0 ∷ 0 ∷ 128 ∷ [])
    ∷ integer w64 8 (negsuc 0) (255 ∷ 255 ∷ 255 ∷ 255 ∷ 255 ∷ 255 ∷ 255 ∷ 255 ∷ [])
    ∷ integer w64 8 (pos 0) (0 ∷ 0 ∷ 0 ∷ 0 ∷ 0 ∷ 0 ∷ 0 ∷ 0 ∷ [])
    ∷ integer w64 8 (pos 9223372036854775807) (255 ∷ 255 ∷ 255 ∷ 255 ∷ 255 ∷ 255 ∷ 255 ∷ 127 ∷ [])
    ∷ []

pub ends_hold : (map written ends ≡ map laid ends) × (map read ends ≡ map number ends)
unfolding little bytes
ends_hold = (refl, refl)
