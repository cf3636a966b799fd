-- Little-endian numbers in a list of bytes, over the width in bytes; two's complement is the kit's, `to_z` and `of_z`.
use Rattle.std.specs.Prelude.{ℕ, zero, suc, ◌+◌, ◌*◌, ◌/◌, ◌%◌, List, [], ◌∷◌, ◌++◌, length, get_or, take, drop, ℤ}
use Rattle.std.specs.Int.{Width, w32, w64}
use Rattle.std.proofs.Common.{to_z, of_z}

-- the number whose k bytes stand from `at` on, lowest first
unfoldable pub little : ℕ → List ℕ → ℕ → ℕ
little zero s at = 0
little (suc k) s at = get_or s at 0 + 256 * little k s (suc at)

-- the lowest k bytes of a number, lowest first
unfoldable pub bytes : ℕ → ℕ → List ℕ
bytes zero x = []
bytes (suc k) x = (x % 256) ∷ bytes k (x / 256)

-- the k bytes from `at` on as a signed number, two's complement of w's bits
abbrev pub signed_at : Width → ℕ → List ℕ → ℕ → ℤ
signed_at w k s at = to_z w (little k s at)

-- the k bytes of a signed number, two's complement of w's bits
abbrev pub bytes_of_signed : Width → ℕ → ℤ → List ℕ
bytes_of_signed w k z = bytes k (of_z w z)

-- the signed number in the 4 bytes from `at` on
abbrev pub signed32_at : List ℕ → ℕ → ℤ
signed32_at = signed_at w32 4

-- the signed number in the 8 bytes from `at` on
abbrev pub signed64_at : List ℕ → ℕ → ℤ
signed64_at = signed_at w64 8

-- the 4 bytes of a signed number
abbrev pub bytes_of_signed32 : ℤ → List ℕ
bytes_of_signed32 = bytes_of_signed w32 4

-- the 8 bytes of a signed number
abbrev pub bytes_of_signed64 : ℤ → List ℕ
bytes_of_signed64 = bytes_of_signed w64 8

-- the list with vs over what stands from `at` on
unfoldable pub put : List ℕ → ℕ → List ℕ → List ℕ
put l at vs = take at l ++ (vs ++ drop (at + length vs) l)
