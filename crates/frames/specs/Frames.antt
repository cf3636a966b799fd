-- 01's records: the frame, the lengths of each kind, and the bytes used.
use Rattle.std.specs.Prelude.{Bool, true, false, cond, List, ℕ, ◌+◌, ◌-◌, eqb, ltb, leb, length, take, drop}
use Rattle.codec.specs.Bytes.{little}
use Rattle.refusals.specs.Refusals.{rank}
use Rattle.frames.specs.declared.Lengths.{Lengths}

-- 01, Records: a 2-byte length that counts kind and body, a 2-byte kind, then the body
abbrev pub length_field : List ℕ → ℕ
length_field s = little 2 s 0

abbrev pub kind_field : List ℕ → ℕ
kind_field s = little 2 s 2

abbrev pub body_of : List ℕ → List ℕ
body_of s = take (length_field s + 2 - 4) (drop 4 s)

-- 01, Where a record is turned away: a length is that of the kind; a kind that there is not has none; no kind that has landed has several
abbrev pub allows : Lengths → ℕ → Bool
allows (Lengths.Exactly n) k = eqb k n
allows (Lengths.AtLeast n) k = leb n k
allows Lengths.Unknown k = false

abbrev pub is_unknown : Lengths → Bool
is_unknown (Lengths.Exactly n) = false
is_unknown (Lengths.AtLeast n) = false
is_unknown Lengths.Unknown = true

-- 01, Records: the length of each kind's records; 02, Slip 2: the stretches; Slip 4: the counting; Slip 5: the hole; Slip 9: the shift; Slip 10:
-- the profile
unfoldable pub lengths_of : ℕ → Lengths
lengths_of k =
    cond (eqb k 1) (Lengths.Exactly 2)
    (cond (eqb k 2) (Lengths.Exactly 9)
    (cond (eqb k 3) (Lengths.Exactly 5)
    (cond (eqb k 4) (Lengths.Exactly 9)
    (cond (eqb k 5) (Lengths.Exactly 5)
    (cond (eqb k 6) (Lengths.Exactly 8)
    (cond (eqb k 7) (Lengths.Exactly 9)
    (cond (eqb k 8) (Lengths.Exactly 8)
    (cond (eqb k 9) (Lengths.Exactly 9)
    (cond (eqb k 10) (Lengths.Exactly 12)
    (cond (eqb k 11) (Lengths.Exactly 13)
    (cond (eqb k 12) (Lengths.Exactly 4)
    (cond (eqb k 13) (Lengths.Exactly 12)
    (cond (eqb k 14) (Lengths.Exactly 13)
    (cond (eqb k 15) (Lengths.Exactly 12)
    (cond (eqb k 16) (Lengths.Exactly 13)
    (cond (eqb k 17) (Lengths.Exactly 3)
    (cond (eqb k 18) (Lengths.Exactly 10)
    (cond (eqb k 20) (Lengths.Exactly 6)
    (cond (eqb k 21) (Lengths.Exactly 2)
    Lengths.Unknown)))))))))))))))))))

-- 01, Where a record is turned away: bytes used are 0 for what is judged before 3, all that is left for 3, else length + 2
abbrev pub used_for : ℕ → List ℕ → ℕ
used_for n s = cond (ltb (rank n) (rank 3)) 0 (cond (eqb n 3) (length s) (length_field s + 2))
