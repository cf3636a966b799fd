-- The state block: its size, and its bytes for what is held.
use Rattle.std.specs.Prelude.{ℕ, ◌+◌, ◌-◌, ◌*◌, List, [], ◌∷◌, ◌++◌, length, replicate, ℤ, pos}
use Rattle.codec.specs.Bytes.{bytes, bytes_of_signed32}
use Rattle.terms.specs.declared.Counting.{Counting}
use Rattle.terms.specs.declared.Counting.TheVariants.{Old, New}
use Rattle.terms.specs.declared.Hole.{Hole}
use Rattle.terms.specs.declared.Hole.TheVariants.{Whole, Part}
use Rattle.terms.specs.declared.Profile.{Profile}
use Rattle.terms.specs.declared.Profile.TheVariants.{Off, On}
use Rattle.terms.specs.declared.Rule.{Rule}
use Rattle.terms.specs.declared.Rule.TheVariants.{Label, Both, Link, Via}
use Rattle.terms.specs.declared.Atom.{Atom}
use Rattle.terms.specs.declared.Atom.TheVariants.{Has, Linked}
use Rattle.terms.specs.declared.Mark.{Mark}
use Rattle.terms.specs.declared.Settings.{Settings}
use Rattle.terms.specs.Limits.{RULES, MARKS}
use Rattle.terms.specs.Operators.{code_of, distance_of}
use Rattle.terms.specs.Held.{Held}

-- docs/STATE.md, a rule place: kind, three fields, n
unfoldable pub place_bytes : ℕ → ℕ → ℕ → ℕ → ℕ → List ℕ
place_bytes k a b c n = k ∷ a ∷ b ∷ c ∷ bytes 4 n

abbrev pub rule_bytes : Rule → List ℕ
rule_bytes (Label o A B) = place_bytes 2 (code_of o) A B (distance_of o)
rule_bytes (Both A B C) = place_bytes 3 A B C 0
rule_bytes (Link o r s) = place_bytes 4 (code_of o) r s (distance_of o)
rule_bytes (Via r A B) = place_bytes 5 r A B 0

-- docs/STATE.md, four bytes and two depths: a mark place is kind, three names, top, bottom
unfoldable pub ends_bytes : ℕ → ℕ → ℕ → ℕ → ℤ → ℤ → List ℕ
ends_bytes k a b c t d = k ∷ a ∷ b ∷ c ∷ (bytes_of_signed32 t ++ bytes_of_signed32 d)

abbrev pub atom_bytes : Atom → ℤ → ℤ → List ℕ
atom_bytes (Has a A) t d = ends_bytes 6 a A 0 t d
atom_bytes (Linked a r b) t d = ends_bytes 7 a r b t d

abbrev pub mark_bytes : Mark → List ℕ
mark_bytes m = atom_bytes m.atom m.top m.bottom

-- docs/STATE.md, the settings in the header: the counting, 0 old and 1 new; the profile, 0 off and 1 on; the hole, 0 none and 1 there; zero; its
-- ends, zero where there is none
abbrev pub counting_byte : Counting → ℕ
counting_byte Old = 0
counting_byte New = 1

abbrev pub profile_byte : Profile → ℕ
profile_byte Off = 0
profile_byte On = 1

abbrev pub hole_bytes : ℕ → ℕ → Hole → List ℕ
hole_bytes c p Whole = ends_bytes c p 0 0 (pos 0) (pos 0)
hole_bytes c p (Part t b) = ends_bytes c p 1 0 t b

unfoldable pub settings_bytes : Settings → List ℕ
settings_bytes s = hole_bytes (counting_byte s.counting) (profile_byte s.profile) s.hole

-- the parts of each element, one after the other
unfoldable pub cat : {X : Type 0} → (X → List ℕ) → List X → List ℕ
cat f [] = []
cat f (x ∷ xs) = f x ++ cat f xs

unfoldable pub zeros : ℕ → List ℕ
zeros n = replicate n 0

-- 01, State and tables, and 02, Slip 2: the block's fixed size; a header, the rule places, the mark places
abbrev pub SETTINGS_AT : ℕ
SETTINGS_AT = 4

abbrev pub HEADER : ℕ
HEADER = 32

abbrev pub RULE_BYTES : ℕ
RULE_BYTES = 8

abbrev pub MARK_BYTES : ℕ
MARK_BYTES = 12

abbrev pub MARKS_AT : ℕ
MARKS_AT = HEADER + RULES * RULE_BYTES

abbrev pub SIZE : ℕ
SIZE = MARKS_AT + MARKS * MARK_BYTES

-- xs with zero bytes behind it, k in all
abbrev pub padded : ℕ → List ℕ → List ℕ
padded k xs = xs ++ zeros (k - length xs)

-- docs/STATE.md: how many rules and marks, the settings, the rules, the marks; what is free is zero bytes
unfoldable pub encode : Held → List ℕ
encode h =
    bytes 2 (length h.rules)
    ++ (bytes 2 (length h.marks)
    ++ (padded (HEADER - SETTINGS_AT) (settings_bytes h.settings)
    ++ (padded (RULES * RULE_BYTES) (cat rule_bytes h.rules)
    ++ padded (MARKS * MARK_BYTES) (cat mark_bytes h.marks))))
