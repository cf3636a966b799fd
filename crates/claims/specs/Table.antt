-- What a record of each kind says, and 01's table of refusals, row by row.
use Rattle.std.specs.Prelude.{Bool, false, not, cond, ◌&&◌, ◌||◌, List, [], ◌∷◌, ◌++◌, ℕ, ◌-◌, ◌≤◌, eqb, ltb, leb, ℤ, length}
use Rattle.std.specs.Int.Signed.{le_z}
use Rattle.terms.specs.declared.Counting.{Counting}
use Rattle.terms.specs.declared.Rule.{Rule}
use Rattle.terms.specs.declared.Mark.{Mark}
use Rattle.terms.specs.declared.Question.{Question}
use Rattle.terms.specs.Limits.{RULES, MARKS, DEPTHS, is_depth}
use Rattle.refusals.specs.Refusals.{rank, Test, test}
use Rattle.terms.specs.Same.{same_mark, same_rule}
use Rattle.terms.specs.Holes.{lies_in}
use Rattle.terms.specs.Profiles.{in_profile, admits}
use Rattle.terms.specs.Held.{Held, hole_in, profile_in, ends_of, is_named, is_markable, is_placed, is_ordered, is_question}
use Rattle.terms.specs.Lists.{some, every, depth_count}
use Rattle.shift.specs.Shifted.{stays}
use Rattle.block.specs.Block.{read_held, good}
use Rattle.commands.specs.Buffers.{Buffers, short}
use Rattle.frames.specs.Frames.{length_field, kind_field, body_of, allows, is_unknown, lengths_of}
use Rattle.records.specs.Formats.{
  operator_at,
  is_invalid,
  label_rule,
  both_rule,
  link_rule,
  via_rule,
  label_mark,
  link_mark,
  label_stretch,
  link_stretch,
  counting_at,
  is_no_counting,
  hole_top,
  hole_bottom,
  shift_at,
  label_question,
  link_question,
  spans_question,
}

-- 02: what is set until RESET; Slip 4: the counting; Slip 5: the hole, by its top and bottom; Slip 10: the profile, which is switched on
pub data Setting : Type 0 where
  Counts : Counting → Setting
  Confines : ℤ → ℤ → Setting
  Restricts : Setting

-- 01, Records: RESET empties, a rule is added, a mark is put or taken, a question asks; 02: something is set; Slip 9: all depths
-- are moved; a kind that there is not says nothing
pub data Said : Type 0 where
  Nothing : Said
  Empties : Said
  Adds : Rule → Said
  Puts : Mark → Said
  Takes : Mark → Said
  Sets : Setting → Said
  Shifts : ℤ → Said
  Asks : Question → Said

-- 01, Records: the table of kinds; 02, Slip 2: 13 and 14 put a stretch, 15 and 16 take one; Slip 4: 17 sets the counting; Slip 5: 18 the hole; Slip 9:
-- 20 moves all depths; Slip 10: 21 switches the profile on
unfoldable pub said_by : ℕ → List ℕ → Said
said_by k b =
    cond (eqb k 1) Empties
    (cond (eqb k 2) (Adds (label_rule b))
    (cond (eqb k 3) (Adds (both_rule b))
    (cond (eqb k 4) (Adds (link_rule b))
    (cond (eqb k 5) (Adds (via_rule b))
    (cond (eqb k 6) (Puts (label_mark b))
    (cond (eqb k 7) (Puts (link_mark b))
    (cond (eqb k 8) (Takes (label_mark b))
    (cond (eqb k 9) (Takes (link_mark b))
    (cond (eqb k 10) (Asks (label_question b))
    (cond (eqb k 11) (Asks (link_question b))
    (cond (eqb k 12) (Asks (spans_question b))
    (cond (eqb k 13) (Puts (label_stretch b))
    (cond (eqb k 14) (Puts (link_stretch b))
    (cond (eqb k 15) (Takes (label_stretch b))
    (cond (eqb k 16) (Takes (link_stretch b))
    (cond (eqb k 17) (Sets (Counts (counting_at b)))
    (cond (eqb k 18) (Sets (Confines (hole_top b) (hole_bottom b)))
    (cond (eqb k 20) (Shifts (shift_at b))
    (cond (eqb k 21) (Sets Restricts)
    Nothing)))))))))))))))))))

-- what the first record of these bytes says
abbrev pub said : List ℕ → Said
said s = said_by (kind_field s) (body_of s)

-- one thing for a counting, for a hole and for the profile each
abbrev pub on_setting : {A : Type 0} → (Counting → A) → (ℤ → ℤ → A) → A → Setting → A
on_setting c b p (Counts x) = c x
on_setting c b p (Confines t d) = b t d
on_setting c b p Restricts = p

-- one thing for a rule, a mark to put, a mark to take, a setting, a shift and a question each; another for what says none of these
abbrev pub on_said : {A : Type 0} → A → (Rule → A) → (Mark → A) → (Mark → A) → (Setting → A) → (ℤ → A) → (Question → A) → Said → A
on_said d r p t s m q Nothing = d
on_said d r p t s m q Empties = d
on_said d r p t s m q (Adds ρ) = r ρ
on_said d r p t s m q (Puts x) = p x
on_said d r p t s m q (Takes x) = t x
on_said d r p t s m q (Sets x) = s x
on_said d r p t s m q (Shifts c) = m c
on_said d r p t s m q (Asks x) = q x

-- ---- 01, Where a record is turned away, and 02's numbers: each row's case, as it is where no row before it applies

-- 3: 1 to 3 bytes left, or length under 2 or more than the bytes after the length field
abbrev pub broken_frame : List ℕ → Bool
broken_frame s = ltb (length s) 4 || (ltb (length_field s) 2 || ltb (length s - 2) (length_field s))

-- 4: unknown kind
abbrev pub unknown_kind : List ℕ → Bool
unknown_kind s = is_unknown (lengths_of (kind_field s))

-- 5: length not that of the kind
abbrev pub wrong_length : List ℕ → Bool
wrong_length s = not (allows (lengths_of (kind_field s)) (length_field s))

-- 6: an item, label or link kind out of range
abbrev pub bad_name : Said → Bool
bad_name =
    on_said false (λ ρ. not (is_named ρ)) (λ m. not (is_markable m.atom)) (λ m. not (is_markable m.atom)) (λ s. false) (λ c. false)
    (λ q. not (is_question q))

-- 7: code or n out of range, where the record has them; 02, Slip 4: what is no counting
abbrev pub bad_value : ℕ → List ℕ → Bool
bad_value k b = cond (eqb k 2 || eqb k 4) (is_invalid (operator_at b)) (eqb k 17 && is_no_counting b)

-- 15, by 02, Slip 4: a counting while a rule is held
abbrev pub rule_held : Held → Said → Bool
rule_held h =
    on_said false (λ ρ. false) (λ m. false) (λ m. false) (on_setting (λ c. ltb 0 (length h.rules)) (λ t b. false) false) (λ c. false) (λ q. false)

-- 8: a mark's depth out of range; 02, Slip 2: either end; Slip 5: or a hole's; Slip 9: or a shift by which a held depth leaves it
abbrev pub bad_depth : Held → Said → Bool
bad_depth h =
    on_said false (λ ρ. false) (λ m. not (is_placed m)) (λ m. not (is_placed m)) (on_setting (λ c. false) (λ t b. not (is_depth t && is_depth b)) false)
    (λ c. not (stays c h)) (λ q. false)

-- 14, by 02, Slip 2: top deeper than bottom, of a mark; Slip 5: or of a hole
abbrev pub bad_order : Said → Bool
bad_order =
    on_said false (λ ρ. false) (λ m. not (is_ordered m)) (λ m. not (is_ordered m)) (on_setting (λ c. false) (λ t b. not (le_z t b)) false) (λ c. false)
    (λ q. false)

-- 16, by 02, Slip 5: a mark to put that reaches outside the hole
abbrev pub reaches_outside : Held → Said → Bool
reaches_outside h = on_said false (λ ρ. false) (λ m. not (lies_in (hole_in h) m)) (λ m. false) (λ s. false) (λ c. false) (λ q. false)

-- 17, by 02, Slip 5: a hole while a mark is held
abbrev pub mark_held : Held → Said → Bool
mark_held h =
    on_said false (λ ρ. false) (λ m. false) (λ m. false) (on_setting (λ c. false) (λ t b. ltb 0 (length h.marks)) false) (λ c. false) (λ q. false)

-- 20, by 02, Slip 10: a rule outside the profile while it is on, or switching it on while such a rule is held
abbrev pub outside_profile : Held → Said → Bool
outside_profile h =
    on_said false (λ ρ. not (admits (profile_in h) ρ)) (λ m. false) (λ m. false)
    (on_setting (λ c. false) (λ t b. false) (not (every in_profile h.rules))) (λ c. false) (λ q. false)

-- 9: a rule, or a mark to put, that is already held
abbrev pub already_held : Held → Said → Bool
already_held h = on_said false (λ ρ. some (same_rule ρ) h.rules) (λ m. some (same_mark m) h.marks) (λ m. false) (λ s. false) (λ c. false) (λ q. false)

-- 10: TAKE of a mark not held
abbrev pub not_held : Held → Said → Bool
not_held h = on_said false (λ ρ. false) (λ m. false) (λ m. not (some (same_mark m) h.marks)) (λ s. false) (λ c. false) (λ q. false)

-- 11: a rule while 128 are held, or a mark to put while 256 are
abbrev pub list_full : Held → Said → Bool
list_full h =
    on_said false (λ ρ. leb RULES (length h.rules)) (λ m. leb MARKS (length h.marks)) (λ m. false) (λ s. false) (λ c. false)
    (λ q. false)

-- 12: a mark to put whose ends, with those of the held marks, are more than 96 depths
abbrev pub depths_full : Held → Said → Bool
depths_full h =
    on_said false (λ ρ. false) (λ m. ltb DEPTHS (depth_count (ends_of (h.marks ++ (m ∷ []))))) (λ m. false) (λ s. false) (λ c. false)
    (λ q. false)

-- ---- the table

-- body and lists, of a record that says x
abbrev pub said_rows : Held → ℕ → List ℕ → Said → List Test
said_rows h k b x =
    test (bad_name x) 6
    ∷ test (bad_value k b) 7
    ∷ test (rule_held h x) 15
    ∷ test (bad_depth h x) 8
    ∷ test (bad_order x) 14
    ∷ test (reaches_outside h x) 16
    ∷ test (mark_held h x) 17
    ∷ test (outside_profile h x) 20
    ∷ test (already_held h x) 9
    ∷ test (not_held h x) 10
    ∷ test (list_full h x) 11
    ∷ test (depths_full h x) 12
    ∷ []

abbrev pub record_rows : Held → ℕ → List ℕ → List Test
record_rows h k b = said_rows h k b (said_by k b)

-- frame, body and lists; end is checked before them
abbrev pub input_rows : Held → List ℕ → List Test
input_rows h s =
    cond (eqb (length s) 0) []
    (test (broken_frame s) 3
    ∷ test (unknown_kind s) 4
    ∷ test (wrong_length s) 5
    ∷ record_rows h (kind_field s) (body_of s))

-- 01, Where a record is turned away: the rows, where lent memory is short, its block bad, h is held and s is left
abbrev pub table : Bool → Bool → Held → List ℕ → List Test
table is_short isBad h s = test is_short 1 ∷ test isBad 2 ∷ input_rows h s

-- the table of a call
abbrev pub rows : Buffers → List ℕ → List Test
rows m s = table (short m) (not (good m.block)) (read_held m.block) s

-- 01, Where a record is turned away: rows by rank, from one to another, each at most those behind it
abbrev pub Ascends : ℕ → ℕ → List Test → Type 0
Ascends low high [] = Unit {0}
Ascends low high (t ∷ ts) = (low ≤ rank t.number) × (rank t.number ≤ high) × Ascends (rank t.number) high ts
