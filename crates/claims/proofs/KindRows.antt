-- What is shown of each kind is shown of all: the book's rows are the tests by which a record is read. Assumes nothing.
use Rattle.std.specs.Prelude.{◌≡◌, refl, Bool, true, false, cond, ◌||◌, List, [], ◌∷◌, ◌++◌, ℕ, ◌-◌, eqb, ltb, length, Err}
use Rattle.std.proofs.Common.{sym, ap, ◌∙◌, subst, true≢false, eqb→eq}
use Rattle.terms.specs.Tests.{of_true}
use Rattle.terms.specs.Held.{Held, empty_held}
use Rattle.refusals.specs.Refusals.{Test, Tested, test, tested}
use Rattle.records.specs.declared.Command.{Command}
use Rattle.frames.specs.Frames.{length_field, kind_field, body_of, is_unknown, lengths_of}
use Rattle.records.specs.Records.{body_tests, command_in}
use Rattle.frames.specs.Framing.{frame_tests}
use Rattle.commands.specs.Call.{held_tests}
use Rattle.claims.specs.Table.{
  Counts,
  Confines,
  Restricts,
  Said,
  Empties,
  Adds,
  Puts,
  Takes,
  Sets,
  Shifts,
  Asks,
  said_by,
  broken_frame,
  unknown_kind,
  wrong_length,
  record_rows,
  input_rows,
}

-- ---- kinds

abbrev Each : (ℕ → Type 0) → List ℕ → Type 0
Each P [] = Unit {0}
Each P (n ∷ ns) = P n × Each P ns

abbrev None : ℕ → List ℕ → Type 0
None k [] = Unit {0}
None k (n ∷ ns) = (eqb k n ≡ false) × None k ns

-- a kind is one of these, or none of them
by_kind : (P : ℕ → Type 0) (ns : List ℕ) → Each P ns → (k : ℕ) → (None k ns → P k) → P k
by_kind P [] w k f = f tt
by_kind P (n ∷ ns) w k f = go (eqb k n) refl (λ e. by_kind P ns w.1 k (λ v. f (e, v)))
  where
    go : (b : Bool) → eqb k n ≡ b → (eqb k n ≡ false → P k) → P k
    go true e c = subst P (sym (eqb→eq k n (of_true e))) w.0
    go false e c = c e

-- one kind more
infixr 20 ◌&◌
abbrev ◌&◌ : {A B : Type 0} → A → B → A × B
a & b = (a, b)

abbrev numbers : List ℕ
numbers = 1 ∷ 2 ∷ 3 ∷ 4 ∷ 5 ∷ 6 ∷ 7 ∷ 8 ∷ 9 ∷ 10 ∷ 11 ∷ 12 ∷ 13 ∷ 14 ∷ 15 ∷ 16 ∷ 17 ∷ 18 ∷ 20 ∷ 21 ∷ []

-- ---- rows from 6 on

-- the tests of body and lists, as the record is read
abbrev pub record_tests : Held → ℕ → List ℕ → List Test
record_tests h k b = body_tests h.settings k b ++ held_tests h (command_in k b) b

-- a kind that there is not has no rows, and is unknown
unknown : (h : Held) (k : ℕ) (b : List ℕ) → None k numbers → (tested (record_tests h k b) ≡ tested (record_rows h k b)) × (is_unknown (lengths_of k) ≡ true)
unfolding body_tests command_in said_by lengths_of
unknown h k b v =
    let (n₁, v₁) = v in
    let (n₂, v₂) = v₁ in
    let (n₃, v₃) = v₂ in
    let (n₄, v₄) = v₃ in
    let (n₅, v₅) = v₄ in
    let (n₆, v₆) = v₅ in
    let (n₇, v₇) = v₆ in
    let (n₈, v₈) = v₇ in
    let (n₉, v₉) = v₈ in
    let (n₁₀, v₁₀) = v₉ in
    let (n₁₁, v₁₁) = v₁₀ in
    let (n₁₂, v₁₂) = v₁₁ in
    let (n₁₃, v₁₃) = v₁₂ in
    let (n₁₄, v₁₄) = v₁₃ in
    let (n₁₅, v₁₅) = v₁₄ in
    let (n₁₆, v₁₆) = v₁₅ in
    let (n₁₇, v₁₇) = v₁₆ in
    let (n₁₈, v₁₈) = v₁₇ in
    let (n₂₀, v₂₀) = v₁₈ in
    let n₂₁ = v₂₀.0 in (
      simp (n₁, n₂, n₃, n₄, n₅, n₆, n₇, n₈, n₉, n₁₀, n₁₁, n₁₂, n₁₃, n₁₄, n₁₅, n₁₆, n₁₇, n₁₈, n₂₀, n₂₁),
      simp (n₁, n₂, n₃, n₄, n₅, n₆, n₇, n₈, n₉, n₁₀, n₁₁, n₁₂, n₁₃, n₁₄, n₁₅, n₁₆, n₁₇, n₁₈, n₂₀, n₂₁),
    )

pub record_rows_lem : (h : Held) (k : ℕ) (b : List ℕ) → tested (record_tests h k b) ≡ tested (record_rows h k b)
unfolding body_tests command_in said_by
record_rows_lem h k b =
    by_kind (λ n. tested (record_tests h n b) ≡ tested (record_rows h n b)) numbers
    (refl & refl & refl & refl & refl & refl & refl & refl & refl & refl & refl & refl & refl & refl & refl & refl & refl & refl & refl & refl & tt) k
    (λ v. (unknown h k b v).0)

-- ---- rows from 3 on

three : (a b c : Bool) (t : Tested) →
    cond a (Err 3) (cond b (Err 3) (cond c (Err 3) t)) ≡ cond (a || (b || c)) (Err 3) t
three true b c t = refl
three false true c t = refl
three false false c t = refl

-- the tests of frame, body and lists, as the record is read
abbrev pub input_tests : Held → List ℕ → List Test
input_tests h s = cond (eqb (length s) 0) [] (frame_tests s ++ record_tests h (kind_field s) (body_of s))

pub input_rows_lem : (h : Held) (s : List ℕ) → tested (input_tests h s) ≡ tested (input_rows h s)
input_rows_lem h s = go (eqb (length s) 0)
  where
    k : ℕ
    k = kind_field s

    go : (v : Bool) →
        tested (cond v [] (frame_tests s ++ record_tests h k (body_of s)))
        ≡ tested (cond v [] (test (broken_frame s) 3 ∷ test (unknown_kind s) 4 ∷ test (wrong_length s) 5 ∷ record_rows h k (body_of s)))
    go true = refl
    go false =
        three (ltb (length s) 4) (ltb (length_field s) 2) (ltb (length s - 2) (length_field s))
        (cond (unknown_kind s) (Err 4) (cond (wrong_length s) (Err 5) (tested (record_tests h k (body_of s)))))
        ∙ ap (λ (t : Tested).
        cond (broken_frame s) (Err 3) (cond (unknown_kind s) (Err 4) (cond (wrong_length s) (Err 5) t)))
        (record_rows_lem h k (body_of s))

-- ---- what a record says

-- a command as the book reads it
abbrev pub said_of : Command → Said
said_of Command.Reset = Empties
said_of (Command.Add ρ) = Adds ρ
said_of (Command.Put m) = Puts m
said_of (Command.Take m) = Takes m
said_of (Command.Count c) = Sets (Counts c)
said_of (Command.Confine t b) = Sets (Confines t b)
said_of (Command.Shift c) = Shifts c
said_of Command.Restrict = Sets Restricts
said_of (Command.Ask q) = Asks q

pub said_command : (k : ℕ) (b : List ℕ) → is_unknown (lengths_of k) ≡ false → said_of (command_in k b) ≡ said_by k b
unfolding command_in said_by lengths_of
said_command k b =
    by_kind (λ n. is_unknown (lengths_of n) ≡ false → said_of (command_in n b) ≡ said_by n b) numbers
    (same & same & same & same & same & same & same & same & same & same & same & same & same & same & same & same & same & same & same & same & tt) k
    (λ v e. absurd (true≢false (sym (unknown empty_held k b v).1 ∙ e)))
  where
    same : {A : Type 0} {x : Said} → A → x ≡ x
    same e = refl
