-- How a frame is read: its tests, what they come to once the length field is in range, and a record that passes them. Assumes nothing.
use Rattle.std.specs.Prelude.{◌≡◌, refl, Bool, true, false, not, cond, List, [], ◌∷◌, ℕ, ◌+◌, ◌-◌, ◌≤◌, T, eqb, ltb, length, Ok}
use Rattle.std.proofs.Common.{sym, ap, subst, arith, le-ltb, ltb-false, ne_eqb}
use Rattle.terms.specs.Tests.{true_of}
use Rattle.refusals.specs.Refusals.{Test, rank, Tested, test, tested}
use Rattle.terms.specs.Otherwise.{on_tested}
use Rattle.frames.specs.declared.Lengths.{Lengths}
use Rattle.frames.specs.declared.Framed.{Framed}
use Rattle.frames.specs.Frames.{length_field, kind_field, allows, is_unknown, lengths_of, used_for}

-- 01, Where a record is turned away: frame
abbrev pub kind_tests : Lengths → ℕ → List Test
kind_tests l n = test (is_unknown l) 4 ∷ test (not (allows l n)) 5 ∷ []

abbrev pub frame_tests : List ℕ → List Test
frame_tests s =
    test (ltb (length s) 4) 3
    ∷ test (ltb (length_field s) 2) 3
    ∷ test (ltb (length s - 2) (length_field s)) 3
    ∷ kind_tests (lengths_of (kind_field s)) (length_field s)

-- nothing; refused, with the bytes used; a record of a kind, with its bytes
unfoldable pub framed : List ℕ → Framed
framed s =
    cond (eqb (length s) 0) Framed.Nothing
    (on_tested (Framed.Record (kind_field s) (length_field s + 2)) (λ n. Framed.Refused n (used_for n s)) (tested (frame_tests s)))

-- the record of a kind where no test applies; else all of its bytes are used
abbrev pub framed_as : Tested → ℕ → ℕ → Framed
framed_as t k u = on_tested (Framed.Record k u) (λ n. Framed.Refused n u) t

-- the tests of a kind give 4 or 5, and so length + 2 bytes are used
kind_framed :
    (l : Lengths) (n k u : ℕ) (s : List ℕ) → u ≡ length_field s + 2 →
    on_tested (Framed.Record k u) (λ m. Framed.Refused m (used_for m s)) (tested (kind_tests l n)) ≡ framed_as (tested (kind_tests l n)) k u
unfolding rank
kind_framed l n k u s e = go (is_unknown l) (allows l n)
  where
    go :
        (p q : Bool) → let t = tested (test p 4 ∷ test (not q) 5 ∷ []) in
        on_tested (Framed.Record k u) (λ m. Framed.Refused m (used_for m s)) t ≡ framed_as t k u
    go true q = ap (Framed.Refused 4) (sym e)
    go false true = refl
    go false false = ap (Framed.Refused 5) (sym e)

pub frame_kind :
    (s : List ℕ) → 4 ≤ length s → 2 ≤ length_field s → length_field s ≤ length s - 2 →
    framed s ≡ framed_as (tested (kind_tests (lengths_of (kind_field s)) (length_field s))) (kind_field s) (length_field s + 2)
unfolding framed
frame_kind s enough two fits =
    simp (ne_eqb (length s) 0 (λ e. omega arith), le-ltb (length s) 4 enough, le-ltb (length_field s) 2 two, le-ltb (length s - 2) (length_field s) fits)
    (kind_framed (lengths_of (kind_field s)) (length_field s) (kind_field s) (length_field s + 2) s refl)

-- ---- a record that has a frame

pub record FramedIn (s : List ℕ) (k u : ℕ) : Type 0 where
  pub kind : k ≡ kind_field s
  pub used : u ≡ length_field s + 2
  pub least : 4 ≤ u
  pub room : u ≤ length s
  pub allowed : T (allows (lengths_of k) (length_field s))

abbrev FrameFacts : List ℕ → Framed → Type 0
FrameFacts s Framed.Nothing = Unit {0}
FrameFacts s (Framed.Refused n u) = Unit {0}
FrameFacts s (Framed.Record k u) = FramedIn s k u

-- of a choice with nothing to show in its first arm
otherwise : {X : Type 0} (P : X → Type 0) (b : Bool) {x y : X} → P x → (b ≡ false → P y) → P (cond b x y)
otherwise P true p q = p
otherwise P false p q = q refl

not_false : (b : Bool) → not b ≡ false → T b
not_false true e = tt
not_false false e = subst T e tt

frame_facts : (s : List ℕ) → FrameFacts s (framed s)
unfolding framed
frame_facts s =
    otherwise (FrameFacts s) (eqb (length s) 0) tt
    (λ z. otherwise P (ltb (length s) 4) tt
    (λ a. otherwise P (ltb (length_field s) 2) tt
    (λ b. otherwise P (ltb (length s - 2) (length_field s)) tt
    (λ c. otherwise P (is_unknown l) tt
    (λ d. otherwise P (not (allows l (length_field s))) tt
    (λ e. record {
      kind = refl;
      used = refl;
      least = omega (arith, ltb-false (length_field s) 2 b);
      room = omega (arith, ltb-false (length s) 4 a, ltb-false (length s - 2) (length_field s) c);
      allowed = not_false (allows l (length_field s)) e;
    }))))))
  where
    l : Lengths
    l = lengths_of (kind_field s)

    P : Tested → Type 0
    P t = FrameFacts s (on_tested (Framed.Record (kind_field s) (length_field s + 2)) (λ n. Framed.Refused n (used_for n s)) t)

pub framed_in : (s : List ℕ) (k u : ℕ) → framed s ≡ Framed.Record k u → FramedIn s k u
framed_in s k u e = subst (FrameFacts s) e (frame_facts s)

-- a length that is allowed passes
pub known : (l : Lengths) (n : ℕ) → T (allows l n) → tested (kind_tests l n) ≡ Ok tt
known (Lengths.Exactly m) n t = ap (λ v. tested (test (not v) 5 ∷ [])) (true_of (allows (Lengths.Exactly m) n) t)
known (Lengths.AtLeast m) n t = ap (λ v. tested (test (not v) 5 ∷ [])) (true_of (allows (Lengths.AtLeast m) n) t)
known Lengths.Unknown n t = absurd t
