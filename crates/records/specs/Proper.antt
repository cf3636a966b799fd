-- What is read is in range, and what is in range reads back. Assumes nothing.
use Rattle.std.specs.Prelude.{◌≡◌, Bool, true, false, not, cond, ◌&&◌, List, [], ◌∷◌, ◌++◌, ℕ, ◌+◌, ◌<◌, T, eqb, ℤ, pos, negsuc, length, get_or, Option, Some, None, Result, Ok, Err}
use Rattle.std.proofs.Math.Path.{refl, ap}
use Rattle.std.proofs.Common.{sym, ◌∙◌, subst, arith, leb→le, SFits, to_z}
use Rattle.std.specs.Int.Signed.{le_z}
use Rattle.std.specs.Int.{w32}
use Rattle.codec.specs.Bytes.{little, bytes, bytes_of_signed32}
use Rattle.codec.proofs.Laws.{little_bytes, signed_read}
use Rattle.terms.specs.declared.Counting.{Counting}
use Rattle.terms.specs.declared.Counting.TheVariants.{Old, New}
use Rattle.terms.specs.declared.Operator.{Operator}
use Rattle.terms.specs.declared.Rule.{Rule}
use Rattle.terms.specs.declared.Rule.TheVariants.{Label, Both, Link, Via}
use Rattle.terms.specs.declared.Atom.{Atom}
use Rattle.terms.specs.declared.Atom.TheVariants.{Has, Linked}
use Rattle.terms.specs.declared.Mark.{Mark}
use Rattle.terms.specs.declared.Question.{Question}
use Rattle.terms.specs.declared.Hole.TheVariants.{Part}
use Rattle.terms.specs.declared.Settings.{Settings}
use Rattle.terms.specs.Countings.{is_counting}
use Rattle.terms.specs.Counted.{counting_number}
use Rattle.terms.specs.Operators.{operator_of, code_of, distance_of, is_operator, or_identity}
use Rattle.terms.proofs.Readings.{ProperRead, read_proper, operator_read, distance_fits, depth_fits}
use Rattle.terms.specs.Limits.{NO_TOP, NO_BOTTOM, is_depth}
use Rattle.terms.specs.Holes.{is_hole}
use Rattle.terms.specs.Held.{is_named, is_rule, is_mark, is_markable, is_placed, is_ordered, is_question}
use Rattle.terms.proofs.Ends.{top_placed, bottom_placed}
use Rattle.terms.specs.Same.{kind_of}
use Rattle.refusals.specs.Refusals.{test, tested}
use Rattle.terms.specs.Tests.{and_both, both_and}
use Rattle.records.specs.declared.Command.{Command}
use Rattle.frames.specs.declared.Framed.{Framed}
use Rattle.records.specs.Parsed.{Parsed}
use Rattle.records.specs.Records.{
  operator_tests,
  mark_tests,
  hole_tests,
  question_tests,
  Kind,
  kinds,
  at_kind,
  body_tests,
  command_in,
  decoded_as,
  decode_body,
  parsed_body,
  parsed_frame,
  parse,
}
use Rattle.frames.specs.Framing.{framed}
use Rattle.records.specs.Formats.{
  operator_at,
  is_invalid,
  label_rule,
  both_rule,
  link_rule,
  via_rule,
  label_mark,
  link_mark,
  label_stretch,
  link_stretch,
  counting_at,
  hole_top,
  hole_bottom,
  label_question,
  link_question,
  spans_question,
}
use Rattle.frames.specs.Frames.{allows, lengths_of, body_of}
use Rattle.records.specs.Frame.{record_bytes, parse_record}

-- a command whose names, operator and ends are in range and order; a question's depth may be any, and so may a counting or a shift
abbrev pub Proper : Command → Bool
Proper Command.Reset = true
Proper (Command.Add ρ) = is_rule ρ
Proper (Command.Put m) = is_mark m
Proper (Command.Take m) = is_mark m
Proper (Command.Count c) = true
Proper (Command.Confine t b) = is_hole (Part t b)
Proper (Command.Shift c) = true
Proper Command.Restrict = true
Proper (Command.Ask q) = is_question q

-- ---- the table, row by row

-- each row has P
abbrev pub Rows : (Kind → Type 0) → List Kind → Type 0
Rows P [] = Unit {0}
Rows P (r ∷ rs) = P r × Rows P rs

-- so what is said of a kind has it
pub at_rows : {A : Type 0} (P : A → Type 0) (f : Kind → A) (d : A) (rs : List Kind) → P d → Rows (λ r. P (f r)) rs → (k : ℕ) → P (at_kind f d rs k)
at_rows P f d [] p w k = p
at_rows P f d (r ∷ rs) p w k = go (eqb k r.number) (at_rows P f d rs p w.1 k)
  where
    go : (b : Bool) → P (at_kind f d rs k) → P (cond b (f r) (at_kind f d rs k))
    go true q = w.0
    go false q = q

-- and what is made of two things said of a kind is made of them row by row
pub at_two :
    {A B C : Type 0} (F : A → B → C) (f : Kind → A) (g : Kind → B) (d : A) (e : B) (rs : List Kind) (k : ℕ) →
    F (at_kind f d rs k) (at_kind g e rs k) ≡ at_kind (λ r. F (f r) (g r)) (F d e) rs k
at_two F f g d e [] k = refl
at_two F f g d e (r ∷ rs) k = go (eqb k r.number) (at_two F f g d e rs k)
  where
    go :
        (v : Bool) → F (at_kind f d rs k) (at_kind g e rs k) ≡ at_kind (λ r. F (f r) (g r)) (F d e) rs k →
        F (cond v (f r) (at_kind f d rs k)) (cond v (g r) (at_kind g e rs k)) ≡ cond v (F (f r) (g r)) (at_kind (λ r. F (f r) (g r)) (F d e) rs k)
    go true h = refl
    go false h = h

-- ---- what is read is in range

-- a command that a body gives is in range
abbrev ProperDecoded : Result Command ℕ → Type 0
ProperDecoded (Ok c) = T (Proper c)
ProperDecoded (Err n) = Unit {0}

-- and one that the input gives
abbrev ProperParsed : Parsed → Type 0
ProperParsed Parsed.Nothing = Unit {0}
ProperParsed (Parsed.Refused n u) = Unit {0}
ProperParsed (Parsed.Record c b u) = T (Proper c)

-- what passes one test, two, and three
one_test : (p : Bool) (n : ℕ) (c : Command) → (T p → T (Proper c)) → ProperDecoded (decoded_as (tested (test (not p) n ∷ [])) c)
one_test true n c h = h tt
one_test false n c h = tt

two_tests :
    (p q : Bool) (m n : ℕ) (c : Command) → (T (p && q) → T (Proper c)) →
    ProperDecoded (decoded_as (tested (test (not p) m ∷ test (not q) n ∷ [])) c)
two_tests true true m n c h = h tt
two_tests true false m n c h = tt
two_tests false q m n c h = tt

three_tests :
    (p q r : Bool) (l m n : ℕ) (c : Command) → (T (p && (q && r)) → T (Proper c)) →
    ProperDecoded (decoded_as (tested (test (not p) l ∷ test (not q) m ∷ test (not r) n ∷ [])) c)
three_tests true true true l m n c h = h tt
three_tests true true false l m n c h = tt
three_tests true false r l m n c h = tt
three_tests false q r l m n c h = tt

-- an operator that was read is in range
operator_test :
    (p : Bool) (r : Option Operator) (c : Command) → ProperRead r → (T (is_operator (or_identity r)) → T p → T (Proper c)) →
    ProperDecoded (decoded_as (tested (test (not p) 6 ∷ test (is_invalid r) 7 ∷ [])) c)
operator_test true (Some o) c g h = h g tt
operator_test true None c g h = tt
operator_test false r c g h = tt

mark_test : (m : Mark) (c : Command) → (T (is_mark m) → T (Proper c)) → (σ : Settings) → ProperDecoded (decoded_as (tested (mark_tests σ m)) c)
mark_test m c h σ = three_tests (is_markable m.atom) (is_placed m) (is_ordered m) 6 8 14 c h

hole_test : (t d : ℤ) → ProperDecoded (decoded_as (tested (hole_tests t d)) (Command.Confine t d))
hole_test t d = two_tests (is_depth t && is_depth d) (le_z t d) 8 14 (Command.Confine t d) (λ w. w)

question_test : (q : Question) (σ : Settings) → ProperDecoded (decoded_as (tested (question_tests σ q)) (Command.Ask q))
question_test q σ = one_test (is_question q) 6 (Command.Ask q) (λ t. t)

rule_test : (b : List ℕ) (ρ : Rule) → (T (is_operator (or_identity (operator_at b))) → T (is_named ρ) → T (is_rule ρ)) → (σ : Settings) →
    ProperDecoded (decoded_as (tested (operator_tests σ (operator_at b) ρ)) (Command.Add ρ))
rule_test b ρ h σ = operator_test (is_named ρ) (operator_at b) (Command.Add ρ) (read_proper (get_or b 0 0) (little 4 b 1)) h

body_proper : (σ : Settings) (k : ℕ) (b : List ℕ) → ProperDecoded (decode_body σ k b)
unfolding body_tests command_in
body_proper σ k b =
    subst ProperDecoded
    (sym (at_two (λ ts c. decoded_as (tested ts) c) (λ r. r.tests σ b) (λ r. r.command b) [] Command.Reset kinds k))
    (at_rows ProperDecoded (λ r. decoded_as (tested (r.tests σ b)) (r.command b)) (Ok Command.Reset) kinds tt (
      tt,
      (
        rule_test b (label_rule b) (both_and (is_operator (or_identity (operator_at b))) (is_named (label_rule b))) σ,
        (
          one_test (is_named (both_rule b)) 6 (Command.Add (both_rule b)) (λ t. t),
          (
            rule_test b (link_rule b) (both_and (is_operator (or_identity (operator_at b))) (is_named (link_rule b))) σ,
            (
              one_test (is_named (via_rule b)) 6 (Command.Add (via_rule b)) (λ t. t),
              (
                mark_test (label_mark b) (Command.Put (label_mark b)) (λ t. t) σ,
                (
                  mark_test (link_mark b) (Command.Put (link_mark b)) (λ t. t) σ,
                  (
                    mark_test (label_mark b) (Command.Take (label_mark b)) (λ t. t) σ,
                    (
                      mark_test (link_mark b) (Command.Take (link_mark b)) (λ t. t) σ,
                      (
                        question_test (label_question b) σ,
                        (
                          question_test (link_question b) σ,
                          (
                            question_test (spans_question b) σ,
                            (
                              mark_test (label_stretch b) (Command.Put (label_stretch b)) (λ t. t) σ,
                              (
                                mark_test (link_stretch b) (Command.Put (link_stretch b)) (λ t. t) σ,
                                (
                                  mark_test (label_stretch b) (Command.Take (label_stretch b)) (λ t. t) σ,
                                  (
                                    mark_test (link_stretch b) (Command.Take (link_stretch b)) (λ t. t) σ,
                                    (
                                      one_test (is_counting (get_or b 0 0)) 7 (Command.Count (counting_at b)) (λ t. tt),
                                      (hole_test (hole_top b) (hole_bottom b), (tt, (tt, tt))),
                                    ),
                                  ),
                                ),
                              ),
                            ),
                          ),
                        ),
                      ),
                    ),
                  ),
                ),
              ),
            ),
          ),
        ),
      ),
    ) k)

used_proper : (d : Result Command ℕ) (b : List ℕ) (u : ℕ) → ProperDecoded d → ProperParsed (parsed_body d b u)
used_proper (Ok c) b u h = h
used_proper (Err n) b u h = tt

parsed_proper : (σ : Settings) (s : List ℕ) (f : Framed) → ProperParsed (parsed_frame σ s f)
parsed_proper σ s Framed.Nothing = tt
parsed_proper σ s (Framed.Refused n u) = tt
parsed_proper σ s (Framed.Record k u) = used_proper (decode_body σ k (body_of s)) (body_of s) u (body_proper σ k (body_of s))

-- whatever the input, a command that is read from it is in range
pub parse_proper : (σ : Settings) (s : List ℕ) (c : Command) (b : List ℕ) (u : ℕ) → parse σ s ≡ Parsed.Record c b u → T (Proper c)
unfolding parse
parse_proper σ s c b u e = subst ProperParsed e (parsed_proper σ s (framed s))

-- ---- what is in range reads back

-- a number of four bytes, signed
abbrev pub is_signed32 : ℤ → Bool
is_signed32 c = le_z NO_TOP c && le_z c NO_BOTTOM

-- the commands that change what is held
abbrev pub is_change : Command → Bool
is_change Command.Reset = true
is_change (Command.Add ρ) = is_rule ρ
is_change (Command.Put m) = is_mark m
is_change (Command.Take m) = is_mark m
is_change (Command.Count c) = true
is_change (Command.Confine t b) = is_hole (Part t b)
is_change (Command.Shift c) = is_signed32 c
is_change Command.Restrict = true
is_change (Command.Ask q) = false

-- 01, Records: an operator's code and n
abbrev pub operator_bytes : Operator → List ℕ
operator_bytes o = code_of o ∷ bytes 4 (distance_of o)

-- 01, Records: the body of a rule
abbrev pub rule_body : Rule → List ℕ
rule_body (Label o A B) = operator_bytes o ++ (A ∷ B ∷ [])
rule_body (Both A B C) = A ∷ B ∷ C ∷ []
rule_body (Link o r s) = operator_bytes o ++ (r ∷ s ∷ [])
rule_body (Via r A B) = r ∷ A ∷ B ∷ []

-- 02, Slip 2: the kind of a mark that is put; a stretch may have both ends equal
abbrev pub put_kind : Atom → ℕ
put_kind (Has a A) = 13
put_kind (Linked a r b) = 14

-- and of one that is taken
abbrev pub take_kind : Atom → ℕ
take_kind (Has a A) = 15
take_kind (Linked a r b) = 16

-- 02, Slip 2: the body of a mark: names, top, bottom
abbrev pub mark_body : Atom → ℤ → ℤ → List ℕ
mark_body (Has a A) t d = a ∷ A ∷ (bytes_of_signed32 t ++ bytes_of_signed32 d)
mark_body (Linked a r b) t d = a ∷ r ∷ b ∷ (bytes_of_signed32 t ++ bytes_of_signed32 d)

-- the kind and the body of a change; a question has none here
abbrev pub change_kind : Command → ℕ
change_kind Command.Reset = 1
change_kind (Command.Add ρ) = kind_of ρ
change_kind (Command.Put m) = put_kind m.atom
change_kind (Command.Take m) = take_kind m.atom
change_kind (Command.Count c) = 17
change_kind (Command.Confine t b) = 18
change_kind (Command.Shift c) = 20
change_kind Command.Restrict = 21
change_kind (Command.Ask q) = 0

abbrev pub change_body : Command → List ℕ
change_body Command.Reset = []
change_body (Command.Add ρ) = rule_body ρ
change_body (Command.Put m) = mark_body m.atom m.top m.bottom
change_body (Command.Take m) = mark_body m.atom m.top m.bottom
change_body (Command.Count c) = counting_number c ∷ []
change_body (Command.Confine t b) = bytes_of_signed32 t ++ bytes_of_signed32 b
change_body (Command.Shift c) = bytes_of_signed32 c
change_body Command.Restrict = []
change_body (Command.Ask q) = []

-- a change as a record
abbrev pub write : Command → List ℕ
write c = record_bytes (change_kind c) (change_body c)

-- where the tests pass, the command is given
named_passes : (p : Bool) (c : Command) → T p → decoded_as (tested (test (not p) 6 ∷ [])) c ≡ Ok c
named_passes true c t = refl
named_passes false c t = absurd t

mark_passes :
    (p q r : Bool) (c : Command) → T (p && (q && r)) →
    decoded_as (tested (test (not p) 6 ∷ test (not q) 8 ∷ test (not r) 14 ∷ [])) c ≡ Ok c
mark_passes true true true c t = refl
mark_passes true true false c t = absurd t
mark_passes true false r c t = absurd t
mark_passes false q r c t = absurd t

hole_passes : (p q : Bool) (c : Command) → T (p && q) → decoded_as (tested (test (not p) 8 ∷ test (not q) 14 ∷ [])) c ≡ Ok c
hole_passes true true c t = refl
hole_passes true false c t = absurd t
hole_passes false q c t = absurd t

operator_passes :
    (p : Bool) (r : Option Operator) (o : Operator) (k : Operator → Command) → T p → r ≡ Some o →
    decoded_as (tested (test (not p) 6 ∷ test (is_invalid r) 7 ∷ [])) (k (or_identity r)) ≡ Ok (k o)
operator_passes true r o k t e = ap (λ (x : Option Operator). decoded_as (tested (test false 6 ∷ test (is_invalid x) 7 ∷ [])) (k (or_identity x))) e
operator_passes false r o k t e = absurd t

operator_in_lem : (o : Operator) (x y : ℕ) → T (is_operator o) → operator_at (operator_bytes o ++ (x ∷ y ∷ [])) ≡ Some o
unfolding little bytes
operator_in_lem o x y t = ap (operator_of (code_of o)) (little_bytes 4 (distance_of o) (distance_fits o t)) ∙ operator_read o t

-- a depth from its bytes
depth_read : (z : ℤ) → SFits w32 z → to_z w32 (little 4 (bytes_of_signed32 z) 0) ≡ z
depth_read = signed_read w32 4 refl

signed_fits : (z : ℤ) → T (is_signed32 z) → SFits w32 z
signed_fits (pos n) t = record { sfits = omega (arith, leb→le n 2_147_483_647 (and_both (le_z NO_TOP (pos n)) (le_z (pos n) NO_BOTTOM) t).1) }
signed_fits (negsuc n) t = record { sfits = omega (arith, leb→le n 2_147_483_647 (and_both (le_z NO_TOP (negsuc n)) (le_z (negsuc n) NO_BOTTOM) t).0) }

-- a mark of its three parts
abbrev pub mark_with : Atom → ℤ → ℤ → Mark
mark_with x t d = record { atom = x; top = t; bottom = d }

-- the mark that a body of such an atom is read as
abbrev mark_in : Atom → List ℕ → Mark
mark_in (Has a A) b = label_stretch b
mark_in (Linked a r c) b = link_stretch b

mark_in_lem : (x : Atom) (t d : ℤ) → SFits w32 t → SFits w32 d → mark_in x (mark_body x t d) ≡ mark_with x t d
unfolding little bytes
mark_in_lem (Has a A) t d f g = λ i. mark_with (Has a A) (depth_read t f i) (depth_read d g i)
mark_in_lem (Linked a r b) t d f g = λ i. mark_with (Linked a r b) (depth_read t f i) (depth_read d g i)

module _ (σ : Settings) where
  rule_decodes : (ρ : Rule) → T (is_rule ρ) → decode_body σ (kind_of ρ) (rule_body ρ) ≡ Ok (Command.Add ρ)
  unfolding bytes body_tests command_in
  rule_decodes (Label o A B) t =
      let h = and_both (is_operator o) (is_named (Label o A B)) t in
      operator_passes (is_named (Label o A B)) (operator_at (rule_body (Label o A B))) o (λ (x : Operator). Command.Add (Label x A B)) h.1
      (operator_in_lem o A B h.0)
  rule_decodes (Both A B C) t = named_passes (is_named (Both A B C)) (Command.Add (Both A B C)) t
  rule_decodes (Link o r s) t =
      let h = and_both (is_operator o) (is_named (Link o r s)) t in
      operator_passes (is_named (Link o r s)) (operator_at (rule_body (Link o r s))) o (λ (x : Operator). Command.Add (Link x r s)) h.1
      (operator_in_lem o r s h.0)
  rule_decodes (Via r A B) t = named_passes (is_named (Via r A B)) (Command.Add (Via r A B)) t

  -- a mark under a kind whose body is a mark, and what the command does with it
  mark_decodes :
      (k : Mark → Command) (n : ℕ) (x : Atom) (t d : ℤ) → let b = mark_body x t d in
      decode_body σ n b ≡ decoded_as (tested (mark_tests σ (mark_in x b))) (k (mark_in x b)) → T (is_mark (mark_with x t d)) →
      decode_body σ n b ≡ Ok (k (mark_with x t d))
  mark_decodes k n x t d e h =
      let m : Mark = mark_with x t d in
      e
      ∙ ap (λ (y : Mark). decoded_as (tested (mark_tests σ y)) (k y)) (mark_in_lem x t d (depth_fits t (top_placed m h)) (depth_fits d (bottom_placed m h)))
      ∙ mark_passes (is_markable x) (is_placed m) (is_ordered m) (k m) h

  put_decodes : (x : Atom) (t d : ℤ) → let m = mark_with x t d in T (is_mark m) → decode_body σ (put_kind x) (mark_body x t d) ≡ Ok (Command.Put m)
  unfolding body_tests command_in
  put_decodes (Has a A) t d h = mark_decodes (λ (m : Mark). Command.Put m) 13 (Has a A) t d refl h
  put_decodes (Linked a r b) t d h = mark_decodes (λ (m : Mark). Command.Put m) 14 (Linked a r b) t d refl h

  take_decodes : (x : Atom) (t d : ℤ) → let m = mark_with x t d in T (is_mark m) → decode_body σ (take_kind x) (mark_body x t d) ≡ Ok (Command.Take m)
  unfolding body_tests command_in
  take_decodes (Has a A) t d h = mark_decodes (λ (m : Mark). Command.Take m) 15 (Has a A) t d refl h
  take_decodes (Linked a r b) t d h = mark_decodes (λ (m : Mark). Command.Take m) 16 (Linked a r b) t d refl h

  count_decodes : (c : Counting) → decode_body σ 17 (counting_number c ∷ []) ≡ Ok (Command.Count c)
  unfolding body_tests command_in
  count_decodes Old = refl
  count_decodes New = refl

  hole_decodes : (t d : ℤ) → T (is_hole (Part t d)) → decode_body σ 18 (bytes_of_signed32 t ++ bytes_of_signed32 d) ≡ Ok (Command.Confine t d)
  unfolding little bytes body_tests command_in
  hole_decodes t d h =
      let w = and_both (is_depth t) (is_depth d) (and_both (is_depth t && is_depth d) (le_z t d) h).0 in
      let e = depth_read t (depth_fits t w.0) in
      let f = depth_read d (depth_fits d w.1) in
      (λ i. decoded_as (tested (hole_tests (e i) (f i))) (Command.Confine (e i) (f i)))
      ∙ hole_passes (is_depth t && is_depth d) (le_z t d) (Command.Confine t d) h

  shift_decodes : (c : ℤ) → T (is_signed32 c) → decode_body σ 20 (bytes_of_signed32 c) ≡ Ok (Command.Shift c)
  unfolding little bytes body_tests command_in
  shift_decodes c h = ap (λ z. Ok (Command.Shift z)) (depth_read c (signed_fits c h))

  change_decodes : (c : Command) → T (is_change c) → decode_body σ (change_kind c) (change_body c) ≡ Ok c
  unfolding body_tests command_in
  change_decodes Command.Reset t = refl
  change_decodes (Command.Add ρ) t = rule_decodes ρ t
  change_decodes (Command.Put m) t = put_decodes m.atom m.top m.bottom t
  change_decodes (Command.Take m) t = take_decodes m.atom m.top m.bottom t
  change_decodes (Command.Count c) t = count_decodes c
  change_decodes (Command.Confine t b) h = hole_decodes t b h
  change_decodes (Command.Shift c) h = shift_decodes c h
  change_decodes Command.Restrict t = refl
  change_decodes (Command.Ask q) t = absurd t

-- a body that has a length of its kind, below the largest
record Fitting (k : ℕ) (b : List ℕ) : Type 0 where
  allowed : T (allows (lengths_of k) (length b + 2))
  small : k < 65536
  short : length b + 2 < 65536

fitting_rule : (ρ : Rule) → Fitting (kind_of ρ) (rule_body ρ)
unfolding lengths_of bytes
fitting_rule (Label o A B) = record { allowed = tt; small = omega arith; short = omega arith }
fitting_rule (Both A B C) = record { allowed = tt; small = omega arith; short = omega arith }
fitting_rule (Link o r s) = record { allowed = tt; small = omega arith; short = omega arith }
fitting_rule (Via r A B) = record { allowed = tt; small = omega arith; short = omega arith }

fitting_put : (x : Atom) (t d : ℤ) → Fitting (put_kind x) (mark_body x t d)
unfolding lengths_of bytes
fitting_put (Has a A) t d = record { allowed = tt; small = omega arith; short = omega arith }
fitting_put (Linked a r b) t d = record { allowed = tt; small = omega arith; short = omega arith }

fitting_take : (x : Atom) (t d : ℤ) → Fitting (take_kind x) (mark_body x t d)
unfolding lengths_of bytes
fitting_take (Has a A) t d = record { allowed = tt; small = omega arith; short = omega arith }
fitting_take (Linked a r b) t d = record { allowed = tt; small = omega arith; short = omega arith }

fitting_hole : (t d : ℤ) → Fitting 18 (bytes_of_signed32 t ++ bytes_of_signed32 d)
unfolding lengths_of bytes
fitting_hole t d = record { allowed = tt; small = omega arith; short = omega arith }

fitting_shift : (c : ℤ) → Fitting 20 (bytes_of_signed32 c)
unfolding lengths_of bytes
fitting_shift c = record { allowed = tt; small = omega arith; short = omega arith }

fitting : (c : Command) → T (is_change c) → Fitting (change_kind c) (change_body c)
unfolding lengths_of
fitting Command.Reset t = record { allowed = tt; small = omega arith; short = omega arith }
fitting (Command.Add ρ) t = fitting_rule ρ
fitting (Command.Put m) t = fitting_put m.atom m.top m.bottom
fitting (Command.Take m) t = fitting_take m.atom m.top m.bottom
fitting (Command.Count c) t = record { allowed = tt; small = omega arith; short = omega arith }
fitting (Command.Confine t b) h = fitting_hole t b
fitting (Command.Shift c) h = fitting_shift c
fitting Command.Restrict t = record { allowed = tt; small = omega arith; short = omega arith }
fitting (Command.Ask q) t = absurd t

-- a change in range, written, reads back, and all of its bytes are used
pub parse_write : (σ : Settings) (c : Command) → T (is_change c) → parse σ (write c) ≡ Parsed.Record c (change_body c) (length (write c))
parse_write σ c t =
    let f = fitting c t in
    parse_record σ (change_kind c) (change_body c) f.allowed f.small f.short
    ∙ ap (λ (d : Result Command ℕ). parsed_body d (change_body c) (length (write c))) (change_decodes σ c t)
