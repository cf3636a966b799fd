-- Every accepted record keeps the limits. Assumes nothing.
use Rattle.std.specs.Prelude.{◌≡◌, Bool, true, false, not, List, [], ◌∷◌, ◌++◌, ℕ, T, ltb, leb, ℤ, length, Ok}
use Rattle.std.proofs.Common.{sym, subst, ⊎_elim, arith, nltb→le, length-append}
use mathlib.Core.List.Memᴰ
use Rattle.std.proofs.Math.Dec.{nleb→lt}
use Rattle.terms.specs.declared.Counting.{Counting}
use Rattle.terms.specs.declared.Rule.{Rule}
use Rattle.terms.specs.declared.Mark.{Mark}
use Rattle.terms.specs.declared.Settings.{Settings}
use Rattle.terms.specs.Limits.{RULES, MARKS, DEPTHS}
use Rattle.refusals.specs.Refusals.{Test, test, tested}
use Rattle.terms.specs.declared.Hole.TheVariants.{Part}
use Rattle.terms.specs.declared.Profile.TheVariants.{On}
use Rattle.terms.specs.Holes.{is_hole, lies_in}
use Rattle.terms.specs.Profiles.{in_profile, admits}
use Rattle.terms.specs.Held.{Held, hole_in, profile_in, ends_of, with_settings, with_counting, with_hole, with_profile, is_settings, is_rule, is_mark, empty_held}
use Rattle.terms.specs.Same.{same_rule, same_mark}
use Rattle.terms.proofs.SameLaws.{same_rule_lem, rule_same, same_mark_lem, mark_same}
use Rattle.terms.specs.Lists.{some, every, strike, once, depth_count}
use Rattle.terms.specs.Tests.{differ}
pub use Rattle.terms.proofs.Limited.{
  some_in,
  in_some,
  every_in,
  in_every,
  strike_in,
  strike_short,
  once_snoc,
  once_strike,
  Limited,
  limited,
  of_limited,
  in_range,
}
pub use Rattle.decide.proofs.Count.{fewer_ends, few_cuts}
use Rattle.shift.specs.Shifted.{shifted, stays}
use Rattle.moves.proofs.Limits.{shift_limited}
use Rattle.correction.specs.Changes.{shift_tests}
use Rattle.rules.specs.Changes.{list_tests, rule_tests, add_rule}
use Rattle.marks.specs.Changes.{room_tests, put_tests, put_mark, take_mark}
use Rattle.settings.specs.Changes.{confine_tests, restrict_tests}

-- ---- a test that does not apply

pub passed : (b : Bool) (n : ℕ) (ts : List Test) → tested (test b n ∷ ts) ≡ Ok tt → T (not b) × (tested ts ≡ Ok tt)
passed true n ts e = differ (cc)
passed false n ts e = (tt, e)

every_snoc : {X : Type 0} (f : X → Bool) (xs : List X) (x : X) → T (every f xs) → T (f x) → T (every f (xs ++ (x ∷ [])))
every_snoc f xs x t u =
    in_every f (xs ++ (x ∷ [])) (λ y m.
    ⊎_elim (λ n. every_in f xs t y n) (λ n. subst (λ v. T (f v)) (sym (Memᴰ.eq_of_singleton n)) u) (Memᴰ.append_cases xs m))

pub twice : (b : Bool) → T (not (not b)) → T b
twice true t = tt
twice false t = t

-- ---- each record

pub empty_limited : Limited empty_held
unfolding every once depth_count
empty_limited = record {
  few_rules = omega arith;
  few_marks = omega arith;
  few_depths = omega arith;
  rules = tt;
  marks = tt;
  once_rules = tt;
  once_marks = tt;
  settings = tt;
  inside = tt;
  admitted = tt;
}

pub added_limited : (h : Held) (ρ : Rule) → Limited h → T (is_rule ρ) → tested (rule_tests h ρ) ≡ Ok tt → Limited (add_rule h ρ)
added_limited h ρ w p e =
    let o = passed (not (admits (profile_in h) ρ)) 20 (list_tests h ρ) e in
    let t = passed (some (same_rule ρ) h.rules) 9 (test (leb RULES (length h.rules)) 11 ∷ []) o.1 in
    let u = passed (leb RULES (length h.rules)) 11 [] t.1 in
    record {
      few_rules = simp length-append (omega (arith, nleb→lt RULES (length h.rules) u.0));
      few_marks = w.few_marks;
      few_depths = w.few_depths;
      rules = every_snoc is_rule h.rules ρ w.rules p;
      marks = w.marks;
      once_rules = once_snoc same_rule same_rule_lem rule_same h.rules ρ w.once_rules t.0;
      once_marks = w.once_marks;
      settings = w.settings;
      inside = w.inside;
      admitted = every_snoc (admits (profile_in h)) h.rules ρ w.admitted (twice (admits (profile_in h) ρ) o.0);
    }

pub put_limited : (h : Held) (m : Mark) → Limited h → T (is_mark m) → tested (put_tests h m) ≡ Ok tt → Limited (put_mark h m)
put_limited h m w p e =
    let full = test (leb MARKS (length h.marks)) 11 in
    let deep = test (ltb DEPTHS (depth_count (ends_of (h.marks ++ (m ∷ []))))) 12 in
    let o = passed (not (lies_in (hole_in h) m)) 16 (room_tests h m) e in
    let t = passed (some (same_mark m) h.marks) 9 (full ∷ deep ∷ []) o.1 in
    let u = passed (leb MARKS (length h.marks)) 11 (deep ∷ []) t.1 in
    let v = passed (ltb DEPTHS (depth_count (ends_of (h.marks ++ (m ∷ []))))) 12 [] u.1 in
    record {
      few_rules = w.few_rules;
      few_marks = simp length-append (omega (arith, nleb→lt MARKS (length h.marks) u.0));
      few_depths = nltb→le DEPTHS (depth_count (ends_of (h.marks ++ (m ∷ [])))) v.0;
      rules = w.rules;
      marks = every_snoc is_mark h.marks m w.marks p;
      once_rules = w.once_rules;
      once_marks = once_snoc same_mark same_mark_lem mark_same h.marks m w.once_marks t.0;
      settings = w.settings;
      inside = every_snoc (lies_in (hole_in h)) h.marks m w.inside (twice (lies_in (hole_in h) m) o.0);
      admitted = w.admitted;
    }

-- other settings, that may be set, in whose hole the marks lie, and whose profile admits the rules
set_limited : (h : Held) (s : Settings) → Limited h → T (is_settings s) → T (every (lies_in s.hole) h.marks) → T (every (admits s.profile) h.rules) →
    Limited (with_settings h s)
set_limited h s w p i a = record {
  few_rules = w.few_rules;
  few_marks = w.few_marks;
  few_depths = w.few_depths;
  rules = w.rules;
  marks = w.marks;
  once_rules = w.once_rules;
  once_marks = w.once_marks;
  settings = p;
  inside = i;
  admitted = a;
}

pub counted_limited : (h : Held) (c : Counting) → Limited h → Limited (with_counting h c)
counted_limited h c w = set_limited h (with_counting h c).settings w w.settings w.inside w.admitted

-- a hole, where no mark is held
pub confined_limited : (h : Held) (t b : ℤ) → Limited h → T (is_hole (Part t b)) → tested (confine_tests h) ≡ Ok tt → Limited (with_hole h (Part t b))
unfolding every
confined_limited h t b w p e =
    set_limited h (with_hole h (Part t b)).settings w p (none h.marks (passed (ltb 0 (length h.marks)) 17 [] e).0) w.admitted
  where
    none : (ms : List Mark) → T (not (ltb 0 (length ms))) → T (every (lies_in (Part t b)) ms)
    none [] u = tt
    none (m ∷ ms) u = let z : ⊥ = omega (arith, nltb→le 0 (length (m ∷ ms)) u) in absurd z

-- a shift, where no depth leaves its range
pub shifted_limited : (h : Held) (c : ℤ) → Limited h → tested (shift_tests h c) ≡ Ok tt → Limited (shifted c h)
shifted_limited h c w e = shift_limited c h (twice (stays c h) (passed (not (stays c h)) 8 [] e).0) w

-- the profile, where no rule outside it is held
pub restricted_limited : (h : Held) → Limited h → tested (restrict_tests h) ≡ Ok tt → Limited (with_profile h On)
restricted_limited h w e =
    set_limited h (with_profile h On).settings w w.settings w.inside
    (twice (every in_profile h.rules) (passed (not (every in_profile h.rules)) 20 [] e).0)

pub taken_limited : (h : Held) (m : Mark) → Limited h → Limited (take_mark h m)
taken_limited h m w = record {
  few_rules = w.few_rules;
  few_marks = omega (arith, strike_short (same_mark m) h.marks, w.few_marks);
  few_depths =
      omega (arith, fewer_ends (strike (same_mark m) h.marks) h.marks (λ k n. strike_in (same_mark m) h.marks n), w.few_depths);
  rules = w.rules;
  marks = in_every is_mark (strike (same_mark m) h.marks) (λ k n. every_in is_mark h.marks w.marks k (strike_in (same_mark m) h.marks n));
  once_rules = w.once_rules;
  once_marks = once_strike same_mark same_mark_lem mark_same (same_mark m) h.marks w.once_marks;
  settings = w.settings;
  inside = in_every (lies_in (hole_in h)) (strike (same_mark m) h.marks)
      (λ k n. every_in (lies_in (hole_in h)) h.marks w.inside k (strike_in (same_mark m) h.marks n));
  admitted = w.admitted;
}
