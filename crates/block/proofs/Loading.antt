-- What loading tells: where a count or a limit is broken the block is not good, else the comparison with its encoding decides. Assumes nothing.
use mathlib.Core.Path.{◌≡◌, sym, ap, ◌∙◌}
use mathlib.Core.Bool.{Bool, true, false, not}
use mathlib.Core.List.{List, ◌++◌, append-nil}
use Prim.Native.Nat.{ℕ, ◌+◌, ◌*◌, ◌≤◌, ◌<◌}
use native.Mathlib.Omega.{arith}
use borrow.Author.Tests.{le-leb, lt-leb}
use lib.ListN.{length, take, drop, drop_of_length-le}
use Rattle.codec.specs.Bytes.{little}
use Rattle.terms.specs.declared.Rule.{Rule}
use Rattle.terms.specs.declared.Mark.{Mark}
use Rattle.terms.specs.declared.Settings.{Settings}
use Rattle.terms.specs.Limits.{RULES, MARKS}
use Rattle.terms.specs.Held.{Held}
use Rattle.terms.specs.Lists.{limits}
use Rattle.state.specs.declared.State.{State}
use Rattle.state.specs.State.{held_of, CountsIn}
use Rattle.places.specs.Read.{settings_at, rule_read, mark_read}
use Rattle.block.specs.Block.{tab, read_held, same_bytes, good, LoadedFrom}
use Rattle.places.specs.Layout.{HEADER, RULE_BYTES, MARK_BYTES, MARKS_AT, SIZE, encode}
use Rattle.block.specs.Places.{rule_from, mark_from, Filled}
use Rattle.block.proofs.Tab.{length_tab}

-- a test turned round
pub not_back : (b c : Bool) → not b ≡ c → b ≡ not c
not_back true c e = ap not e
not_back false c e = ap not e

module _ (b : List ℕ) where
  pub too_many_rules : RULES < little 2 b 0 → limits (read_held b) ≡ false
  unfolding limits read_held
  too_many_rules h = rw (length_tab (λ i. rule_read b (HEADER + RULE_BYTES * i)) (little 2 b 0), lt-leb (little 2 b 0) 128 h)

  pub too_many_marks : little 2 b 0 ≤ RULES → MARKS < little 2 b 2 → limits (read_held b) ≡ false
  unfolding limits read_held
  too_many_marks l h =
      rw (
        length_tab (λ i. rule_read b (HEADER + RULE_BYTES * i)) (little 2 b 0),
        length_tab (λ i. mark_read b (MARKS_AT + MARK_BYTES * i)) (little 2 b 2),
        le-leb (little 2 b 0) 128 l,
        lt-leb (little 2 b 2) 256 h,
      )

  pub not_good : limits (read_held b) ≡ false → good b ≡ false
  unfolding good
  not_good e = rw e

-- a state with the counts of a block and its places
module _ (b : List ℕ) (s : State) (rule_count_is : s.rule_count ≡ little 2 b 0) (mark_count_is : s.mark_count ≡ little 2 b 2)
    (rules : Filled RULES s.rule_count (rule_from b) s.rules) (marks : Filled MARKS s.mark_count (mark_from b) s.marks)
    (settings : s.settings ≡ settings_at b) where
  abbrev of_lists : List Rule → List Mark → Held
  of_lists rs ms = record { rules = rs; marks = ms; settings = settings_at b }

  pub held_in : held_of s ≡ read_held b
  unfolding read_held
  held_in =
      ap (λ (x : Settings). record { rules = take s.rule_count s.rules; marks = take s.mark_count s.marks; settings = x }) settings
      ∙ ap (λ (x : List Rule). of_lists x (take s.mark_count s.marks)) (rules.first ∙ ap (tab (rule_from b)) rule_count_is)
      ∙ ap (of_lists (tab (rule_from b) (little 2 b 0))) (marks.first ∙ ap (tab (mark_from b)) mark_count_is)

  -- the comparison decides, once the limits are kept
  module _ (kept : limits (held_of s) ≡ true) (same : Bool) (copy z : List ℕ) (e : copy ≡ encode (held_of s) ++ drop SIZE z) (n : SIZE ≡ length z)
      (f : same ≡ same_bytes copy (take SIZE b)) where
    compared : good b ≡ same
    unfolding good
    compared =
        let l : length z ≤ SIZE = omega arith in
        let d : copy ≡ encode (read_held b) =
        e ∙ ap (λ (x : List ℕ). encode (held_of s) ++ x) (drop_of_length-le z l) ∙ append-nil (encode (held_of s)) ∙ ap encode held_in in
        let v : same ≡ same_bytes (encode (read_held b)) (take SIZE b) = f ∙ ap (λ (x : List ℕ). same_bytes x (take SIZE b)) d in
        let k : limits (read_held b) ≡ true = sym (ap limits held_in) ∙ kept in
        rw k (sym v)

    pub refused : same ≡ false → good b ≡ false
    refused t = compared ∙ t

    pub loaded : CountsIn s → same ≡ true → LoadedFrom b s
    loaded counts t = record { verdict = compared ∙ t; held = held_in; counts = counts }
