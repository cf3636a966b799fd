-- What a state holds, and what the changes to it say of it.
use Rattle.std.specs.Prelude.{◌≡◌, List, ◌≤◌, length, replicate, Result, IfOk}
use Rattle.terms.specs.Limits.{RULES, MARKS}
use Rattle.terms.specs.Held.{Held, fresh_settings}
use Rattle.terms.specs.Places.{empty_mark, empty_rule, held_in}
use Rattle.state.specs.declared.State.{State}
use Rattle.refusals.specs.Refusals.{Test, tested}
use Rattle.terms.specs.declared.Refusal.{Refusal}
use Rattle.terms.specs.Otherwise.{by_number, tested_of}

abbrev pub held_of : State → Held
held_of s = held_in s.rules s.rule_count s.marks s.mark_count s.settings

-- 01, State and tables: a fresh state, all 128 rule places and all 256 mark places empty
unfoldable pub empty_state : State
empty_state = record {
  rules = replicate RULES empty_rule;
  rule_count = 0;
  marks = replicate MARKS empty_mark;
  mark_count = 0;
  settings = fresh_settings;
}

-- the counts are within the arrays
pub record CountsIn (s : State) : Type 0 where
  pub rule_places : length s.rules ≡ RULES
  pub few_rules : s.rule_count ≤ RULES
  pub mark_places : length s.marks ≡ MARKS
  pub few_marks : s.mark_count ≤ MARKS

-- refused as the tests say, and where none applies a state that holds `then`; what a refusal leaves is the state that was passed
pub record ChangeAs (tests : List Test) (then : Held) (r : Result State Refusal) : Type 0 where
  pub said : tested_of (by_number r) ≡ tested tests
  pub held : IfOk r (λ s. held_of s ≡ then)
  pub counts : IfOk r (λ s. CountsIn s)
