-- The places of the two lists in the state: what a free one holds, and what the first ones say.
use Rattle.std.specs.Prelude.{Bool, List, ℕ, ◌≤◌, ◌<◌, T, pos, length, take, get_or}
use Rattle.terms.specs.declared.Rule.{Rule}
use Rattle.terms.specs.declared.Rule.TheVariants.{Both}
use Rattle.terms.specs.declared.Atom.TheVariants.{Has}
use Rattle.terms.specs.declared.Mark.{Mark}
use Rattle.terms.specs.declared.Settings.{Settings}
use Rattle.terms.specs.Limits.{RULES, MARKS}
use Rattle.terms.specs.Held.{◌∈◌, Held, is_mark}

-- 01, State and tables: what a free place of the mark list holds
abbrev pub empty_mark : Mark
empty_mark = record { atom = Has 0 0; top = pos 0; bottom = pos 0 }

-- and of the rule list
abbrev pub empty_rule : Rule
empty_rule = Both 0 0 0

-- the rule in a place
abbrev pub rule_at : List Rule → ℕ → Rule
rule_at rs q = get_or rs q empty_rule

-- rules that pass, no more than there is room for
pub record RulesIn (passes : Rule → Bool) (rs : List Rule) : Type 0 where
  pub few : length rs ≤ RULES
  pub each : (q : ℕ) → q < length rs → T (passes (rule_at rs q))

-- marks in range, no more than there is room for
pub record MarksNamed (ms : List Mark) : Type 0 where
  pub few : length ms ≤ MARKS
  pub each : (k : Mark) → k ∈ ms → T (is_mark k)

-- these rules and marks, held under the settings
abbrev pub held_with : List Rule → List Mark → Settings → Held
held_with rs ms s = record { rules = rs; marks = ms; settings = s }

-- what the first places of the two lists hold, under the settings
abbrev pub held_in : List Rule → ℕ → List Mark → ℕ → Settings → Held
held_in rs n ms m s = held_with (take n rs) (take m ms) s
