-- What is read off the lent tables: the lowest item with NEVER of those concerned, and a statement's bit.
use Rattle.std.specs.Prelude.{Option, None, Some, Bool, true, false, ◌&&◌, ◌||◌, List, ℕ, zero, suc, ◌+◌, ◌*◌, eqb, get_or}
use Rattle.terms.specs.declared.Atom.{Atom}
use Rattle.terms.specs.declared.Atom.TheVariants.{Has, Linked}
use Rattle.terms.specs.Limits.{ITEMS, INTERVALS, NEVER}
use Rattle.words.specs.Bit.{bit_at}
use Rattle.spans.specs.Runs.{has_label}

-- one of the numbers below n passes
abbrev pub any_below : ℕ → (ℕ → Bool) → Bool
any_below zero f = false
any_below (suc n) f = f n || any_below n f

-- the lowest of a, a + 1 .. that passes, n in all
abbrev pub lowest_of : (ℕ → Bool) → ℕ → ℕ → Option ℕ
lowest_of f zero a = None
lowest_of f (suc n) a = elim (f a) [ true ↦ Some a | false ↦ lowest_of f n (suc a) ]

-- the item has NEVER in some entry of the label table
abbrev pub never_in : List ℕ → ℕ → Bool
never_in labels a = any_below INTERVALS (has_label labels a NEVER)

-- the items of a list of yes and no
abbrev pub listed : List Bool → ℕ → Bool
listed bs a = get_or bs a false

-- the item is one of these and has NEVER
abbrev pub clashes_in : (ℕ → Bool) → List ℕ → ℕ → Bool
clashes_in J labels a = J a && never_in labels a

-- 01, Records: the lowest item that has NEVER; 02, Slip 7: of these
unfoldable pub clash_in : (ℕ → Bool) → List ℕ → Option ℕ
clash_in J labels = lowest_of (clashes_in J labels) ITEMS 0

-- the statement's bit at an interval
abbrev pub holds_in : List ℕ → List ℕ → Atom → ℕ → Bool
holds_in labels links (Has a A) p = has_label labels a A p
holds_in labels links (Linked a r b) p = eqb (bit_at (get_or links ((a * ITEMS + b) * INTERVALS + p) 0) r) 1
