-- The slot tells of the keys behind the place, and then has the place itself.
use Rattle.std.proofs.Common.{◌≡◌, ◌+◌, ◌<◌, length, ℕ, List, get_or, ap, not, arith}
use lib.ListN.{set}
use Rattle.keys.specs.Slots.{SLOTS, slot_of, Slots}
use Rattle.keys.proofs.Slots.{slot_in, slot_says, slots_more}
use Rattle.keys.proofs.is_last.Goals as goal

slot_inside : (k s : ℕ) → s ≡ slot_of k → s < SLOTS
slot_inside k s e = rw e (slot_in k)

known : (keys slots : List ℕ) (at s : ℕ) → s ≡ slot_of (get_or keys at 0) → at < length keys → Slots keys (at + 1) slots → Slots keys at (set slots s at)
known keys slots at s e h w = rw e (slots_more keys slots at h w)

pub offset_bounds-slots-slot : goal.offset_bounds-slots-slot
offset_bounds-slots-slot c = omega (arith, slot_inside _ _ c.slot_of-slot.ensures)

pub bounds-slots-slot : goal.bounds-slots-slot
bounds-slots-slot c = slot_inside _ _ c.slot_of-slot.ensures

pub offset_bounds-slots-slot-2 : goal.offset_bounds-slots-slot-2
offset_bounds-slots-slot-2 c = omega (arith, slot_inside _ _ c.slot_of-slot.ensures)

pub bounds-slots-slot-2 : goal.bounds-slots-slot-2
bounds-slots-slot-2 c = slot_inside _ _ c.slot_of-slot.ensures

pub is_met-requires-clause-said : goal.is_met-requires-clause-said
is_met-requires-clause-said c = rw (c.from-said.ensures, c.slot_of-slot.ensures) (slot_says _ _ _ _ (omega arith) c.requires.slots)

pub returns : goal.returns
returns c =
    record {
      last = ap not c.is_met.ensures;
      known = known _ _ _ _ c.slot_of-slot.ensures c.requires.at_in_bounds c.requires.slots;
    }
