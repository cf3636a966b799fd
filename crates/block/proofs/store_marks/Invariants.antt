-- The loop has laid the first i marks, one behind the other.
use Rattle.std.proofs.Common.{◌≡◌, length, take}
use Rattle.codec.specs.Bytes.{put}
use Rattle.places.specs.Layout.{mark_bytes, cat, MARKS_AT}
use Rattle.block.proofs.store_marks.Given as goal

abbrev pub invariant-loop-i : goal.invariant-loop-i
invariant-loop-i l = (length l.b ≡ length l.initial.b) × (l.b ≡ put l.initial.b MARKS_AT (cat mark_bytes (take l.i l.marks)))
