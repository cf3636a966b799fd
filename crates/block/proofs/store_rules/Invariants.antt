-- The loop has laid the first i rules, one behind the other.
use Rattle.std.proofs.Common.{◌≡◌, length, take}
use Rattle.codec.specs.Bytes.{put}
use Rattle.places.specs.Layout.{rule_bytes, cat, HEADER}
use Rattle.block.proofs.store_rules.Given as goal

abbrev pub invariant-loop-i : goal.invariant-loop-i
invariant-loop-i l = (length l.b ≡ length l.initial.b) × (l.b ≡ put l.initial.b HEADER (cat rule_bytes (take l.i l.rules)))
