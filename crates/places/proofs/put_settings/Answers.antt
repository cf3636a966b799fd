-- Each arm lays the bytes of its variant behind the counting's and the profile's. Assumes nothing.
use mir.Syntax.{w32}
use mir.Val.{SFits}
use mir.ValLaws.{to_z-of_z}
use Rattle.places.specs.Layout.{settings_bytes, ends_bytes}
use Rattle.std.proofs.Common.{rules}
use Rattle.places.proofs.put_settings.Goals as goal

pub returns-in-Whole : goal.returns-in-Whole
unfolding settings_bytes ends_bytes
returns-in-Whole c =
    rw (c.in-Whole.is, ← c.counting_byte-count.ensures, ← c.profile_byte-print.ensures) c.put_ends.ensures

pub returns-in-Part : goal.returns-in-Part
unfolding settings_bytes ends_bytes
returns-in-Part c =
    let p = c.in-Part in
    let f : SFits w32 p.top = search rules in
    let g : SFits w32 p.bottom = search rules in
    rw (p.is, ← c.counting_byte-count.ensures, ← c.profile_byte-print.ensures)
    (rw (to_z-of_z w32 p.top f, to_z-of_z w32 p.bottom g) at c.put_ends-in-Part.ensures)
