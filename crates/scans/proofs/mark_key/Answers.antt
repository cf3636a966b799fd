-- The numbers of the parts fit, and are those of the definition.
use Rattle.std.proofs.Common.{◌≡◌, ◌<◌, ℕ, ℤ, ap, ◌∙◌, arith}
use mir.Syntax.{w32}
use mir.ValLaws.{to_z-of_z}
use Rattle.scans.specs.Keys.{END_ROOM, end_number, mark_key}
use Rattle.scans.proofs.Exact.{end_small}
use Rattle.scans.proofs.mark_key.Goals as goal

small : (e : ℕ) (i : ℤ) → e ≡ end_number i → e < END_ROOM
small e i h = rw h (end_small i)

pub overflow_mul-result : goal.overflow_mul-result
overflow_mul-result c = omega (arith, small _ _ c.end_number-2.ensures)

pub overflow_add-result : goal.overflow_add-result
overflow_add-result c = omega (arith, small _ _ c.end_number.ensures, small _ _ c.end_number-2.ensures)

pub overflow_mul-result-2 : goal.overflow_mul-result-2
overflow_mul-result-2 c = omega (arith, small _ _ c.end_number.ensures, small _ _ c.end_number-2.ensures)

pub overflow_add-result-2 : goal.overflow_add-result-2
overflow_add-result-2 c = omega (arith, c.from-number.ensures, small _ _ c.end_number.ensures, small _ _ c.end_number-2.ensures)

pub returns : goal.returns
unfolding mark_key
returns c =
    let m = c.args.mark in
    let t = to_z-of_z w32 m.top (record { sfits = omega arith }) in
    let b = to_z-of_z w32 m.bottom (record { sfits = omega arith }) in
    rw (c.from-number.ensures, c.atom_number.ensures, c.end_number.ensures ∙ ap end_number t, c.end_number-2.ensures ∙ ap end_number b)
