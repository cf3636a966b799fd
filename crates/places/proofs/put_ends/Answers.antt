-- The three parts are one, by `lay_three`. Assumes nothing.
use Rattle.std.proofs.Common.{◌≡◌, ◌∙◌, ◌+◌, length, ℤ, rules, ap, arith}
use mir.Syntax.{w32}
use mir.Val.{SFits, of_z}
use mir.ValLaws.{to_z-of_z}
use Rattle.codec.specs.Bytes.{put, bytes_of_signed32}
use Rattle.codec.proofs.Laws.{length_bytes}
use Rattle.places.proofs.Lay.{lay_three}
use Rattle.places.proofs.put_ends.Goals as goal

pub returns : goal.returns
returns c =
    let a = c.args in
    let f : SFits w32 a.top = search rules in
    let g : SFits w32 a.bottom = search rules in
    let n : length a.fields ≡ 4 = search rules in
    lay_three a.s.now c.put_bytes.new.s c.put_i32.new.s c.put_i32-2.new.s
    a.fields (bytes_of_signed32 a.top) (bytes_of_signed32 a.bottom) a.at (a.at + 4) (a.at + 8)
    c.put_bytes.ensures
    (c.put_i32.ensures ∙ ap (λ (z : ℤ). put c.put_bytes.new.s (a.at + 4) (bytes_of_signed32 z)) (to_z-of_z w32 a.top f))
    (c.put_i32-2.ensures ∙ ap (λ (z : ℤ). put c.put_i32.new.s (a.at + 8) (bytes_of_signed32 z)) (to_z-of_z w32 a.bottom g))
    (omega arith) (omega (arith, length_bytes 4 (of_z w32 a.top))) (omega arith)
