-- As the library says of `map`.
use Rattle.std.proofs.Common.{◌||◌, ℕ, eqb, false, rules}
use Rattle.joined.specs.Joining.{class_of}
use Rattle.joined.proofs.Mapped.{mapped_at}
use Rattle.joined.proofs.either.Goals as goal

pub returns : goal.returns
returns c =
    let cl = c.args.classes in
    let first = class_of cl c.args.one in
    let second = class_of cl c.args.other in
    let m = c.map.ensures.items in
    record {
      size = m.long;
      each = λ a l. mapped_at _ (λ (k : ℕ). eqb first k || eqb second k) _ (λ x y q k. search rules) cl c.map.result 16 a 0 false m l;
    }
