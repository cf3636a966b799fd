-- As the library says of `map`.
use Rattle.std.proofs.Common.{rules}
use Rattle.joined.specs.Joining.{renamed_to}
use Rattle.joined.proofs.Mapped.{mapped}
use Rattle.joined.proofs.merge.Goals as goal

pub returns : goal.returns
returns c = mapped _ (renamed_to c.args.from c.args.into) _ (λ x y q k. search rules) c.args.classes.now c.map.result 16 c.told-classes c.map.ensures.items
