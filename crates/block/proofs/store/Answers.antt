-- The stores one after the other lay the encoding, by `stored`.
use lib.ListN.{drop}
use Rattle.places.specs.Layout.{SIZE}
use Rattle.block.proofs.Pack.{stored}
use Rattle.block.proofs.store.Goals as goal

pub returns : goal.returns
returns c =
    stored c.args.state c.requires.0 (drop SIZE c.args.block.now)
    _ _ _ _ _ _
    c.clear.ensures c.put_u16.ensures c.put_u16-2.ensures c.put_settings.ensures
    (rw c.rules.ensures at c.store_rules.ensures) (rw c.marks.ensures at c.store_marks.ensures)
