-- Where the slot says a place of this key, and where it says one of another.
use Rattle.std.proofs.Common.{sym, ◌∙◌, arith}
use borrow.Author.Tests.{eq-eqb}
use Rattle.keys.proofs.Scan.{some_behind}
use Rattle.keys.proofs.Slots.{said_found}
use Rattle.keys.proofs.is_met.Goals as goal

pub returns-then-keys-said : goal.returns-then-keys-said
returns-then-keys-said c =
    let e = c.if-keys-said.true in
    eq-eqb _ _ e ∙ sym (said_found _ _ _ _ c.requires.said (omega arith) (sym e))

pub returns-else-keys-said : goal.returns-else-keys-said
returns-else-keys-said c = c.contains.ensures.value ∙ some_behind c.args.key c.args.from c.args.keys.now
