-- Below 64 the shift loses nothing, so the difference is 2 ^ n - 1; from 64 on the constant has every bit.
use Rattle.words.proofs.Bits.{ones_shl, ones_all}
use Rattle.words.proofs.ones.Goals as goal

pub returns-then-n-lt64 : goal.returns-then-n-lt64
returns-then-n-lt64 c = ones_shl _ c.if-n-lt64.true

pub returns : goal.returns
returns c = ones_all _ c.if-n-lt64.false
