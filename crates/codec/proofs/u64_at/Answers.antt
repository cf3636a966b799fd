-- The number in so many bytes, as the library reads it.
use Rattle.std.proofs.Common.{◌∙◌}
use Rattle.codec.proofs.Laws.{number_read}
use Rattle.codec.proofs.u64_at.Goals as goal

pub returns : goal.returns
returns c = c.from_le_bytes.ensures ∙ (rw c.bytes_at.ensures (number_read 7 c.args.at c.args.s.now))
