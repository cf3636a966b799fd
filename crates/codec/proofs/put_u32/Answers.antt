-- The bytes as the library writes them.
use Rattle.std.proofs.Common.{◌∙◌, ap}
use Rattle.codec.specs.Bytes.{put}
use Rattle.codec.proofs.Laws.{bytes_written}
use Rattle.codec.proofs.put_u32.Goals as goal

pub returns : goal.returns
returns c = c.put_bytes.ensures ∙ ap (put c.args.s.now c.args.at) (c.to_le_bytes.ensures ∙ bytes_written 4 c.args.x)
