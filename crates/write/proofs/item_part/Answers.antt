-- A transposed square, laid: its words are the entries.
use Rattle.write.proofs.Tables.{words_part}
use Rattle.write.proofs.item_part.Goals as goal

pub returns : goal.returns
returns c =
    words_part _ _ _ _ _ _ _ _ c.requires.3 c.transposed-square.ensures
    c.lay_words.ensures
