-- 02, Slip 2: a mark is the same by whichever kind it comes. Assumes nothing.
use Rattle.std.specs.Prelude.{◌≡◌, refl, [], ◌∷◌, ℕ}
use Rattle.codec.specs.Bytes.{little}
use Rattle.records.specs.Formats.{label_mark, link_mark, label_stretch, link_stretch}

-- a label's stretch whose two depths have the same bytes is the mark of the old kinds at that depth
pub label_either : (a A p q r s : ℕ) → label_stretch (a ∷ A ∷ p ∷ q ∷ r ∷ s ∷ p ∷ q ∷ r ∷ s ∷ []) ≡ label_mark (a ∷ A ∷ p ∷ q ∷ r ∷ s ∷ [])
unfolding little
label_either a A p q r s = refl

-- and a link's
pub link_either : (a k b p q r s : ℕ) → link_stretch (a ∷ k ∷ b ∷ p ∷ q ∷ r ∷ s ∷ p ∷ q ∷ r ∷ s ∷ []) ≡ link_mark (a ∷ k ∷ b ∷ p ∷ q ∷ r ∷ s ∷ [])
unfolding little
link_either a k b p q r s = refl
