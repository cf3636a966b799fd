-- Parts laid one behind the other. Assumes nothing.
use mathlib.Core.Path.{◌≡◌, ap, ◌∙◌}
use mathlib.Core.List.{List, ◌++◌, append_assoc}
use Prim.Native.Nat.{ℕ, ◌+◌, ◌≤◌}
use native.Mathlib.Omega.{arith}
use lib.ListN.{length, length-append}
use Rattle.codec.specs.Bytes.{put}
use Rattle.codec.proofs.Laws.{put_put}

-- three parts laid one behind the other are one part
pub lay_three :
    (l l1 l2 l3 p q r : List ℕ) (at m n : ℕ) → l1 ≡ put l at p → l2 ≡ put l1 m q → l3 ≡ put l2 n r →
    m ≡ at + length p → n ≡ m + length q → n ≤ length l → l3 ≡ put l at (p ++ (q ++ r))
lay_three l l1 l2 l3 p q r at m n e1 e2 e3 hm hn h =
    let z : n ≡ at + length (p ++ q) = simp length-append (omega arith) in
    e3
    ∙ ap (λ (x : List ℕ). put x n r) (e2 ∙ ap (λ (x : List ℕ). put x m q) e1 ∙ put_put l at m p q hm (omega arith))
    ∙ put_put l at n (p ++ q) r z h
    ∙ ap (put l at) (append_assoc p q r)
