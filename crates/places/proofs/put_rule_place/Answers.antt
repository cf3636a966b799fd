-- The two parts are one, by `put_put`.
use Rattle.std.proofs.Common.{◌≡◌, ◌∙◌, ◌+◌, List, ℕ, length, rules, ap, arith}
use Rattle.codec.specs.Bytes.{put, bytes}
use Rattle.codec.proofs.Laws.{put_put}
use Rattle.places.proofs.put_rule_place.Goals as goal

pub returns : goal.returns
returns c =
    let a = c.args in
    let n : length a.fields ≡ 4 = search rules in
    c.put_u32.ensures
    ∙ ap (λ (x : List ℕ). put x (a.at + 4) (bytes 4 a.n)) c.put_bytes.ensures
    ∙ put_put a.s.now a.at (a.at + 4) a.fields (bytes 4 a.n) (omega arith) (omega arith)
