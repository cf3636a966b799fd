-- Parts laid one behind the other are one part, and over zeros they are the block's bytes: each is filled up with the zeros behind it. Assumes nothing.
use mathlib.Core.Path.{◌≡◌, sym, ap, ◌∙◌}
use mathlib.Core.List.{List, ◌++◌, append_assoc}
use Prim.Native.Nat.{ℕ, ◌+◌, ◌-◌, ◌*◌, ◌≤◌}
use native.Mathlib.Nat.{zero-add}
use native.Mathlib.Omega.{arith}
use lib.ListN.{length, take, drop, length-append, replicate-append-replicate}
use lib.Seq.{drop_at, length-take-le}
use Rattle.codec.specs.Bytes.{put, bytes}
use Rattle.codec.proofs.Laws.{put_put, length_bytes}
use Rattle.terms.specs.declared.Rule.{Rule}
use Rattle.terms.specs.declared.Mark.{Mark}
use Rattle.terms.specs.Limits.{RULES, MARKS}
use Rattle.state.specs.declared.State.{State}
use Rattle.state.specs.State.{held_of, CountsIn}
use Rattle.places.specs.Layout.{
  settings_bytes,
  rule_bytes,
  mark_bytes,
  cat,
  zeros,
  SETTINGS_AT,
  HEADER,
  RULE_BYTES,
  MARK_BYTES,
  MARKS_AT,
  SIZE,
  padded,
  encode,
}
use Rattle.places.proofs.Sizes.{settings_size, rule_size, mark_size, length_zeros}
use Rattle.block.proofs.Tab.{length_cat}

pub zeros_add : (a b : ℕ) → zeros a ++ zeros b ≡ zeros (a + b)
unfolding zeros
zeros_add a b = replicate-append-replicate a b 0

drop_zeros : (m n : ℕ) (t : List ℕ) → m ≤ n → drop m (zeros n ++ t) ≡ zeros (n - m) ++ t
drop_zeros m n t h =
    let e : m + (n - m) ≡ n = omega arith in
    let s : zeros n ++ t ≡ zeros m ++ (zeros (n - m) ++ t) =
    ap (λ (z : List ℕ). z ++ t) (ap zeros (sym e) ∙ sym (zeros_add m (n - m))) ∙ append_assoc (zeros m) (zeros (n - m)) t in
    ap (drop m) s ∙ drop_at (zeros m) (zeros (n - m) ++ t) m (length_zeros m)

put_front : (l x : List ℕ) → put l 0 x ≡ x ++ drop (length x) l
unfolding put
put_front l x = ap (λ (n : ℕ). x ++ drop n l) (zero-add (length x))

-- zeros laid over zeros change nothing
pad : (n k : ℕ) (t x : List ℕ) → length x + k ≤ n → put (zeros n ++ t) 0 x ≡ put (zeros n ++ t) 0 (x ++ zeros k)
pad n k t x h =
    let l : List ℕ = zeros n ++ t in
    let e : k + (n - length x - k) ≡ n - length x = omega arith in
    let f : n - length (x ++ zeros k) ≡ n - length x - k = simp (length-append, length_zeros) (omega arith) in
    let g : length (x ++ zeros k) ≤ n = simp (length-append, length_zeros) h in
    put_front l x
    ∙ ap (λ (y : List ℕ). x ++ y)
    (drop_zeros (length x) n t (omega arith) ∙ ap (λ (z : List ℕ). z ++ t) (ap zeros (sym e) ∙ sym (zeros_add k (n - length x - k)))
    ∙ append_assoc (zeros k) (zeros (n - length x - k)) t)
    ∙ sym (append_assoc x (zeros k) (zeros (n - length x - k) ++ t))
    ∙ ap (λ (y : List ℕ). (x ++ zeros k) ++ y) (ap (λ (m : ℕ). zeros m ++ t) (sym f) ∙ sym (drop_zeros (length (x ++ zeros k)) n t g))
    ∙ sym (put_front l (x ++ zeros k))

-- the two counts, the settings, the rules and the marks over zeros
module _
    (t a b e c d : List ℕ) (ha : length a ≡ 2) (hb : length b ≡ 2) (he : length e ≤ HEADER - SETTINGS_AT)
    (hc : length c ≤ RULES * RULE_BYTES) (hd : length d ≤ MARKS * MARK_BYTES) where
  abbrev l : List ℕ
  l = zeros SIZE ++ t

  long : SIZE ≤ length l
  long = simp (length-append, length_zeros) (omega arith)

  abbrev counts : List ℕ
  counts = a ++ b

  abbrev header : List ℕ
  header = (counts ++ e) ++ zeros (HEADER - SETTINGS_AT - length e)

  abbrev with_rules_lem : List ℕ
  with_rules_lem = (header ++ c) ++ zeros (RULES * RULE_BYTES - length c)

  abbrev whole : List ℕ
  whole = (with_rules_lem ++ d) ++ zeros (MARKS * MARK_BYTES - length d)

  length_counts : length counts ≡ SETTINGS_AT
  length_counts = simp length-append (omega arith)

  length_settings : length (counts ++ e) ≡ SETTINGS_AT + length e
  length_settings = length-append counts e ∙ ap (λ (n : ℕ). n + length e) length_counts

  length_header : length header ≡ HEADER
  length_header =
      length-append (counts ++ e) (zeros (HEADER - SETTINGS_AT - length e))
      ∙ omega (arith, he, length_settings, length_zeros (HEADER - SETTINGS_AT - length e))

  length_rules : length (header ++ c) ≡ HEADER + length c
  length_rules = length-append header c ∙ ap (λ (n : ℕ). n + length c) length_header

  length_with_rules : length with_rules_lem ≡ MARKS_AT
  length_with_rules =
      length-append (header ++ c) (zeros (RULES * RULE_BYTES - length c))
      ∙ omega (arith, hc, length_rules, length_zeros (RULES * RULE_BYTES - length c))

  length_marks : length (with_rules_lem ++ d) ≡ MARKS_AT + length d
  length_marks = length-append with_rules_lem d ∙ ap (λ (n : ℕ). n + length d) length_with_rules

  length_whole : length whole ≡ SIZE
  length_whole =
      length-append (with_rules_lem ++ d) (zeros (MARKS * MARK_BYTES - length d))
      ∙ omega (arith, hd, length_marks, length_zeros (MARKS * MARK_BYTES - length d))

  laid_counts : put (put l 0 a) 2 b ≡ put l 0 counts
  laid_counts = put_put l 0 2 a b (omega arith) (omega (arith, long))

  laid_settings : put (put l 0 counts) SETTINGS_AT e ≡ put l 0 header
  laid_settings =
      put_put l 0 SETTINGS_AT counts e (omega (arith, length_counts)) (omega (arith, long))
      ∙ pad SIZE (HEADER - SETTINGS_AT - length e) t (counts ++ e) (omega (arith, he, length_settings))

  laid_rules : put (put l 0 header) HEADER c ≡ put l 0 with_rules_lem
  laid_rules =
      put_put l 0 HEADER header c (omega (arith, length_header)) (omega (arith, long))
      ∙ pad SIZE (RULES * RULE_BYTES - length c) t (header ++ c) (omega (arith, hc, length_rules))

  laid_marks : put (put l 0 with_rules_lem) MARKS_AT d ≡ put l 0 whole
  laid_marks =
      put_put l 0 MARKS_AT with_rules_lem d (omega (arith, length_with_rules)) (omega (arith, long))
      ∙ pad SIZE (MARKS * MARK_BYTES - length d) t (with_rules_lem ++ d) (omega (arith, hd, length_marks))

  abbrev laid : List ℕ
  laid = put (put (put (put (put l 0 a) 2 b) SETTINGS_AT e) HEADER c) MARKS_AT d

  abbrev joined : List ℕ
  joined = a ++ (b ++ (padded (HEADER - SETTINGS_AT) e ++ (padded (RULES * RULE_BYTES) c ++ padded (MARKS * MARK_BYTES) d)))

  all : laid ≡ put l 0 whole
  all =
      ap (λ (y : List ℕ). put (put (put y SETTINGS_AT e) HEADER c) MARKS_AT d) laid_counts
      ∙ ap (λ (y : List ℕ). put (put y HEADER c) MARKS_AT d) laid_settings
      ∙ ap (λ (y : List ℕ). put y MARKS_AT d) laid_rules
      ∙ laid_marks

  regroup : whole ≡ joined
  regroup = simp append_assoc

  packed : laid ≡ joined ++ t
  packed =
      all
      ∙ put_front l whole
      ∙ ap (λ (n : ℕ). whole ++ drop n l) length_whole
      ∙ ap (λ (y : List ℕ). whole ++ y) (drop_at (zeros SIZE) t SIZE (length_zeros SIZE))
      ∙ ap (λ (y : List ℕ). y ++ t) regroup

-- what a state's bytes are, by its own counts and places
module _ (s : State) (in-places : CountsIn s) where
  abbrev rules : List Rule
  rules = take s.rule_count s.rules

  abbrev marks : List Mark
  marks = take s.mark_count s.marks

  rules_many : length rules ≡ s.rule_count
  rules_many = length-take-le s.rule_count s.rules (omega (arith, in-places.rule_places, in-places.few_rules))

  marks_many : length marks ≡ s.mark_count
  marks_many = length-take-le s.mark_count s.marks (omega (arith, in-places.mark_places, in-places.few_marks))

  rules_fit : length (cat rule_bytes rules) ≤ RULES * RULE_BYTES
  rules_fit = omega (arith, length_cat rule_bytes RULE_BYTES rule_size rules, rules_many, in-places.few_rules)

  marks_fit : length (cat mark_bytes marks) ≤ MARKS * MARK_BYTES
  marks_fit = omega (arith, length_cat mark_bytes MARK_BYTES mark_size marks, marks_many, in-places.few_marks)

  abbrev set : List ℕ
  set = settings_bytes s.settings

  abbrev of_parts : ℕ → ℕ → List ℕ → List ℕ
  of_parts n m x =
      bytes 2 n ++ (bytes 2 m ++ (padded (HEADER - SETTINGS_AT) set ++ (padded (RULES * RULE_BYTES) x ++ padded (MARKS * MARK_BYTES) (cat mark_bytes marks))))

  encoded : encode (held_of s) ≡ of_parts s.rule_count s.mark_count (cat rule_bytes rules)
  unfolding encode
  encoded = ap (λ (n : ℕ). of_parts n (length marks) (cat rule_bytes rules)) rules_many ∙ ap (λ (n : ℕ). of_parts s.rule_count n (cat rule_bytes rules)) marks_many

  -- the stores one after the other
  pub stored :
      (t l1 l2 l3 l4 l5 l6 : List ℕ) → l1 ≡ zeros SIZE ++ t → l2 ≡ put l1 0 (bytes 2 s.rule_count) →
      l3 ≡ put l2 2 (bytes 2 s.mark_count) → l4 ≡ put l3 SETTINGS_AT set →
      l5 ≡ put l4 HEADER (cat rule_bytes rules) → l6 ≡ put l5 MARKS_AT (cat mark_bytes marks) →
      l6 ≡ encode (held_of s) ++ t
  stored t l1 l2 l3 l4 l5 l6 e1 e2 e3 e4 e5 e6 =
      let a : List ℕ = bytes 2 s.rule_count in
      let b : List ℕ = bytes 2 s.mark_count in
      let c : List ℕ = cat rule_bytes rules in
      let d : List ℕ = cat mark_bytes marks in
      let f3 = e3 ∙ ap (λ (y : List ℕ). put y 2 b) (e2 ∙ ap (λ (y : List ℕ). put y 0 a) e1) in
      let f4 = e4 ∙ ap (λ (y : List ℕ). put y SETTINGS_AT set) f3 in
      let f5 = e5 ∙ ap (λ (y : List ℕ). put y HEADER c) f4 in
      e6
      ∙ ap (λ (y : List ℕ). put y MARKS_AT d) f5
      ∙ packed t a b set c d (length_bytes 2 _) (length_bytes 2 _) (settings_size s.settings) rules_fit marks_fit
      ∙ ap (λ (y : List ℕ). y ++ t) (sym encoded)
