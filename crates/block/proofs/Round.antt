-- What is encoded is read back: each place's bytes give its rule or mark again, since the limits keep the fields in their bytes. Assumes nothing.
use mathlib.Core.Path.{◌≡◌, refl, sym, ap, ◌∙◌, subst}
use mathlib.Core.Bool.{Bool, true, false, cond, ◌&&◌}
use mathlib.Core.List.{List, [], ◌∷◌, ◌++◌, append_assoc}
use Prim.Native.Nat.{ℕ, zero, suc, ◌+◌, ◌-◌, ◌*◌, ◌^◌, ◌≤◌, ◌<◌}
use native.Mathlib.Nat.{not-suc-le-zero, le_of_suc-le-suc}
use native.Mathlib.Omega.{arith}
use lib.Dec.{T, lit<}
use lib.IntN.{ℤ, pos}
use lib.Signed.{le_z}
use lib.ListN.{length, get_or, take, length-append, get_or-append}
use lib.Seq.{get_or-append-add, take_at}
use mir.Syntax.{w32}
use mir.Val.{SFits, of_z}
use mir.ValLaws.{of_z_fits, to_z-of_z}
use Rattle.codec.specs.Bytes.{little, bytes}
use Rattle.codec.proofs.Laws.{little_same, little_bytes, length_bytes}
use Rattle.terms.specs.declared.Counting.{Counting}
use Rattle.terms.specs.declared.Counting.TheVariants.{Old, New}
use Rattle.terms.specs.declared.Profile.{Profile}
use Rattle.terms.specs.declared.Profile.TheVariants.{Off, On}
use Rattle.terms.specs.declared.Hole.{Hole}
use Rattle.terms.specs.declared.Hole.TheVariants.{Whole, Part}
use Rattle.terms.specs.declared.Operator.{Operator}
use Rattle.terms.specs.declared.Rule.{Rule}
use Rattle.terms.specs.declared.Rule.TheVariants.{Label, Both, Link, Via}
use Rattle.terms.specs.declared.Atom.{Atom}
use Rattle.terms.specs.declared.Atom.TheVariants.{Has, Linked}
use Rattle.terms.specs.declared.Mark.{Mark}
use Rattle.terms.specs.Tests.{and_both, true_of, differ}
use Rattle.terms.specs.declared.Settings.{Settings}
use Rattle.terms.specs.Limits.{RULES, MARKS, is_depth}
use Rattle.terms.specs.Holes.{is_hole}
use Rattle.terms.specs.Operators.{operator_of, code_of, distance_of, is_operator, or_identity}
use Rattle.terms.proofs.Readings.{operator_read, distance_fits, depth_fits}
use Rattle.terms.specs.Held.{Held, fresh_settings, is_named, is_rule, is_mark, empty_held}
use Rattle.terms.proofs.Ends.{top_placed, bottom_placed}
use Rattle.terms.specs.Places.{empty_mark}
use Rattle.terms.specs.Lists.{every, limits}
use Rattle.terms.proofs.Limited.{Limited, limited}
use Rattle.places.specs.Layout.{
  counting_byte,
  profile_byte,
  hole_bytes,
  settings_bytes,
  place_bytes,
  rule_bytes,
  ends_bytes,
  atom_bytes,
  mark_bytes,
  cat,
  zeros,
  SETTINGS_AT,
  HEADER,
  RULE_BYTES,
  MARK_BYTES,
  MARKS_AT,
  SIZE,
  padded,
  encode,
}
use Rattle.places.proofs.Sizes.{settings_length, settings_size, rule_size, mark_size, length_padded}
use Rattle.places.specs.Read.{counting_from, hole_from, profile_from, settings_at, rule_of, rule_read, mark_of, mark_read}
use Rattle.block.specs.Block.{tab, read_held, same_bytes, unreadable, holds, good, decode}
use Rattle.block.proofs.Tab.{tab_is, cat_get, length_cat}
use Rattle.block.proofs.Pack.{zeros_add}
use Rattle.block.proofs.Equal.{same_bytes_refl, same_bytes_true}

-- a block's bytes are as many as its size
pub length_encode : (h : Held) → length h.rules ≤ RULES → length h.marks ≤ MARKS → length (encode h) ≡ SIZE
unfolding encode
length_encode h few_rules few_marks =
    let settings = padded (HEADER - SETTINGS_AT) (settings_bytes h.settings) in
    let rules = padded (RULES * RULE_BYTES) (cat rule_bytes h.rules) in
    let marks = padded (MARKS * MARK_BYTES) (cat mark_bytes h.marks) in
    let s : length settings ≡ HEADER - SETTINGS_AT = length_padded (HEADER - SETTINGS_AT) (settings_bytes h.settings) (settings_size h.settings) in
    let r : length rules ≡ RULES * RULE_BYTES =
    length_padded (RULES * RULE_BYTES) (cat rule_bytes h.rules) (omega (arith, length_cat rule_bytes RULE_BYTES rule_size h.rules)) in
    let m : length marks ≡ MARKS * MARK_BYTES =
    length_padded (MARKS * MARK_BYTES) (cat mark_bytes h.marks) (omega (arith, length_cat mark_bytes MARK_BYTES mark_size h.marks)) in
    let p : length (rules ++ marks) ≡ SIZE - HEADER = length-append rules marks ∙ omega arith in
    rw (length-append (bytes 2 (length h.rules)), length-append (bytes 2 (length h.marks)), length-append settings, p, s, length_bytes, length_bytes)

no_count : bytes 2 0 ≡ zeros 2
unfolding bytes zeros
no_count = refl

fresh_zero : padded (HEADER - SETTINGS_AT) (settings_bytes fresh_settings) ≡ zeros (HEADER - SETTINGS_AT)
unfolding settings_bytes ends_bytes bytes zeros
fresh_zero = refl

profile_back : (p : Profile) → profile_from (profile_byte p) ≡ p
profile_back Off = refl
profile_back On = refl

counting_back : (c : Counting) → counting_from (counting_byte c) ≡ c
counting_back Old = refl
counting_back New = refl

-- where nothing is held and set all bytes are zero
pub encode_empty : encode empty_held ≡ zeros SIZE
unfolding encode cat
encode_empty = rw (no_count, zeros_add 1024 3072, fresh_zero, zeros_add 28 4096, zeros_add 2 4124, zeros_add 2 4126)

-- ---- what the limits say

pub every_at : {X : Type 0} (f : X → Bool) (xs : List X) (d : X) → T (every f xs) → (i : ℕ) → i < length xs → T (f (get_or xs i d))
unfolding every
every_at f [] d t i h = absurd (not-suc-le-zero h)
every_at f (x ∷ xs) d t zero h = (and_both (f x) (every f xs) t).0
every_at f (x ∷ xs) d t (suc i) h = every_at f xs d (and_both (f x) (every f xs) t).1 i (le_of_suc-le-suc h)

operator_back : (o : Operator) → T (is_operator o) → or_identity (operator_of (code_of o) (distance_of o)) ≡ o
operator_back o t = ap or_identity (operator_read o t)

-- ---- a place

-- a number behind the n bytes p
count_back : (k x n : ℕ) (p q : List ℕ) → length p ≡ n → x < 256 ^ k → little k (p ++ (bytes k x ++ q)) n ≡ x
count_back k x n p q e h =
    little_same k _ (bytes k x) n 0 (λ (i : ℕ) (l : i < k).
    let z : 0 + i ≡ i = omega arith in
    rw (z, ← e) (get_or-append-add p (bytes k x ++ q) i 0 ∙ get_or-append (bytes k x) q 0 i (rw length_bytes l)))
    ∙ little_bytes k x h

-- the n bytes from `at` on are those of v
record Stands (n : ℕ) (s : List ℕ) (at : ℕ) (v : List ℕ) : Type 0 where
  same : (j : ℕ) → j < n → get_or s (at + j) 0 ≡ get_or v j 0

-- so its first byte is that of v, and a number inside it is the one inside v
module _ (n : ℕ) (s : List ℕ) (at : ℕ) (v : List ℕ) (h : Stands n s at v) where
  first_back : 0 < n → get_or s at 0 ≡ get_or v 0 0
  first_back l = let z : at + 0 ≡ at = omega arith in rw z at (h.same 0 l)

  number_back : (k m : ℕ) → m + k ≤ n → little k s (at + m) ≡ little k v m
  number_back k m l =
      little_same k s v (at + m) m (λ (i : ℕ) (j : i < k).
      let e : at + m + i ≡ at + (m + i) = omega arith in
      rw e (h.same (m + i) (omega arith)))

rule_place : (s : List ℕ) (at k a b c n : ℕ) → n < 256 ^ 4 → Stands RULE_BYTES s at (place_bytes k a b c n) → rule_read s at ≡ rule_of k a b c n
unfolding place_bytes bytes
rule_place s at k a b c n f h =
    let kind = first_back RULE_BYTES s at (place_bytes k a b c n) h (lit< tt) in
    let number = number_back RULE_BYTES s at (place_bytes k a b c n) h 4 4 (omega arith) ∙ count_back 4 n 4 (k ∷ a ∷ b ∷ c ∷ []) [] refl f in
    rw (kind, h.same 1 (lit< tt), h.same 2 (lit< tt), h.same 3 (lit< tt), number)

mark_place :
    (s : List ℕ) (at k a b c : ℕ) (t d : ℤ) → SFits w32 t → SFits w32 d → Stands MARK_BYTES s at (ends_bytes k a b c t d) →
    mark_read s at ≡ mark_of k a b c t d
unfolding ends_bytes bytes
mark_place s at k a b c t d f g h =
    let v : List ℕ = ends_bytes k a b c t d in
    let x : ℕ = of_z w32 t in
    let y : ℕ = of_z w32 d in
    let kind = first_back MARK_BYTES s at v h (lit< tt) in
    let top = number_back MARK_BYTES s at v h 4 4 (omega arith) ∙ count_back 4 x 4 (k ∷ a ∷ b ∷ c ∷ []) (bytes 4 y) refl (of_z_fits w32 t f).fits in
    let bottom = number_back MARK_BYTES s at v h 4 8 (omega arith) ∙ count_back 4 y 8 (k ∷ a ∷ b ∷ c ∷ bytes 4 x) [] refl (of_z_fits w32 d g).fits in
    rw (kind, h.same 1 (lit< tt), h.same 2 (lit< tt), h.same 3 (lit< tt), top, bottom, to_z-of_z w32 t f, to_z-of_z w32 d g)

rule_back : (s : List ℕ) (at : ℕ) (ρ : Rule) → T (is_rule ρ) → Stands RULE_BYTES s at (rule_bytes ρ) → rule_read s at ≡ ρ
unfolding rule_of
rule_back s at (Label o A B) t h =
    let w = (and_both (is_operator o) (is_named (Label o A B)) t).0 in
    rule_place s at 2 (code_of o) A B (distance_of o) (distance_fits o w) h ∙ ap (λ (x : Operator). Label x A B) (operator_back o w)
rule_back s at (Both A B C) t h = rule_place s at 3 A B C 0 (omega arith) h
rule_back s at (Link o r s') t h =
    let w = (and_both (is_operator o) (is_named (Link o r s')) t).0 in
    rule_place s at 4 (code_of o) r s' (distance_of o) (distance_fits o w) h ∙ ap (λ (x : Operator). Link x r s') (operator_back o w)
rule_back s at (Via r A B) t h = rule_place s at 5 r A B 0 (omega arith) h

atom_back :
    (s : List ℕ) (at : ℕ) (x : Atom) (t d : ℤ) → SFits w32 t → SFits w32 d → Stands MARK_BYTES s at (atom_bytes x t d) →
    mark_read s at ≡ record { atom = x; top = t; bottom = d }
unfolding mark_of
atom_back s at (Has a A) t d f g h = mark_place s at 6 a A 0 t d f g h
atom_back s at (Linked a r b) t d f g h = mark_place s at 7 a r b t d f g h

mark_back : (s : List ℕ) (at : ℕ) (m : Mark) → T (is_mark m) → Stands MARK_BYTES s at (mark_bytes m) → mark_read s at ≡ m
mark_back s at m t h =
    atom_back s at m.atom m.top m.bottom (depth_fits m.top (top_placed m t)) (depth_fits m.bottom (bottom_placed m t)) h

-- the settings in their bytes
settings_place :
    (s : List ℕ) (k p f : ℕ) (t d : ℤ) → SFits w32 t → SFits w32 d → Stands MARK_BYTES s SETTINGS_AT (ends_bytes k p f 0 t d) →
    settings_at s ≡ record { counting = counting_from k; hole = hole_from f t d; profile = profile_from p }
unfolding ends_bytes bytes
settings_place s k p f t d F G h =
    let v : List ℕ = ends_bytes k p f 0 t d in
    let x : ℕ = of_z w32 t in
    let y : ℕ = of_z w32 d in
    let counting = first_back MARK_BYTES s SETTINGS_AT v h (lit< tt) in
    let top = number_back MARK_BYTES s SETTINGS_AT v h 4 4 (omega arith) ∙ count_back 4 x 4 (k ∷ p ∷ f ∷ 0 ∷ []) (bytes 4 y) refl (of_z_fits w32 t F).fits in
    let bottom = number_back MARK_BYTES s SETTINGS_AT v h 4 8 (omega arith) ∙ count_back 4 y 8 (k ∷ p ∷ f ∷ 0 ∷ bytes 4 x) [] refl (of_z_fits w32 d G).fits in
    rw (counting, h.same 1 (lit< tt), h.same 2 (lit< tt), top, bottom, to_z-of_z w32 t F, to_z-of_z w32 d G)

set_back :
    (s : List ℕ) (c : Counting) (H : Hole) (p : Profile) → T (is_hole H) →
    Stands MARK_BYTES s SETTINGS_AT (hole_bytes (counting_byte c) (profile_byte p) H) → settings_at s ≡ record { counting = c; hole = H; profile = p }
set_back s c Whole p g h =
    settings_place s (counting_byte c) (profile_byte p) _ (pos 0) (pos 0) (record { sfits = omega arith }) (record { sfits = omega arith }) h
    ∙ (λ i. record { counting = counting_back c i; hole = Whole; profile = profile_back p i })
set_back s c (Part t d) p g h =
    let w = and_both (is_depth t) (is_depth d) (and_both (is_depth t && is_depth d) (le_z t d) g).0 in
    settings_place s (counting_byte c) (profile_byte p) _ t d (depth_fits t w.0) (depth_fits d w.1) h
    ∙ (λ i. record { counting = counting_back c i; hole = Part t d; profile = profile_back p i })

-- ---- the whole block

module _ (h : Held) (within : T (limits h)) (t : List ℕ) where
  abbrev k : Limited h
  k = limited h within

  abbrev block : List ℕ
  block = encode h ++ t

  abbrev front : List ℕ
  front = bytes 2 (length h.rules) ++ (bytes 2 (length h.marks) ++ padded (HEADER - SETTINGS_AT) (settings_bytes h.settings))

  abbrev rule_bytes_lem : List ℕ
  rule_bytes_lem = cat rule_bytes h.rules

  abbrev mark_bytes_lem : List ℕ
  mark_bytes_lem = cat mark_bytes h.marks

  abbrev behind_marks : List ℕ
  behind_marks = zeros (MARKS * MARK_BYTES - length mark_bytes_lem) ++ t

  abbrev behind_rules : List ℕ
  behind_rules = zeros (RULES * RULE_BYTES - length rule_bytes_lem) ++ (mark_bytes_lem ++ behind_marks)

  abbrev head : List ℕ
  head = front ++ padded (RULES * RULE_BYTES) rule_bytes_lem

  to_rules : block ≡ front ++ (rule_bytes_lem ++ behind_rules)
  unfolding encode
  to_rules = simp append_assoc

  to_marks : block ≡ head ++ (mark_bytes_lem ++ behind_marks)
  unfolding encode
  to_marks = simp append_assoc

  length_front : length front ≡ HEADER
  length_front =
      let s = length_padded (HEADER - SETTINGS_AT) (settings_bytes h.settings) (settings_size h.settings) in
      rw (length-append (bytes 2 (length h.rules)), length-append (bytes 2 (length h.marks)), s, length_bytes, length_bytes)

  length_head : length head ≡ MARKS_AT
  length_head =
      let r = length_padded (RULES * RULE_BYTES) rule_bytes_lem (omega (arith, k.few_rules, length_cat rule_bytes RULE_BYTES rule_size h.rules)) in
      length-append front (padded (RULES * RULE_BYTES) rule_bytes_lem) ∙ omega (arith, length_front, r)

  rule_stands : (i : ℕ) (d : Rule) → i < length h.rules → Stands RULE_BYTES block (HEADER + RULE_BYTES * i) (rule_bytes (get_or h.rules i d))
  rule_stands i d l = record {
    same = λ j m.
        let z : HEADER + RULE_BYTES * i + j ≡ length front + (RULE_BYTES * i + j) = omega (arith, length_front) in
        ap (λ (x : List ℕ). get_or x (HEADER + RULE_BYTES * i + j) 0) to_rules
        ∙ ap (λ (n : ℕ). get_or (front ++ (rule_bytes_lem ++ behind_rules)) n 0) z
        ∙ get_or-append-add front (rule_bytes_lem ++ behind_rules) (RULE_BYTES * i + j) 0
        ∙ cat_get rule_bytes RULE_BYTES rule_size h.rules behind_rules i j d l m;
  }

  mark_stands : (i : ℕ) (d : Mark) → i < length h.marks → Stands MARK_BYTES block (MARKS_AT + MARK_BYTES * i) (mark_bytes (get_or h.marks i d))
  mark_stands i d l = record {
    same = λ j m.
        let z : MARKS_AT + MARK_BYTES * i + j ≡ length head + (MARK_BYTES * i + j) = omega (arith, length_head) in
        ap (λ (x : List ℕ). get_or x (MARKS_AT + MARK_BYTES * i + j) 0) to_marks
        ∙ ap (λ (n : ℕ). get_or (head ++ (mark_bytes_lem ++ behind_marks)) n 0) z
        ∙ get_or-append-add head (mark_bytes_lem ++ behind_marks) (MARK_BYTES * i + j) 0
        ∙ cat_get mark_bytes MARK_BYTES mark_size h.marks behind_marks i j d l m;
  }

  rule_count_is : little 2 block 0 ≡ length h.rules
  unfolding encode
  rule_count_is = rw append_assoc (count_back 2 (length h.rules) 0 [] _ refl (omega (arith, k.few_rules)))

  mark_count_is : little 2 block 2 ≡ length h.marks
  unfolding encode
  mark_count_is =
      rw (append_assoc, append_assoc)
      (count_back 2 (length h.marks) 2 (bytes 2 (length h.rules)) _ (length_bytes 2 (length h.rules)) (omega (arith, k.few_marks)))

  abbrev counts : List ℕ
  counts = bytes 2 (length h.rules) ++ bytes 2 (length h.marks)

  abbrev set : List ℕ
  set = settings_bytes h.settings

  abbrev behind_settings : List ℕ
  behind_settings = zeros (HEADER - SETTINGS_AT - length set) ++ (rule_bytes_lem ++ behind_rules)

  to_settings : block ≡ counts ++ (set ++ behind_settings)
  unfolding encode
  to_settings = simp append_assoc

  -- the settings stand behind the counts
  setting_stands : (j : ℕ) → j < length set → get_or block (SETTINGS_AT + j) 0 ≡ get_or set j 0
  setting_stands j l =
      let z : SETTINGS_AT + j ≡ length counts + j = simp (length-append, length_bytes) in
      ap (λ (x : List ℕ). get_or x (SETTINGS_AT + j) 0) to_settings
      ∙ ap (λ (n : ℕ). get_or (counts ++ (set ++ behind_settings)) n 0) z
      ∙ get_or-append-add counts (set ++ behind_settings) j 0
      ∙ get_or-append set behind_settings 0 j l

  -- and are read back
  settings_back : settings_at block ≡ h.settings
  unfolding settings_bytes
  settings_back =
      set_back block h.settings.counting h.settings.hole h.settings.profile k.settings
      (record { same = λ j l. setting_stands j (omega (arith, settings_length h.settings)) })

  none : Rule
  none = Both 0 0 0

  abbrev rules_read : ℕ → List Rule
  rules_read n = tab (λ i. rule_read block (HEADER + RULE_BYTES * i)) n

  abbrev marks_read : ℕ → List Mark
  marks_read n = tab (λ i. mark_read block (MARKS_AT + MARK_BYTES * i)) n

  rules_back : rules_read (length h.rules) ≡ h.rules
  rules_back =
      tab_is (λ i. rule_read block (HEADER + RULE_BYTES * i)) h.rules none
      (λ i l. rule_back block (HEADER + RULE_BYTES * i) (get_or h.rules i none) (every_at is_rule h.rules none k.rules i l) (rule_stands i none l))

  marks_back : marks_read (length h.marks) ≡ h.marks
  marks_back =
      tab_is (λ i. mark_read block (MARKS_AT + MARK_BYTES * i)) h.marks empty_mark
      (λ i l.
      mark_back block (MARKS_AT + MARK_BYTES * i) (get_or h.marks i empty_mark) (every_at is_mark h.marks empty_mark k.marks i l)
      (mark_stands i empty_mark l))

  abbrev of_parts : List Rule → List Mark → Settings → Held
  of_parts rs ms σ = record { rules = rs; marks = ms; settings = σ }

  -- what is encoded is read back
  pub read_encode : read_held block ≡ h
  unfolding read_held
  read_encode =
      ap (λ (rs : List Rule). of_parts rs (marks_read (little 2 block 2)) (settings_at block)) (ap rules_read rule_count_is ∙ rules_back)
      ∙ ap (λ (ms : List Mark). of_parts h.rules ms (settings_at block)) (ap marks_read mark_count_is ∙ marks_back)
      ∙ ap (of_parts h.rules h.marks) settings_back

  good_encode : good block ≡ true
  unfolding good
  good_encode =
      let l : limits (read_held block) ≡ true = ap limits read_encode ∙ true_of (limits h) within in
      let e : encode (read_held block) ≡ take SIZE block =
      ap encode read_encode ∙ sym (take_at (encode h) t SIZE (length_encode h k.few_rules k.few_marks)) in
      rw l (subst (λ (x : List ℕ). same_bytes (encode (read_held block)) x ≡ true) e (same_bytes_refl (encode (read_held block))))

  -- and so a block that encodes what is within the limits holds it
  pub decode_encode : decode block ≡ holds h
  unfolding decode
  decode_encode = rw good_encode (ap holds read_encode)

-- a block that holds something is its encoding, within the limits
pub decode_holds : (b : List ℕ) (h : Held) → decode b ≡ holds h → T (limits h) × (take SIZE b ≡ encode h)
unfolding decode good
decode_holds b h e = go (limits (read_held b) && same_bytes (encode (read_held b)) (take SIZE b)) (λ t. t) e
  where
    go : (g : Bool) → (T g → T (limits (read_held b) && same_bytes (encode (read_held b)) (take SIZE b))) →
        cond g (holds (read_held b)) unreadable ≡ holds h → T (limits h) × (take SIZE b ≡ encode h)
    go true f e =
        let w = and_both (limits (read_held b)) (same_bytes (encode (read_held b)) (take SIZE b)) (f tt) in
        let r : read_held b ≡ h = cc in
        (subst (λ (x : Held). T (limits x)) r w.0, sym (same_bytes_true (encode (read_held b)) (take SIZE b) w.1) ∙ ap encode r)
    go false f e = differ (cc)
