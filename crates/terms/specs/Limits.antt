-- The numbers of 01, each stated once. `Stated` ties the code's constants to them.
use Rattle.std.specs.Prelude.{Bool, ◌&&◌, ℕ, ◌+◌, ◌*◌, ltb, ℤ, pos, negsuc}
use Rattle.std.specs.Int.Signed.{le_z}

-- 01, Names and depths: items 0 to 15, labels 0 to 63, link kinds 0 to 7, EVERY and NEVER
abbrev pub ITEMS : ℕ
ITEMS = 16

abbrev pub LABELS : ℕ
LABELS = 64

abbrev pub KINDS : ℕ
KINDS = 8

abbrev pub EVERY : ℕ
EVERY = 0

abbrev pub NEVER : ℕ
NEVER = 63

-- 01, Names and depths: how many rules, marks and marked depths are held
abbrev pub RULES : ℕ
RULES = 128

abbrev pub MARKS : ℕ
MARKS = 256

abbrev pub DEPTHS : ℕ
DEPTHS = 96

-- 01, Pieces of the line: a marked depth cuts the line at most twice, and there is one piece more than cuts
abbrev pub CUTS : ℕ
CUTS = DEPTHS + DEPTHS

abbrev pub INTERVALS : ℕ
INTERVALS = CUTS + 1

-- 01, State and tables: the numbers of the label table, the bytes of the link table, the numbers of the span buffer; spans
-- are one more than marked depths at most, two numbers each
abbrev pub LABEL_ENTRIES : ℕ
LABEL_ENTRIES = ITEMS * INTERVALS

abbrev pub LINK_ENTRIES : ℕ
LINK_ENTRIES = ITEMS * ITEMS * INTERVALS

abbrev pub SPAN_NUMBERS : ℕ
SPAN_NUMBERS = 2 * (DEPTHS + 1)

-- 01, Operators: the largest n of WITHIN
abbrev pub WITHIN_MOST : ℕ
WITHIN_MOST = 300_000

-- 01, Names and depths: where marks lie
abbrev pub SHALLOWEST : ℤ
SHALLOWEST = negsuc 9_999

abbrev pub DEEPEST : ℤ
DEEPEST = pos 200_000

-- 01, Records: the numbers that mean no end on that side
abbrev pub NO_TOP : ℤ
NO_TOP = negsuc 2_147_483_647

abbrev pub NO_BOTTOM : ℤ
NO_BOTTOM = pos 2_147_483_647

-- 01, Records: what may stand in each field
abbrev pub is_item : ℕ → Bool
is_item a = ltb a ITEMS

abbrev pub is_kind : ℕ → Bool
is_kind r = ltb r KINDS

-- a label on a rule's left side: 0 to 62
abbrev pub is_left : ℕ → Bool
is_left A = ltb A NEVER

-- a concluded label: 1 to 63
abbrev pub is_concluded : ℕ → Bool
is_concluded A = ltb EVERY A && ltb A LABELS

-- a marked label: 1 to 62
abbrev pub is_marked : ℕ → Bool
is_marked A = ltb EVERY A && ltb A NEVER

-- a questioned label: 0 to 63
abbrev pub is_label : ℕ → Bool
is_label A = ltb A LABELS

-- a mark's depth, or an end of 02's hole
abbrev pub is_depth : ℤ → Bool
is_depth i = le_z SHALLOWEST i && le_z i DEEPEST
