-- The numbers of `Limits` in one value: `Limits::of_code` is proved to give it for the code's constants.
use Rattle.terms.specs.declared.Limits.{Limits}
use Rattle.terms.specs.Limits.{
  ITEMS,
  LABELS,
  KINDS,
  EVERY,
  NEVER,
  RULES,
  MARKS,
  DEPTHS,
  CUTS,
  INTERVALS,
  LABEL_ENTRIES,
  LINK_ENTRIES,
  SPAN_NUMBERS,
  WITHIN_MOST,
  SHALLOWEST,
  DEEPEST,
  NO_TOP,
  NO_BOTTOM,
}

abbrev pub stated : Limits
stated = record {
  items = ITEMS;
  labels = LABELS;
  kinds = KINDS;
  every = EVERY;
  never = NEVER;
  rules = RULES;
  marks = MARKS;
  depths = DEPTHS;
  cuts = CUTS;
  intervals = INTERVALS;
  label_entries = LABEL_ENTRIES;
  link_entries = LINK_ENTRIES;
  span_numbers = SPAN_NUMBERS;
  within_most = WITHIN_MOST;
  shallowest = SHALLOWEST;
  deepest = DEEPEST;
  no_top = NO_TOP;
  no_bottom = NO_BOTTOM;
}
