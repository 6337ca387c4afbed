-- What the value of a member says, by the rule of its row.
use Rattle.std.specs.Prelude.{ℕ, List, codes, Bool, false, ◌||◌, ◌==◌, if◌then◌else◌, Option, Some, None, option_map, option_and_then, not}
use Rattle.std.specs.Option.{option_map_or}
use Rattle.std.specs.List.{list_any}
use Rattle.std.specs.Str.{bytes_eq}
use Rattle.serde_json.specs.Data.{Data}
use Rattle.serde_json.specs.Find.{as_object}
use Rattle.luks_rules.specs.declared.table.Listed.{Listed}
use Rattle.luks_rules.specs.declared.table.Rule.{Rule}
use Rattle.luks_rules.specs.declared.table.Rule.TheVariants as rule
use Rattle.luks_rules.specs.Table.{listed_types}
use Rattle.luks_json.specs.Decimal.{decimal_of}
pub use Rattle.luks_json.specs.Values.{text_of, number_of, item_texts, texts_of, is_between, kept, number_in, decimal_in, bytes_in}

-- what a member's value may say
pub data Field : Type 0 where
  object : Field
  text : List ℕ → Field
  whole : ℕ → Field
  absent : Field
  dynamic : Field
  bytes : List ℕ → Field
  names : List (List ℕ) → Field

abbrev pub is_listed : Listed → List ℕ → Bool
is_listed l t = list_any (λ k. bytes_eq t k) (listed_types l)

abbrev pub is_sector_size : ℕ → Bool
is_sector_size n = n == 512 || n == 1024 || n == 2048 || n == 4096

-- `dynamic`, or a decimal text
abbrev pub extent_of : List ℕ → Option Field
extent_of t = if bytes_eq t (codes "dynamic") then Some dynamic else option_map whole (decimal_of t)

-- what the value says, or none where it breaks the rule (LUKS2 On-Disk Format 1.1, 3.2 to 3.6)
abbrev pub reads : Rule → Option Data → Option Field
reads rule.Object v = option_map (λ m. object) (option_and_then as_object v)
reads rule.Text v = option_map text (text_of v)
reads (rule.Type l) v = option_map text (option_and_then (kept (is_listed l)) (text_of v))
reads (rule.Number least most) v = option_map whole (number_in least most v)
reads (rule.MayBeNumber least most) None = Some absent
reads (rule.MayBeNumber least most) (Some d) = option_map whole (number_in least most (Some d))
reads rule.SectorSize v = option_map whole (option_and_then (kept is_sector_size) (number_of v))
reads rule.Decimal v = option_map whole (decimal_in v)
reads rule.DecimalOrDynamic v = option_and_then extent_of (text_of v)
reads (rule.Base64 least most) v = option_map bytes (bytes_in least most v)
reads (rule.Names s) v = option_map names (texts_of v)

-- the value is a text that the rule's list of types doesn't have
abbrev pub is_unlisted : Rule → Option Data → Bool
is_unlisted (rule.Type l) v = option_map_or (λ t. not (is_listed l t)) (text_of v) false
is_unlisted rule.Object v = false
is_unlisted rule.Text v = false
is_unlisted (rule.Number least most) v = false
is_unlisted (rule.MayBeNumber least most) v = false
is_unlisted rule.SectorSize v = false
is_unlisted rule.Decimal v = false
is_unlisted rule.DecimalOrDynamic v = false
is_unlisted (rule.Base64 least most) v = false
is_unlisted (rule.Names s) v = false
