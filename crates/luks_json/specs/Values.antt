-- What a value says that may be missing: a text, a whole number, a decimal text, base64, an array of texts.
use Rattle.std.specs.Prelude.{ℕ, List, [], ◌∷◌, length, Bool, ◌&&◌, nat_le, if◌then◌else◌, Option, Some, None, option_map, option_and_then}
use Rattle.serde_json.specs.Data.{Data, Items, no_items, item}
use Rattle.serde_json.specs.Find.{as_str, as_array, as_number, as_u64}
use Rattle.luks_json.specs.Decimal.{decimal_of}
use Rattle.luks_json.specs.Encoded.{encoded_of}

abbrev pub text_of : Option Data → Option (List ℕ)
text_of v = option_and_then as_str v

abbrev pub number_of : Option Data → Option ℕ
number_of v = option_and_then as_u64 (option_and_then as_number v)

-- the texts of an array that holds nothing else
abbrev pub item_texts : Items → Option (List (List ℕ))
item_texts no_items = Some []
item_texts (item d ds) = option_and_then (λ t. option_map (λ ts. t ∷ ts) (item_texts ds)) (as_str d)

abbrev pub texts_of : Option Data → Option (List (List ℕ))
texts_of v = option_and_then item_texts (option_and_then as_array v)

abbrev pub is_between : ℕ → ℕ → ℕ → Bool
is_between least most n = nat_le least n && nat_le n most

-- the value, where the test holds of it
abbrev pub kept : {A : Type 0} → (A → Bool) → A → Option A
kept test x = if test x then Some x else None

abbrev pub number_in : ℕ → ℕ → Option Data → Option ℕ
number_in least most v = option_and_then (kept (is_between least most)) (number_of v)

abbrev pub decimal_in : Option Data → Option ℕ
decimal_in v = option_and_then decimal_of (text_of v)

abbrev pub bytes_in : ℕ → ℕ → Option Data → Option (List ℕ)
bytes_in least most v = option_and_then (kept (λ b. is_between least most (length b))) (option_and_then encoded_of (text_of v))
