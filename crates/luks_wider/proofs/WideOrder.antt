-- The rows of each object are in the order of their paths' bytes.
use Rattle.std.proofs.Common.{◌≡◌, true, List, refl, inl, inr}
use Rattle.std.proofs.lemmas.Bool.{cases_Bool}
use Rattle.serde_json.specs.Data.{Data}
use Rattle.luks_rules.specs.declared.table.Section.{Section}
use Rattle.luks_rules.specs.declared.table.Section.TheVariants.{Config, Digests, Keyslots, Segments, Tokens}
use Rattle.luks_rules.proofs.Order.{not_after, pairwise}
use Rattle.luks_underway.specs.Kinds.{is_opal, is_reencrypt}
use Rattle.luks_wider.specs.Rows.{rows_for, wide_path}
use Rattle.luks_wider.specs.declared.rows.WideRow.{WideRow}

abbrev pub InOrder : List WideRow → Type 0
InOrder rows = pairwise (λ r q. not_after (wide_path r) (wide_path q)) rows ≡ true

pub rows_in_order : (s : Section) (d : Data) → InOrder (rows_for s d)
rows_in_order Config d = refl
rows_in_order Digests d = refl
rows_in_order Keyslots d = elim (cases_Bool (is_reencrypt d)) [ inl is ↦ rw is refl | inr other ↦ rw other refl ]
rows_in_order Segments d = elim (cases_Bool (is_opal d)) [ inl is ↦ rw is refl | inr other ↦ rw other refl ]
rows_in_order Tokens d = refl
