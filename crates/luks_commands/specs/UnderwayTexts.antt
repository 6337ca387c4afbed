-- What is printed of a volume in whose metadata something is under way.
use Rattle.std.specs.Prelude.{ℕ, List, codes}
use Rattle.luks_rules.specs.declared.table.Section.TheVariants.{Tokens as OfTokens}
use Rattle.luks_wider.specs.Underways.{content}
use Rattle.luks_wider.specs.WideFaults.{wide_fault_text}
use Rattle.luks_underway_show.specs.Shown.{section_listed}
use Rattle.luks_underway_show.specs.UnderwayLines.{token_listed, underway_lines}
use Rattle.luks_underway_tables.specs.Table.{table_lines}
use Rattle.luks_commands.specs.declared.underway_shown.UnderwayShown.{UnderwayShown}
use Rattle.luks_commands.specs.declared.underway_shown.UnderwayShown.TheVariants.{Listed, Tokens, Tables}
use Rattle.luks_commands.specs.declared.underway_refusal.UnderwayRefusal.{UnderwayRefusal}
use Rattle.luks_commands.specs.declared.underway_refusal.UnderwayRefusal.TheVariants.{Metadata, NoKey, Progressed}

-- what is shown: the header, its tokens, or the table of its data
abbrev pub shown_text : UnderwayShown → List ℕ
shown_text (Listed listing) = underway_lines listing.lines listing.header listing.copies (content listing.meta)
shown_text (Tokens tokens) = section_listed token_listed (content tokens.0) OfTokens
shown_text (Tables table) = table_lines table.end (content table.meta)

-- the name of what refused the command
abbrev pub underway_refusal_text : UnderwayRefusal → List ℕ
underway_refusal_text (Metadata f) = wide_fault_text f
underway_refusal_text NoKey = codes "NoKey"
underway_refusal_text Progressed = codes "Progressed"
