-- The lines of a segment, by its record.
use Rattle.std.proofs.Common.{◌≡◌, ℕ, List, ◌++◌, codes, Option, Some, refl, sym, ap₂, append_assoc, append-nil}
use Rattle.std.specs.Fmt.{decimal}
use Rattle.serde_json.specs.Data.{Data}
use Rattle.luks_rules.specs.declared.table.Outer.TheVariants as outer
use Rattle.luks_rules.specs.Faults.{type_at}
use Rattle.luks_meta.specs.declared.member.Extent.{Extent}
use Rattle.luks_meta.specs.declared.member.Extent.TheVariants.{Fixed, Dynamic}
use Rattle.luks_meta.specs.Says.{extent_field}
use Rattle.luks_show.specs.AllLines.{encryption_line}
use Rattle.luks_show.specs.Texts.{line}
use Rattle.luks_underway.specs.declared.segments.WideKind.{WideKind}
use Rattle.luks_underway.specs.declared.segments.WideKind.TheVariants as wide
use Rattle.luks_underway.specs.declared.segments.WideSegment.{WideSegment}
use Rattle.luks_underway.specs.Segments.{flags_at, TellsWideKind, TellsWideSegment}
use Rattle.luks_underway_show.specs.declared.lines.Lines.{Lines}
use Rattle.luks_underway_show.specs.declared.lines.Lines.TheVariants.{Few, All}
use Rattle.luks_underway_show.specs.RecordLines.{encryption_text, extent_text, further_segment_text, kind_text, members_text, segment_text}
use Rattle.luks_underway_show.specs.SegmentLines.{flags_shown, further_segment_lines, segment_line, segment_lines}
use Rattle.luks_underway_show.specs.Shown.{extent_shown}

kind_told : (d : Data) (k : WideKind) → TellsWideKind d k → type_at d outer.Top ≡ Some (kind_text k)
kind_told d (wide.Crypt e) tells = tells.0
kind_told d wide.Linear tells = tells
kind_told d (wide.HwOpal o) tells = tells.0
kind_told d (wide.HwOpalCrypt o e) tells = tells.0

extent_told : (e : Extent) → extent_text e ≡ extent_shown (Some (extent_field e))
extent_told (Fixed n) = refl
extent_told Dynamic = refl

regrouped : (a n b k c o d s t : List ℕ) → (a ++ n ++ b ++ k) ++ (c ++ o ++ d ++ s ++ t) ≡ a ++ n ++ b ++ k ++ c ++ o ++ d ++ s ++ t
regrouped a n b k c o d s t = simp append_assoc

members_told : (n : ℕ) (d : Data) (s : WideSegment) (flags : Option Data) → TellsWideSegment d s → flags_at d ≡ flags → members_text n s flags ≡ segment_line n d
members_told n d s flags tells has = rw (has, kind_told d s.kind tells.kind, tells.offset, tells.size, ← extent_told s.size) (regrouped (codes "segment ") (decimal n) (codes " ") (kind_text s.kind) (codes " ") (decimal s.offset) (codes " ") (extent_text s.size) (line (flags_shown flags)))

encryption_told : (n : ℕ) (d : Data) (k : WideKind) → TellsWideKind d k → encryption_text n k ≡ further_segment_lines All n d
encryption_told n d (wide.Crypt e) tells = rw (tells.0, tells.1, tells.2, tells.3) (sym (append-nil (encryption_line n e)))
encryption_told n d wide.Linear tells = rw tells refl
encryption_told n d (wide.HwOpal o) tells = let range = tells.1 in rw (tells.0, range.0, range.1, range.2) refl
encryption_told n d (wide.HwOpalCrypt o e) tells =
    let range = tells.1 in
    let by = tells.2 in
    rw (tells.0, range.0, range.1, range.2, by.0, by.1, by.2) refl

further_told : (lines : Lines) (n : ℕ) (d : Data) (k : WideKind) → TellsWideKind d k → further_segment_text lines n k ≡ further_segment_lines lines n d
further_told Few n d k tells = refl
further_told All n d k tells = encryption_told n d k tells

pub segment_told : (lines : Lines) (n : ℕ) (d : Data) (s : WideSegment) (flags : Option Data) → TellsWideSegment d s → flags_at d ≡ flags
    → segment_text lines n s flags ≡ segment_lines lines n d
segment_told lines n d s flags tells has =
    ap₂ (λ xs ys. xs ++ ys) (members_told n d s flags tells has) (further_told lines n d s.kind tells.kind)
