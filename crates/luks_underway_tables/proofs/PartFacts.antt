-- The line of a part, by its record.
use Rattle.std.proofs.Common.{◌≡◌, ℕ, ◌/◌, List, [], ◌++◌, codes, true, false, nat_eq, cond, Option, Some, refl, ap, ap₂, ◌∙◌}
use Rattle.serde_json.specs.Data.{Data}
use Rattle.luks_rules.specs.declared.table.Member.TheVariants as name
use Rattle.luks_rules.specs.declared.table.Outer.TheVariants as outer
use Rattle.luks_rules.specs.declared.table.Section.TheVariants.{Segments}
use Rattle.luks_rules.specs.Faults.{member_at, object_at}
use Rattle.luks_rules.specs.Reading.{decimal_in}
use Rattle.luks_meta.specs.declared.member.Extent.{Extent}
use Rattle.luks_meta.specs.declared.member.Extent.TheVariants.{Fixed, Dynamic}
use Rattle.luks_meta.specs.Says.{extent_field}
use Rattle.luks_show.specs.Texts.{line}
use Rattle.luks_underway.specs.declared.segments.WideKind.{WideKind}
use Rattle.luks_underway.specs.declared.segments.WideKind.TheVariants as wide
use Rattle.luks_underway.specs.declared.segments.WideSegment.{WideSegment}
use Rattle.luks_underway.specs.Segments.{TellsWideKind, TellsWideSegment}
use Rattle.luks_underway_show.specs.SegmentLines.{is_crypt}
use Rattle.luks_underway_tables.specs.Parts.{kind_target, length_by_extent, length_of, part_text, sectors_of, target_text}
use Rattle.luks_underway_tables.specs.Table.{crypt_target, length_at, length_by, linear_target, part_line, part_listed, place_text, sectors_in, segment_digest, target}

extent_by : (end start : ℕ) (e : Extent) → length_by_extent end start e ≡ length_by end start (Some (extent_field e))
extent_by end start (Fixed n) = refl
extent_by end start Dynamic = refl

length_told : (end : ℕ) (d : Data) (s : WideSegment) → TellsWideSegment d s → length_of end s ≡ length_at end d
length_told end d s tells = rw (tells.offset, tells.size) (extent_by end s.offset s.size)

pub sectors_told : (end : ℕ) (d : Data) (s : WideSegment) → TellsWideSegment d s → sectors_of end s ≡ sectors_in end d
sectors_told end d s tells = ap₂ (λ b n. cond b 0 (n / 512)) tells.flags.kept_back (length_told end d s tells)

abbrev plain_target : Option ℕ → Data → List ℕ
plain_target key d = cond (is_crypt d) (crypt_target key d) (linear_target d)

kind_told : (key : Option ℕ) (d : Data) (o : ℕ) (k : WideKind) → TellsWideKind d k → decimal_in (member_at d outer.Top name.Offset) ≡ Some o
    → kind_target key (o / 512) k ≡ plain_target key d
kind_told key d o (wide.Crypt e) tells at = rw (tells.0, at, tells.1, tells.2, tells.3) refl
kind_told key d o wide.Linear tells at = rw (tells, at) refl
kind_told key d o (wide.HwOpal p) tells at = rw (tells.0, at) refl
kind_told key d o (wide.HwOpalCrypt p e) tells at = let by = tells.2 in rw (tells.0, at, by.0, by.1, by.2) refl

target_told : (key : Option ℕ) (d : Data) (s : WideSegment) → TellsWideSegment d s → target_text key s ≡ target key d
target_told key d s tells = ap₂ (λ b t. cond b (line (codes "error")) t) tells.flags.hot (kind_told key d s.offset s.kind tells.kind tells.offset)

abbrev line_by : ℕ → ℕ → List ℕ → List ℕ
line_by place n t = cond (nat_eq n 0) [] (place_text place n ++ t)

line_there : (place n : ℕ) (t : List ℕ) → nat_eq n 0 ≡ false → place_text place n ++ t ≡ line_by place n t
line_there place n t some = rw some refl

line_none : (place n : ℕ) (t : List ℕ) → nat_eq n 0 ≡ true → [] ≡ line_by place n t
line_none place n t none = rw none refl

-- of some sectors there is a line, of none there isn't
pub part_told : (end place n : ℕ) (key : Option ℕ) (d : Data) (s : WideSegment) → TellsWideSegment d s → n ≡ sectors_of end s → nat_eq n 0 ≡ false
    → part_text place n key s ≡ part_line end key place d
part_told end place n key d s tells is some =
    line_there place n (target_text key s) some ∙ ap₂ (λ m t. line_by place m t) (is ∙ sectors_told end d s tells) (target_told key d s tells)

pub part_none : (end place n : ℕ) (key : Option ℕ) (d : Data) (s : WideSegment) → TellsWideSegment d s → n ≡ sectors_of end s → nat_eq n 0 ≡ true
    → [] ≡ part_line end key place d
part_none end place n key d s tells is none =
    line_none place n (target key d) none ∙ ap (λ m. line_by place m (target key d)) (is ∙ sectors_told end d s tells)

pub part_there : (end place n : ℕ) (key : Option ℕ) (j : Data) (d : Data) → object_at j Segments n ≡ Some d → key ≡ segment_digest j n
    → part_line end key place d ≡ part_listed end j n place
part_there end place n key j d is of = rw (is, of) refl
