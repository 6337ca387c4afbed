-- What a type that is known excludes.
use Rattle.std.proofs.Common.{◌≡◌, ℕ, true, false, List, [], ◌∷◌, Option, Some, None, option_map, option_and_then, codes, nat_lt, if◌then◌else◌, refl, sym, ap, subst, ◌∙◌, inl, inr, arith}
use Rattle.std.proofs.lemmas.Bool.{cases_Bool}
use Rattle.std.proofs.lemmas.Fmt.{decimal_is_IsNumeral}
use Rattle.std.proofs.lemmas.Slice.Eq.{bytes_eq-Decides}
use Rattle.std.proofs.lemmas.Str.Parse.{tells_digits}
use Rattle.std.specs.Int.{IsInRange}
use Rattle.std.specs.Option.{option_map_or}
use Rattle.std.specs.Str.{bytes_eq}
use Rattle.std.specs.Str.Parse.{IsNumeral}
use Rattle.serde_json.specs.Data.{Data}
use Rattle.luks_json.specs.Decimal.{IsDecimal, decimal_of}
use Rattle.luks_json.proofs.Decimals.{decimal_says}
use Rattle.luks_rules.specs.declared.table.Outer.TheVariants as outer
use Rattle.luks_rules.specs.declared.table.Member.TheVariants as name
use Rattle.luks_rules.specs.Accepted.{IsRead}
use Rattle.luks_rules.specs.Faults.{type_at}
use Rattle.luks_rules.specs.Reading.{extent_of, kept, whole}
use Rattle.luks_rules.specs.Table.{keyslot_rows, segment_rows}
use Rattle.luks_underway.specs.Kinds.{is_opal, is_type}
use Rattle.luks_meta.proofs.RowsRead.{at_top, typed, unlisted}

-- an object of the type `reencrypt` doesn't meet the rows of a keyslot
pub not_reencrypt : (d : Data) → true ≡ option_map_or (λ t. bytes_eq t (codes "reencrypt")) (type_at d outer.Top) false → IsRead keyslot_rows d → ⊥
not_reencrypt d is read =
    let kind : type_at d outer.Top ≡ Some (codes "reencrypt") = typed (type_at d outer.Top) (codes "reencrypt") is in
    unlisted (type_at d outer.Top) (codes "luks2" ∷ []) (rw kind refl, tt) (at_top keyslot_rows d name.Kind _ read refl refl refl)

-- `dynamic` is no decimal text: its first byte is no digit
pub no_decimal : (n : ℕ) → decimal_of (codes "dynamic") ≡ Some n → ⊥
no_decimal n e =
    let d : IsDecimal (codes "dynamic") n = decimal_says (codes "dynamic") n e in
    let numeral : IsNumeral 10 (codes "dynamic") = subst (IsNumeral 10) (sym d.digits) (decimal_is_IsNumeral n d.fits).0 in
    let range : IsInRange 48 57 100 = (tells_digits.parts 100 (codes "ynamic") numeral.1).0 in
    absurd (omega (arith, range.1))

pub positive : (m : Option ℕ) (n : ℕ) → option_and_then (kept (λ k. nat_lt 0 k)) m ≡ Some n → m ≡ Some n
positive None n e = e
positive (Some m) n e = elim (cases_Bool (nat_lt 0 m)) [
  | inl above ↦ rw above at e
  | inr zero_is ↦ absurd (let lost : None ≡ Some n = rw zero_is at e in cc)
]

-- the extent of a text that is a decimal one
pub extent_text : (t : List ℕ) (n : ℕ) → decimal_of t ≡ Some n → extent_of t ≡ Some (whole n)
extent_text t n e = elim (cases_Bool (bytes_eq t (codes "dynamic"))) [
  | inl same ↦
      let is : t ≡ codes "dynamic" = (bytes_eq-Decides t (codes "dynamic")).0 same in
      absurd (no_decimal n (ap decimal_of (sym is) ∙ e))
  | inr other ↦ rw (other, e) refl
]

-- the extent of a decimal text above 0
pub sized : (o : Option (List ℕ)) (n : ℕ) → option_and_then (kept (λ k. nat_lt 0 k)) (option_and_then decimal_of o) ≡ Some n → option_and_then extent_of o ≡ Some (whole n)
sized None n e = absurd (cc)
sized (Some t) n e = extent_text t n (positive (decimal_of t) n e)

-- nor does a segment of a disk that encrypts itself meet the rows of a segment
of_other : (d : Data) (k : List ℕ) → is_type d k ≡ true → bytes_eq k (codes "crypt") ≡ false → bytes_eq k (codes "linear") ≡ false → IsRead segment_rows d → ⊥
of_other d k is crypt linear read =
    let kind : type_at d outer.Top ≡ Some k = typed (type_at d outer.Top) k (sym is) in
    unlisted (type_at d outer.Top) (codes "crypt" ∷ codes "linear" ∷ []) (rw (kind, crypt) refl, (rw (kind, linear) refl, tt)) (at_top segment_rows d name.Kind _ read refl refl refl)

pub not_opal : (d : Data) → is_opal d ≡ true → IsRead segment_rows d → ⊥
not_opal d is read = elim (cases_Bool (is_type d (codes "hw-opal"))) [
  | inl hardware ↦ of_other d (codes "hw-opal") hardware refl refl read
  | inr other ↦ of_other d (codes "hw-opal-crypt") (rw other at is) refl refl read
]
