-- Which copy counts of a volume where copies were written anew.
use Rattle.std.proofs.Common.{◌≡◌, ℕ, ◌≤◌, List, length, refl, sym, ap, subst, ◌∙◌, arith}
use Rattle.serde_json.specs.Data.{Data as Value}
use Rattle.luks_area.proofs.RangeFacts.{part-part}
use Rattle.luks1_header.specs.Header1.{version_of}
use Rattle.luks2_header.specs.Header2.{hdr_size, header_at, seqid, IsSound}
use Rattle.luks2_header.specs.Selection.{luks2, Chosen, IsNotVersion1}
use Rattle.luks2_header.specs.declared.selection.Copies.TheVariants.{InStep}
use Rattle.luks_edit.specs.declared.edit.Edit.{Edit}
use Rattle.luks2_edit_laws.specs.Copies.{IsRenewed}

-- a sound first copy says version 2
pub first_version : (w : List ℕ) → IsSound w 0 → version_of w ≡ 2
first_version w sound = let says = sound.form.version in (rw (part-part w 0 4096 6 2 (omega arith)) at says)

-- so a volume that is long enough has no LUKS1 header
pub not_version1 : (w : List ℕ) → 592 ≤ length w → IsSound w 0 → IsNotVersion1 w
not_version1 w long sound = record {
  long = long;
  other = λ magic one. (let two : version_of w ≡ 2 = first_version w sound in absurd (omega (arith, one, two)));
}

-- both copies written anew are in step
pub both_chosen : (v w : List ℕ) (o : ℕ) (e : Edit) (random : List ℕ) (j : Value) → 592 ≤ length w
    → IsRenewed v o e random j w 0 → IsRenewed v o e random j w (hdr_size (header_at v o)) → Chosen w (luks2 0 InStep)
both_chosen v w o e random j long first second = (
  not_version1 w long first.sound,
  (
    record { first = first.sound; second = subst (IsSound w) (sym first.size) second.sound },
    first.number ∙ sym second.number ∙ sym (ap (λ q. seqid (header_at w q)) first.size),
    refl,
  ),
)
