-- The fields of a LUKS1 header before its keyslots, where nothing is given.
use Rattle.std.proofs.Common.{◌≡◌, ℕ, ◌≤◌, List, option_map, unwrap_or, sym, ap, subst, arith}
use Rattle.luks1_header.specs.Header1.{header_text, key_bytes_of, mk_digest_iterations_of}
use Rattle.luks1_header.specs.declared.fault.HeadFault.{HeadFault}
use Rattle.luks1_header.specs.declared.fault.HeadFault.TheVariants as fault
use Rattle.luks1_header.specs.declared.fault.IterationsOf.TheVariants as of
use Rattle.luks1_header.specs.declared.fault.TextField.{TextField}
use Rattle.luks1_header.specs.declared.fault.TextField.TheVariants as field
use Rattle.luks1_header.specs.declared.luks1.Luks1.{Luks1}
use Rattle.luks1_mending.specs.Made.{IsMade}
use Rattle.luks1_mending.specs.Taken.{taken_key_bytes, taken_text, IsFieldFault, IsNothing, IsUsable}
use Rattle.luks1_mending.specs.declared.given.Given.{Given}
use Rattle.luks_finding.specs.Starts.{IsUsableHead}

-- what stands is taken
text-stands : (h : List ℕ) (g : Given) (t : TextField) → IsNothing g → taken_text h g t ≡ header_text h t
text-stands h g field.CipherName none = ap (λ o. unwrap_or (option_map (λ t. t.bytes) o) (header_text h field.CipherName)) none.cipher_name
text-stands h g field.CipherMode none = ap (λ o. unwrap_or (option_map (λ t. t.bytes) o) (header_text h field.CipherMode)) none.cipher_mode
text-stands h g field.HashSpec none = ap (λ o. unwrap_or (option_map (λ t. t.bytes) o) (header_text h field.HashSpec)) none.hash
text-stands h g field.Uuid none = ap (λ o. unwrap_or (option_map (λ t. t.bytes) o) (header_text h field.Uuid)) none.uuid

key-stands : (h : List ℕ) (g : Given) → IsNothing g → taken_key_bytes h g ≡ key_bytes_of h
key-stands h g none = ap (λ o. unwrap_or o (key_bytes_of h)) none.key_bytes

-- a header is made of usable fields
pub made-usable : (h : List ℕ) (total : ℕ) (g : Given) (d : Luks1) → IsNothing g → IsMade h total g d → IsUsableHead h
made-usable h total g d none made = record {
  texts = λ t. subst (IsUsable t) (text-stands h g t none) (made.common.usable t);
  key_at_least = subst (λ (n : ℕ). 1 ≤ n) (key-stands h g none) made.common.key_at_least;
  key_at_most = subst (λ (n : ℕ). n ≤ 128) (key-stands h g none) made.common.key_at_most;
  iterated = λ zeros. let some : 1 ≤ mk_digest_iterations_of h = made.common.iterated in omega (arith, some, zeros);
}

-- and these have no fault
pub usable-faultless : (h : List ℕ) (g : Given) (f : HeadFault) → IsNothing g → IsUsableHead h → IsFieldFault h g f → ⊥
usable-faultless h g (fault.Text t) none usable is = is (subst (IsUsable t) (sym (text-stands h g t none)) (usable.texts t))
usable-faultless h g fault.KeyBytes none usable is =
    is (subst (λ (n : ℕ). 1 ≤ n) (sym (key-stands h g none)) usable.key_at_least) (subst (λ (n : ℕ). n ≤ 128) (sym (key-stands h g none)) usable.key_at_most)
usable-faultless h g (fault.Iterations of.Digest) none usable is = usable.iterated is
usable-faultless h g f none usable is = is
