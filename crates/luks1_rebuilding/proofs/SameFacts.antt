-- A combination opens the same, whichever of its texts stand for it.
use Rattle.std.proofs.Common.{◌≡◌, ◌≤◌, ℕ, zero, suc, List, length, Option, Some, None, Result, Ok, Err, IfOk, IfNone, IfSome, option_map, unwrap_or, refl, sym, ap, subst, ◌∙◌}
use Rattle.arrayvec.specs.declared.array_string.ArrayString.{ArrayString}
use Rattle.luks_area.specs.declared.device.DeviceFault.{DeviceFault}
use Rattle.luks1_header.specs.Header1.{header_text, key_bytes_of}
use Rattle.luks1_header.specs.declared.fault.HeadFault.{HeadFault}
use Rattle.luks1_header.specs.declared.fault.HeadFault.TheVariants as head
use Rattle.luks1_header.specs.declared.fault.IterationsOf.TheVariants as of
use Rattle.luks1_header.specs.declared.fault.TextField.{TextField}
use Rattle.luks1_header.specs.declared.fault.TextField.TheVariants.{CipherMode, CipherName, HashSpec, Uuid}
use Rattle.luks1_mending.specs.Kept.{IsKept}
use Rattle.luks1_mending.specs.Made.{IsMade}
use Rattle.luks1_mending.specs.Taken.{given_text, taken_text, IsFieldFault, IsUsable}
use Rattle.luks1_mending.specs.declared.given.Given.{Given}
use Rattle.luks_reading.specs.Answer.{opens}
use Rattle.luks1_rebuilding.specs.KeyAreas.{header_of, key_of}
use Rattle.luks1_rebuilding.specs.Combinations.{IsCombination, IsLengthAt, IsTextAt}
use Rattle.luks1_rebuilding.specs.Openings.{IsFirstSlot, IsOpeningAt, OpensBy, OpensNone, OpensNoneAt}
use Rattle.luks1_rebuilding.specs.Tried.{IsOpeningBy}
use Rattle.luks1_rebuilding.specs.declared.trial.opening.Opening.{Opening}
use Rattle.luks1_rebuilding.proofs.AlikeFacts.{allowed_by, gives_there, refused_there, sectors_by, AreAlike}

-- the two give the same texts and length
record AreSame (c d : Given) : Type 0 where
  pub texts : (t : TextField) → given_text c t ≡ given_text d t
  pub key_bytes : c.key_bytes ≡ d.key_bytes

other_way : (c d : Given) → AreSame c d → AreSame d c
other_way c d x = record { texts = λ t. sym (x.texts t); key_bytes = sym x.key_bytes }

module _ (v : List ℕ) (c d : Given) (x : AreSame c d) where
  taken : (t : TextField) → taken_text (header_of v) c t ≡ taken_text (header_of v) d t
  taken t = ap (λ (o : Option (List ℕ)). unwrap_or o (header_text (header_of v) t)) (x.texts t)

  key : key_of v c ≡ key_of v d
  key = ap (λ (o : Option ℕ). unwrap_or o (key_bytes_of (header_of v))) x.key_bytes

  alike : AreAlike v c d
  alike = record {
    mode = taken_text (header_of v) d CipherMode;
    takes_mode = refl;
    cipher_name = taken CipherName;
    hash = taken HashSpec;
    key_bytes = key;
    alike = λ older name m is. allowed_by older name m (taken_text (header_of v) d CipherMode) (is ∙ taken CipherMode);
    sectors = λ name m is. sectors_by name m (taken_text (header_of v) d CipherMode) (is ∙ taken CipherMode);
  }

  fault_there : (f : HeadFault) → IsFieldFault (header_of v) c f → IsFieldFault (header_of v) d f
  fault_there (head.Text t) bad = λ good. bad (subst (IsUsable t) (sym (taken t)) good)
  fault_there head.KeyBytes bad = subst (λ (k : ℕ). 1 ≤ k → k ≤ 128 → ⊥) key bad
  fault_there (head.Iterations of.Digest) bad = bad
  fault_there (head.Iterations (of.Slot n)) bad = bad
  fault_there head.TooShort bad = bad
  fault_there head.NotLuks bad = bad
  fault_there head.Version bad = bad
  fault_there head.NoSoundCopy bad = bad
  fault_there head.Uuid bad = bad
  fault_there (head.SlotState n) bad = bad
  fault_there (head.Stripes n) bad = bad
  fault_there head.Device bad = bad
  fault_there head.Memory bad = bad

opens_same : (v : List ℕ) (c d : Given) → AreSame c d → (p : List ℕ) (n : ℕ) → OpensBy v c p n → OpensBy v d p n
opens_same v c d x p n y =
    let back = other_way c d x in
    record {
      made = λ f bad. y.made f (fault_there v d c back f bad);
      in_use = record {
        kept = subst (λ (k : ℕ). IsKept (header_of v) k (length v) n) (key v c d x) y.in_use.kept;
        enabled = y.in_use.enabled;
      };
      key = y.key;
      gives = λ older. gives_there (alike v c d x) n older (refused_there (alike v d c back) n older) p (opens y.key) (y.gives older);
    }

-- ---- a combination has one of each

text_once : (h : List ℕ) (t : TextField) (given : Option (List ℕ)) (i : ℕ) (a b : Option (List ℕ)) → IsTextAt h t given i a → IsTextAt h t given i b → a ≡ b
text_once h t given zero a b x y = x ∙ sym y
text_once h t given (suc i) None b x y = absurd x
text_once h t given (suc i) (Some a) None x y = absurd y
text_once h t given (suc i) (Some a) (Some b) x y = sym x.1 ∙ y.1

length_once : (h : List ℕ) (given : Option ℕ) (i : ℕ) (a b : Option ℕ) → IsLengthAt h given i a → IsLengthAt h given i b → a ≡ b
length_once h given zero a b x y = x ∙ sym y
length_once h given (suc i) None b x y = absurd x
length_once h given (suc i) (Some a) None x y = absurd y
length_once h given (suc i) (Some a) (Some b) x y = sym x.1 ∙ y.1

module _ (h : List ℕ) (g : Given) (n : ℕ) (c d : Given) (x : IsCombination h g n c) (y : IsCombination h g n d) where
  text_same : (t : TextField) → given_text c t ≡ given_text d t
  text_same CipherName = text_once h CipherName (given_text g CipherName) _ (given_text c CipherName) (given_text d CipherName) x.cipher_name y.cipher_name
  text_same CipherMode = text_once h CipherMode (given_text g CipherMode) _ (given_text c CipherMode) (given_text d CipherMode) x.cipher_mode y.cipher_mode
  text_same HashSpec = text_once h HashSpec (given_text g HashSpec) _ (given_text c HashSpec) (given_text d HashSpec) x.hash y.hash
  text_same Uuid = ap (λ (o : Option (ArrayString 40)). option_map (λ t. t.bytes) o) (x.uuid ∙ sym y.uuid)

  same : AreSame c d
  same = record { texts = text_same; key_bytes = length_once h g.key_bytes _ c.key_bytes d.key_bytes x.key_bytes y.key_bytes }

-- so where this one opens none, none of its number does
pub none_at : (v : List ℕ) (g : Given) (p : List ℕ) (n : ℕ) (c : Given) → IsCombination (header_of v) g n c → OpensNone v c p → OpensNoneAt v g p n
none_at v g p n c x none d y = record { none = λ m opened. none.none m (opens_same v d c (same (header_of v) g n d c y x) p m opened) }

-- what this one opens, its number does
pub opening_at : (v : List ℕ) (g : Given) (p : List ℕ) (n : ℕ) (c : Given) (o : Opening) → IsCombination (header_of v) g n c → IsOpeningBy v c p o → IsOpeningAt v g p n o
opening_at v g p n c o x y = record {
  combination = subst (IsCombination (header_of v) g n) (sym y.given) x;
  made = subst (λ (q : Given). IsMade (header_of v) (length v) q o.header) (sym y.given) y.made;
  written = y.written;
  opens = subst (λ (q : Given). IsFirstSlot v q p o.slot) (sym y.given) y.opens;
}

module _ (v : List ℕ) (g : Given) (p : List ℕ) (n : ℕ) (c : Given) (x : IsCombination (header_of v) g n c) where
  pub opening_all : (r : Result (Option Opening) DeviceFault) → IfOk r (λ found. IfSome found (IsOpeningBy v c p)) → IfOk r (λ found. IfSome found (IsOpeningAt v g p n))
  opening_all (Ok (Some o)) y = opening_at v g p n c o x y
  opening_all (Ok None) y = tt
  opening_all (Err f) y = tt

  pub none_all : (r : Result (Option Opening) DeviceFault) → IfOk r (λ found. IfNone found (OpensNone v c p)) → IfOk r (λ found. IfNone found (OpensNoneAt v g p n))
  none_all (Ok (Some o)) y = tt
  none_all (Ok None) y = none_at v g p n c x y
  none_all (Err f) y = tt
