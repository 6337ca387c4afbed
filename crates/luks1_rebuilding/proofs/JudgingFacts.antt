-- The faults that stand with each combination are those of what is given, completed by usable values.
use Rattle.std.proofs.Common.{◌≡◌, ℕ, ◌≤◌, List, Option, Some, None, refl, sym, ap, subst, ◌∙◌, false, unwrap_or, codes, option_map, lit≤}
use Rattle.arrayvec.specs.declared.array_string.ArrayString.{ArrayString}
use Rattle.luks_area.specs.First.{IsLeast}
use Rattle.luks1_header.specs.Bytes.{IsUuid}
use Rattle.luks1_header.specs.Header1.{header_text, key_bytes_of}
use Rattle.luks1_header.specs.Faults.{head_key}
use Rattle.luks1_header.specs.declared.fault.HeadFault.{HeadFault}
use Rattle.luks1_header.specs.declared.fault.HeadFault.TheVariants as head
use Rattle.luks1_header.specs.declared.fault.IterationsOf.TheVariants as of
use Rattle.luks1_header.specs.declared.fault.TextField.{TextField}
use Rattle.luks1_header.specs.declared.fault.TextField.TheVariants.{CipherMode, CipherName, HashSpec, Uuid}
use Rattle.luks1_mending.specs.Taken.{given_text, IsFieldFault, IsName}
use Rattle.luks1_mending.specs.declared.given.Given.{Given}
use Rattle.luks1_rebuilding.proofs.FaultFacts.{field_first, no_header_first, reencrypting_first}
use Rattle.luks1_rebuilding.specs.Outcome.{IsMakingFault, IsReencrypted, LacksHeader}
use Rattle.luks1_rebuilding.specs.RebuildFaults.{field_fault, is_rebuild_failure, rebuild_key}
use Rattle.luks1_rebuilding.specs.declared.rebuild_fault.Rebuild1Fault.{Rebuild1Fault}
use Rattle.luks1_rebuilding.specs.declared.rebuild_fault.Rebuild1Fault.TheVariants.{Counts, Reencrypting, NoHeader, Text, KeyBytes, Iterations, TooSmall, Area, Device}
use Rattle.luks1_rebuilding.specs.TrialFaults.{IsAnsweredTrialFault, IsFaultOfAll, IsGivenLengthUnusable, IsTrialFault, LacksText}
use Rattle.luks1_rebuilding.specs.Tried.{IsUsable}

-- a name that is tried is one
name_is : (text : List ℕ) → IsName text → (given : Option (List ℕ)) (stands : List ℕ) → (taken : Option (List ℕ)) → taken ≡ Some (unwrap_or given text)
    → (IsName (unwrap_or taken stands) → ⊥) → (given ≡ Some (unwrap_or given text)) × (IsName (unwrap_or given text) → ⊥)
name_is text good None stands taken is bad = absurd (bad (subst (λ o. IsName (unwrap_or o stands)) (sym is) good))
name_is text good (Some t) stands taken is bad = (refl, λ name. bad (subst (λ o. IsName (unwrap_or o stands)) (sym is) name))

given_bad : (text : List ℕ) (given : Option (List ℕ)) (stands : List ℕ) (taken : Option (List ℕ)) → taken ≡ Some (unwrap_or given text)
    → (t : List ℕ) → given ≡ Some t → (IsName t → ⊥) → IsName (unwrap_or taken stands) → ⊥
given_bad text given stands taken is t told bad name =
    bad (subst (λ o. IsName (unwrap_or o stands)) (is ∙ ap (λ o. Some (unwrap_or o text)) told) name)

aes_is : IsName (codes "aes")
aes_is = record { plain = refl; some = λ e. cc }

mode_is : IsName (codes "xts-plain64")
mode_is = record { plain = refl; some = λ e. cc }

hash_is : IsName (codes "sha256")
hash_is = record { plain = refl; some = λ e. cc }

module _ (h : List ℕ) (source total : ℕ) (g u : Given) (x : IsUsable g u) where
  abbrev All : Rebuild1Fault → Type 0
  All f = IsFaultOfAll h source g f

  abbrev Own : Rebuild1Fault → Type 0
  Own f = IsMakingFault h source u total f

  text_all : (t : TextField) → IsFieldFault h u (head.Text t) → LacksText h g t
  text_all CipherName bad =
      let y = name_is (codes "aes") aes_is (given_text g CipherName) _ (given_text u CipherName) x.cipher_name bad in
      record { text = unwrap_or (given_text g CipherName) (codes "aes"); given = y.0; bad = y.1 }
  text_all CipherMode bad =
      let y = name_is (codes "xts-plain64") mode_is (given_text g CipherMode) _ (given_text u CipherMode) x.cipher_mode bad in
      record { text = unwrap_or (given_text g CipherMode) (codes "xts-plain64"); given = y.0; bad = y.1 }
  text_all HashSpec bad =
      let y = name_is (codes "sha256") hash_is (given_text g HashSpec) _ (given_text u HashSpec) x.hash bad in
      record { text = unwrap_or (given_text g HashSpec) (codes "sha256"); given = y.0; bad = y.1 }
  text_all Uuid bad =
      subst (λ (o : Option (ArrayString 40)). IsUuid (unwrap_or (option_map (λ t. t.bytes) o) (header_text h Uuid)) → ⊥) x.uuid bad

  text_own : (t : TextField) → LacksText h g t → IsFieldFault h u (head.Text t)
  text_own CipherName bad = given_bad (codes "aes") (given_text g CipherName) (header_text h CipherName) (given_text u CipherName) x.cipher_name bad.text bad.given bad.bad
  text_own CipherMode bad = given_bad (codes "xts-plain64") (given_text g CipherMode) (header_text h CipherMode) (given_text u CipherMode) x.cipher_mode bad.text bad.given bad.bad
  text_own HashSpec bad = given_bad (codes "sha256") (given_text g HashSpec) (header_text h HashSpec) (given_text u HashSpec) x.hash bad.text bad.given bad.bad
  text_own Uuid bad =
      subst (λ (o : Option (ArrayString 40)). IsUuid (unwrap_or (option_map (λ t. t.bytes) o) (header_text h Uuid)) → ⊥) (sym x.uuid) bad

  key_all : IsFieldFault h u head.KeyBytes → IsGivenLengthUnusable g
  key_all bad = length_is g.key_bytes (key_bytes_of h) u.key_bytes x.key_bytes bad refl
    where
      length_is : (given : Option ℕ) (stands : ℕ) (taken : Option ℕ) → taken ≡ Some (unwrap_or given 64)
          → (1 ≤ unwrap_or taken stands → unwrap_or taken stands ≤ 128 → ⊥) → g.key_bytes ≡ given → IsGivenLengthUnusable g
      length_is None stands taken is bad_length told =
          absurd (subst (λ o. 1 ≤ unwrap_or o stands → unwrap_or o stands ≤ 128 → ⊥) is bad_length (lit≤ tt) (lit≤ tt))
      length_is (Some len) stands taken is bad_length told =
          record { len = len; given = told; bad = subst (λ o. 1 ≤ unwrap_or o stands → unwrap_or o stands ≤ 128 → ⊥) is bad_length }

  key_own : IsGivenLengthUnusable g → IsFieldFault h u head.KeyBytes
  key_own bad =
      subst (λ o. 1 ≤ unwrap_or o (key_bytes_of h) → unwrap_or o (key_bytes_of h) ≤ 128 → ⊥) (sym (x.key_bytes ∙ ap (λ o. Some (unwrap_or o 64)) bad.given)) bad.bad

  field_all : (f : HeadFault) → IsFieldFault h u f → All (field_fault f)
  field_all (head.Text t) bad = text_all t bad
  field_all head.KeyBytes bad = key_all bad
  field_all (head.Iterations of.Digest) bad = bad
  field_all (head.Iterations (of.Slot n)) bad = absurd bad
  field_all head.TooShort bad = absurd bad
  field_all head.NotLuks bad = absurd bad
  field_all head.Version bad = absurd bad
  field_all head.NoSoundCopy bad = absurd bad
  field_all head.Uuid bad = absurd bad
  field_all (head.SlotState n) bad = absurd bad
  field_all (head.Stripes n) bad = absurd bad
  field_all head.Device bad = absurd bad
  field_all head.Memory bad = absurd bad

  own : (f : Rebuild1Fault) → All f → Own f
  own Counts bad = absurd bad
  own Reencrypting bad = bad
  own NoHeader bad = bad
  own (Text t) bad = text_own t bad
  own KeyBytes bad = key_own bad
  own Iterations bad = bad
  own TooSmall bad = absurd bad
  own (Area f) bad = absurd bad
  own Device bad = absurd bad

  pub reencrypting : IsReencrypted h source → IsLeast rebuild_key All Reencrypting
  reencrypting still = (let least = reencrypting_first h source u total still in (still, λ e bad. least.1 e (own e bad)))

  pub no_header : (IsReencrypted h source → ⊥) → LacksHeader h source → IsLeast rebuild_key All NoHeader
  no_header still lacks = (let least = no_header_first h source u total still lacks in (lacks, λ e bad. least.1 e (own e bad)))

  module _ (still : IsReencrypted h source → ⊥) (headed : LacksHeader h source → ⊥) where
    pub first : (f : HeadFault) → IsLeast head_key (IsFieldFault h u) f → IsLeast rebuild_key All (field_fault f)
    first f least =
        let of_own = field_first h source u total still headed f least in
        (field_all f least.0, λ e bad. of_own.1 e (own e bad))

    pub none : ((f : HeadFault) → IsFieldFault h u f → ⊥) → (f : Rebuild1Fault) → All f → ⊥
    none fields Counts bad = bad
    none fields Reencrypting bad = still bad
    none fields NoHeader bad = headed bad
    none fields (Text t) bad = fields (head.Text t) (text_own t bad)
    none fields KeyBytes bad = fields head.KeyBytes (key_own bad)
    none fields Iterations bad = fields (head.Iterations of.Digest) bad
    none fields TooSmall bad = bad
    none fields (Area f) bad = bad
    none fields Device bad = bad

-- ---- what is answered

-- a fault that isn't a device's is the first
pub answered : (v : List ℕ) (g : Given) (f : Rebuild1Fault) → is_rebuild_failure f ≡ false → IsLeast rebuild_key (IsTrialFault v g) f → IsAnsweredTrialFault v g f
answered v g Device own least = tt
answered v g Counts own least = least
answered v g Reencrypting own least = least
answered v g NoHeader own least = least
answered v g (Text t) own least = least
answered v g KeyBytes own least = least
answered v g Iterations own least = least
answered v g TooSmall own least = least
answered v g (Area f) own least = least
