-- A keyslot gives the same by two modes that open alike.
use Rattle.std.proofs.Common.{◌≡◌, ℕ, List, Option, Some, None, Bool, true, false, ◌+◌, ◌-◌, ◌++◌, drop, length, length-append, refl, sym, ap, ◌∙◌, arith, bytes_eq, codes}
use Rattle.std.specs.Borrow.{Bor}
use Rattle.std.proofs.lemmas.Bool.{false_from_ne_true, false≢true}
use Rattle.std.proofs.lemmas.List.{drop_at}
use Rattle.std.proofs.lemmas.Slice.Eq.{bytes_eq-Decides}
use Rattle.luks1_header.specs.declared.fault.TextField.TheVariants.{CipherMode, CipherName, HashSpec}
use Rattle.luks1_mending.specs.Areas.{own_area}
use Rattle.luks1_mending.specs.Taken.{taken_text}
use Rattle.luks1_mending.specs.declared.given.Given.{Given}
use Rattle.luks_slot.specs.Allowance.{without_memory}
use Rattle.luks_slot.specs.Ciphers.{cipher_by as sectors_of, cipher_named, cipher_of, is_size_of, ivs_of_text}
use Rattle.luks_slot.specs.Refusal.{is_allowed_cipher}
use Rattle.luks_slot.specs.declared.plan.AreaCipher.{AreaCipher}
use Rattle.luks_slot.specs.declared.plan.AreaCipher.TheVariants.{Apart, Whole}
use Rattle.luks_slot.specs.declared.plan.Derivation.{Derivation}
use Rattle.luks_slot.specs.declared.plan.Derivation.TheVariants.{Argon2, Pbkdf2}
use Rattle.luks_slot.specs.declared.plan.SlotPlan.{SlotPlan}
use Rattle.luks_reading.specs.Answer.{no_key, opens, refused, Opened}
use Rattle.luks_reading.specs.declared.open_fault.OpenFault.{OpenFault}
use Rattle.luks_reading.specs.declared.open_fault.OpenFault.TheVariants.{Head, Meta, NoSuchSlot, SlotFree, Outside, Slot, Device, Memory}
use Rattle.luks_reading.proofs.SamePlans.{same_answer, same_refusal_within, SameFields}
use Rattle.luks1_rebuilding.specs.Gives.{Gives, GivesKept, IsKeptCipher, IsKeptDerivation, IsKeptPlan, IsRefusedKept}
use Rattle.luks1_rebuilding.specs.KeyAreas.{header_of, key_of}
use Rattle.luks1_rebuilding.specs.Alike.{TakesPlain}

-- the two take the same except for the modes, which open alike
pub record AreAlike (v : List ℕ) (g c : Given) : Type 0 where
  pub mode : List ℕ
  pub takes_mode : taken_text (header_of v) c CipherMode ≡ mode
  pub cipher_name : taken_text (header_of v) g CipherName ≡ taken_text (header_of v) c CipherName
  pub hash : taken_text (header_of v) g HashSpec ≡ taken_text (header_of v) c HashSpec
  pub key_bytes : key_of v g ≡ key_of v c
  pub alike : (older : Bool) (name m : Bor (List ℕ)) → m.now ≡ taken_text (header_of v) g CipherMode → is_allowed_cipher older (Apart name m) ≡ is_allowed_cipher older (Apart name (record m { now = mode }))
  pub sectors : (name m : Bor (List ℕ)) → m.now ≡ taken_text (header_of v) g CipherMode → cipher_of (Apart name m) ≡ cipher_of (Apart name (record m { now = mode }))

-- a plan with the other mode
abbrev pub cipher_by : List ℕ → AreaCipher → AreaCipher
cipher_by mode (Apart name m) = Apart name (record m { now = mode })
cipher_by mode (Whole text) = Whole text

abbrev pub plan_by : List ℕ → SlotPlan → SlotPlan
plan_by mode plan = record plan { cipher = cipher_by mode plan.cipher }

module _ {v : List ℕ} {g c : Given} (x : AreAlike v g c) (n : ℕ) where
  derivation_there : (d : Derivation) → IsKeptDerivation v g n d → IsKeptDerivation v c n d
  derivation_there (Pbkdf2 hash iterations salt) is = (is.0 ∙ x.hash, is.1, is.2)
  derivation_there (Argon2 costs) is = is

  cipher_there : (a : AreaCipher) → IsKeptCipher v g a → IsKeptCipher v c (cipher_by x.mode a)
  cipher_there (Apart name m) is = (is.0 ∙ x.cipher_name, sym x.takes_mode)
  cipher_there (Whole text) is = is

  open_there : (older : Bool) (a : AreaCipher) → IsKeptCipher v g a → is_allowed_cipher older a ≡ is_allowed_cipher older (cipher_by x.mode a)
  open_there older (Apart name m) is = x.alike older name m is.1
  open_there older (Whole text) is = refl

  sectors_there : (a : AreaCipher) → IsKeptCipher v g a → cipher_of a ≡ cipher_of (cipher_by x.mode a)
  sectors_there (Apart name m) is = x.sectors name m is.1
  sectors_there (Whole text) is = refl

  there : (plan : SlotPlan) → IsKeptPlan v g n plan → IsKeptPlan v c n (plan_by x.mode plan)
  there plan is = record {
    derivation = derivation_there plan.derivation is.derivation;
    cipher = cipher_there plan.cipher is.cipher;
    area = is.area ∙ ap (λ k. own_area (header_of v) k n) x.key_bytes;
    area_key_bytes = is.area_key_bytes ∙ x.key_bytes;
    key_bytes = is.key_bytes ∙ x.key_bytes;
    stripes = is.stripes;
    splitter_hash = is.splitter_hash ∙ x.hash;
    digest = record {
      hash = is.digest.hash ∙ x.hash;
      iterations = is.digest.iterations;
      salt = is.digest.salt;
      stored = is.digest.stored;
    };
  }

  fields : (plan : SlotPlan) → IsKeptPlan v g n plan → SameFields plan (plan_by x.mode plan)
  fields plan is = record {
    argon2 = refl;
    argon2_refused = λ memory. refl;
    known = λ older. refl;
    key = λ m p. refl;
    cipher = λ older. open_there older plan.cipher is.cipher;
    sector_cipher = sectors_there plan.cipher is.cipher;
    key_size = λ size. ap (λ c. is_size_of c size) (sectors_there plan.cipher is.cipher);
    start = refl;
    len = refl;
    area_key_bytes = refl;
    key_bytes = refl;
    stripes = refl;
    splitter_hash = refl;
    digest_hash = refl;
    digest_iterations = refl;
    digest_salt = refl;
    digest_stored = refl;
  }

  pub refused_there : (older : Bool) (f : OpenFault) → IsRefusedKept older v g n f → IsRefusedKept older v c n f
  refused_there older (Head f) y = y
  refused_there older (Meta f) y = y
  refused_there older NoSuchSlot y = y
  refused_there older SlotFree y = y
  refused_there older Outside y = y
  refused_there older (Slot f) y = record {
    plan = plan_by x.mode y.plan;
    is = there y.plan y.is;
    refused = sym (same_refusal_within (without_memory older) y.plan (plan_by x.mode y.plan) (fields y.plan y.is)) ∙ y.refused;
  }
  refused_there older Device y = y
  refused_there older Memory y = y

  pub key_there : (older : Bool) (back : (f : OpenFault) → IsRefusedKept older v c n f → IsRefusedKept older v g n f) (p : List ℕ) (found : Option (List ℕ)) → GivesKept older v g n p found → GivesKept older v c n p found
  key_there older back p found y = record {
    plan = plan_by x.mode y.plan;
    is = there y.plan y.is;
    unrefused = λ f bad. y.unrefused f (back f bad);
    key = sym (same_answer y.plan (plan_by x.mode y.plan) v p (fields y.plan y.is)) ∙ y.key;
  }

  pub gives_there : (older : Bool) (back : (f : OpenFault) → IsRefusedKept older v c n f → IsRefusedKept older v g n f) (p : List ℕ) (a : Opened) → Gives older v g n p a → Gives older v c n p a
  gives_there older back p (refused f) y = (refused_there older f y.0, λ e bad. y.1 e (back e bad))
  gives_there older back p (opens k) y = key_there older back p (Some k) y
  gives_there older back p no_key y = key_there older back p None y

-- ---- `xts-plain` and `xts-plain64` do

-- a text that ends in another way isn't this one
other_end : (name ys zs : List ℕ) → bytes_eq ys (drop (length zs - length ys) zs) ≡ false → bytes_eq (name ++ ys) zs ≡ false
other_end name ys zs other = false_from_ne_true (bytes_eq (name ++ ys) zs) (λ same. false≢true (sym other ∙ (bytes_eq-Decides ys (drop (length zs - length ys) zs)).1 (end same)))
  where
    end : bytes_eq (name ++ ys) zs ≡ true → ys ≡ drop (length zs - length ys) zs
    end same =
        let is : name ++ ys ≡ zs = (bytes_eq-Decides (name ++ ys) zs).0 same in
        let long : length zs ≡ length name + length ys = sym (ap length is) ∙ length-append name ys in
        let size : length name ≡ length zs - length ys = omega (arith, long) in
        sym (drop_at name ys (length zs - length ys) size) ∙ ap (drop (length zs - length ys)) is

-- so a name with such a mode isn't a cipher of older disks
xts_by : (name ys : List ℕ) → bytes_eq ys (drop (20 - length ys) (codes "aes-cbc-essiv:sha256")) ≡ false → bytes_eq ys (drop (13 - length ys) (codes "aes-cbc-plain")) ≡ false
    → bytes_eq ys (drop (15 - length ys) (codes "aes-cbc-plain64")) ≡ false → ivs_of_text (name ++ ys) ≡ None
xts_by name ys essiv plain plain64 =
    let first = other_end name ys (codes "aes-cbc-essiv:sha256") essiv in
    let second = other_end name ys (codes "aes-cbc-plain") plain in
    let third = other_end name ys (codes "aes-cbc-plain64") plain64 in
    simp (first, second, third)

whole_named : (name : List ℕ) → ivs_of_text (name ++ codes "-" ++ codes "xts-plain64") ≡ None
whole_named name = xts_by (name ++ codes "-") (codes "xts-plain64") refl refl refl

low_named : (name : List ℕ) → ivs_of_text (name ++ codes "-" ++ codes "xts-plain") ≡ None
low_named name = xts_by (name ++ codes "-") (codes "xts-plain") refl refl refl

-- the texts decide
pub allowed_by : (older : Bool) (name m : Bor (List ℕ)) (text : List ℕ) → m.now ≡ text → is_allowed_cipher older (Apart name m) ≡ is_allowed_cipher older (Apart name (record m { now = text }))
allowed_by older name m text is = ap (λ t. is_allowed_cipher older (Apart name (record m { now = t }))) is

alike_by : (older : Bool) (name m : Bor (List ℕ)) → is_allowed_cipher older (Apart name (record m { now = codes "xts-plain64" })) ≡ is_allowed_cipher older (Apart name (record m { now = codes "xts-plain" }))
alike_by false name m = refl
alike_by true name m = refl

pub sectors_by : (name m : Bor (List ℕ)) (text : List ℕ) → m.now ≡ text → cipher_of (Apart name m) ≡ cipher_named (name.now ++ codes "-" ++ text)
sectors_by name m text is = ap (λ t. cipher_named (name.now ++ codes "-" ++ t)) is

to_whole : (v : List ℕ) (whole low : Given) → TakesPlain v whole low → AreAlike v low whole
to_whole v whole low x = record {
  mode = codes "xts-plain64";
  takes_mode = x.whole_mode;
  cipher_name = x.cipher_name;
  hash = x.hash;
  key_bytes = x.key_bytes;
  alike = λ older name m is. allowed_by older name m (codes "xts-plain") (is ∙ x.low_mode) ∙ sym (alike_by older name m);
  sectors = λ name m is. sectors_by name m (codes "xts-plain") (is ∙ x.low_mode) ∙ ap sectors_of (low_named name.now ∙ sym (whole_named name.now));
}

to_low : (v : List ℕ) (whole low : Given) → TakesPlain v whole low → AreAlike v whole low
to_low v whole low x = record {
  mode = codes "xts-plain";
  takes_mode = x.low_mode;
  cipher_name = sym x.cipher_name;
  hash = sym x.hash;
  key_bytes = sym x.key_bytes;
  alike = λ older name m is. allowed_by older name m (codes "xts-plain64") (is ∙ x.whole_mode) ∙ alike_by older name m;
  sectors = λ name m is. sectors_by name m (codes "xts-plain64") (is ∙ x.whole_mode) ∙ ap sectors_of (whole_named name.now ∙ sym (low_named name.now));
}

pub low_gives : (v : List ℕ) (whole low : Given) → TakesPlain v whole low → (older : Bool) (n : ℕ) (p : List ℕ) (a : Opened) → Gives older v low n p a → Gives older v whole n p a
low_gives v whole low x older n p a = gives_there (to_whole v whole low x) n older (refused_there (to_low v whole low x) n older) p a

pub whole_gives : (v : List ℕ) (whole low : Given) → TakesPlain v whole low → (older : Bool) (n : ℕ) (p : List ℕ) (a : Opened) → Gives older v whole n p a → Gives older v low n p a
whole_gives v whole low x older n p a = gives_there (to_low v whole low x) n older (refused_there (to_whole v whole low x) n older) p a
