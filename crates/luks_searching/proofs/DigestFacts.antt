-- A header whose digest alone is another: what its keyslots give stays the same.
use Rattle.std.proofs.Common.{◌≡◌, ℕ, ◌+◌, ◌-◌, ◌*◌, ◌<◌, ◌≤◌, ◌==◌, ◌&&◌, List, length, min, Bool, true, false, Some, None, unwrap_or, inl, inr, refl, sym, ap, subst, ◌∙◌, arith, if◌then◌else◌, bytes_eq}
use Rattle.std.proofs.lemmas.Bool.{cases_eq}
use Rattle.std.proofs.lemmas.Slice.Eq.{bytes_eq-Decides}
use Rattle.byteorder.specs.Endian.{big_number}
use Rattle.luks_area.specs.Area.{IsInside}
use Rattle.luks_area.specs.Ranges.{part, written, IsAt, SameBut}
use Rattle.luks_area.specs.Text.{text_of}
use Rattle.luks_area.specs.declared.area.Area.{Area}
use Rattle.luks_area.proofs.RangeFacts.{length-part, length-part_inside, part-same_but_at, part-written, same_but-same, same_but-same_outside, same_outside-written}
use Rattle.luks1_header.specs.Faults.{IsEntryFault}
use Rattle.luks1_header.specs.Header1.{active_word, enabled_word, entry, entry_iterations, entry_key_material_offset, entry_salt, entry_stripes, header_text, mk_digest_iterations_of, mk_digest_of, mk_digest_salt_of}
use Rattle.luks1_header.specs.declared.fault.HeadFault.{HeadFault}
use Rattle.luks1_header.specs.declared.fault.HeadFault.TheVariants as head
use Rattle.luks1_header.specs.declared.fault.IterationsOf.TheVariants as of
use Rattle.luks1_header.specs.declared.fault.TextField.{TextField}
use Rattle.luks1_header.specs.declared.fault.TextField.TheVariants as field
use Rattle.luks1_mending.specs.Areas.{own_area, stripes_area, usual_sector, usual_stripes}
use Rattle.luks1_mending.specs.Kept.{rank, AreKept, ComesBefore, IsBeforeAndMeets, IsKept, IsSound}
use Rattle.luks1_mending.specs.Taken.{given_text, taken_key_bytes, taken_text, IsFieldFault, IsUsable}
use Rattle.luks1_mending.specs.declared.given.Given.{Given}
use Rattle.luks1_mending.proofs.KeptFacts.{meet_as, sound_of}
use Rattle.luks_slot.specs.Distance.{differing_bits, digest_of, slot_digest, IsButDigest}
use Rattle.luks_slot.specs.Opening.{area_key, candidate, derived, meets_digest, slot_key, stripes_in}
use Rattle.luks_slot.proofs.DistanceFacts.{met_bits, unmet_bits}
use Rattle.luks_slot.proofs.InPlaceFacts.{opens_in_place}
use Rattle.luks_slot.specs.declared.plan.AreaCipher.{AreaCipher}
use Rattle.luks_slot.specs.declared.plan.AreaCipher.TheVariants.{Apart, Whole}
use Rattle.luks_slot.specs.declared.plan.Derivation.{Derivation}
use Rattle.luks_slot.specs.declared.plan.Derivation.TheVariants.{Argon2, Pbkdf2}
use Rattle.luks_slot.specs.declared.plan.SlotPlan.{SlotPlan}
use Rattle.luks_reading.specs.declared.open_fault.OpenFault.{OpenFault}
use Rattle.luks_reading.specs.declared.open_fault.OpenFault.TheVariants.{Head, Meta, NoSuchSlot, SlotFree, Outside, Slot, Device, Memory}
use Rattle.luks1_rebuilding.specs.Gives.{IsKeptCipher, IsKeptDerivation, IsKeptPlan, IsRefusedKept}
use Rattle.luks1_rebuilding.specs.Headed.{headed}
use Rattle.luks1_rebuilding.specs.KeyAreas.{header_of, key_of, IsKeptInUse}
use Rattle.luks1_rebuilding.proofs.HeadedFacts.{area_is, header_is, length_is}
use Rattle.luks_searching.specs.Found1.{few_bits, HasDigestOf, HasNone1, HasNoneOf, IsChanged1, IsFoundOf, OpensNoneBut, OpensNoneIn}
use Rattle.luks_searching.specs.Headed.{GivesDigest, GivesNoDigest, GivesOneDigest, IsCheap, OpensHeaded}
use Rattle.luks_searching.specs.declared.fields1.Field.{Field}
use Rattle.luks_searching.specs.declared.searching1.Change1.TheVariants as change
use Rattle.luks_searching.specs.declared.searching1.Found1.{Found1}
use Rattle.luks_trials.specs.Trials.{most_stripes, most_turns}

pub but_back : {T : ℕ → Type 0} {h i : List ℕ} → SameBut T h i → SameBut T i h
but_back x = record { length_same = sym x.length_same; each = λ p apart. sym (x.each p apart) }

-- ---- the fields beside the digest

module _ (h i : List ℕ) (same : SameBut (IsAt 112 20) h i) where
  before : (at len : ℕ) → at + len ≤ 112 → part i at len ≡ part h at len
  before at len low = part-same_but_at {v = h} {w = i} 112 20 at len same (inl low)

  behind : (at len : ℕ) → 132 ≤ at → part i at len ≡ part h at len
  behind at len high = part-same_but_at {v = h} {w = i} 112 20 at len same (inr high)

  pub entry_is : (n : ℕ) → entry i n ≡ entry h n
  entry_is n = behind (208 + 48 * n) 48 (omega arith)

  text_is : (t : TextField) → header_text i t ≡ header_text h t
  text_is field.CipherName = ap text_of (before 8 32 (omega arith))
  text_is field.CipherMode = ap text_of (before 40 32 (omega arith))
  text_is field.HashSpec = ap text_of (before 72 32 (omega arith))
  text_is field.Uuid = ap text_of (behind 168 40 (omega arith))

  taken_is : (g : Given) (t : TextField) → taken_text i g t ≡ taken_text h g t
  taken_is g t = ap (λ x. unwrap_or (given_text g t) x) (text_is t)

  pub key_is : (g : Given) → taken_key_bytes i g ≡ taken_key_bytes h g
  key_is g = ap (λ (x : List ℕ). unwrap_or g.key_bytes (big_number 4 x)) (before 108 4 (omega arith))

  salt_is : mk_digest_salt_of i ≡ mk_digest_salt_of h
  salt_is = behind 132 32 (omega arith)

  pub turns_is : mk_digest_iterations_of i ≡ mk_digest_iterations_of h
  turns_is = ap (big_number 4) (behind 164 4 (omega arith))

  pub fault_is : (g : Given) (f : HeadFault) → IsFieldFault i g f → IsFieldFault h g f
  fault_is g (head.Text t) bad = λ usable. bad (subst (IsUsable t) (sym (taken_is g t)) usable)
  fault_is g head.KeyBytes bad = λ low high. bad (subst (λ (k : ℕ). 1 ≤ k) (sym (key_is g)) low) (subst (λ (k : ℕ). k ≤ 128) (sym (key_is g)) high)
  fault_is g (head.Iterations of.Digest) bad = sym turns_is ∙ bad
  fault_is g (head.Iterations (of.Slot n)) bad = bad
  fault_is g head.TooShort bad = bad
  fault_is g head.NotLuks bad = bad
  fault_is g head.Version bad = bad
  fault_is g head.NoSoundCopy bad = bad
  fault_is g head.Uuid bad = bad
  fault_is g (head.SlotState n) bad = bad
  fault_is g (head.Stripes n) bad = bad
  fault_is g head.Device bad = bad
  fault_is g head.Memory bad = bad

  pub cheap_is : (n : ℕ) → IsCheap h n → IsCheap i n
  cheap_is n x = record {
    digest = subst (λ (m : ℕ). m ≤ most_turns) (sym turns_is) x.digest;
    iterations = subst (λ (e : List ℕ). entry_iterations e ≤ most_turns) (sym (entry_is n)) x.iterations;
    stripes = subst (λ (e : List ℕ). entry_stripes e ≤ most_stripes) (sym (entry_is n)) x.stripes;
  }

  -- ---- which keyslots are kept

  own_is : (k n : ℕ) → own_area i k n ≡ own_area h k n
  own_is k n = ap (λ (e : List ℕ). stripes_area k (entry_key_material_offset e) (entry_stripes e)) (entry_is n)

  rank_is : (k n : ℕ) → rank i k n ≡ rank h k n
  rank_is k n = ap (λ (e : List ℕ).
      (if active_word e == enabled_word then 0 else 2)
      + (if (entry_key_material_offset e == usual_sector k n) && (entry_stripes e == usual_stripes) then 0 else 1)) (entry_is n)

  sound_is : (k total n : ℕ) → IsSound h k total n → IsSound i k total n
  sound_is k total n x = record {
    numbered = x.numbered;
    faultless = λ f bad. x.faultless f (subst (λ (e : List ℕ). IsEntryFault n e f) (entry_is n) bad);
    behind = subst (λ (a : Area). 592 ≤ a.start) (sym (own_is k n)) x.behind;
    inside = subst (λ (a : Area). IsInside a total) (sym (own_is k n)) x.inside;
  }

  comes_is : (k m n : ℕ) → ComesBefore h k m n → ComesBefore i k m n
  comes_is k m n (inl lt) = inl (subst (λ (r : ℕ). r < rank i k n) (sym (rank_is k m)) (subst (λ (r : ℕ). rank h k m < r) (sym (rank_is k n)) lt))
  comes_is k m n (inr (e, lt)) = inr (rank_is k m ∙ e ∙ sym (rank_is k n), lt)

  meets_is : (k m n : ℕ) → IsBeforeAndMeets h k m n → IsBeforeAndMeets i k m n
  meets_is k m n x = record {
    before = comes_is k m n x.before;
    meet = meet_as (own_area h k m) (own_area h k n) (own_area i k m) (own_area i k n) (sym (own_is k m)) (sym (own_is k n)) x.meet;
  }

module _ (h i : List ℕ) (same : SameBut (IsAt 112 20) h i) (k total : ℕ) where
  kept_set_is : (kept : ℕ → Bool) → AreKept h k total kept → AreKept i k total kept
  kept_set_is kept x = record {
    sound = λ n on. sound_is h i same k total n (x.sound n on);
    apart = λ m n other one two meet.
        x.apart m n other one two (meet_as (own_area i k m) (own_area i k n) (own_area h k m) (own_area h k n) (own_is h i same k m) (own_is h i same k n) meet);
    rest = λ n sound off. (let first = x.rest n (sound_is i h (but_back same) k total n sound) off in (first.0, (first.1.0, meets_is h i same k first.0 n first.1.1)));
  }

  pub kept_is : (n : ℕ) → IsKept h k total n → IsKept i k total n
  kept_is n x = record { kept = x.kept; are = kept_set_is x.kept x.are; this = x.this }

-- ---- plans

-- the plan with this digest stored
abbrev pub with_stored : SlotPlan → List ℕ → SlotPlan
with_stored plan bytes = record plan { digest = record plan.digest { stored = record plan.digest.stored { now = bytes } } }

-- what the stripes give is the same
pub stored_gives : (plan : SlotPlan) (bytes area p : List ℕ) → length bytes ≡ length plan.digest.stored.now → slot_digest (with_stored plan bytes) area p ≡ slot_digest plan area p
unfolding slot_digest digest_of candidate area_key stripes_in
stored_gives plan bytes area p long = rw long refl

-- of two volumes whose headers are alike
module _ (v w : List ℕ) (g : Given) (same : SameBut (IsAt 112 20) (header_of v) (header_of w)) where
  derivation_is : (n : ℕ) (d : Derivation) → IsKeptDerivation v g n d → IsKeptDerivation w g n d
  derivation_is n (Pbkdf2 hash iterations salt) x = (
    x.0 ∙ sym (taken_is (header_of v) (header_of w) same g field.HashSpec),
    x.1 ∙ ap entry_iterations (sym (entry_is (header_of v) (header_of w) same n)),
    x.2 ∙ ap entry_salt (sym (entry_is (header_of v) (header_of w) same n)),
  )
  derivation_is n (Argon2 costs) x = x

  cipher_is : (c : AreaCipher) → IsKeptCipher v g c → IsKeptCipher w g c
  cipher_is (Apart one mode) x = (
    x.0 ∙ sym (taken_is (header_of v) (header_of w) same g field.CipherName),
    x.1 ∙ sym (taken_is (header_of v) (header_of w) same g field.CipherMode),
  )
  cipher_is (Whole text) x = x

  pub plan_is : (n : ℕ) (plan : SlotPlan) → IsKeptPlan v g n plan → IsKeptPlan w g n (with_stored plan (mk_digest_of (header_of w)))
  plan_is n plan x =
      let h : List ℕ = header_of v in
      let i : List ℕ = header_of w in
      let key = sym (key_is h i same g) in
      record {
        derivation = derivation_is n plan.derivation x.derivation;
        cipher = cipher_is plan.cipher x.cipher;
        area = x.area ∙ sym (own_is h i same (key_of v g) n) ∙ ap (λ (k : ℕ). own_area i k n) key;
        area_key_bytes = x.area_key_bytes ∙ key;
        key_bytes = x.key_bytes ∙ key;
        stripes = x.stripes ∙ ap entry_stripes (sym (entry_is h i same n));
        splitter_hash = x.splitter_hash ∙ sym (taken_is h i same g field.HashSpec);
        digest = record {
          hash = x.digest.hash ∙ sym (taken_is h i same g field.HashSpec);
          iterations = x.digest.iterations ∙ sym (turns_is h i same);
          salt = x.digest.salt ∙ sym (salt_is h i same);
          stored = refl;
        };
      }

  pub in_use_is : (n : ℕ) → length w ≡ length v → IsKeptInUse v g n → IsKeptInUse w g n
  in_use_is n long x = record {
    kept = subst (λ (total : ℕ). IsKept (header_of w) (key_of w g) total n) (sym long)
        (subst (λ (k : ℕ). IsKept (header_of w) k (length v) n) (sym (key_is (header_of v) (header_of w) same g))
        (kept_is (header_of v) (header_of w) same (key_of v g) (length v) n x.kept));
    enabled = ap active_word (entry_is (header_of v) (header_of w) same n) ∙ x.enabled;
  }

-- a plan is refused alike, whatever digest is stored
module _ (v w : List ℕ) (g : Given) (same : SameBut (IsAt 112 20) (header_of v) (header_of w)) (n : ℕ) where
  pub refused_is : (older : Bool) (f : OpenFault) → IsRefusedKept older v g n f → IsRefusedKept older w g n f
  refused_is older (Head f) bad = bad
  refused_is older (Meta f) bad = bad
  refused_is older NoSuchSlot bad = bad
  refused_is older SlotFree bad = bad
  refused_is older Outside bad = bad
  refused_is older (Slot f) bad = record { plan = with_stored bad.plan (mk_digest_of (header_of w)); is = plan_is v w g same n bad.plan bad.is; refused = bad.refused }
  refused_is older Device bad = bad
  refused_is older Memory bad = bad

-- ---- what a keyslot gives

module _ (v h i : List ℕ) (long : length h ≡ 592) (room : 592 ≤ length v) (same : SameBut (IsAt 112 20) h i) (g : Given) (p : List ℕ) (n : ℕ) where
  long_there : length i ≡ 592
  long_there = same.length_same ∙ long

  headers : SameBut (IsAt 112 20) (header_of (headed v h)) (header_of (headed v i))
  headers = subst (λ (x : List ℕ). SameBut (IsAt 112 20) x (header_of (headed v i))) (sym (header_is v h long)) (subst (SameBut (IsAt 112 20) h) (sym (header_is v i long_there)) same)

  lengths : length (headed v i) ≡ length (headed v h)
  lengths = length_is v i long_there room ∙ sym (length_is v h long room)

  digests : (plan : SlotPlan) → plan.digest.stored.now ≡ mk_digest_of (header_of (headed v h)) → length (mk_digest_of (header_of (headed v i))) ≡ length plan.digest.stored.now
  digests plan is =
      length-part (header_of (headed v i)) 112 20 ∙ ap (λ (m : ℕ). min 20 (m - 112)) headers.length_same
      ∙ sym (length-part (header_of (headed v h)) 112 20) ∙ ap length (sym is)

  pub gives_alike : (digest : List ℕ) → GivesDigest v h g p n digest → GivesDigest v i g p n digest
  gives_alike digest x =
      let start : ℕ = x.plan.area.start in
      let len : ℕ = x.plan.area.len in
      let first = (sound_of (header_of (headed v h)) (key_of (headed v h) g) (length (headed v h)) n x.in_use.kept).behind in
      let behind : 592 ≤ start = subst (λ (a : Area). 592 ≤ a.start) (sym x.is.area) first in
      record {
        cheap = cheap_is h i same n x.cheap;
        made = λ f bad. x.made f (fault_is (header_of (headed v h)) (header_of (headed v i)) headers g f bad);
        in_use = in_use_is (headed v h) (headed v i) g headers n lengths x.in_use;
        plan = with_stored x.plan (mk_digest_of (header_of (headed v i)));
        is = plan_is (headed v h) (headed v i) g headers n x.plan x.is;
        unrefused = λ older f bad. x.unrefused older f (refused_is (headed v i) (headed v h) g (but_back headers) n older f bad);
        gives =
            x.gives ∙ ap (λ (a : List ℕ). slot_digest x.plan a p) (area_is v h long start len behind ∙ sym (area_is v i long_there start len behind))
            ∙ sym (stored_gives x.plan (mk_digest_of (header_of (headed v i))) (part (headed v i) start len) p (digests x.plan x.is.digest.stored));
      }

-- ---- a keyslot opens where its header stores what it gives

-- what is answered where a test holds
if_some : (t : Bool) (k key : List ℕ) → (if t then Some k else None) ≡ Some key → t ≡ true
if_some true k key is = refl
if_some false k key is = absurd (cc)

-- what a keyslot gives that opens is what is stored
pub stored_is : (plan : SlotPlan) (area p key : List ℕ) → slot_key plan area p ≡ Some key → plan.digest.stored.now ≡ slot_digest plan area p
unfolding slot_key meets_digest slot_digest digest_of
stored_is plan area p key is =
    let k : List ℕ = candidate plan area p in
    sym ((bytes_eq-Decides (derived plan.digest.hash.now k plan.digest.salt.now plan.digest.iterations (length plan.digest.stored.now)) plan.digest.stored.now).0
    (if_some (bytes_eq (derived plan.digest.hash.now k plan.digest.salt.now plan.digest.iterations (length plan.digest.stored.now)) plan.digest.stored.now) k key is))

own_plan : (plan : SlotPlan) → IsButDigest plan plan
own_plan plan = record {
  derivation = refl;
  cipher = refl;
  area_key_bytes = refl;
  key_bytes = refl;
  stripes = refl;
  splitter_hash = refl;
  hash = refl;
  iterations = refl;
  salt = refl;
  long = refl;
}

module _ (v h : List ℕ) (long : length h ≡ 592) (g : Given) (p : List ℕ) (n : ℕ) where
  own : mk_digest_of (header_of (headed v h)) ≡ mk_digest_of h
  own = ap mk_digest_of (header_is v h long)

  pub gives_stored : OpensHeaded v h g p n → GivesDigest v h g p n (mk_digest_of h)
  gives_stored x =
      let gives = x.opens.gives false in
      record {
        cheap = x.cheap;
        made = x.opens.made;
        in_use = x.opens.in_use;
        plan = gives.plan;
        is = gives.is;
        unrefused = λ older. (x.opens.gives older).unrefused;
        gives = sym own ∙ sym gives.is.digest.stored ∙ stored_is gives.plan (part (headed v h) gives.plan.area.start gives.plan.area.len) p x.opens.key gives.key;
      }

  pub opens_stored : GivesDigest v h g p n (mk_digest_of h) → OpensHeaded v h g p n
  opens_stored x =
      let area : List ℕ = part (headed v h) x.plan.area.start x.plan.area.len in
      record {
        cheap = x.cheap;
        opens = record {
          made = x.made;
          in_use = x.in_use;
          key = candidate x.plan area p;
          gives = λ older. record {
            plan = x.plan;
            is = x.is;
            unrefused = x.unrefused older;
            key = opens_in_place x.plan x.plan area p (own_plan x.plan) (x.is.digest.stored ∙ own ∙ x.gives);
          };
        };
      }

-- a list differs from itself in no bit
same_bits : (xs : List ℕ) → differing_bits xs xs ≡ 0
same_bits xs = elim (cases_eq (differing_bits xs xs) 0) [
  | inl none ↦ none
  | inr some ↦ absurd (let unmet = unmet_bits xs xs some in let met = (bytes_eq-Decides xs xs).1 refl in cc)
]

-- ---- what is found, and what isn't

module _ (v h : List ℕ) (long : length h ≡ 592) (room : 592 ≤ length v) (g : Given) (p : List ℕ) (n : ℕ) (digest : List ℕ) (x : GivesOneDigest v h g p n digest) where
  -- the header that has this digest opens
  pub found_with : (f : Found1) → n < 8 → HasDigestOf h digest n f → IsFoundOf v h g p f
  found_with f low is = record {
    numbered = subst (λ (m : ℕ). m < 8) (sym is.slot) low;
    changed = subst (λ (m : ℕ). IsChanged1 h m f.change f.header) (sym is.slot) is.changed;
    opens = subst (λ (m : ℕ). OpensHeaded v f.header g p m) (sym is.slot)
        (opens_stored v f.header (is.rest.length_same ∙ long) g p n (subst (GivesDigest v f.header g p n) (sym is.is) (gives_alike v h f.header long room is.rest g p n digest x.it)));
  }

  -- a header that opens has it, so that few bits differ
  pub none_with : few_bits < differing_bits digest (mk_digest_of h) → OpensNoneBut v h g p n
  none_with many = record {
    standing = λ opens. (let same = x.one (mk_digest_of h) (gives_stored v h long g p n opens) in let none = same_bits (mk_digest_of h) in
        absurd (omega (arith, none, subst (λ (d : List ℕ). 8 < differing_bits d (mk_digest_of h)) (sym same) many)));
    digest = λ bits new changed opens.
        let there = gives_stored v new (changed.rest.length_same ∙ long) g p n opens in
        let same = x.one (mk_digest_of new) (gives_alike v new h (changed.rest.length_same ∙ long) room (but_back changed.rest) g p n (mk_digest_of new) there) in
        let few = changed.few in
        let differ = changed.differ in
        absurd (omega (arith, few, differ, subst (λ (d : List ℕ). 8 < differing_bits d (mk_digest_of h)) (sym same) many));
  }

-- a keyslot that isn't tried opens by none of them
pub none_untried : (v h : List ℕ) → length h ≡ 592 → 592 ≤ length v → (g : Given) (p : List ℕ) (n : ℕ) → GivesNoDigest v h g p n → OpensNoneBut v h g p n
none_untried v h long room g p n none = record {
  standing = λ opens. none (mk_digest_of h) (gives_stored v h long g p n opens);
  digest = λ bits new changed opens.
      let there = gives_stored v new (changed.rest.length_same ∙ long) g p n opens in
      none (mk_digest_of new) (gives_alike v new h (changed.rest.length_same ∙ long) room (but_back changed.rest) g p n (mk_digest_of new) there);
}

-- ---- the bytes of a digest that is put there

pub equal_bits : (xs ys : List ℕ) → length xs ≡ length ys → differing_bits xs ys ≡ 0 → xs ≡ ys
equal_bits xs ys long none = (bytes_eq-Decides xs ys).0 (met_bits xs ys long none)

pub put_there : (h digest : List ℕ) → length h ≡ 592 → length digest ≡ 20 → mk_digest_of (written h 112 digest) ≡ digest
put_there h digest long twenty = subst (λ (m : ℕ). part (written h 112 digest) 112 m ≡ digest) twenty (part-written h 112 digest (omega (arith, long, twenty)))

pub put_rest : (h digest : List ℕ) → length h ≡ 592 → length digest ≡ 20 → SameBut (IsAt 112 20) h (written h 112 digest)
put_rest h digest long twenty =
    subst (λ (m : ℕ). SameBut (IsAt 112 m) h (written h 112 digest)) twenty (same_but-same_outside {v = h} {w = written h 112 digest} {at = 112} {len = length digest} (same_outside-written h 112 digest (omega (arith, long, twenty))))

-- the header as it stands, where the digest is its own
pub as_it_stands : (h digest : List ℕ) (n bits : ℕ) → length h ≡ 592 → length digest ≡ 20 → bits ≡ differing_bits digest (mk_digest_of h) → bits ≡ 0
    → HasDigestOf h digest n (record { header = h; slot = n; change = change.Nothing })
as_it_stands h digest n bits long twenty is none =
    let own : length (mk_digest_of h) ≡ 20 = length-part_inside h 112 20 (omega (arith, long)) in
    record {
      slot = refl;
      changed = refl;
      rest = same_but-same (IsAt 112 20) h;
      is = sym (equal_bits digest (mk_digest_of h) (twenty ∙ sym own) (sym is ∙ none));
    }

-- the header with the digest
pub with_other : (h digest new : List ℕ) (n bits : ℕ) → length h ≡ 592 → length digest ≡ 20 → new ≡ written h 112 digest → bits ≡ differing_bits digest (mk_digest_of h)
    → 1 ≤ bits → bits ≤ 8 → HasDigestOf h digest n (record { header = new; slot = n; change = change.Digest bits })
with_other h digest new n bits long twenty put is some few =
    let rest : SameBut (IsAt 112 20) h new = subst (SameBut (IsAt 112 20) h) (sym put) (put_rest h digest long twenty) in
    let there : mk_digest_of new ≡ digest = ap mk_digest_of put ∙ put_there h digest long twenty in
    record {
      slot = refl;
      changed = record { some = some; few = few; rest = rest; differ = ap (λ (d : List ℕ). differing_bits d (mk_digest_of h)) there ∙ sym is };
      rest = rest;
      is = there;
    }

-- what is told of the header as it was read, while the device stays the same, is told of the volume
pub has_none : (v one two h : List ℕ) (g : Given) (p : List ℕ) → one ≡ v → two ≡ one → h ≡ header_of v → ((n : ℕ) → n < 8 → OpensNoneBut one h g p n)
    → ((n : ℕ) (field : Field) → n < 8 → OpensNoneIn two h g p n field) → HasNone1 v g p
has_none v one two h g p first second read shut turned = subst (λ (i : List ℕ). HasNoneOf v i g p) read (record {
  standing = λ n low. (subst (λ (w : List ℕ). OpensNoneBut w h g p n) first (shut n low)).standing;
  digest = λ n low. (subst (λ (w : List ℕ). OpensNoneBut w h g p n) first (shut n low)).digest;
  turned = λ n field low. subst (λ (w : List ℕ). OpensNoneIn w h g p n field) (second ∙ first) (turned n field low);
})
