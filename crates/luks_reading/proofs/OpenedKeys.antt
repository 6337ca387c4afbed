-- A key that a keyslot opens to meets the digest that names the keyslot.
use Rattle.std.proofs.Common.{◌≡◌, ℕ, List, length, Bool, true, false, Option, Some, None, Ok, inl, refl, sym, subst}
use Rattle.std.specs.Prelude.{◌&&◌, not, if◌then◌else◌}
use Rattle.std.proofs.lemmas.Bool.{and_parts}
use Rattle.serde_json.specs.Data.{Data}
use Rattle.luks_area.specs.Ranges.{part}
use Rattle.luks1_header.specs.Bytes.{number_at}
use Rattle.luks2_header.specs.declared.selection.Copies.{Copies}
use Rattle.luks2_header.specs.Header2.{header_at, uuid_field}
use Rattle.luks2_header.specs.Selection.{luks1, luks2, Chosen}
use Rattle.luks2_header.proofs.ChoiceFacts.{choices_agree}
use Rattle.luks_rules.proofs.AreaFaults.{one_value}
use Rattle.luks_meta.specs.Content.{content}
use Rattle.luks_meta.specs.MetaFault.{Json}
use Rattle.luks_slot.specs.declared.allowed.Allowed.{Allowed}
use Rattle.luks_slot.specs.declared.fault.SlotFault.{SlotFault}
use Rattle.luks_slot.specs.declared.fault.SlotFault.TheVariants as fault
use Rattle.luks_slot.specs.declared.plan.SlotPlan.{SlotPlan}
use Rattle.luks_slot.specs.Allowance.{without_memory}
use Rattle.luks_slot.specs.Refusal.{are_known_hashes, is_allowed_cipher, is_argon2_refused, is_key_size, is_known_derivation, is_known_hash, slot_refusal_within}
use Rattle.luks_slot.proofs.OpeningFacts.{found_meets}
use Rattle.luks_reading.specs.declared.header.Header.{Header}
use Rattle.luks_reading.specs.declared.header.Header.TheVariants.{Luks1, Luks2}
use Rattle.luks_reading.specs.declared.open_fault.OpenFault.{OpenFault}
use Rattle.luks_reading.specs.declared.open_fault.OpenFault.TheVariants.{Head, Meta, Slot}
use Rattle.luks_reading.specs.Answer.{HasPlanAs, IsLuks1Refusal, IsLuks2RefusalWithin, IsRefusalAsWithin, OpensWithin}
use Rattle.luks_reading.specs.Header.{json_at, IsHeader}
use Rattle.luks_reading.specs.KeyAnswers.{luks1_says, luks2_says, IsMet, MatchesAsked}
use Rattle.luks_reading.specs.KeyDigests.{HasLuks1Digest, HasLuks2Digest, HasLuks2KeyLength, IsLuks2Number}
use Rattle.luks_reading.specs.Plans.{HasKeyBytes, HasLuks1Plan, HasLuks2KeyBytes, HasLuks2Plan}
use Rattle.luks_reading.proofs.KeyFacts.{answered, luks1_asked, luks2_asked, IsFaultless}
use Rattle.luks_reading.proofs.Luks1Refusals.{common_refuses}

none_of : (r : Option SlotFault) → ((f : SlotFault) → r ≡ Some f → ⊥) → r ≡ None
none_of None some = refl
none_of (Some f) some = absurd (some f refl)

-- the hashes of a plan that isn't refused are known
are_known : (argon2 cipher hashes size : Bool)
    → (if argon2 then Some fault.Argon2 else if not cipher then Some fault.Cipher else if not hashes then Some fault.Hash else if not size then Some fault.KeySize else None) ≡ None
    → hashes ≡ true
are_known argon2 cipher true size none = refl
are_known true cipher false size none = absurd (cc)
are_known false true false size none = absurd (cc)
are_known false false false size none = absurd (cc)

pub digest_known : (allowed : Allowed) (plan : SlotPlan) → slot_refusal_within allowed plan ≡ None → is_known_hash allowed.older plan.digest.hash.now ≡ true
digest_known allowed plan none =
    let all = are_known (is_argon2_refused allowed.memory plan.derivation) (is_allowed_cipher allowed.older plan.cipher) (are_known_hashes allowed.older plan)
    (is_key_size plan.cipher plan.area_key_bytes) none in
    (and_parts (is_known_derivation allowed.older plan.derivation && is_known_hash allowed.older plan.splitter_hash.now) (is_known_hash allowed.older plan.digest.hash.now) all).1

-- ---- LUKS1

opened1 : (allowed : Allowed) (v bytes : List ℕ) (n : ℕ) (p key : List ℕ) → Chosen v luks1 → bytes ≡ part v 0 592
    → length key ≡ number_at bytes 108 4 → OpensWithin allowed v n p (Some key) → MatchesAsked allowed.older v n key
opened1 allowed v bytes n p key chosen same long x =
    let h = part v 0 592 in
    let counts = choices_agree v x.choice luks1 x.chosen chosen in
    let plan : HasLuks1Plan h n x.plan = subst (λ d. HasPlanAs v n d x.plan) counts x.is in
    let clear : (f : OpenFault) → IsLuks1Refusal allowed.older h (length v) n f → ⊥ = subst (λ d. (f : OpenFault) → IsRefusalAsWithin allowed v n d f → ⊥) counts x.unrefused in
    let none = none_of (slot_refusal_within (without_memory allowed.older) x.plan) (λ f is. clear (Slot f) (record { plan = x.plan; is = plan; refused = is })) in
    let length_is : length key ≡ number_at h 108 4 = subst (λ (b : List ℕ). length key ≡ number_at b 108 4) same long in
    let key_met : IsMet x.plan.digest 0 allowed.older key (record { digest = 0; matches = true }) = record {
      number_is = refl;
      known = digest_known (without_memory allowed.older) x.plan none;
      matches = sym (found_meets x.plan (part v x.plan.area.start x.plan.area.len) p key x.key);
    } in
    record {
      choice = luks1;
      chosen = chosen;
      number = 0;
      names = refl;
      matches = λ asked is_asked.
          let faultless : IsFaultless (luks1_says h asked) = record { heads = λ f y. clear (Head f) (common_refuses h n f y).0; metas = λ f y. y } in
          let has : HasLuks1Digest h asked 0 x.plan.digest = record { numbered = is_asked; is = plan.is.digest } in
          record {
            choice = luks1;
            chosen = chosen;
            is = answered (luks1_says h asked) allowed.older 0 key x.plan.digest (Ok (record { digest = 0; matches = true })) faultless
                (luks1_asked h asked 0 x.plan.digest has) length_is key_met tt;
          };
    }

-- ---- LUKS2

opened2 : (allowed : Allowed) (v : List ℕ) (o : ℕ) (copies : Copies) (j : Data) (n : ℕ) (p key : List ℕ) → Chosen v (luks2 o copies) → Json (json_at v o) j
    → HasLuks2KeyBytes j n (length key) → OpensWithin allowed v n p (Some key) → MatchesAsked allowed.older v n key
opened2 allowed v o copies j n p key chosen holds long x =
    let uuid = uuid_field (header_at v o) in
    let json = json_at v o in
    let counts = choices_agree v x.choice (luks2 o copies) x.chosen chosen in
    let plan : HasLuks2Plan json n x.plan = subst (λ d. HasPlanAs v n d x.plan) counts x.is in
    let clear : (f : OpenFault) → IsLuks2RefusalWithin allowed (header_at v o) json (length v) n f → ⊥ =
    subst (λ d. (f : OpenFault) → IsRefusalAsWithin allowed v n d f → ⊥) counts x.unrefused in
    let none = none_of (slot_refusal_within allowed x.plan) (λ f is. clear (Slot f) (record { plan = x.plan; is = plan; refused = is })) in
    let digest = plan.is.digest in
    let key_met : IsMet x.plan.digest digest.number allowed.older key (record { digest = digest.number; matches = true }) = record {
      number_is = refl;
      known = digest_known allowed x.plan none;
      matches = sym (found_meets x.plan (part v x.plan.area.start x.plan.area.len) p key x.key);
    } in
    let bytes : HasLuks2KeyBytes plan.value n (length key) = subst (λ i. HasLuks2KeyBytes i n (length key)) (one_value json j plan.value holds plan.holds) long in
    let length_is : HasLuks2KeyLength json digest.number (length key) =
    record { value = plan.value; holds = plan.holds; long = inl (record { slot = n; names = digest.names; long = bytes }) } in
    record {
      choice = luks2 o copies;
      chosen = chosen;
      number = digest.number;
      names = record { value = plan.value; holds = plan.holds; is = digest.names };
      matches = λ asked is_asked.
          let faultless : IsFaultless (luks2_says uuid json asked) = record { heads = λ f y. clear (Head f) y; metas = λ f y. clear (Meta f) y } in
          let numbered = subst (λ i. IsLuks2Number i asked digest.number) (one_value json is_asked.value plan.value is_asked.holds plan.holds) is_asked.is in
          let has : HasLuks2Digest json asked digest.number x.plan.digest = record {
            value = plan.value;
            holds = plan.holds;
            numbered = numbered;
            object = digest.object;
            there = digest.there;
            says = record { hash = digest.hash; iterations = digest.iterations; salt = digest.salt; stored = digest.stored };
          } in
          record {
            choice = luks2 o copies;
            chosen = chosen;
            is = answered (luks2_says uuid json asked) allowed.older digest.number key x.plan.digest (Ok (record { digest = digest.number; matches = true })) faultless
                (luks2_asked uuid json asked digest.number x.plan.digest has) length_is key_met tt;
          };
    }

pub opened_matches : (allowed : Allowed) (v : List ℕ) (header : Header) (n : ℕ) (p key : List ℕ) → IsHeader v header → HasKeyBytes header n (length key)
    → OpensWithin allowed v n p (Some key) → MatchesAsked allowed.older v n key
opened_matches allowed v (Luks1 bytes) n p key is long x = opened1 allowed v bytes n p key is.0 is.1 long x
opened_matches allowed v (Luks2 copy) n p key is long x =
    opened2 allowed v copy.header.hdr_offset copy.copies (content copy.meta) n p key is.chosen is.metadata.json long x
