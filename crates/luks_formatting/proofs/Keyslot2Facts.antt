-- What the metadata of a new LUKS2 volume places: the areas, and the plan of keyslot 0.
use Rattle.std.proofs.lemmas.Bool.{cases_eq}
use Rattle.serde_json.specs.Find.{get}
use Rattle.std.proofs.Common.{◌≡◌, ◌≢◌, ℕ, ◌+◌, ◌-◌, ◌<◌, ◌≤◌, ◌^◌, List, length, codes, Option, Some, None, true, option_and_then, arith, refl, sym, ap, ◌∙◌, subst, lit<, lit≤, inl, inr}
use Rattle.serde_json.specs.Data.{Data as Value, number, string, unsigned}
use Rattle.luks_area.specs.Area.{Fit, IsInside, LiesIn}
use Rattle.luks_area.specs.declared.area.Area.{Area}
use Rattle.luks_area.specs.declared.area.AreaName.{AreaName}
use Rattle.luks_area.specs.declared.area.AreaName.TheVariants.{Head1, Head2, Slot as SlotName, Segment}
use Rattle.luks_kdf.specs.Names.{digest_size_of, name_of}
use Rattle.luks_reading.specs.declared.format.Format.{Format}
use Rattle.luks_json.specs.Values.{bytes_in, number_in, text_of}
use Rattle.luks_json.specs.AreaText.{Json}
use Rattle.luks_rules.specs.Faults.{member_at}
use Rattle.luks_rules.specs.declared.table.Member.TheVariants as name
use Rattle.luks_rules.proofs.AreaFaults.{one_value}
use Rattle.luks_rules.specs.Faults.{object_at}
use Rattle.luks_rules.specs.Reading.{decimal_in}
use Rattle.luks_rules.specs.Sizes.{inside_at}
use Rattle.luks_rules.specs.declared.table.Outer.TheVariants as outer
use Rattle.luks_rules.specs.declared.table.Section.TheVariants.{Keyslots, Segments}
use Rattle.luks_making.specs.Keyslots.{base64_text}
use Rattle.luks_making.proofs.NewVolumeFacts.{none_else}
use Rattle.luks_making.proofs.ReadingFacts.{bytes_are, decimal_is, number_is}
use Rattle.luks_making.proofs.RoomFacts.{says_members}
use Rattle.luks_making.specs.Conditions.{CanFormat}
use Rattle.luks_making.specs.Formatted.{VolumeMembers, digest_value, segment_value}
use Rattle.luks_making.specs.Keyslots.{Deriving, by_argon2i, by_argon2id, by_pbkdf2, slot_value}
use Rattle.luks_making.specs.Unchanged.{SaysArgon2, SaysDerivation, SaysMembers, SaysPbkdf2}
use Rattle.luks_making.specs.declared.derivation.Argon2Costs.{Argon2Costs}
use Rattle.luks_meta.specs.Says.{small_at}
use Rattle.luks_slot.specs.declared.plan.DigestPlan.{DigestPlan}
use Rattle.luks_rules.specs.Reading.{is_sector_size}
use Rattle.luks_slot.specs.declared.plan.AreaCipher.{AreaCipher}
use Rattle.luks_slot.specs.declared.plan.AreaCipher.TheVariants.{Apart, Whole}
use Rattle.luks_slot.specs.declared.plan.Argon2Kind.{Argon2Kind}
use Rattle.luks_slot.specs.declared.plan.Argon2Kind.TheVariants.{I, Id}
use Rattle.luks_slot.specs.declared.plan.Derivation.{Derivation}
use Rattle.luks_slot.specs.declared.plan.Derivation.TheVariants.{Pbkdf2, Argon2}
use Rattle.luks_slot.specs.declared.plan.SlotPlan.{SlotPlan}
use Rattle.luks_reading.specs.Checked.{SegmentsFollow}
use Rattle.luks_reading.specs.Layout2.{HasExtent, Luks2Area, segment_extent, segment_offset, slot_number}
use Rattle.luks_reading.proofs.PlanFacts.{no_pbkdf2}
use Rattle.luks_reading.specs.Plans.{kind_text, HasLuks2Plan, IsLuks2Cipher, IsLuks2Derivation, IsLuks2Digest, IsLuks2Plan}
use Rattle.luks_reading.specs.declared.report.Data.TheVariants.{Here}
use Rattle.luks_making.specs.declared.derivation.NewDerivation.{NewDerivation}
use Rattle.luks_formatting.specs.Encrypting.{block_bytes, cipher_text, takes_key}
use Rattle.luks_formatting.proofs.EncryptingFacts.{block_most, sizes, AreSizes}
use Rattle.luks_formatting.specs.Deriving.{slot_derivation, IsArgon2Plan, IsDerivedBy}
use Rattle.luks_formatting.specs.NewHeader2.{area2, first_slot_by, formatted_by, new_members, new_metadata, segment_start, FitsMetadataAs, IsNewCipher2}
use Rattle.luks_formatting.specs.NewPlan.{key_digest, IsNewDigest, IsNewPlanBy}
use Rattle.luks_formatting.specs.RandomBytes.{digest_salt, slot_place2, slot_salt}
use Rattle.luks_formatting.specs.Given.{IsSound2}
use Rattle.luks_formatting.specs.declared.given.Given.{Given}
use Rattle.luks_formatting.proofs.GivenFacts.{placed2}
use Rattle.luks_formatting.proofs.Formatted1Facts.{area_is}
use Rattle.luks_formatting.proofs.MetadataFacts.{can_format, digest_at, keyslots_say, length-digest_salt, no_some, segment_at, slot_at, slot_fits, some_same}

-- ---- the areas, where that of keyslot 0 has so many bytes

abbrev Bounds : ℕ → ℕ → AreaName → Area → Type 0
Bounds size total Head1 a = (a.start ≡ 0) × (a.len ≡ 16384)
Bounds size total Head2 a = (a.start ≡ 16384) × (a.len ≡ 16384)
Bounds size total (SlotName n) a = (n ≡ 0) × (a.start ≡ 32768) × (a.len ≡ size)
Bounds size total (Segment n) a = (n ≡ 0) × (16777216 ≤ a.start) × (a.start ≤ total) × (a.len ≡ total - a.start)

bounds_inside : (size total : ℕ) → size ≤ 258048 → 16777216 ≤ total → (n : AreaName) (a : Area) → Bounds size total n a → IsInside a total
bounds_inside size total most large Head1 a at = let start = at.0 in let len = at.1 in omega (arith, start, len, large)
bounds_inside size total most large Head2 a at = let start = at.0 in let len = at.1 in omega (arith, start, len, large)
bounds_inside size total most large (SlotName n) a at = let start = at.1 in let len = at.2 in omega (arith, start, len, most, large)
bounds_inside size total most large (Segment n) a at = let start = at.2 in let len = at.3 in omega (arith, start, len)

-- an area that ends where another begins, or before
apart : (a b : Area) (p : ℕ) → a.start + a.len ≤ b.start → LiesIn p a → LiesIn p b → ⊥
apart a b p before here there = let high = here.1 in let low = there.0 in absurd (omega (arith, before, high, low))

bounds_apart : (size total : ℕ) → size ≤ 258048 → (m n : AreaName) (a b : Area) → Bounds size total m a → Bounds size total n b → m ≢ n → (p : ℕ) → LiesIn p a → LiesIn p b → ⊥
bounds_apart size total most Head1 Head1 a b x y other p here there = other refl
bounds_apart size total most Head2 Head2 a b x y other p here there = other refl
bounds_apart size total most (SlotName m) (SlotName n) a b x y other p here there = other (ap SlotName (x.0 ∙ sym y.0))
bounds_apart size total most (Segment m) (Segment n) a b x y other p here there = other (ap Segment (x.0 ∙ sym y.0))
bounds_apart size total most Head1 Head2 a b x y other p here there = let s = x.0 in let l = x.1 in let t = y.0 in apart a b p (omega (arith, s, l, t)) here there
bounds_apart size total most Head1 (SlotName n) a b x y other p here there = let s = x.0 in let l = x.1 in let t = y.1 in apart a b p (omega (arith, s, l, t)) here there
bounds_apart size total most Head1 (Segment n) a b x y other p here there = let s = x.0 in let l = x.1 in let t = y.1 in apart a b p (omega (arith, s, l, t)) here there
bounds_apart size total most Head2 Head1 a b x y other p here there = let s = y.0 in let l = y.1 in let t = x.0 in apart b a p (omega (arith, s, l, t)) there here
bounds_apart size total most Head2 (SlotName n) a b x y other p here there = let s = x.0 in let l = x.1 in let t = y.1 in apart a b p (omega (arith, s, l, t)) here there
bounds_apart size total most Head2 (Segment n) a b x y other p here there = let s = x.0 in let l = x.1 in let t = y.1 in apart a b p (omega (arith, s, l, t)) here there
bounds_apart size total most (SlotName m) Head1 a b x y other p here there = let s = y.0 in let l = y.1 in let t = x.1 in apart b a p (omega (arith, s, l, t)) there here
bounds_apart size total most (SlotName m) Head2 a b x y other p here there = let s = y.0 in let l = y.1 in let t = x.1 in apart b a p (omega (arith, s, l, t)) there here
bounds_apart size total most (SlotName m) (Segment n) a b x y other p here there = let s = x.1 in let l = x.2 in let t = y.1 in apart a b p (omega (arith, s, l, t, most)) here there
bounds_apart size total most (Segment m) Head1 a b x y other p here there = let s = y.0 in let l = y.1 in let t = x.1 in apart b a p (omega (arith, s, l, t)) there here
bounds_apart size total most (Segment m) Head2 a b x y other p here there = let s = y.0 in let l = y.1 in let t = x.1 in apart b a p (omega (arith, s, l, t)) there here
bounds_apart size total most (Segment m) (SlotName n) a b x y other p here there = let s = y.1 in let l = y.2 in let t = x.1 in apart b a p (omega (arith, s, l, t, most)) there here

-- ---- what a keyslot says of its derivation

-- the texts of the kinds differ
kind_is : (k : Argon2Kind) (l : Argon2Kind) → Some (kind_text k) ≡ Some (kind_text l) → k ≡ l
kind_is I I same = refl
kind_is I Id same = cc
kind_is Id I same = cc
kind_is Id Id same = refl

no_kind : (l : Argon2Kind) → Some (codes "pbkdf2") ≡ Some (kind_text l) → ⊥
no_kind I same = cc
no_kind Id same = cc

module _ (k : Value) (salt : List ℕ) (salted : bytes_in 1 128 (member_at k outer.Kdf name.Salt) ≡ Some salt) where
  told_argon2 : (kind : Argon2Kind) (costs : Argon2Costs) → SaysArgon2 (kind_text kind) costs k → (d : Derivation) → IsLuks2Derivation k d → IsArgon2Plan kind costs salt d
  told_argon2 kind costs says (Pbkdf2 hash iterations own) is = absurd (no_kind kind (sym is.0 ∙ says.kind))
  told_argon2 kind costs says (Argon2 c) is = record {
    own_kind = kind_is c.kind kind (sym is.0 ∙ says.kind);
    time = some_same c.time costs.time (sym is.1 ∙ says.time);
    memory = some_same c.memory costs.memory (sym is.2 ∙ says.memory);
    cpus = some_same c.cpus costs.cpus (sym is.3 ∙ says.cpus);
    own_salt = some_same c.salt.now salt (sym is.4 ∙ salted);
  }

  tells_argon2 : (kind : Argon2Kind) (costs : Argon2Costs) → SaysArgon2 (kind_text kind) costs k → (d : Derivation) → IsArgon2Plan kind costs salt d → IsLuks2Derivation k d
  tells_argon2 kind costs says (Pbkdf2 hash iterations own) is = absurd is
  tells_argon2 kind costs says (Argon2 c) is = (
    says.kind ∙ ap (λ l. Some (kind_text l)) (sym is.own_kind),
    says.time ∙ ap Some (sym is.time),
    says.memory ∙ ap Some (sym is.memory),
    says.cpus ∙ ap Some (sym is.cpus),
    salted ∙ ap Some (sym is.own_salt),
  )

  told_pbkdf2 : (h : List ℕ) (n : ℕ) → SaysPbkdf2 h n k → (d : Derivation) → IsLuks2Derivation k d → IsDerivedBy (by_pbkdf2 h n) salt d
  told_pbkdf2 h n says (Pbkdf2 hash iterations own) is = (
    some_same hash.now h (sym is.1 ∙ says.hash),
    some_same iterations n (sym is.2 ∙ says.iterations),
    some_same own.now salt (sym is.3 ∙ salted),
  )
  told_pbkdf2 h n says (Argon2 c) is = absurd (no_pbkdf2 k c is says.kind)

  tells_pbkdf2 : (h : List ℕ) (n : ℕ) → SaysPbkdf2 h n k → (d : Derivation) → IsDerivedBy (by_pbkdf2 h n) salt d → IsLuks2Derivation k d
  tells_pbkdf2 h n says (Pbkdf2 hash iterations own) is = (
    says.kind,
    says.hash ∙ ap Some (sym is.0),
    says.iterations ∙ ap Some (sym is.1),
    salted ∙ ap Some (sym is.2),
  )
  tells_pbkdf2 h n says (Argon2 c) is = absurd is

-- a plan of the keyslot derives as the keyslot says, and the other way round
told_derivation : (own : Deriving) (k : Value) (salt : List ℕ) → SaysDerivation own k → bytes_in 1 128 (member_at k outer.Kdf name.Salt) ≡ Some salt
    → (d : Derivation) → IsLuks2Derivation k d → IsDerivedBy own salt d
told_derivation (by_pbkdf2 h n) k salt says salted d is = told_pbkdf2 k salt salted h n says d is
told_derivation (by_argon2i costs) k salt says salted d is = told_argon2 k salt salted I costs says d is
told_derivation (by_argon2id costs) k salt says salted d is = told_argon2 k salt salted Id costs says d is

tells_derivation : (own : Deriving) (k : Value) (salt : List ℕ) → SaysDerivation own k → bytes_in 1 128 (member_at k outer.Kdf name.Salt) ≡ Some salt
    → (d : Derivation) → IsDerivedBy own salt d → IsLuks2Derivation k d
tells_derivation (by_pbkdf2 h n) k salt says salted d is = tells_pbkdf2 k salt salted h n says d is
tells_derivation (by_argon2i costs) k salt says salted d is = tells_argon2 k salt salted I costs says d is
tells_derivation (by_argon2id costs) k salt says salted d is = tells_argon2 k salt salted Id costs says d is

-- a number that 64 bits tell
short : (n : ℕ) → n ≤ 258048 → n < 2 ^ 64
short n most = omega (arith, most)

module _ (given : Given) (format : Format) (chosen : Option NewDerivation) (random : List ℕ) (some : 1 ≤ format.iterations) (long : 208 + given.key_bytes ≤ length random)
    (takes : takes_key given.cipher given.key_bytes ≡ true) (size : is_sector_size given.sector_size ≡ true) (fits : FitsMetadataAs given format chosen random) where
  can : CanFormat (new_members given format random)
  can = can_format given format random size some long fits.digest_length

  sized : AreSizes given.key_bytes
  sized = sizes given.cipher given.key_bytes takes

  most : block_bytes given.key_bytes ≤ 258048
  most = block_most given.key_bytes sized.high

  slot_says : SaysMembers (first_slot_by given.key_bytes (slot_derivation format chosen) (new_members given format random)) (slot_value (first_slot_by given.key_bytes (slot_derivation format chosen) (new_members given format random)))
  slot_says = says_members (first_slot_by given.key_bytes (slot_derivation format chosen) (new_members given format random)) (slot_fits given.key_bytes sized (slot_derivation format chosen) (new_members given format random) fits.fits can fits.derivation)

  -- ---- the areas of the metadata
  slot_bounds : (total n : ℕ) (a : Area) → n < 32 → slot_number (new_metadata given format chosen random) n (codes "offset") ≡ Some a.start
      → slot_number (new_metadata given format chosen random) n (codes "size") ≡ Some a.len → Bounds (block_bytes given.key_bytes) total (SlotName n) a
  slot_bounds total n a small start len =
      let j : Value = new_metadata given format chosen random in
      elim (cases_eq n 0) [
        | inl zero ↦ (
            let first : slot_number j 0 (codes "offset") ≡ Some a.start = subst (λ (m : ℕ). slot_number j m (codes "offset") ≡ Some a.start) zero start in
            let second : slot_number j 0 (codes "size") ≡ Some a.len = subst (λ (m : ℕ). slot_number j m (codes "size") ≡ Some a.len) zero len in
            (zero, some_same a.start 32768 (sym first ∙ decimal_is 32768 (lit< tt)), some_same a.len (block_bytes given.key_bytes) (sym second ∙ decimal_is (block_bytes given.key_bytes) (short (block_bytes given.key_bytes) most))))
        | inr other ↦ (
            let none : object_at j Keyslots n ≡ None = none_else (slot_value (first_slot_by given.key_bytes (slot_derivation format chosen) (new_members given format random))) n other in
            absurd (no_some a.start (sym (ap (λ o. decimal_in (option_and_then (get (codes "offset")) (option_and_then (get (codes "area")) o))) none) ∙ start)))
      ]

  -- where the segment begins
  segment_from : (total : ℕ) → IsSound2 given total → 16777216 ≤ total → given.payload ≡ Here → (16777216 ≤ segment_start given) × (segment_start given ≤ total)
  segment_from total sound large here =
      let behind = placed2 given total sound large here in
      let low = behind.low in
      (omega (arith, low), behind.inside)

  segment_bounds : (total n : ℕ) (a : Area) → IsSound2 given total → 16777216 ≤ total → n < 32 → given.payload ≡ Here
      → segment_offset (new_metadata given format chosen random) n ≡ Some a.start
      → HasExtent total a.start a.len (segment_extent (new_metadata given format chosen random) n) → Bounds (block_bytes given.key_bytes) total (Segment n) a
  segment_bounds total n a sound large small here start extent =
      let j : Value = new_metadata given format chosen random in
      elim (cases_eq n 0) [
        | inl zero ↦ (
            let first : segment_offset j 0 ≡ Some a.start = subst (λ (m : ℕ). segment_offset j m ≡ Some a.start) zero start in
            let last : HasExtent total a.start a.len (segment_extent j 0) = subst (λ (m : ℕ). HasExtent total a.start a.len (segment_extent j m)) zero extent in
            let from = segment_from total sound large here in
            let is : a.start ≡ segment_start given = some_same a.start (segment_start given) (sym first ∙ decimal_is (segment_start given) fits.fits.segment_offset) in
            let low = from.0 in
            let inside = from.1 in
            (zero, omega (arith, is, low), omega (arith, is, inside), last))
        | inr other ↦ (
            let none : object_at j Segments n ≡ None = none_else (segment_value (new_members given format random)) n other in
            absurd (no_some a.start (sym (ap (λ o. decimal_in (option_and_then (get (codes "offset")) o)) none) ∙ start)))
      ]

  bounds : (total h : ℕ) → h ≡ 16384 → IsSound2 given total → 16777216 ≤ total → (n : AreaName) (a : Area)
      → Luks2Area (new_metadata given format chosen random) h given.payload total n a → Bounds (block_bytes given.key_bytes) total n a
  bounds total h size sound large Head1 a at = (at.0, at.1 ∙ size)
  bounds total h size sound large Head2 a at = (at.0 ∙ size, at.1 ∙ size)
  bounds total h size sound large (SlotName n) a at = slot_bounds total n a at.0 at.1 at.2
  bounds total h size sound large (Segment n) a at = segment_bounds total n a sound large at.0 at.1 at.2 at.3

  pub fit : (total h : ℕ) → h ≡ 16384 → IsSound2 given total → 16777216 ≤ total → Fit (Luks2Area (new_metadata given format chosen random) h given.payload total) total
  fit total h size sound large = record {
    inside = λ n a at. bounds_inside (block_bytes given.key_bytes) total most large n a (bounds total h size sound large n a at);
    disjoint = λ m n a b x y other. bounds_apart (block_bytes given.key_bytes) total most m n a b (bounds total h size sound large m a x) (bounds total h size sound large n b y) other;
  }

  pub segments : (total : ℕ) → IsSound2 given total → 16777216 ≤ total → given.payload ≡ Here → SegmentsFollow 12288 (new_metadata given format chosen random)
  segments total sound large here = record {
    each = λ n d bytes start held region offset.
        let v : VolumeMembers = new_members given format random in
        let is : segment_value v ≡ d = (segment_at given.key_bytes (slot_derivation format chosen) v n d held.is).1 in
        let at : decimal_in (inside_at outer.Top (codes "offset") (segment_value v)) ≡ Some start = subst (λ (o : Value). decimal_in (inside_at outer.Top (codes "offset") o) ≡ Some start) (sym is) offset in
        let from : start ≡ segment_start given = some_same start (segment_start given) (sym at ∙ decimal_is (segment_start given) fits.fits.segment_offset) in
        let size : bytes ≡ 16744448 = some_same bytes 16744448 (sym region ∙ keyslots_say given.key_bytes (slot_derivation format chosen) v) in
        let low = (segment_from total sound large here).0 in
        omega (arith, from, size, low);
  }

  -- ---- the plans of keyslot 0
  pub derivation_is : (d : Derivation) → IsLuks2Derivation (slot_value (first_slot_by given.key_bytes (slot_derivation format chosen) (new_members given format random))) d
      → IsDerivedBy (slot_derivation format chosen) (slot_salt (slot_place2 given.key_bytes) random) d
  derivation_is d is = told_derivation (slot_derivation format chosen) (slot_value (first_slot_by given.key_bytes (slot_derivation format chosen) (new_members given format random)))
      (slot_salt (slot_place2 given.key_bytes) random) slot_says.derivation slot_says.salt d is

  derivation_by : (d : Derivation) → IsDerivedBy (slot_derivation format chosen) (slot_salt (slot_place2 given.key_bytes) random) d
      → IsLuks2Derivation (slot_value (first_slot_by given.key_bytes (slot_derivation format chosen) (new_members given format random))) d
  derivation_by d is = tells_derivation (slot_derivation format chosen) (slot_value (first_slot_by given.key_bytes (slot_derivation format chosen) (new_members given format random)))
      (slot_salt (slot_place2 given.key_bytes) random) slot_says.derivation slot_says.salt d is

  cipher_is : (cipher : AreaCipher) → IsLuks2Cipher (slot_value (first_slot_by given.key_bytes (slot_derivation format chosen) (new_members given format random))) cipher → IsNewCipher2 given.cipher cipher
  cipher_is (Apart name mode) is = absurd is
  cipher_is (Whole text) is = some_same text.now (cipher_text given.cipher) (sym is ∙ slot_says.encryption)

  cipher_by : (cipher : AreaCipher) → IsNewCipher2 given.cipher cipher → IsLuks2Cipher (slot_value (first_slot_by given.key_bytes (slot_derivation format chosen) (new_members given format random))) cipher
  cipher_by (Apart name mode) is = absurd is
  cipher_by (Whole text) is = slot_says.encryption ∙ ap Some (sym is)

  -- what the digest says
  digest_iterations : number_in 1 4294967295 (Some (number (unsigned format.iterations))) ≡ Some format.iterations
  digest_iterations = number_is 1 4294967295 format.iterations (record { from = some; to = (let turns = fits.fits.iterations in omega (arith, turns)) })

  digest_salt_says : bytes_in 1 128 (Some (string (base64_text (digest_salt given.key_bytes random)))) ≡ Some (digest_salt given.key_bytes random)
  digest_salt_says =
      let size = length-digest_salt given.key_bytes random long in
      bytes_are 1 128 (digest_salt given.key_bytes random) (lit≤ tt) fits.fits.digest_salt (record { from = omega (arith, size); to = omega (arith, size) })

  digest_stored : bytes_in 20 64 (Some (string (base64_text (key_digest given format random (digest_size_of format.hash))))) ≡ Some (key_digest given format random (digest_size_of format.hash))
  digest_stored =
      let size = fits.digest_length in
      let low = can.digest.from in
      let high = can.digest.to in
      bytes_are 20 64 (key_digest given format random (digest_size_of format.hash)) (lit≤ tt) fits.fits.digest (record { from = low; to = high })

  digest_is : (digest : DigestPlan) → IsLuks2Digest (new_metadata given format chosen random) 0 digest
      → IsNewDigest format (digest_salt given.key_bytes random) (key_digest given format random (digest_size_of format.hash)) digest
  digest_is digest y =
      let v : VolumeMembers = new_members given format random in
      let is : digest_value v ≡ y.object = (digest_at given.key_bytes (slot_derivation format chosen) v y.number y.object y.there).1 in
      let d : Value = digest_value v in
      let hash : text_of (member_at d outer.Top name.Hash) ≡ Some digest.hash.now = subst (λ (o : Value). text_of (member_at o outer.Top name.Hash) ≡ Some digest.hash.now) (sym is) y.hash in
      let turns : small_at d outer.Top name.Iterations ≡ Some digest.iterations = subst (λ (o : Value). small_at o outer.Top name.Iterations ≡ Some digest.iterations) (sym is) y.iterations in
      let salt : bytes_in 1 128 (member_at d outer.Top name.Salt) ≡ Some digest.salt.now = subst (λ (o : Value). bytes_in 1 128 (member_at o outer.Top name.Salt) ≡ Some digest.salt.now) (sym is) y.salt in
      let stored : bytes_in 20 64 (member_at d outer.Top name.Digest) ≡ Some digest.stored.now = subst (λ (o : Value). bytes_in 20 64 (member_at o outer.Top name.Digest) ≡ Some digest.stored.now) (sym is) y.stored in
      record {
        hash = some_same digest.hash.now (name_of format.hash) (sym hash);
        iterations = some_same digest.iterations format.iterations (sym turns ∙ digest_iterations);
        own_salt = some_same digest.salt.now (digest_salt given.key_bytes random) (sym salt ∙ digest_salt_says);
        own_stored = some_same digest.stored.now (key_digest given format random (digest_size_of format.hash)) (sym stored ∙ digest_stored);
      }

  -- a plan that the metadata gives is the one that was sealed by
  pub plan_is : (json : List ℕ) → Json json (new_metadata given format chosen random)
      → (plan : SlotPlan) → HasLuks2Plan json 0 plan
      → IsNewPlanBy (slot_derivation format chosen) format given.key_bytes (slot_salt (slot_place2 given.key_bytes) random) (area2 given.key_bytes) (digest_salt given.key_bytes random) (key_digest given format random (digest_size_of format.hash)) plan × IsNewCipher2 given.cipher plan.cipher
  plan_is json holds plan y =
      let v : VolumeMembers = new_members given format random in
      let same : y.value ≡ formatted_by given.key_bytes (slot_derivation format chosen) v = one_value json y.value (formatted_by given.key_bytes (slot_derivation format chosen) v) y.holds holds in
      let there : object_at (formatted_by given.key_bytes (slot_derivation format chosen) v) Keyslots 0 ≡ Some y.object = subst (λ (k : Value). object_at k Keyslots 0 ≡ Some y.object) same y.there in
      let object_is : slot_value (first_slot_by given.key_bytes (slot_derivation format chosen) v) ≡ y.object = (slot_at given.key_bytes (slot_derivation format chosen) v 0 y.object there).1 in
      let first : IsLuks2Plan (formatted_by given.key_bytes (slot_derivation format chosen) v) 0 y.object plan = subst (λ (k : Value). IsLuks2Plan k 0 y.object plan) same y.is in
      let is : IsLuks2Plan (formatted_by given.key_bytes (slot_derivation format chosen) v) 0 (slot_value (first_slot_by given.key_bytes (slot_derivation format chosen) v)) plan = subst (λ (o : Value). IsLuks2Plan (formatted_by given.key_bytes (slot_derivation format chosen) v) 0 o plan) (sym object_is) first in (
        record {
          derivation = derivation_is plan.derivation is.derivation;
          area = area_is plan.area 32768 (block_bytes given.key_bytes) (some_same plan.area.start 32768 (sym is.start ∙ slot_says.offset)) (some_same plan.area.len (block_bytes given.key_bytes) (sym is.len ∙ slot_says.size));
          area_key_bytes = some_same plan.area_key_bytes given.key_bytes (sym is.area_key_bytes ∙ slot_says.area_key_size);
          key_bytes = some_same plan.key_bytes given.key_bytes (sym is.key_bytes ∙ slot_says.key_size);
          stripes = some_same plan.stripes 4000 (sym is.stripes ∙ slot_says.stripes);
          splitter_hash = some_same plan.splitter_hash.now (name_of format.hash) (sym is.splitter_hash ∙ slot_says.splitter_hash);
          digest = digest_is plan.digest is.digest;
        },
        cipher_is plan.cipher is.cipher,
      )

  pub plan_by : (json : List ℕ) → Json json (new_metadata given format chosen random) → (plan : SlotPlan)
      → IsNewPlanBy (slot_derivation format chosen) format given.key_bytes (slot_salt (slot_place2 given.key_bytes) random) (area2 given.key_bytes) (digest_salt given.key_bytes random) (key_digest given format random (digest_size_of format.hash)) plan → IsNewCipher2 given.cipher plan.cipher
      → HasLuks2Plan json 0 plan
  plan_by json holds plan is cipher =
      let v : VolumeMembers = new_members given format random in
      record {
        numbered = lit< tt;
        value = formatted_by given.key_bytes (slot_derivation format chosen) v;
        holds = holds;
        object = slot_value (first_slot_by given.key_bytes (slot_derivation format chosen) v);
        there = refl;
        is = record {
          derivation = derivation_by plan.derivation is.derivation;
          cipher = cipher_by plan.cipher cipher;
          start = slot_says.offset ∙ ap Some (sym (ap (λ (a : Area). a.start) is.area));
          len = slot_says.size ∙ ap Some (sym (ap (λ (a : Area). a.len) is.area));
          area_key_bytes = slot_says.area_key_size ∙ ap Some (sym is.area_key_bytes);
          key_bytes = slot_says.key_size ∙ ap Some (sym is.key_bytes);
          stripes = slot_says.stripes ∙ ap Some (sym is.stripes);
          splitter_hash = slot_says.splitter_hash ∙ ap Some (sym is.splitter_hash);
          digest = record {
            number = 0;
            names = record { named = lit< tt; keyslot = refl; numbered = lit< tt; object = digest_value v; is = refl; lists = refl };
            object = digest_value v;
            there = refl;
            hash = ap Some (sym is.digest.hash);
            iterations = digest_iterations ∙ ap Some (sym is.digest.iterations);
            salt = digest_salt_says ∙ ap Some (sym is.digest.own_salt);
            stored = digest_stored ∙ ap Some (sym is.digest.own_stored);
          };
        };
      }
