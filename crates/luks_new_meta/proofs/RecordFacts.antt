-- What the readers tell of a value that an edit made, beside what they told of the old one.
use Rattle.std.proofs.Common.{◌≡◌, ◌↔◌, ℕ, List, [], ◌∷◌, ◌++◌, map, Option, Some, option_map, option_and_then, bytes_eq, codes, refl, sym, ap, ◌∙◌, inl, inr}
use Rattle.std.specs.Prelude.{◌==◌, not}
use Rattle.std.specs.List.{filter}
use Rattle.std.proofs.lemmas.Bool.{cases_Bool, cases_eq, eq-eqb, ne_eqb}
use Rattle.std.proofs.lemmas.Slice.Eq.{bytes_eq-Decides}
use Rattle.serde_json.specs.Data.{Data}
use Rattle.serde_json.specs.Find.{get}
use Rattle.luks_json.specs.Names.{numbers_of_array}
use Rattle.luks_json.specs.Number.{number_text}
use Rattle.luks_rules.specs.declared.table.Section.{Section}
use Rattle.luks_rules.specs.declared.table.Section.TheVariants.{Digests, Keyslots, Segments, Tokens}
use Rattle.luks_rules.specs.declared.table.Section.TheVariants.{Config as ConfigSection}
use Rattle.luks_rules.specs.Faults.{object_at, section_at}
use Rattle.luks_rules.specs.Reading.{bytes_in, number_in, text_of, texts_of}
use Rattle.luks_json.proofs.NameLists.{reads_names}
use Rattle.luks_making.proofs.NameFacts.{same_number}
use Rattle.luks_making.specs.Keyslots.{NewMembers, SlotMembers}
use Rattle.luks_making.specs.Unchanged.{ChangesSlot, GainsSlot, KeepsObjects, KeepsOthers, KeepsRest, LosesSlot, LosesSlots}
use Rattle.luks_meta.specs.declared.configuration.Config.{Config}
use Rattle.luks_meta.specs.declared.digests.Digest.{Digest}
use Rattle.luks_meta.specs.declared.tokens.Token.{Token}
use Rattle.luks_meta.specs.Objects.{IsConfig, IsMissing, IsObject}
use Rattle.luks_new_meta.specs.Records.{GainsNumber, KeepsNumbers, KeepsRecords, LosesNumber, LosesNumbers, SameDigest, others}
use Rattle.luks_meta.specs.Says.{TellsDigest, TellsKeyslot, TellsSegment, TellsToken}

pub some_same : {A : Type 0} (x y : A) → Some x ≡ Some y → x ≡ y
some_same x y e = cc

-- ---- objects that are equal are told the same

object_moved : {K : Type 0} (tells : Data → K → Type 0) (i j : Data) (s : Section) (n : ℕ) (k : K) → object_at j s n ≡ object_at i s n → IsObject tells i s n k → IsObject tells j s n k
object_moved tells i j s n k same o = record { object = o.object; is = same ∙ o.is; tells_members = o.tells_members }

pub same_object : {K : Type 0} (tells : Data → K → Type 0) (i j : Data) (s : Section) (n : ℕ) (k : K) → object_at j s n ≡ object_at i s n → IsObject tells i s n k ↔ IsObject tells j s n k
same_object tells i j s n k same = (object_moved tells i j s n k same, object_moved tells j i s n k (sym same))

pub same_missing : (i j : Data) (s : Section) (n : ℕ) → object_at j s n ≡ object_at i s n → IsMissing i s n ↔ IsMissing j s n
same_missing i j s n same = (λ none lt. same ∙ none lt, λ none lt. sym same ∙ none lt)

-- an object of an equal section
pub in_section : (i j : Data) (s : Section) (n : ℕ) → section_at j s ≡ section_at i s → object_at j s n ≡ object_at i s n
in_section i j s n same = ap (option_and_then (get (number_text n))) same

-- ---- a digest or token that differs in its keyslots alone

-- the object that is told of the new value, beside that of the old
record Beside (old new : Data) (s : Section) (m : ℕ) (was d : Data) : Type 0 where
  before : object_at old s m ≡ Some was
  after : object_at new s m ≡ Some d
  kept : KeepsOthers (codes "keyslots" ∷ []) was d

beside_of : (old new : Data) (s : Section) (m : ℕ) (was d : Data) → KeepsObjects (codes "keyslots" ∷ []) s old new → object_at old s m ≡ Some was → object_at new s m ≡ Some d → Beside old new s m was d
beside_of old new s m was d keeps before after =
    let t = keeps.there m was before in
    let same : t.0 ≡ d = some_same t.0 d (sym t.1 ∙ after) in
    record { before = before; after = after; kept = rw (← same) t.2 }

same_digest : (was d : Data) (k l : Digest) → KeepsOthers (codes "keyslots" ∷ []) was d → TellsDigest was k → TellsDigest d l → SameDigest k l
same_digest was d k l kept a b = record {
  hash = some_same _ _ (sym b.1 ∙ (ap text_of (kept (codes "hash") refl) ∙ a.1));
  iterations = some_same _ _ (sym b.2 ∙ (ap (number_in 1 4294967295) (kept (codes "iterations") refl) ∙ a.2));
  salt = some_same _ _ (sym b.3 ∙ (ap (bytes_in 1 128) (kept (codes "salt") refl) ∙ a.3));
  digest = some_same _ _ (sym b.4 ∙ (ap (bytes_in 20 64) (kept (codes "digest") refl) ∙ a.4));
  segments = some_same _ _ (sym b.6 ∙ (ap numbers_of_array (kept (codes "segments") refl) ∙ a.6));
}

digests_told : (old new : Data) (m : ℕ) (k l : Digest) → KeepsObjects (codes "keyslots" ∷ []) Digests old new → IsObject TellsDigest old Digests m k → IsObject TellsDigest new Digests m l → SameDigest k l
digests_told old new m k l keeps a b = same_digest a.object b.object k l (beside_of old new Digests m a.object b.object keeps a.is b.is).kept a.tells_members b.tells_members

tokens_told : (old new : Data) (m : ℕ) (k l : Token) → KeepsObjects (codes "keyslots" ∷ []) Tokens old new → IsObject TellsToken old Tokens m k → IsObject TellsToken new Tokens m l → l.kind.now ≡ k.kind.now
tokens_told old new m k l keeps a b =
    let kept = (beside_of old new Tokens m a.object b.object keeps a.is b.is).kept in
    some_same _ _ (sym b.tells_members.0 ∙ (ap text_of (kept (codes "type") refl) ∙ a.tells_members.0))

pub config_moved : (i j : Data) (k : Config) → section_at j ConfigSection ≡ section_at i ConfigSection → IsConfig i k → IsConfig j k
config_moved i j k same o = record { object = o.object; is = same ∙ o.is; tells_members = o.tells_members }

-- what every edit keeps
pub records_kept : (n : ℕ) (old new : Data) → KeepsRest n old new → KeepsRecords n old new
records_kept n old new r = record {
  keyslots = λ m k other. same_object TellsKeyslot old new Keyslots m k (r.keyslots m other);
  no_keyslot = λ m other. same_missing old new Keyslots m (r.keyslots m other);
  segments = λ m k. same_object TellsSegment old new Segments m k (in_section old new Segments m r.segments);
  no_segment = λ m. same_missing old new Segments m (in_section old new Segments m r.segments);
  config = λ k. (config_moved old new k r.config, config_moved new old k (sym r.config));
  digests = λ m k l a b. digests_told old new m k l r.digests a b;
  tokens = λ m k l a b. tokens_told old new m k l r.tokens a b;
}

-- ---- the keyslots that they name

heads : (a b : List ℕ) (us ts : List (List ℕ)) → a ∷ us ≡ b ∷ ts → (a ≡ b) × (us ≡ ts)
heads a b us ts e = (cc, cc)

-- equal names, equal numbers
same_numbers : (ms ns : List ℕ) → map number_text ms ≡ map number_text ns → ms ≡ ns
same_numbers [] [] e = refl
same_numbers [] (n ∷ ns) e = absurd (cc)
same_numbers (m ∷ ms) [] e = absurd (cc)
same_numbers (m ∷ ms) (n ∷ ns) e =
    let p = heads (number_text m) (number_text n) (map number_text ms) (map number_text ns) e in
    let first : m ≡ n = same_number m n p.0 in
    let rest : ms ≡ ns = same_numbers ms ns p.1 in
    rw (first, rest) refl

-- a name stands for a number exactly where it equals that number's
told_apart : (i n : ℕ) → bytes_eq (number_text i) (number_text n) ≡ (i == n)
told_apart i n = elim (cases_eq i n) [
  | inl same ↦ rw same ((bytes_eq-Decides (number_text n) (number_text n)).1 refl ∙ sym (eq-eqb n n refl))
  | inr other ↦ elim (cases_Bool (bytes_eq (number_text i) (number_text n))) [
    | inl on ↦ absurd (other (same_number i n ((bytes_eq-Decides (number_text i) (number_text n)).0 on)))
    | inr off ↦ off ∙ sym (ne_eqb i n other)
  ]
]

filtered : (n : ℕ) (ns : List ℕ) → filter (λ t. not (bytes_eq t (number_text n))) (map number_text ns) ≡ map number_text (others n ns)
filtered n [] = refl
filtered n (i ∷ ns) = elim (cases_Bool (i == n)) [
  | inl same ↦ rw (told_apart i n, same) (filtered n ns)
  | inr other ↦ rw (told_apart i n, other) (ap (λ ts. number_text i ∷ ts) (filtered n ns))
]

last_named : (n : ℕ) (ns : List ℕ) → map number_text ns ++ number_text n ∷ [] ≡ map number_text (ns ++ n ∷ [])
last_named n [] = refl
last_named n (i ∷ ns) = ap (λ ts. number_text i ∷ ts) (last_named n ns)

-- the numbers of an array without a name, and with one more
numbers_lost : (n : ℕ) (v w : Option Data) (ks ls : List ℕ) → numbers_of_array v ≡ Some ks → numbers_of_array w ≡ Some ls
    → texts_of w ≡ option_map (filter (λ t. not (bytes_eq t (number_text n)))) (texts_of v) → ls ≡ others n ks
numbers_lost n v w ks ls a b e =
    let old : texts_of v ≡ Some (map number_text ks) = reads_names v ks a in
    let new : texts_of w ≡ Some (map number_text ls) = reads_names w ls b in
    let both : Some (map number_text ls) ≡ Some (filter (λ t. not (bytes_eq t (number_text n))) (map number_text ks))
    = sym new ∙ (e ∙ ap (option_map (filter (λ t. not (bytes_eq t (number_text n))))) old) in
    same_numbers ls (others n ks) (some_same _ _ both ∙ filtered n ks)

numbers_gained : (n : ℕ) (v w : Option Data) (ks ls : List ℕ) → numbers_of_array v ≡ Some ks → numbers_of_array w ≡ Some ls
    → texts_of w ≡ option_map (λ ts. ts ++ number_text n ∷ []) (texts_of v) → ls ≡ ks ++ n ∷ []
numbers_gained n v w ks ls a b e =
    let old : texts_of v ≡ Some (map number_text ks) = reads_names v ks a in
    let new : texts_of w ≡ Some (map number_text ls) = reads_names w ls b in
    let both : Some (map number_text ls) ≡ Some (map number_text ks ++ number_text n ∷ [])
    = sym new ∙ (e ∙ ap (option_map (λ ts. ts ++ number_text n ∷ [])) old) in
    same_numbers ls (ks ++ n ∷ []) (some_same _ _ both ∙ last_named n ks)

-- those of an array without names
no_numbers : (w : Option Data) (ls : List ℕ) → numbers_of_array w ≡ Some ls → ((names : List (List ℕ)) → texts_of w ≡ Some names → names ≡ []) → ls ≡ []
no_numbers w ls b none = same_numbers ls [] (none (map number_text ls) (reads_names w ls b))

-- ---- each edit

pub numbers_removed : (n : ℕ) (old new : Data) → LosesSlot n old new → LosesNumber n old new
numbers_removed n old new r = record {
  digests = λ m k l a b. numbers_lost n (get (codes "keyslots") a.object) (get (codes "keyslots") b.object) k.keyslots.items l.keyslots.items a.tells_members.5 b.tells_members.5
      (r.digests.texts m a.object b.object a.is b.is);
  tokens = λ m k l a b. numbers_lost n (get (codes "keyslots") a.object) (get (codes "keyslots") b.object) k.keyslots.items l.keyslots.items a.tells_members.1 b.tells_members.1
      (r.tokens.texts m a.object b.object a.is b.is);
}

pub numbers_gone : (old new : Data) → LosesSlots old new → LosesNumbers old new
numbers_gone old new r = record {
  keyslots = λ n low. r.gone n;
  digests = λ m k l a b. (
    digests_told old new m k l r.digests.rest a b,
    no_numbers (get (codes "keyslots") b.object) l.keyslots.items b.tells_members.5 (λ names texts. r.digests.none m b.object names b.is texts),
  );
  tokens = λ m k l a b. (
    tokens_told old new m k l r.tokens.rest a b,
    no_numbers (get (codes "keyslots") b.object) l.keyslots.items b.tells_members.1 (λ names texts. r.tokens.none m b.object names b.is texts),
  );
  segments = λ m k. same_object TellsSegment old new Segments m k (in_section old new Segments m r.segments);
  no_segment = λ m. same_missing old new Segments m (in_section old new Segments m r.segments);
  config = λ k. (config_moved old new k r.config, config_moved new old k (sym r.config));
}

pub number_added : (n m : ℕ) (s : SlotMembers) (old new : Data) → GainsSlot n m s old new → GainsNumber n m old new
number_added n m s old new r = record {
  digest = λ k l a b. numbers_gained n (get (codes "keyslots") a.object) (get (codes "keyslots") b.object) k.keyslots.items l.keyslots.items a.tells_members.5 b.tells_members.5
      (r.texts a.object b.object a.is b.is);
  digests = λ i k other. same_object TellsDigest old new Digests i k (r.digests i other);
  tokens = λ i k. same_object TellsToken old new Tokens i k (in_section old new Tokens i r.tokens);
}

pub numbers_same : (n : ℕ) (f : NewMembers) (old new : Data) → ChangesSlot n f old new → KeepsNumbers old new
numbers_same n f old new r = record {
  digests = λ i k. same_object TellsDigest old new Digests i k (in_section old new Digests i (r.sections (codes "digests") refl));
  tokens = λ i k. same_object TellsToken old new Tokens i k (in_section old new Tokens i (r.sections (codes "tokens") refl));
}
