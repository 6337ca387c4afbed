-- What the readers tell of a value that differs in a keyslot's priority or in a token.
use Rattle.std.proofs.Common.{◌≡◌, ◌≢◌, ◌↔◌, ℕ, ◌<◌, [], ◌∷◌, Option, Some, None, option_map, option_and_then, codes, refl, sym, ap, ◌∙◌}
use Rattle.serde_json.specs.Data.{Data, number, unsigned}
use Rattle.serde_json.specs.Find.{get}
use Rattle.luks_json.specs.Number.{number_text}
use Rattle.luks_rules.specs.declared.table.Outer.TheVariants as outer
use Rattle.luks_rules.specs.declared.table.Member.TheVariants as name
use Rattle.luks_rules.specs.declared.table.Rule.TheVariants as rule
use Rattle.luks_rules.specs.declared.table.Section.TheVariants.{Digests, Keyslots, Segments, Tokens}
use Rattle.luks_rules.specs.Faults.{member_at, object_at}
use Rattle.luks_rules.specs.Reading.{bytes_in, number_in, reads, text_of}
use Rattle.luks_making.specs.declared.amended.Priority.{Priority}
use Rattle.luks_making.specs.declared.amended.Priority.TheVariants.{Ignore, Normal, Prefer}
use Rattle.luks_making.specs.Amended.{priority_number}
use Rattle.luks_making.specs.Unchanged.{KeepsOthers, KeepsUnnamed, SetsPriority}
use Rattle.luks_meta.specs.declared.keyslots.Cost.{Cost}
use Rattle.luks_meta.specs.declared.keyslots.Cost.TheVariants as cost
use Rattle.luks_meta.specs.declared.keyslots.Derivation.{Derivation}
use Rattle.luks_meta.specs.declared.keyslots.KeyArea.{KeyArea}
use Rattle.luks_meta.specs.declared.keyslots.Keyslot.{Keyslot}
use Rattle.luks_meta.specs.declared.keyslots.Splitter.{Splitter}
use Rattle.luks_meta.specs.Objects.{IsMissing, IsObject}
use Rattle.luks_meta.specs.Says.{TellsArea, TellsCost, TellsDigest, TellsKdf, TellsKeyslot, TellsSegment, TellsSplitter, TellsToken, priority_field}
use Rattle.luks_new_meta.specs.Records.{KeepsButPriority, KeepsTold, with_own_priority}
use Rattle.luks_new_meta.proofs.RecordFacts.{config_moved, in_section, same_missing, same_object}

-- ---- all that isn't named

none_by : (new old : Option Data) → ((d : Data) → new ≡ Some d → (was : Data) × (old ≡ Some was)) → old ≡ None → new ≡ None
none_by None old f e = refl
none_by (Some d) old f e = let p = f d refl in absurd (cc)

module _ (slot token : Option ℕ) (old new : Data) (rest : KeepsUnnamed slot token old new) where
  slot_missing : (m : ℕ) → IsMissing old Keyslots m ↔ IsMissing new Keyslots m
  slot_missing m = (
    λ none lt. none_by (object_at new Keyslots m) (object_at old Keyslots m) (λ d is. (let p = rest.named.back m d is in (p.0, p.1))) (none lt),
    λ none lt. none_by (object_at old Keyslots m) (object_at new Keyslots m) (λ d is. (let p = rest.named.there m d is in (p.0, p.1))) (none lt),
  )

  pub unnamed_told : KeepsTold slot token old new
  unnamed_told = record {
    keyslots = λ m k other. same_object TellsKeyslot old new Keyslots m k (rest.keyslots m other);
    no_keyslot = slot_missing;
    tokens = λ m k other. same_object TellsToken old new Tokens m k (rest.tokens m other);
    no_token = λ m other. same_missing old new Tokens m (rest.tokens m other);
    digests = λ m k. same_object TellsDigest old new Digests m k (in_section old new Digests m (rest.others (codes "digests") refl));
    segments = λ m k. same_object TellsSegment old new Segments m k (in_section old new Segments m (rest.others (codes "segments") refl));
    config = λ k. (config_moved old new k (rest.others (codes "config") refl), config_moved new old k (sym (rest.others (codes "config") refl)));
  }

-- ---- the keyslot whose priority is set

module _ (was d : Data) (kept : KeepsOthers (codes "priority" ∷ []) was d) where
  splitter_told : (k : Splitter) → TellsSplitter was k → TellsSplitter d k
  splitter_told k t = let same : get (codes "af") d ≡ get (codes "af") was = kept (codes "af") refl in rw same t

  area_told : (k : KeyArea) → TellsArea was k → TellsArea d k
  area_told k t = let same : get (codes "area") d ≡ get (codes "area") was = kept (codes "area") refl in rw same t

  cost_told : (k : Cost) → TellsCost was k → TellsCost d k
  cost_told (cost.Pbkdf2 k) t = let same : get (codes "kdf") d ≡ get (codes "kdf") was = kept (codes "kdf") refl in rw same t
  cost_told (cost.Argon2i k) t = let same : get (codes "kdf") d ≡ get (codes "kdf") was = kept (codes "kdf") refl in rw same t
  cost_told (cost.Argon2id k) t = let same : get (codes "kdf") d ≡ get (codes "kdf") was = kept (codes "kdf") refl in rw same t

  kdf_told : (k : Derivation) → TellsKdf was k → TellsKdf d k
  kdf_told k t = (
    cost_told k.cost t.0,
    (let same : get (codes "kdf") d ≡ get (codes "kdf") was = kept (codes "kdf") refl in ap (λ v. bytes_in 1 128 (option_and_then (get (codes "salt")) v)) same) ∙ t.1,
  )

  -- with the priority that it says
  keyslot_told : (p : Option ℕ) (k : Keyslot) → reads (rule.MayBeNumber 0 2) (member_at d outer.Top name.Priority) ≡ Some (priority_field p) → TellsKeyslot was k → TellsKeyslot d (with_own_priority p k)
  keyslot_told p k says t = (
    ap text_of (kept (codes "type") refl) ∙ t.0,
    ap (number_in 1 128) (kept (codes "key_size") refl) ∙ t.1,
    says,
    splitter_told k.af t.3,
    area_told k.area t.4,
    kdf_told k.kdf t.5,
  )

-- what a priority's member reads as
abbrev said : Priority → Option Data
said p = option_map (λ k. number (unsigned k)) (priority_number p)

priority_read : (p : Priority) (v : Option Data) → v ≡ said p → reads (rule.MayBeNumber 0 2) v ≡ Some (priority_field (priority_number p))
priority_read Ignore v e = rw e refl
priority_read Normal v e = rw e refl
priority_read Prefer v e = rw e refl

pub priority_told : (n : ℕ) (p : Priority) (old new : Data) → SetsPriority n p old new → KeepsButPriority n p old new
priority_told n p old new s = record {
  keyslot = λ k low told.
      let now = s.rest.named.there n told.object told.is in
      record {
        object = now.0;
        is = now.1;
        tells_members = keyslot_told told.object now.0 now.2 (priority_number p) k
            (priority_read p (get (codes "priority") now.0) (s.says now.0 (record { numbered = refl; named = low; is = now.1 }))) told.tells_members;
      };
  rest = unnamed_told (Some n) None old new s.rest;
}
