-- There is room for a keyslot that is made with the members of another.
use Rattle.std.proofs.Common.{◌≡◌, ℕ, ◌*◌, ◌<◌, ◌≤◌, ◌^◌, List, codes, length, Option, Some, None, refl, sym, ◌∙◌}
use Rattle.std.specs.Prelude.{IfSome}
use Rattle.serde_json.specs.Data.{Data}
use Rattle.luks_area.specs.Sectors.{rounded_to_sectors}
use Rattle.luks_rules.specs.declared.table.Outer.TheVariants as outer
use Rattle.luks_rules.specs.Accepted.{IsContent}
use Rattle.luks_rules.specs.Held.{IsHeld}
use Rattle.luks_rules.specs.Sizes.{inside_at}
use Rattle.luks_making.specs.Conditions.{Between, CanSeal, FitsCosts, FitsDerivation, FitsNew, FitsSlot, IsFree, IsInRegion, IsRoom}
use Rattle.luks_making.specs.declared.derivation.Argon2Costs.{Argon2Costs}
use Rattle.luks_making.specs.declared.derivation.NewDerivation.{NewDerivation}
use Rattle.luks_making.specs.Derivations.{FitsNewDerivation, IsPositive, IsPositiveOr}
use Rattle.luks_making.specs.Keyslots.{Deriving, by_pbkdf2, by_argon2i, by_argon2id, HasCosts, IsDerivedLike, IsDerivedOr, IsMadeFrom, NewMembers, SlotMembers, slot_value}
use Rattle.luks_making.specs.Naming.{HasUniqueDigests}
use Rattle.luks_making.specs.Unchanged.{GainsSlot, SaysMembers}
use Rattle.luks_making.specs.With.{IsAdded}
use Rattle.luks_making.proofs.AdditionFacts.{held_with, slot_gained}
use Rattle.luks_making.proofs.FreeNumberFacts.{unnamed_free}
use Rattle.luks_making.proofs.KdfFacts.{chosen_fits, says_derivation, says_salt}
use Rattle.luks_making.proofs.MemberFacts.{some_same}
use Rattle.luks_making.proofs.ReadingFacts.{below_32, decimal_is, in_between, number_is}

-- its derivation is one that its rows read
costs_fit : (d : Data) (costs : Argon2Costs) → HasCosts d costs → FitsCosts costs
costs_fit d costs x = record {
  time = in_between 1 4294967295 costs.time (inside_at outer.Kdf (codes "time") d) x.time;
  memory = in_between 1 4294967295 costs.memory (inside_at outer.Kdf (codes "memory") d) x.memory;
  cpus = in_between 1 4294967295 costs.cpus (inside_at outer.Kdf (codes "cpus") d) x.cpus;
}

like_fits : (d : Data) (n : ℕ) (k : Deriving) → IsDerivedLike d n k → Between 1 4294967295 n → FitsDerivation k
like_fits d n (by_pbkdf2 hash iterations) like turns = rw like.2 turns
like_fits d n (by_argon2i costs) like turns = costs_fit d costs like.1
like_fits d n (by_argon2id costs) like turns = costs_fit d costs like.1

-- also where it is chosen
fits_derivation : (d : Data) (n : ℕ) (hash : List ℕ) (chosen : Option NewDerivation) (k : Deriving) → IsDerivedOr d n hash chosen k
    → n < 2 ^ 32 → IfSome chosen FitsNewDerivation → IsPositiveOr n chosen → FitsDerivation k
fits_derivation d n hash None k like small fits one = like_fits d n k like (below_32 n one small)
fits_derivation d n hash (Some c) k is small fits one = rw is (chosen_fits hash n c fits one)

-- its members are ones that their rows read
fits_slot : (d : Data) (f : NewMembers) (s : SlotMembers) → IsMadeFrom d f s → FitsNew f → IsPositive f.derivation → Between 1 128 (length f.salt) → FitsSlot s
fits_slot d f s made new one long = record {
  key_size = in_between 1 128 s.key_size (inside_at outer.Top (codes "key_size") d) made.key_size;
  stripes = in_between 1 4294967295 s.stripes (inside_at outer.Af (codes "stripes") d) made.stripes;
  offset = rw made.offset new.offset;
  size = rw made.size new.size;
  area_key_size = in_between 1 128 s.area_key_size (inside_at outer.Area (codes "key_size") d) made.area_key_size;
  derivation = fits_derivation d f.derivation.iterations s.splitter_hash f.derivation.chosen s.derivation made.derivation new.derivation.iterations new.derivation.chosen one;
  salt = rw made.salt (record { are_bytes = new.salt; long = long });
}

module _ (len to by : ℕ) (f : NewMembers) (j new : Data) (c : IsContent len j) (u : HasUniqueDigests j) (free : IsFree j to) (can : CanSeal len j by f) (types : FitsNew f) (a : IsAdded to by f j new) where
  same_slot : a.from ≡ can.slot.object
  same_slot = some_same a.from can.slot.object (sym a.there.is ∙ can.slot.there.is)

  large_enough : rounded_to_sectors (a.slot.key_size * a.slot.stripes) ≤ a.slot.size
  large_enough = rw a.made.size (can.large a.slot.key_size a.slot.stripes (rw same_slot at a.made.key_size) (rw same_slot at a.made.stripes))

  within_region : IsInRegion len j a.slot.offset a.slot.size
  within_region bytes e = rw (a.made.offset, a.made.size) (can.within bytes e)

  pub room : IsRoom len to a.digest a.slot j a.names.object
  room = record {
    number = free;
    unnamed = unnamed_free len to j c free.free u;
    digest = record { numbered = refl; named = a.names.numbered; is = a.names.is };
    fits = fits_slot a.from f a.slot a.made types can.derivation can.salt;
    large = large_enough;
    within = within_region;
  }

-- the value with it meets every rule
pub held_added : (len to by : ℕ) (f : NewMembers) (j new : Data) → IsHeld len j → HasUniqueDigests j → IsFree j to → CanSeal len j by f → FitsNew f → IsAdded to by f j new → IsHeld len new
held_added len to by f j new h u free can types a =
    rw a.is (held_with len to a.digest a.slot j a.names.object h (room len to by f j new h.content u free can types a))

-- and all else is as it was
pub gained_added : (len to by : ℕ) (f : NewMembers) (j new : Data) → IsHeld len j → HasUniqueDigests j → IsFree j to → CanSeal len j by f → FitsNew f → (a : IsAdded to by f j new)
    → GainsSlot to a.digest a.slot j new
gained_added len to by f j new h u free can types a =
    rw a.is (slot_gained len to a.digest a.slot j a.names.object h.content (room len to by f j new h.content u free can types a))

-- the keyslot says its members
pub says_members : (s : SlotMembers) → FitsSlot s → SaysMembers s (slot_value s)
says_members s f = record {
  kind = refl;
  key_size = number_is 1 128 s.key_size f.key_size;
  no_priority = refl;
  splitter = refl;
  splitter_hash = refl;
  stripes = number_is 1 4294967295 s.stripes f.stripes;
  area = refl;
  encryption = refl;
  area_key_size = number_is 1 128 s.area_key_size f.area_key_size;
  offset = decimal_is s.offset f.offset;
  size = decimal_is s.size f.size;
  derivation = says_derivation s.derivation s.salt (slot_value s) refl f.derivation;
  salt = says_salt s.derivation s.salt (slot_value s) refl f.salt;
}
