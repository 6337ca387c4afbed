-- The derivation of a keyslot, as a value that is made: its rows are read, and it says what it was made of.
use Rattle.std.proofs.Common.{◌≡◌, ℕ, ◌-◌, ◌*◌, ◌≤◌, ◌^◌, true, false, List, codes, Option, Some, None, option_and_then, is_some, nat_lt, refl, ap, ◌∙◌, arith}
use Rattle.std.specs.Prelude.{◌&&◌, ◌||◌}
use Rattle.std.proofs.lemmas.Bool.{false≢true, ltb-false}
use Rattle.std.proofs.lemmas.Bool.Decides.{nat_tests}
use Rattle.serde_json.specs.Data.{Data, string}
use Rattle.serde_json.specs.Find.{as_object, get}
use Rattle.luks_rules.specs.declared.table.Outer.TheVariants as outer
use Rattle.luks_rules.specs.declared.table.Member.TheVariants as name
use Rattle.luks_rules.specs.declared.table.Listed.TheVariants as listed
use Rattle.luks_rules.specs.declared.table.Rule.TheVariants as rule
use Rattle.luks_rules.specs.declared.table.When.TheVariants as when
use Rattle.luks_rules.specs.declared.table.Row.{Row}
use Rattle.luks_rules.specs.Faults.{suits}
use Rattle.luks_rules.specs.Reading.{bytes_in, number_in, reads, text_of}
use Rattle.luks_rules.specs.Table.{inside, member_name, only, small}
use Rattle.luks_making.specs.declared.derivation.Argon2Costs.{Argon2Costs}
use Rattle.luks_making.specs.declared.derivation.NewDerivation.{NewDerivation}
use Rattle.luks_making.specs.declared.derivation.NewDerivation.TheVariants.{Pbkdf2, Argon2i, Argon2id}
use Rattle.luks_making.specs.Conditions.{FitsCosts, FitsDerivation, IsSalt}
use Rattle.luks_making.specs.Derivations.{ArePositive, FitsNewDerivation, IsPositiveOr, chosen_beyond, costs_beyond, few_turns_or}
use Rattle.luks_making.specs.Derivations.{FitsCosts as HasSmallCosts}
use Rattle.luks_making.specs.Keyslots.{Deriving, by_pbkdf2, by_argon2i, by_argon2id, base64_text, derivation_by, kdf_value}
use Rattle.luks_making.specs.Unchanged.{SaysDerivation}
use Rattle.luks_making.proofs.EachFacts.{IsFine}
use Rattle.luks_making.proofs.ReadingFacts.{below_32, bytes_are, number_is, number_read, salt_read}

-- ---- its rows

-- the row of a derivation is read in the value `v`, where it is judged
abbrev ReadIn : Option Data → Row → Type 0
ReadIn v r = (is_some (option_and_then as_object v) && suits r.when (text_of (option_and_then (get (codes "type")) v))) ≡ true
    → is_some (reads r.rule (option_and_then (get (member_name r.name)) v)) ≡ true

-- each row of a derivation is read
pub record ReadsKdf (v : Option Data) : Type 0 where
  pub object : is_some (option_and_then as_object v) ≡ true
  pub cpus : ReadIn v (only when.Argon2 (inside outer.Kdf name.Cpus small))
  pub hash : ReadIn v (only when.Pbkdf2 (inside outer.Kdf name.Hash rule.Text))
  pub iterations : ReadIn v (only when.Pbkdf2 (inside outer.Kdf name.Iterations small))
  pub memory : ReadIn v (only when.Argon2 (inside outer.Kdf name.Memory small))
  pub salt : ReadIn v (inside outer.Kdf name.Salt (rule.Base64 1 128))
  pub time : ReadIn v (only when.Argon2 (inside outer.Kdf name.Time small))
  pub kind : ReadIn v (inside outer.Kdf name.Kind (rule.Type listed.Derivation))

-- those of one that is made are
pub made_read : (d : Deriving) (salt : List ℕ) → FitsDerivation d → IsSalt salt → ReadsKdf (Some (kdf_value d salt))
made_read (by_pbkdf2 hash iterations) salt fits h = record {
  object = refl;
  cpus = λ j. absurd (false≢true j);
  hash = λ _. refl;
  iterations = λ _. number_read 1 4294967295 iterations fits;
  memory = λ j. absurd (false≢true j);
  salt = λ _. salt_read salt h;
  time = λ j. absurd (false≢true j);
  kind = λ _. refl;
}
made_read (by_argon2i costs) salt fits h = record {
  object = refl;
  cpus = λ _. number_read 1 4294967295 costs.cpus fits.cpus;
  hash = λ j. absurd (false≢true j);
  iterations = λ j. absurd (false≢true j);
  memory = λ _. number_read 1 4294967295 costs.memory fits.memory;
  salt = λ _. salt_read salt h;
  time = λ _. number_read 1 4294967295 costs.time fits.time;
  kind = λ _. refl;
}
made_read (by_argon2id costs) salt fits h = record {
  object = refl;
  cpus = λ _. number_read 1 4294967295 costs.cpus fits.cpus;
  hash = λ j. absurd (false≢true j);
  iterations = λ j. absurd (false≢true j);
  memory = λ _. number_read 1 4294967295 costs.memory fits.memory;
  salt = λ _. salt_read salt h;
  time = λ _. number_read 1 4294967295 costs.time fits.time;
  kind = λ _. refl;
}

-- its numbers are whole, and it nests one level
pub made_fine : (d : Deriving) (salt : List ℕ) → IsFine 124 (kdf_value d salt)
made_fine (by_pbkdf2 hash iterations) salt = record { whole = refl; nests = omega arith }
made_fine (by_argon2i costs) salt = record { whole = refl; nests = omega arith }
made_fine (by_argon2id costs) salt = record { whole = refl; nests = omega arith }

-- ---- what it says

-- a keyslot with a derivation that is made says it
pub says_derivation : (k : Deriving) (salt : List ℕ) (d : Data) → get (codes "kdf") d ≡ Some (kdf_value k salt) → FitsDerivation k → SaysDerivation k d
says_derivation (by_pbkdf2 hash iterations) salt d is fits = record {
  kind = ap (λ v. text_of (option_and_then (get (codes "type")) v)) is;
  hash = ap (λ v. text_of (option_and_then (get (codes "hash")) v)) is;
  iterations = ap (λ v. number_in 1 4294967295 (option_and_then (get (codes "iterations")) v)) is ∙ number_is 1 4294967295 iterations fits;
}
says_derivation (by_argon2i costs) salt d is fits = record {
  kind = ap (λ v. text_of (option_and_then (get (codes "type")) v)) is;
  time = ap (λ v. number_in 1 4294967295 (option_and_then (get (codes "time")) v)) is ∙ number_is 1 4294967295 costs.time fits.time;
  memory = ap (λ v. number_in 1 4294967295 (option_and_then (get (codes "memory")) v)) is ∙ number_is 1 4294967295 costs.memory fits.memory;
  cpus = ap (λ v. number_in 1 4294967295 (option_and_then (get (codes "cpus")) v)) is ∙ number_is 1 4294967295 costs.cpus fits.cpus;
}
says_derivation (by_argon2id costs) salt d is fits = record {
  kind = ap (λ v. text_of (option_and_then (get (codes "type")) v)) is;
  time = ap (λ v. number_in 1 4294967295 (option_and_then (get (codes "time")) v)) is ∙ number_is 1 4294967295 costs.time fits.time;
  memory = ap (λ v. number_in 1 4294967295 (option_and_then (get (codes "memory")) v)) is ∙ number_is 1 4294967295 costs.memory fits.memory;
  cpus = ap (λ v. number_in 1 4294967295 (option_and_then (get (codes "cpus")) v)) is ∙ number_is 1 4294967295 costs.cpus fits.cpus;
}

-- the salt is in it
salt_stands : (k : Deriving) (salt : List ℕ) → option_and_then (get (codes "salt")) (Some (kdf_value k salt)) ≡ Some (string (base64_text salt))
salt_stands (by_pbkdf2 hash iterations) salt = refl
salt_stands (by_argon2i costs) salt = refl
salt_stands (by_argon2id costs) salt = refl

-- and is said
pub says_salt : (k : Deriving) (salt : List ℕ) (d : Data) → get (codes "kdf") d ≡ Some (kdf_value k salt) → IsSalt salt → bytes_in 1 128 (option_and_then (get (codes "salt")) (get (codes "kdf") d)) ≡ Some salt
says_salt k salt d is h =
    ap (λ v. bytes_in 1 128 (option_and_then (get (codes "salt")) v)) is ∙ ap (bytes_in 1 128) (salt_stands k salt)
    ∙ bytes_are 1 128 salt (omega arith) h.are_bytes h.long

-- ---- a derivation that is chosen

costs_fit : (costs : Argon2Costs) → HasSmallCosts costs → ArePositive costs → FitsCosts costs
costs_fit costs fits one = record { time = below_32 costs.time one.0 fits.0; memory = below_32 costs.memory one.1 fits.1; cpus = below_32 costs.cpus one.2 fits.2 }

-- one of positive numbers of 32 bits is one that its rows read
pub chosen_fits : (hash : List ℕ) (n : ℕ) (c : NewDerivation) → FitsNewDerivation c → IsPositiveOr n (Some c) → FitsDerivation (derivation_by hash c)
chosen_fits hash n (Pbkdf2 iterations) fits one = below_32 iterations one fits
chosen_fits hash n (Argon2i costs) fits one = costs_fit costs fits one
chosen_fits hash n (Argon2id costs) fits one = costs_fit costs fits one

some_turn : (n : ℕ) → nat_lt n 1000 ≡ false → 1 ≤ n
some_turn n few = (let high : 1000 ≤ n = ltb-false n 1000 few in omega (arith, high))

some_lane : (allowed m c : ℕ) → (nat_lt allowed m || nat_lt m (8 * c) || nat_lt c 1 || nat_lt (2 ^ 24 - 1) c) ≡ false → 1 ≤ c
some_lane allowed m c off = grind (arith, nat_tests)

some_memory : (allowed m c : ℕ) → (nat_lt allowed m || nat_lt m (8 * c) || nat_lt c 1 || nat_lt (2 ^ 24 - 1) c) ≡ false → 1 ≤ m
some_memory allowed m c off = grind (arith, nat_tests)

costs_positive : (allowed : ℕ) (costs : Argon2Costs) → nat_lt costs.time 1 ≡ false → costs_beyond allowed costs ≡ false → ArePositive costs
costs_positive allowed costs few off = (ltb-false costs.time 1 few, some_memory allowed costs.memory costs.cpus off, some_lane allowed costs.memory costs.cpus off)

-- what isn't refused is positive
pub unrefused_positive : (allowed n : ℕ) (chosen : Option NewDerivation) → few_turns_or n chosen ≡ false → chosen_beyond allowed chosen ≡ false → IsPositiveOr n chosen
unrefused_positive allowed n None few off = some_turn n few
unrefused_positive allowed n (Some (Pbkdf2 iterations)) few off = some_turn iterations few
unrefused_positive allowed n (Some (Argon2i costs)) few off = costs_positive allowed costs few off
unrefused_positive allowed n (Some (Argon2id costs)) few off = costs_positive allowed costs few off
