-- What `luks_meets_bytes` answers.
use Rattle.std.specs.Prelude.{◌≡◌, ◌≢◌, ◌==◌, ℕ, List, if◌then◌else◌, nat_lt, Bool, true, false, Option, None, Some, Ok, Err}
use Rattle.luks_reading.specs.KeyAnswers.{IsKeyAnswered}
use Rattle.luks_reading.specs.declared.key_fault.KeyFault.{KeyFault}
use Rattle.luks_reading.specs.declared.matching.KeyMatch.{KeyMatch}
use Rattle.luks_c_answers.specs.Numbers.{key_number}

-- the digest that is asked for by this number: none, where it is 2^32 - 1; 255, which no volume has, stands for those that a
-- byte doesn't hold
abbrev pub digest_asked : ℕ → Option ℕ
digest_asked number = if number == 4294967295 then None else Some (if nat_lt number 256 then number else 255)

-- the key was judged by the digest of this number, and meets it or not
pub record IsJudged (v : List ℕ) (asked : Option ℕ) (older : Bool) (key : List ℕ) (matches : Bool) (digest : ℕ) : Type 0 where
  pub found : KeyMatch
  pub answered : IsKeyAnswered v asked older key (Ok found)
  pub so : found.matches ≡ matches
  pub digest_is : digest ≡ found.digest

-- it wasn't, by a fault of this number: the first, unless another range has to be given or memory was refused
pub record IsUnjudged (v : List ℕ) (asked : Option ℕ) (older : Bool) (key : List ℕ) (number : ℕ) : Type 0 where
  pub fault : KeyFault
  pub answered : IsKeyAnswered v asked older key (Err fault)
  pub is : number ≡ key_number fault

-- 0 says that the key is the volume's, 105 that it isn't, any other number why that isn't told
pub record AnswersMeets (v : List ℕ) (asked : Option ℕ) (older : Bool) (key : List ℕ) (digest number : ℕ) : Type 0 where
  pub meets : number ≡ 0 → IsJudged v asked older key true digest
  pub fails : number ≡ 105 → IsJudged v asked older key false digest
  pub refused : number ≢ 0 → number ≢ 105 → IsUnjudged v asked older key number
