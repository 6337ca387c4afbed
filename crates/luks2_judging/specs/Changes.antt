-- How a change of the metadata `j` is judged by the tokens that are there, and what it takes.
use Rattle.std.specs.Prelude.{◌≡◌, ℕ, Option, Some, None, ⊤}
use Rattle.serde_json.specs.Data.{Data as Value}
use Rattle.serde_json.specs.View.{view}
use Rattle.luks_making.specs.declared.amended.Change.{Change}
use Rattle.luks_edit.specs.declared.edit_fault.EditFault.{EditFault}
use Rattle.luks_edit.specs.declared.edit_fault.EditFault.TheVariants as fault
use Rattle.luks_edit.specs.Asked.{MatchChange}
use Rattle.luks2_edit_laws.specs.Metadata.{HasToken, IsFreeToken, IsInUse, IsNewToken}
use Rattle.luks2_edit_laws.specs.Refused.{HasNoFreeToken, HasNoTokenNumber, IsTokenAt, IsTokenTaken, IsUnreadable, IsUnreadableToken, LacksToken}
use Rattle.luks2_judging.specs.declared.judged.JudgedChange.{JudgedChange}
use Rattle.luks2_judging.specs.declared.judged.JudgedChange.TheVariants as judged

-- ---- the number of a token that is added

pub record IsNewTokenNumber (j : Value) (to : Option ℕ) (n : ℕ) : Type 0 where
  pub is_new : IsNewToken j to n
  pub free : IsFreeToken j n

-- why there is none
abbrev pub IsTokenNumberFault : Value → Option ℕ → EditFault → Type 0
IsTokenNumberFault j to fault.TokenTaken = IsTokenAt j to
IsTokenNumberFault j to fault.NoFreeToken = HasNoTokenNumber j to
IsTokenNumberFault j to f = ⊥

-- ---- the change

-- the keyslot is there whose priority the change sets
abbrev pub HasPriorityThere : Value → Change → Type 0
HasPriorityThere j c = MatchChange c (λ slot priority. IsInUse j slot) (λ to token. ⊤) (λ number. ⊤)

-- the change takes this
abbrev pub IsTakenAs : Value → Change → JudgedChange → Type 0
IsTakenAs j c (judged.Priority n p) = MatchChange c (λ slot priority. (n ≡ slot) × (p ≡ priority) × IsInUse j n) (λ to token. ⊥) (λ number. ⊥)
IsTakenAs j c (judged.AddToken n t) = MatchChange c (λ slot priority. ⊥) (λ to token. (t ≡ token) × IsNewTokenNumber j to n × (IsUnreadable (view token.now) → ⊥)) (λ number. ⊥)
IsTakenAs j c (judged.RemoveToken n) = MatchChange c (λ slot priority. ⊥) (λ to token. ⊥) (λ number. (n ≡ number) × HasToken j n)

-- nothing is taken where nothing changes
abbrev pub IsTakenChange : Value → Option Change → Option JudgedChange → Type 0
IsTakenChange j None None = ⊤
IsTakenChange j (Some c) (Some taken) = IsTakenAs j c taken
IsTakenChange j o t = ⊥

-- why it takes nothing
abbrev pub IsChangeFault : Value → Change → EditFault → Type 0
IsChangeFault j c fault.NoSuchToken = LacksToken j c
IsChangeFault j c fault.TokenTaken = IsTokenTaken j c
IsChangeFault j c fault.NoFreeToken = HasNoFreeToken j c
IsChangeFault j c fault.UnreadableToken = (IsTokenTaken j c → ⊥) × (HasNoFreeToken j c → ⊥) × IsUnreadableToken c
IsChangeFault j c f = ⊥
