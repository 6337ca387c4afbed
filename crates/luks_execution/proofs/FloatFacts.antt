-- The object of an answer has no number with a fraction.
use Rattle.std.proofs.Common.{◌≡◌, ℕ, List, [], ◌∷◌, map, false, Some, None, refl, ap, ◌∙◌}
use Rattle.std.specs.Prelude.{codes}
use Rattle.serde_json.specs.Data.{Data, string}
use Rattle.serde_json.specs.View.{items_of}
use Rattle.serde_json.specs.Written.{has_float, items_have_float}
use Rattle.luks_reading.specs.declared.report.Version.{Version}
use Rattle.luks_reading.specs.declared.report.Version.TheVariants.{Luks1, Luks2}
use Rattle.luks_commands.specs.declared.answers.Answer.{Answer}
use Rattle.luks_commands.specs.declared.answers.Answer.TheVariants.{Accepted, Listed, ListedFully, Mapped, Tokens, Json, Underway, Opens, Closed, NoneOpens, Matches, Differs, Done, Compared, Rescued, Refused, DeviceFault, NoMemory}
use Rattle.luks_execution.specs.AnswerValue.{accepted_value, bare_value, fault_value, IsAnswerWith, slot_value, texts_value}

-- nor have texts
pub texts_whole : (texts : List (List ℕ)) → items_have_float (items_of (map string texts)) ≡ false
texts_whole [] = refl
texts_whole (text ∷ texts) = texts_whole texts

module _ (hints : List (List ℕ)) (status : ℕ) where
  accepted_whole : (version : Version) (areas : ℕ) → has_float (accepted_value version areas (texts_value hints) status) ≡ false
  accepted_whole Luks1 areas = rw (texts_whole hints) refl
  accepted_whole (Luks2 copies seqid) areas = rw (texts_whole hints) refl

  slot_whole : (answer : List ℕ) (slot : ℕ) → has_float (slot_value answer slot (texts_value hints) status) ≡ false
  slot_whole answer slot = rw (texts_whole hints) refl

  bare_whole : (answer : List ℕ) → has_float (bare_value answer (texts_value hints) status) ≡ false
  bare_whole answer = rw (texts_whole hints) refl

  fault_whole : (name : List ℕ) (places : List (List ℕ)) → has_float (fault_value name places (texts_value hints) status) ≡ false
  fault_whole name places = rw (texts_whole places, texts_whole hints) refl

  -- of each answer
  pub answer_whole : (a : Answer) (d : Data) → IsAnswerWith a (texts_value hints) status d → has_float d ≡ false
  answer_whole (Accepted version areas) d is = ap has_float is ∙ accepted_whole version areas
  answer_whole (Refused by_) d is = ap has_float is.is ∙ fault_whole is.name is.places
  answer_whole (Opens n) d is = ap has_float is ∙ slot_whole (codes "opens") n
  answer_whole (Closed n) d is = ap has_float is ∙ slot_whole (codes "does not open") n
  answer_whole NoneOpens d is = ap has_float is ∙ bare_whole (codes "no slot opens")
  answer_whole Matches d is = ap has_float is ∙ bare_whole (codes "key matches")
  answer_whole Differs d is = ap has_float is ∙ bare_whole (codes "key does not match")
  answer_whole (Done (Some n)) d is = ap has_float is ∙ slot_whole (codes "done") n
  answer_whole (Done None) d is = ap has_float is ∙ bare_whole (codes "done")
  answer_whole (Listed listing) d is = ap has_float is ∙ bare_whole (codes "shown")
  answer_whole (ListedFully listing) d is = ap has_float is ∙ bare_whole (codes "shown")
  answer_whole (Tokens listing) d is = ap has_float is ∙ bare_whole (codes "shown")
  answer_whole (Mapped map) d is = ap has_float is ∙ bare_whole (codes "shown")
  answer_whole (Json text) d is = ap has_float is ∙ bare_whole (codes "shown")
  answer_whole (Underway shown) d is = ap has_float is ∙ bare_whole (codes "shown")
  answer_whole (Compared comparison) d is = ap has_float is ∙ bare_whole (codes "compared")
  answer_whole (Rescued lost) d is = ap has_float is ∙ bare_whole (codes "rescued")
  answer_whole DeviceFault d is = ap has_float is ∙ bare_whole (codes "device fault")
  answer_whole NoMemory d is = ap has_float is ∙ bare_whole (codes "no memory")
