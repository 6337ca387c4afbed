-- If nothing is given, no fault depends on where the payload lies, nor on whether older ciphers are accepted.
use Rattle.std.proofs.Common.{ℕ, Bool, false, List, Option}
use Rattle.std.proofs.lemmas.Bool.{false≢true}
use Rattle.luks_reading.specs.declared.format.Format.{Format}
use Rattle.luks_reading.specs.declared.report.Data.{Data}
use Rattle.luks_reading.specs.declared.report.Data.TheVariants.{Here}
use Rattle.luks_making.specs.declared.derivation.NewDerivation.{NewDerivation}
use Rattle.luks_formatting.specs.FormatFaults.{IsAnsweredFault, IsAnsweredFaultOrMemory, IsFormatFaultAs}
use Rattle.luks_formatting.specs.Given.{nothing_given}
use Rattle.luks_formatting.specs.declared.format_fault.FormatFault.{FormatFault}
use Rattle.luks_formatting.specs.declared.format_fault.FormatFault.TheVariants.{Cipher, Memory, Device}

module _ (most least : ℕ) (second : Bool) (payload : Data) (older : Bool) (chosen : Option NewDerivation) (allowed total : ℕ) (format : Format) (random : List ℕ) where
  pub anywhere : (f : FormatFault) → IsFormatFaultAs most least second (nothing_given payload) older chosen allowed total format random f
      → IsFormatFaultAs most least second (nothing_given Here) false chosen allowed total format random f
  anywhere Cipher x = absurd (false≢true x.0)
  anywhere f x = x

  pub here : (f : FormatFault) → IsFormatFaultAs most least second (nothing_given Here) false chosen allowed total format random f
      → IsFormatFaultAs most least second (nothing_given payload) older chosen allowed total format random f
  here Cipher x = absurd (false≢true x.0)
  here f x = x

-- the same faults are answered alike
module _ {P Q : FormatFault → Type 0} (to : (f : FormatFault) → P f → Q f) (from : (f : FormatFault) → Q f → P f) where
  pub answered : (f : FormatFault) → IsAnsweredFault P f → IsAnsweredFault Q f
  answered Device none = λ f x. none f (from f x)
  answered Memory x = x
  answered f x = (to f x.0, λ g y. x.1 g (from g y))

  pub answered_or_memory : (f : FormatFault) → IsAnsweredFaultOrMemory P f → IsAnsweredFaultOrMemory Q f
  answered_or_memory Memory none = λ f x. none f (from f x)
  answered_or_memory Device none = λ f x. none f (from f x)
  answered_or_memory f x = (to f x.0, λ g y. x.1 g (from g y))
