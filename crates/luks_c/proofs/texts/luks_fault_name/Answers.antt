-- The name that is answered is the one that the buffer has.
use Rattle.std.proofs.Common.{◌≡◌, ◌∙◌, ap, length, Option, Some, None, IfSome}
use Rattle.luks_explain.specs.Names.{name_of}
use Rattle.luks_explain.specs.declared.fault.Fault.{Fault}
use Rattle.luks_c_answers.specs.Buffers.{filled}
use Rattle.luks_c_answers.specs.Numbers.{fault_numbered}
use Rattle.luks_c.proofs.texts.luks_fault_name.Goals as goal

-- what follows of a fault that may not be there
weaker : (P Q : Fault → Type 0) (o : Option Fault) → ((f : Fault) → P f → Q f) → IfSome o P → IfSome o Q
weaker P Q None follows held = tt
weaker P Q (Some f) follows held = follows f held

pub returns-clause-named : goal.returns-clause-named
returns-clause-named c =
    weaker (λ f. c.number_name-name.result.now ≡ name_of f) _ (fault_numbered c.args.number)
    (λ f same. (ap length same, c.fill_front.ensures ∙ ap (filled c.args.buffer.now) (c.as_bytes.ensures.value ∙ same))) c.number_name-name.ensures
