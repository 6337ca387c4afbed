-- What is left of a second copy.
use Rattle.std.proofs.Common.{◌↔◌, ◌≤◌, IfOk, IsTrue, ℕ, List, Bool, Result, Ok, Err, sym, subst}
use Rattle.std.specs.declared.alloc.AllocError.{AllocError}
use Rattle.luks2_header.specs.Header2.{IsSound}
use Rattle.luks_notes.specs.Leftovers.{IsLeft}
use Rattle.luks_notes.specs.declared.leftover.Leftover.TheVariants.{SecondCopy}
use Rattle.luks_notes.proofs.leftover.Leftover.is_left.Goals as goal

-- a sound copy that is none of the header is left
of_copy : (v : List ℕ) (own place : ℕ) → own ≤ place → (answer : Result Bool AllocError)
    → IfOk answer (λ sound. IsTrue sound ↔ IsSound v place) → IfOk answer (λ left. IsTrue left ↔ IsLeft v own (SecondCopy place))
of_copy v own place beyond (Ok sound) is = (λ t. (beyond, is.0 t), λ left. is.1 left.1)
of_copy v own place beyond (Err e) is = is

pub returns-else-place-own : goal.returns-else-place-own
returns-else-place-own c =
    subst (λ l. IfOk c.is_sound.result (λ left. IsTrue left ↔ IsLeft c.args.front.now c.args.own l)) (sym c.in-SecondCopy.is)
    (of_copy c.args.front.now c.args.own c.in-SecondCopy.place c.if-place-own.false c.is_sound.result c.is_sound.ensures)
