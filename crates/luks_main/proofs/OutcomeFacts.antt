-- What a command answers, by what it promises, and with which status the program ends then.
use Rattle.std.proofs.Common.{◌≡◌, ◌⊎◌, ℕ, List, Bool, true, false, Option, Result, Ok, Err, IfOk, refl, sym, subst, inl, inr}
use Rattle.std.specs.Bool.{Decides}
use Rattle.std.specs.Str.{bytes_eq}
use Rattle.std.proofs.lemmas.Slice.Eq.{bytes_eq-Decides}
use Rattle.luks_area.specs.declared.device.Device.{Ghosts as Device}
use Rattle.luks_request.specs.declared.request.Command.{Command}
use Rattle.luks_request.specs.declared.request.Command.TheVariants as command
use Rattle.luks_commands.specs.declared.answers.Answer.{Answer}
use Rattle.luks_commands.specs.declared.answers.Answer.TheVariants.{NoMemory}
use Rattle.luks_commands.specs.declared.inputs.InputFault.{InputFault}
use Rattle.luks_commands.specs.declared.inputs.InputFault.TheVariants.{Unreadable}
use Rattle.luks_commands.specs.declared.inputs.Inputs.{Inputs}
use Rattle.luks_commands.specs.declared.inputs.Reason.TheVariants.{Exists, SameFile}
use Rattle.luks_commands.specs.Beside.{AreOneFile}
use Rattle.luks_commands.specs.Exit.{exit_status, IsExitStatus}
use Rattle.luks_commands.specs.declared.answers.Status.{Status}
use Rattle.luks_commands.specs.declared.answers.Status.TheVariants.{Done, Refused, NotInStep, Fault}
use Rattle.luks_keeping_commands.specs.KeepingKey.{AreNotThree}
use Rattle.luks_keeping_commands.specs.KeptFile.{IsExisting}
use Rattle.luks_request.specs.declared.keeping.KeepingKey.{KeepingKey}
use Rattle.luks_execution.specs.Executed.{Executes, IsExecuted}
use Rattle.luks_main.specs.Outcomes.{EndsTold, IsMade, told, refused, failed}
use Rattle.luks_main.specs.Statuses.{EndsWith, MayEnd}
use Rattle.luks_timing.specs.Timed.{IsTimed}
use Rattle.luks_main.proofs.StatusFacts.{backup_ends, backup_same_file_ends, check_ends, compare_ends, compare_same_file_ends, convert_ends, converted_same_file_ends, edit_ends, format_ends, kept_existing_ends, kept_key_ends, kept_same_file_ends, key_ends, memory_ends, open_ends, own, rebuild_ends, rebuilt_same_file_ends, restore_ends, restore_same_file_ends, show_ends, kept_token_ends, token_existing_ends, token_same_file_ends}

-- ---- whether both files are one

not_either : {P Q : Type 0} → (P → ⊥) → (Q → ⊥) → P ⊎ Q → ⊥
not_either no_p no_q (inl p) = no_p p
not_either no_p no_q (inr q) = no_q q

not_true : {P : Type 0} → Decides false P → P → ⊥
not_true decides p = let e = decides.1 p in cc

one_file_by : {D : Type 0} (b : Bool) (name other : List ℕ) → Decides b (name ≡ other) → (target : Result D InputFault) → AreOneFile name other target ⊎ (AreOneFile name other target → ⊥)
one_file_by true name other decides target = inl (inl (decides.0 refl))
one_file_by false name other decides (Err (Unreadable SameFile)) = inl (inr refl)
one_file_by false name other decides target = inr (not_either (not_true decides) (λ e. cc))

one_file : {D : Type 0} (name other : List ℕ) (target : Result D InputFault) → AreOneFile name other target ⊎ (AreOneFile name other target → ⊥)
one_file name other target = one_file_by (bytes_eq name other) name other (bytes_eq-Decides name other) target

-- what holds in both cases
by_one_file : {One Q : Type 0} → One ⊎ (One → ⊥) → (One → Q) → ((One → ⊥) → Q) → Q
by_one_file (inl one) of_one of_two = of_one one
by_one_file (inr two) of_one of_two = of_two two

-- the key's file is another of the command, or isn't
either : {P Q : Type 0} → P ⊎ (P → ⊥) → Q ⊎ (Q → ⊥) → (P ⊎ Q) ⊎ (P ⊎ Q → ⊥)
either (inl p) q = inl (inl p)
either (inr no_p) (inl q) = inl (inr q)
either (inr no_p) (inr no_q) = inr (not_either no_p no_q)

one_name_by : (b : Bool) (name other : List ℕ) → Decides b (name ≡ other) → (name ≡ other) ⊎ (name ≡ other → ⊥)
one_name_by true name other decides = inl (decides.0 refl)
one_name_by false name other decides = inr (not_true decides)

not_three : {D : Type 0} (name : List ℕ) (keeping : KeepingKey) (target : Result D InputFault) → AreNotThree name keeping target ⊎ (AreNotThree name keeping target → ⊥)
not_three name keeping target = either (one_file name keeping.target.now target)
    (one_name_by (bytes_eq keeping.passphrase.now keeping.target.now) keeping.passphrase.now keeping.target.now (bytes_eq-Decides keeping.passphrase.now keeping.target.now))

existing : {D : Type 0} (target : Result D InputFault) → IsExisting target ⊎ (IsExisting target → ⊥)
existing (Err (Unreadable Exists)) = inl refl
existing target = inr (λ e. cc)

-- ---- what a command answers

-- what a command promises of its answer is one of those that it ends with
commands_end : {D R N : Type 0} (device : Device D) (words : R → Option (List ℕ)) (chance : N → Option (List ℕ)) (c : Command) (name : List ℕ) (old new : Inputs D R N) (a : Answer)
    → Executes device words chance c name old new a → EndsWith c a (own a)
commands_end device words chance (command.Check payload) name old new a said = check_ends _ _ _ payload _ _ a said.answers
commands_end device words chance (command.Show shown_as) name old new a said = show_ends shown_as _ _ _ _ _ a said
commands_end device words chance (command.Open passphrase slot memory older) name old new a said = open_ends _ _ _ _ slot _ _ _ _ _ a said
commands_end device words chance (command.Match matching) name old new a said = key_ends _ _ _ _ _ _ _ _ _ _ a said
commands_end device words chance (command.Edit editing) name old new a said = edit_ends _ _ _ _ _ _ _ _ a said.answers
commands_end device words chance (command.Format making) name old new a said = format_ends _ _ _ _ making _ _ _ _ _ _ _ a said.answers
commands_end device words chance (command.Convert converting) name old new a said =
    by_one_file (one_file name converting.target.now old.target) (λ one. converted_same_file_ends a (said.same one).1)
    (λ two. convert_ends _ _ _ _ converting _ _ _ _ _ _ a (said.answers two))
commands_end device words chance (command.Rebuild rebuilding) name old new a said =
    by_one_file (one_file name rebuilding.target.now old.target) (λ one. rebuilt_same_file_ends rebuilding.passphrase rebuilding.thorough a (said.same one).1)
    (λ two. rebuild_ends _ _ _ _ rebuilding _ _ _ _ _ _ _ _ _ a (said.answers two))
commands_end device words chance (command.Backup backing_up) name old new a said =
    by_one_file (one_file name backing_up.target.now old.target) (λ one. backup_same_file_ends a (said.same one).1)
    (λ two. backup_ends device.tells device.size device.bytes device.failed backing_up.rescue backing_up.payload old.volume new.volume old.target new.target a (said.answers two))
commands_end device words chance (command.Restore restoring) name old new a said =
    by_one_file (one_file name restoring.backup.now old.target) (λ one. restore_same_file_ends a (said.same one).1)
    (λ two. restore_ends device.tells device.size device.bytes device.failed restoring old.volume new.volume old.target new.target a (said.answers two))
commands_end device words chance (command.Compare comparing) name old new a said =
    by_one_file (one_file name comparing.backup.now old.target) (λ one. compare_same_file_ends a (said.same one).1)
    (λ two. compare_ends device.tells device.size device.bytes device.failed comparing.payload old.volume new.volume old.target new.target a (said.answers two))
commands_end device words chance (command.KeepKey keeping) name old new a said =
    by_one_file (not_three name keeping old.target) (λ one. kept_same_file_ends keeping.slot a (said.same one).1)
    (λ three. by_one_file (existing old.target) (λ there. kept_existing_ends keeping.slot a (said.exists three there).1)
    (λ free. kept_key_ends device _ keeping.slot _ _ _ old.volume new.volume old.target new.target a (said.answers three free)))
commands_end device words chance (command.KeepToken keeping) name old new a said =
    by_one_file (one_file name keeping.target.now old.target) (λ one. token_same_file_ends a (said.same one).1)
    (λ two. by_one_file (existing old.target) (λ there. token_existing_ends a (said.exists two there).1)
    (λ free. kept_token_ends device keeping.number old.volume new.volume old.target new.target a (said.answers two free)))

-- so of one that was run
pub executed_ends : {D R N : Type 0} (device : Device D) (words : R → Option (List ℕ)) (chance : N → Option (List ℕ)) (c : Command) (name : List ℕ) (old new : Inputs D R N) (a : Answer)
    → IsExecuted device words chance c name old new a → EndsWith c a (own a)
executed_ends device words chance c name old new a is = commands_end device words chance c name old new a is.kept

-- ---- how it is told

-- a text that is one of these is one of those
pub told_as : (P Q : List ℕ → Type 0) → ((t : List ℕ) → P t → Q t) → (own before after : ℕ) (held holds : Option (List ℕ)) (n : ℕ)
    → EndsTold P own before after held holds n → EndsTold Q own before after held holds n
told_as P Q of own before after held holds n (told text is more same ends) = told text (of text is) more same ends
told_as P Q of own before after held holds n (refused more same ends) = refused more same ends
told_as P Q of own before after held holds n (failed rises ends) = failed rises ends

-- what holds of a text that was made
pub made_as : {T E : Type 0} (bytes : T → List ℕ) (made : Result T E) (Q : List ℕ → Type 0) → IfOk made (λ t. Q (bytes t)) → (x : List ℕ) → IsMade bytes made x → Q x
made_as bytes (Ok t) Q holds x is = subst Q (sym is) holds
made_as bytes (Err e) Q holds x is = absurd is

ends_by : (c : Command) (status n : ℕ) → MayEnd c status → (n ≡ status) ⊎ (n ≡ 4) → MayEnd c n
ends_by c status n may (inl is) = subst (MayEnd c) (sym is) may
ends_by c status n may (inr is) = (NoMemory, subst (EndsWith c NoMemory) (sym is) (memory_ends c))

told_status : (IsText : List ℕ → Type 0) (status before after : ℕ) (held holds : Option (List ℕ)) (n : ℕ) → EndsTold IsText status before after held holds n → (n ≡ status) ⊎ (n ≡ 4)
told_status IsText status before after held holds n (told text is more same ends) = inl ends
told_status IsText status before after held holds n (refused more same ends) = inr ends
told_status IsText status before after held holds n (failed rises ends) = inr ends

exit_is : (s : Status) → IsExitStatus (exit_status s)
exit_is Done = inl refl
exit_is Refused = inr (inl refl)
exit_is NotInStep = inr (inr (inl refl))
exit_is Fault = inr (inr (inr refl))

exits_by : (s : Status) (n : ℕ) → (n ≡ exit_status s) ⊎ (n ≡ 4) → IsExitStatus n
exits_by s n (inl is) = subst (λ (x : ℕ). IsExitStatus x) (sym is) (exit_is s)
exits_by s n (inr is) = inr (inr (inr is))

-- the status by which an answer is told is one of the program's
pub told_exits : (IsText : List ℕ → Type 0) (s : Status) (before after : ℕ) (held holds : Option (List ℕ)) (n : ℕ)
    → EndsTold IsText (exit_status s) before after held holds n → IsExitStatus n
told_exits IsText s before after held holds n told_ = exits_by s n (told_status IsText (exit_status s) before after held holds n told_)

-- the status by which an answer is told is one that its command may end with
pub told_ends : (c : Command) (a : Answer) → EndsWith c a (own a) → (IsText : List ℕ → Type 0) (before after : ℕ) (held holds : Option (List ℕ)) (n : ℕ)
    → EndsTold IsText (own a) before after held holds n → MayEnd c n
told_ends c a ends IsText before after held holds n told_ = ends_by c (own a) n (a, ends) (told_status IsText (own a) before after held holds n told_)

-- it may always end with 4
pub fault_ends : (c : Command) → MayEnd c 4
fault_ends c = (NoMemory, memory_ends c)

-- a command ends as it does with timed costs
pub timed_ends : (c timed : Command) (status : ℕ) → IsTimed c timed → MayEnd timed status → MayEnd c status
timed_ends (command.Edit editing) timed status is ends = subst (λ (x : Command). MayEnd x status) is.2 ends
timed_ends (command.Format making) timed status is ends = subst (λ (x : Command). MayEnd x status) is.2 ends
timed_ends (command.Check payload) timed status is ends = subst (λ (x : Command). MayEnd x status) is ends
timed_ends (command.Show shown_as) timed status is ends = subst (λ (x : Command). MayEnd x status) is ends
timed_ends (command.Open passphrase slot memory older) timed status is ends = subst (λ (x : Command). MayEnd x status) is ends
timed_ends (command.Match matching) timed status is ends = subst (λ (x : Command). MayEnd x status) is ends
timed_ends (command.Convert converting) timed status is ends = subst (λ (x : Command). MayEnd x status) is ends
timed_ends (command.Rebuild rebuilding) timed status is ends = subst (λ (x : Command). MayEnd x status) is ends
timed_ends (command.Backup backing_up) timed status is ends = subst (λ (x : Command). MayEnd x status) is ends
timed_ends (command.Restore restoring) timed status is ends = subst (λ (x : Command). MayEnd x status) is ends
timed_ends (command.Compare comparing) timed status is ends = subst (λ (x : Command). MayEnd x status) is ends
timed_ends (command.KeepKey keeping) timed status is ends = subst (λ (x : Command). MayEnd x status) is ends
timed_ends (command.KeepToken keeping) timed status is ends = subst (λ (x : Command). MayEnd x status) is ends
