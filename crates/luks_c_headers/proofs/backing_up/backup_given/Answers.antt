use Rattle.std.proofs.Common.{◌≡◌, inl, inr, ℕ, List, false, ◌∙◌, ap, arith, rules, sym}
use Rattle.luks_keeping.specs.BackupFaults.{is_backup_failure, CanBackUp, IsAnsweredBackup}
use Rattle.luks_given.specs.Given.{given_bytes}
use Rattle.luks_given.specs.Planned.{planned_bytes, planned_calls, planned_size, planned_written}
use Rattle.luks_c_answers.proofs.NumberFacts.{backup_number_other, backup_number_range, backup_number_usage}
use Rattle.luks_c_answers.specs.Numbers.{backup_number}
use Rattle.luks_c_answers.proofs.PlanFacts.{plan_answered, refusal_answered}
use Rattle.luks_c_headers.specs.KeepAnswers.{IsBackedUpTo}
use Rattle.luks_c_headers.proofs.HeaderFacts.{backup_refusal, fault_of_volume, of_volumes}
use Rattle.luks_c_headers.proofs.backing_up.backup_given.Goals as goal

pub returns-in-Ok-backup-clause-answers : goal.returns-in-Ok-backup-clause-answers
returns-in-Ok-backup-clause-answers g c =
    let device = c.backup.new.target in
    let e = c.in-Ok-backup.ensures in
    let both = of_volumes
    (λ (u : List ℕ) (n : ℕ) (o : List ℕ) (m : ℕ). CanBackUp u c.args.payload n × IsBackedUpTo u c.args.payload o (planned_bytes device))
    (given_bytes c.new-from.result) g.S.Given.bytes (planned_size c.in-Ok.device) c.args.total (planned_size device)
    (planned_bytes c.in-Ok.device) g.K.Given.bytes
    c.new-from.ensures.bytes c.in-Ok.ensures.size c.in-Ok.ensures.bytes (e.size ∙ c.in-Ok.ensures.size)
    (e.faultless tt, record { backup = e.backup tt tt; well_formed = e.well_formed tt tt; answers = e.answers tt tt }) in
    plan_answered g.K.Given.parts g.K.Given.bytes (planned_bytes device) _ _ _ (planned_calls device) (planned_written device) _ _ _ _
    both.0 both.1
    c.give_plan.ensures.plan
    (record { none = λ p is. (e.settled tt).none p is })
    c.give_plan.ensures.calls
    c.give_plan.ensures.bytes
    c.give_plan.ensures.given

pub returns-in-Ok-backup-clause-wanted : goal.returns-in-Ok-backup-clause-wanted
returns-in-Ok-backup-clause-wanted g c = λ asked. absurd (elim c.give_plan.ensures.answers [ inl zero ↦ omega (arith, asked, zero) | inr six ↦ omega (arith, asked, six) ])

pub returns : goal.returns
returns g c =
    let f = c.in-Err.fault in
    let is = c.backup_number.ensures in
    let own : is_backup_failure f ≡ false = search rules in
    let r = backup_number_range f in
    let low = r.0 in
    let high = r.1 in
    let answered : IsAnsweredBackup g.S.Given.bytes c.args.payload c.args.total f =
    fault_of_volume (λ (u : List ℕ) (n : ℕ). IsAnsweredBackup u c.args.payload n f) (given_bytes c.new-from.result) g.S.Given.bytes
    (planned_size c.in-Ok.device) c.args.total c.new-from.ensures.bytes c.in-Ok.ensures.size (c.in-Err.ensures.fault tt) in
    record {
      own = λ usage. backup_number_usage f (sym is ∙ usage);
      answers = refusal_answered g.K.Given.parts g.K.Given.bytes _ _ _ _ _ c.backup_number.result (omega (arith, is, low)) (omega (arith, is, high))
          (λ memory. record { fault = f; least = backup_refusal _ _ _ f (λ m. memory (is ∙ ap backup_number m)) own answered; is = is });
      wanted = λ asked. absurd (backup_number_other f own (sym is ∙ asked));
    }
