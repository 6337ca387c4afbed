use Rattle.std.proofs.Common.{◌≡◌, ℕ, ◌+◌, ◌-◌, List, drop, inl, inr, length, sym, ap, ◌∙◌, subst, arith}
use Rattle.std.proofs.lemmas.Bool.{cases_lt}
use Rattle.luks_area.specs.Device.{unchanged-then}
use Rattle.luks_area.specs.Ranges.{part, IsAt, SameBut}
use Rattle.luks_window.proofs.WindowFacts.{window-alone}
use Rattle.luks_reading.specs.declared.report.Data.TheVariants.{Here}
use Rattle.luks_commands.specs.CheckAnswers.{IsCheckAnswer}
use Rattle.luks_find_command.specs.SameUuids.{KnowsUuid}
use Rattle.luks_find_command.specs.Volumes.{volume_bytes, volume_failures}
use Rattle.luks_find_command.proofs.UuidFacts.{check-as, part-drop}
use Rattle.luks_find_command.proofs.VolumeFacts.{whole-same}
use Rattle.luks_find_command.proofs.check_at.check_volume.Goals as goal

pub returns-clause-unchanged : goal.returns-clause-unchanged
returns-clause-unchanged g c =
    let kept = unchanged-then (rw c.in-Ok.is at c.run-verdict.ensures.unchanged) c.with_uuid-checked.ensures.unchanged in
    let s : ℕ = g.K.Disk.start in
    let n : ℕ = g.K.Disk.len in
    let bytes = g.D.Device.bytes in
    let v : List ℕ = bytes c.args.device in
    let w : List ℕ = bytes c.into_inner.result in
    let start : c.with_uuid-checked.new.volume.start ≡ s = c.into_inner.ensures.start in
    let first : c.new.result.start ≡ s = c.new.ensures.start ∙ sym c.requires.start in
    record {
      size = omega arith;
      same = λ t.
          let inner = c.into_inner.ensures.beside t in
          let alone = window-alone s n (c.requires.none t) inner.bytes in
          let now : part w s n ≡ volume_bytes c.with_uuid-checked.new.volume =
          ap (λ d. part (bytes d) s n) c.into_inner.ensures.device
          ∙ ap (λ a. part (bytes c.with_uuid-checked.new.volume.device) a n) (sym start)
          ∙ ap (λ m. part (bytes c.with_uuid-checked.new.volume.device) c.with_uuid-checked.new.volume.start m) (sym c.into_inner.ensures.len) in
          let was : volume_bytes c.new.result ≡ part v s n =
          ap (λ d. part (bytes d) c.new.result.start c.new.result.len) c.new.ensures.device
          ∙ ap (λ a. part v a c.new.result.len) first ∙ ap (λ m. part v s m) c.new.ensures.size in
          let A : List ℕ → Type 0 = λ u. SameBut (IsAt s n) u w in
          whole-same v w s n (subst A (c.requires.bytes t) alone) (now ∙ kept.same t ∙ was);
      unsettled = λ t p is.
          let inner = c.into_inner.ensures.beside t in
          let U = g.D.Device.unsettled in
          elim (cases_lt p s) [
            | inl before ↦ absurd (inner.settled p (λ e. elim e [ inl pending ↦ c.requires.none t p pending | inr here ↦ (let low = here.0 in omega (arith, low, before)) ]) is)
            | inr from ↦ elim (cases_lt p (s + n)) [
              | inl there ↦
                  let back : s + (p - s) ≡ p = omega (arith, from) in
                  let place : c.with_uuid-checked.new.volume.start + (p - s) ≡ p = ap (λ a. a + (p - s)) start ∙ back in
                  let now : U c.with_uuid-checked.new.volume.device p = subst (λ d. U d p) c.into_inner.ensures.device is in
                  let long : c.with_uuid-checked.new.volume.len ≡ n = c.into_inner.ensures.len in
                  let was = kept.unsettled t (p - s) (omega (arith, long, from, there), subst (λ (a : ℕ). U c.with_uuid-checked.new.volume.device a) (sym place) now) in
                  absurd ((c.requires.settled t).none (c.new.result.start + (p - s)) (subst (λ d. U d (c.new.result.start + (p - s))) c.new.ensures.device was.1))
              | inr behind ↦ absurd (inner.settled p (λ e. elim e [ inl pending ↦ c.requires.none t p pending | inr here ↦ (let high = here.1 in omega (arith, high, behind)) ]) is)
            ]
          ];
    }

pub returns-clause-answers : goal.returns-clause-answers
returns-clause-answers g c =
    let v : List ℕ = g.D.Device.bytes c.args.device in
    let whole : c.args.start + g.K.Disk.len ≡ g.D.Device.size c.args.device = c.requires.len in
    let was : g.D.Device.tells → volume_bytes c.new.result ≡ drop c.args.start v =
    λ u.
    let long : length v ≡ g.D.Device.size c.args.device = g.met.D.Device.sized c.args.device u in
    ap (λ d. part (g.D.Device.bytes d) c.new.result.start c.new.result.len) c.new.ensures.device
    ∙ ap (λ a. part v a c.new.result.len) c.new.ensures.start ∙ ap (λ m. part v c.args.start m) c.new.ensures.size
    ∙ part-drop v c.args.start g.K.Disk.len (omega (arith, whole, long)) in
    let first = rw c.in-Ok.is at c.run-verdict.ensures.unchanged in
    let ran = check-as g.D.Device.tells (volume_bytes c.in-Ok.volume) (volume_bytes c.new.result) (volume_failures c.new.result) (volume_failures c.in-Ok.volume) c.run-verdict.result
    (λ t. sym (first.same t)) (rw c.in-Ok.is at c.run-verdict.ensures.answers) in
    let then = check-as g.D.Device.tells (drop c.args.start v) (volume_bytes c.in-Ok.volume) (volume_failures c.new.result) (volume_failures c.with_uuid-checked.new.volume) c.with_uuid-checked.result.verdict
    (λ t. first.same t ∙ was t) (c.with_uuid-checked.ensures.answers (volume_failures c.new.result) ran) in
    let F : ℕ → Type 0 = λ n. IsCheckAnswer g.D.Device.tells (drop c.args.start v) Here n (g.D.Device.failed c.into_inner.result) c.with_uuid-checked.result.verdict in
    let N : ℕ → Type 0 = λ n. IsCheckAnswer g.D.Device.tells (drop c.args.start v) Here (volume_failures c.new.result) n c.with_uuid-checked.result.verdict in
    subst F (ap (λ d. g.D.Device.failed d) c.new.ensures.device) (subst N (ap (λ d. g.D.Device.failed d) (sym c.into_inner.ensures.device)) then)

pub returns-clause-uuid : goal.returns-clause-uuid
returns-clause-uuid g c = λ t.
    let v : List ℕ = g.D.Device.bytes c.args.device in
    let whole : c.args.start + g.K.Disk.len ≡ g.D.Device.size c.args.device = c.requires.len in
    let was : g.D.Device.tells → volume_bytes c.new.result ≡ drop c.args.start v =
    λ u.
    let long : length v ≡ g.D.Device.size c.args.device = g.met.D.Device.sized c.args.device u in
    ap (λ d. part (g.D.Device.bytes d) c.new.result.start c.new.result.len) c.new.ensures.device
    ∙ ap (λ a. part v a c.new.result.len) c.new.ensures.start ∙ ap (λ m. part v c.args.start m) c.new.ensures.size
    ∙ part-drop v c.args.start g.K.Disk.len (omega (arith, whole, long)) in
    let first = rw c.in-Ok.is at c.run-verdict.ensures.unchanged in
    let ran = check-as g.D.Device.tells (volume_bytes c.in-Ok.volume) (volume_bytes c.new.result) (volume_failures c.new.result) (volume_failures c.in-Ok.volume) c.run-verdict.result
    (λ u. sym (first.same u)) (rw c.in-Ok.is at c.run-verdict.ensures.answers) in
    let K : List ℕ → Type 0 = λ w. KnowsUuid w c.with_uuid-checked.result.verdict c.with_uuid-checked.result.uuid in
    subst K (first.same t ∙ was t) (c.with_uuid-checked.ensures.uuid t (volume_failures c.new.result) ran)
