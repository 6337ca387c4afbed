use Rattle.std.proofs.Common.{◌≡◌, ℕ, ◌+◌, ◌≤◌, List, length, take, ap, ◌∙◌, subst, sym, arith}
use Rattle.luks_area.specs.Ranges.{part, written}
use Rattle.luks_guarded_files.proofs.Remembered.{front_remembered}
use Rattle.luks_guarded_files.proofs.cached.CachedDevice.remember.Goals as goal

pub invariant_of-self-clause-same : goal.invariant_of-self-clause-same
invariant_of-self-clause-same g c = λ tells.
    let cached = c.args.self.now in
    let read = c.args.read.now in
    let v : List ℕ = g.D.Device.bytes cached.behind.device in
    let now = c.learn.new.self in
    ap (λ n. take n c.put.new.bytes.items) c.learn.ensures.known
    ∙ ap (take (cached.behind.known + c.min-len.result)) c.put.ensures
    ∙ ap (λ n. take (cached.behind.known + c.min-len.result) (written cached.bytes.items n (take c.min-len.result read))) c.known-count.ensures
    ∙ front_remembered v cached.bytes.items read cached.behind.known c.min-len.result
    (let fits : cached.behind.known ≤ 32768 = cached.fits in
    let long : length cached.bytes.items ≡ 32768 = cached.room in omega (arith, fits, long))
    (omega (arith, c.known-count.ensures))
    (cached.same tells)
    (subst (λ k. read ≡ part v k (length read)) (c.if-at-count.true ∙ c.known-count.ensures) (c.requires.told tells))
    ∙ ap (λ d. part (g.D.Device.bytes d) 0 (cached.behind.known + c.min-len.result)) (sym c.learn.ensures.device)
    ∙ ap (part (g.D.Device.bytes now.device) 0) (sym c.learn.ensures.known)
