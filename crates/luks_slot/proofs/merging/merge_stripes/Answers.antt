use Rattle.std.proofs.Common.{◌≡◌, ◌+◌, ◌-◌, ◌*◌, ◌<◌, ◌∙◌, length, arith, ap, refl, rules, subst}
use Rattle.luks_area.specs.Device.{unchanged-then}
use Rattle.luks_kdf.specs.KeyslotNames.{keyslot_digest, keyslot_digest_size}
use Rattle.luks_kdf.specs.Splitter.{mixed}
use Rattle.luks_slot.specs.Opening.{area_bytes, stripes_from}
use Rattle.luks_slot.specs.Reading.{IsReading}
use Rattle.luks_slot.proofs.AreaFacts.{stripe_on}
use Rattle.luks_slot.proofs.SplittingFacts.{merges}
use Rattle.luks_slot.proofs.merging.merge_stripes.Goals as goal

pub loop-i-init : goal.loop-i-init
unfolding mixed
loop-i-init g c = record {
  count = refl;
  unchanged = search rules;
  same_area = refl;
  same_key = refl;
  reading = λ tells. search rules;
  block = λ tells. c.requires.zeros;
}

pub loop-i-preserved : goal.loop-i-preserved
loop-i-preserved g c =
    let reader = c.args.reader.now in
    let i = c.loop-i.i in
    let k = length c.args.block.now in
    let before = g.D.Device.bytes c.args.device.now in
    let now = g.D.Device.bytes c.loop-i.device in
    let stripe_len = c.loop-i.auto.stripe ∙ c.requires.stripe_length in
    let below : i < c.args.stripes = omega (arith, c.from-last.ensures) in
    let next : i * k + length c.loop-i.stripe ≡ (i + 1) * k = omega (arith, stripe_len) in
    record {
      count = c.in_ok-read.ensures.count ∙ c.loop-i.invariant.count;
      unchanged = unchanged-then c.loop-i.invariant.unchanged c.in_ok-read.ensures.unchanged;
      same_area = c.in_ok-read.ensures.same_area ∙ c.loop-i.invariant.same_area;
      same_key = c.in_ok-read.ensures.same_key ∙ c.loop-i.invariant.same_key;
      reading = λ tells.
          subst (IsReading c.read.new.self (g.D.Device.bytes c.read.new.device)) next (c.in_ok-read.ensures.after tells);
      block = λ tells.
          let long = g.met.D.Device.sized c.args.device.now tells in
          c.take_in.ensures.in_turn k i (stripes_from reader.key (area_bytes before reader.area) k c.args.stripes) (c.loop-i.invariant.block tells)
          (stripe_on before now reader.key c.loop-i.reader.key reader.area c.loop-i.reader.area k c.args.stripes i (i * k) c.read.new.out
          (c.loop-i.invariant.unchanged.same tells) c.loop-i.invariant.same_key c.loop-i.invariant.same_area
          refl (c.read.auto.out ∙ stripe_len) below c.requires.sectors
          (omega (arith, long, c.requires.within)) (c.in_ok-read.ensures.value tells));
    }

pub returns-clause-value : goal.returns-clause-value
returns-clause-value g c tells =
    let reader = c.args.reader.now in
    let i = c.loop-i.i in
    let k = length c.args.block.now in
    let n = c.args.stripes in
    let before = g.D.Device.bytes c.args.device.now in
    let now = g.D.Device.bytes c.loop-i.device in
    let stripe_len = c.loop-i.auto.stripe ∙ c.requires.stripe_length in
    let last : c.from-last.result - 1 ≡ i = omega (arith, c.loop-i-test.false, c.loop-i.auto.i-end) in
    let more : i + 1 ≡ n = omega (arith, c.from-last.ensures, last, c.requires.some_stripes) in
    let long = g.met.D.Device.sized c.args.device.now tells in
    let stripe =
    stripe_on before now reader.key c.loop-i.reader.key reader.area c.loop-i.reader.area k n i ((c.from-last.result - 1) * k) c.read-2.new.out
    (c.loop-i.invariant.unchanged.same tells) c.loop-i.invariant.same_key c.loop-i.invariant.same_area
    (ap (λ m. m * k) last) (c.read-2.auto.out ∙ stripe_len) (omega (arith, more)) c.requires.sectors
    (omega (arith, long, c.requires.within)) (c.in_ok-read-2.ensures.value tells) in
    merges (keyslot_digest c.args.hash) (keyslot_digest_size c.args.hash) k n i (stripes_from reader.key (area_bytes before reader.area) k n)
    _ _ _ more (c.loop-i.invariant.block tells) stripe c.xor_into.ensures
