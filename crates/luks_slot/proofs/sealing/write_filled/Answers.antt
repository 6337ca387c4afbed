use Rattle.std.proofs.Common.{◌≡◌, ℕ, ◌+◌, ◌-◌, ◌*◌, ◌≤◌, ◌++◌, ◌∙◌, length, take, replicate, ap, sym, subst, arith, length-append, length-take-le}
use Rattle.std.proofs.lemmas.List.{length-replicate}
use Rattle.luks_area.specs.declared.area.Area.{Area}
use Rattle.luks_area.proofs.RangeFacts.{length-part_inside}
use Rattle.luks_area.specs.Sectors.{sector_count}
use Rattle.luks_slot.specs.Opening.{area_bytes, opened_sectors}
use Rattle.luks_slot.specs.Writing.{filled, IsWriting}
use Rattle.luks_slot.proofs.SealingFacts.{all_put, front_zeros, zeros_are, placed_first, placed_second, placed_zeros}
use Rattle.luks_slot.proofs.WritingFacts.{nothing_wanted}
use Rattle.luks_slot.proofs.sealing.write_filled.Goals as goal

pub returns-clause-value : goal.returns-clause-value
returns-clause-value g c tells =
    let writer = c.args.writer.now in
    let random = c.args.random.now in
    let last = c.args.last.now in
    let zeros = c.args.zeros.now in
    let len = writer.area.len in
    let used = length random + length last in
    let m = len - length (random ++ last) in
    let n = len - used in
    let wanted = filled len (random ++ last) in
    let v = g.D.Device.bytes c.args.device.now in
    let w = g.D.Device.bytes c.write-3.new.device in
    let end = c.write-3.new.self in
    let both : length (random ++ last) ≡ used = length-append random last in
    let whole : len ≡ sector_count used * 512 = c.requires.area_length in
    let small : n ≤ 512 = omega (arith, whole) in
    let zeros_size : length zeros ≡ 512 = ap length c.requires.zeros ∙ length-replicate {A = ℕ} 512 0 in
    let tail : length (take n zeros) ≡ n = length-take-le n zeros (omega (arith, zeros_size, small)) in
    let enough : length (take n zeros) ≤ m = omega (arith, both, tail) in
    let at : 0 + length random ≡ length random = omega arith in
    let first : IsWriting c.write.new.self (g.D.Device.bytes c.write.new.device) wanted (length random) =
    subst (IsWriting c.write.new.self (g.D.Device.bytes c.write.new.device) wanted) at
    (c.in_ok-write.ensures.more tells wanted
    (nothing_wanted writer.key (area_bytes v writer.area) len wanted writer.run) (placed_first random last (replicate m 0))) in
    let second = c.in_ok-write-2.ensures.more tells wanted first (placed_second random last (replicate m 0)) in
    let third = c.in_ok-write-3.ensures.more tells wanted second
    (placed_zeros random last (take n zeros) m (front_zeros n zeros (zeros_are 512 zeros c.requires.zeros)) enough) in
    let place : used + length (take n zeros) ≡ 512 * sector_count used = omega (arith, tail, whole) in
    let filled_size : length wanted ≡ 512 * sector_count used =
    length-append (random ++ last) (replicate m 0) ∙ (let rest : length (replicate m 0) ≡ m = length-replicate {A = ℕ} m 0 in omega (arith, rest, both, whole)) in
    let size : length w ≡ g.D.Device.size c.args.device.now =
    g.met.D.Device.sized c.write-3.new.device tells ∙ c.write-3.ensures.size ∙ c.write-2.ensures.size ∙ c.write.ensures.size in
    let within = c.requires.within in
    let same_area : end.area ≡ writer.area = c.write-3.ensures.same_area ∙ c.write-2.ensures.same_area ∙ c.write.ensures.same_area in
    let same_key : end.key ≡ writer.key = c.write-3.ensures.same_key ∙ c.write-2.ensures.same_key ∙ c.write.ensures.same_key in
    let area_size : length (area_bytes w end.area) ≡ 512 * sector_count used =
    ap (λ (a : Area). length (area_bytes w a)) same_area
    ∙ length-part_inside w writer.area.start len (omega (arith, size, within)) ∙ (omega (arith, whole)) in
    let all : used + length (take n zeros) ≡ end.area.len = place ∙ (omega (arith, whole)) ∙ sym (ap (λ (a : Area). a.len) same_area) in
    let put = all_put end.key (area_bytes w end.area) wanted end.run (sector_count used) end.area.len (used + length (take n zeros)) place all filled_size area_size third in
    sym (ap (λ k. opened_sectors k (area_bytes w end.area) (sector_count used)) same_key
    ∙ ap (λ (a : Area). opened_sectors writer.key (area_bytes w a) (sector_count used)) same_area) ∙ put
