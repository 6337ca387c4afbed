-- The first fault of the copy that counts is that of the volume.
use Rattle.std.proofs.Common.{List, ℕ, ◌+◌, ◌-◌, ◌∙◌, ◌≡◌, ap, length, subst, sym}
use Rattle.std.proofs.lemmas.Result.{err_from_is_err_and}
use Rattle.luks_area.specs.Ranges.{part}
use Rattle.luks2_header.specs.Header2.{header_at, uuid_field}
use Rattle.luks2_header.specs.Selection.{IsSelected, KeepsSelectedJson}
use Rattle.luks_reading.specs.ChosenCopies.{json_of}
use Rattle.luks_reading.proofs.ReadFaults.{same_json, select_unread}
use Rattle.luks_wider.specs.Underways.{area_len}
use Rattle.luks_wider.specs.Wide.{IsWiderOf}
use Rattle.luks_wider.specs.declared.wider.Wider.TheVariants as wider
use Rattle.luks_wide_reading.specs.Beside.{CopyRefused}
use Rattle.luks_wide_reading.proofs.WideUnread.{beside_read, beside_unread, head_wide, luks1_no_meta}
use Rattle.luks_wide_reading.proofs.header.read_beside.Goals as goal

-- what was kept is the JSON area of a copy of the least size
pub read_metadata-requires-clause-kept : goal.read_metadata-requires-clause-kept
read_metadata-requires-clause-kept g c = λ tells least.
    let h = c.in-V2.header in
    let v = g.D.Device.bytes c.args.device.now in
    let kept = subst (KeepsSelectedJson v c.select_with_json.new.json) c.in-V2.is (c.in_ok-select_with_json.ensures.kept tells) in
    kept ∙ ap (λ size. part v (h.hdr_offset + 4096) (size - 4096)) {x = 16384} {y = h.hdr_size} (sym least)
    ∙ ap (λ w. json_of w h) (sym (c.in_ok-select_with_json.ensures.unchanged.same tells))

pub returns-in_err-select_with_json-clause-refused : goal.returns-in_err-select_with_json-clause-refused
returns-in_err-select_with_json-clause-refused g c = λ tells was.
    let v = g.D.Device.bytes c.args.device.now in
    let f = c.in_err-select_with_json.field-0.0 in
    let p = err_from_is_err_and c.from_residual.result c.from_residual.ensures.1 in
    rw (p.1, p.2)
    (head_wide v f (select_unread v f c.in_err-select_with_json.ensures.kinds (c.in_err-select_with_json.ensures.refused tells)))

-- a LUKS1 header has no metadata
pub returns-in-V1-clause-refused : goal.returns-in-V1-clause-refused
returns-in-V1-clause-refused g c = λ tells was.
    let v = g.D.Device.bytes c.args.device.now in
    let selected = subst (IsSelected v) c.in-V1.is (c.in_ok-select_with_json.ensures.found tells) in
    absurd (luks1_no_meta v c.args.narrow_fault.now selected.0 was)

pub returns-in_err-meta-in-V2-clause-refused : goal.returns-in_err-meta-in-V2-clause-refused
returns-in_err-meta-in-V2-clause-refused g c = λ tells was.
    let v = g.D.Device.bytes c.args.device.now in
    let h = c.in-V2.header in
    let known = c.args.narrow_fault.now in
    let f = c.in_err-meta-in-V2.field-0.0 in
    let selected = subst (IsSelected v) c.in-V2.is (c.in_ok-select_with_json.ensures.found tells) in
    let p = err_from_is_err_and c.from_residual-in_err-meta-in-V2.result c.from_residual-in_err-meta-in-V2.ensures.1 in
    rw (p.1, p.2)
    (beside_unread v h.hdr_offset c.in-V2.copies known f selected.0 was
    (subst (λ (json : List ℕ). CopyRefused (uuid_field (header_at v h.hdr_offset)) json known f) (same_json v h selected.1)
    (subst (λ (u : List ℕ). CopyRefused u (json_of v h) known f) (sym selected.1.uuid)
    (subst (λ (w : List ℕ). CopyRefused h.uuid (json_of w h) known f) (c.in_ok-select_with_json.ensures.unchanged.same tells) (c.in_err-meta-in-V2.ensures.refused tells)))))

pub returns-in_ok-meta-in-V2-clause-read : goal.returns-in_ok-meta-in-V2-clause-read
returns-in_ok-meta-in-V2-clause-read g c = λ tells was.
    let v = g.D.Device.bytes c.args.device.now in
    let h = c.in-V2.header in
    let meta = c.in_ok-meta-in-V2.meta in
    let same = c.in_ok-select_with_json.ensures.unchanged.same tells in
    let selected = subst (IsSelected v) c.in-V2.is (c.in_ok-select_with_json.ensures.found tells) in
    beside_read v (record { header = h; copies = c.in-V2.copies; meta = meta; narrow_fault = c.args.narrow_fault.now }) selected.0 selected.1 c.in_ok-meta-in-V2.ensures.uuid
    (subst (λ (w : List ℕ). IsWiderOf (json_of w h) (wider.Underway meta)) same (c.in_ok-meta-in-V2.ensures.read tells))
    (subst (λ (w : List ℕ). area_len meta ≡ length (json_of w h)) same (c.in_ok-meta-in-V2.ensures.length tells)) was
