-- The first fault of the selection, or of the copy that counts, is that of reading the header.
use Rattle.std.proofs.Common.{List, ℕ, ◌+◌, ◌-◌, ◌∙◌, ap, subst, sym}
use Rattle.std.proofs.lemmas.Result.{err_from_is_err_and, IfErr-weaker}
use Rattle.luks2_header.specs.Header2.{header_at, uuid_field}
use Rattle.luks_area.specs.Ranges.{part}
use Rattle.luks2_header.specs.Selection.{IsSelected, KeepsSelectedJson}
use Rattle.luks_reading.specs.ChosenCopies.{CopyRefused, json_of}
use Rattle.luks_reading.proofs.ReadFaults.{copy_unread, not_for_memory, same_json, select_unread}
use Rattle.luks_reading.proofs.header.read_header.Goals as goal

-- what was kept is the JSON area of a copy of the least size
pub read_metadata-requires-clause-kept : goal.read_metadata-requires-clause-kept
read_metadata-requires-clause-kept g c = λ tells least.
    let h = c.in-V2.header in
    let v = g.D.Device.bytes c.args.device.now in
    let kept = subst (KeepsSelectedJson v c.select_with_json.new.json) c.in-V2.is (c.in_ok-bytes.ensures.kept tells) in
    kept ∙ ap (λ size. part v (h.hdr_offset + 4096) (size - 4096)) {x = 16384} {y = h.hdr_size} (sym least)
    ∙ ap (λ w. json_of w h) (sym (c.in_ok-bytes.ensures.unchanged.same tells))

pub returns-in_err-bytes-clause-refused : goal.returns-in_err-bytes-clause-refused
returns-in_err-bytes-clause-refused g c = λ tells.
    let v = g.D.Device.bytes c.args.device.now in
    let p = err_from_is_err_and c.from_residual.result c.from_residual.ensures.1 in
    rw (p.1, p.2)
    (select_unread v c.in_err-bytes.field-0.0 c.in_err-bytes.ensures.kinds (c.in_err-bytes.ensures.refused tells))

pub returns-in_err-meta-in-V2-clause-refused : goal.returns-in_err-meta-in-V2-clause-refused
returns-in_err-meta-in-V2-clause-refused g c = λ tells.
    let v = g.D.Device.bytes c.args.device.now in
    let h = c.in-V2.header in
    let f = c.in_err-meta-in-V2.field-0.0 in
    let selected = subst (IsSelected v) c.in-V2.is (c.in_ok-bytes.ensures.found tells) in
    let p = err_from_is_err_and c.from_residual-in_err-meta-in-V2.result c.from_residual-in_err-meta-in-V2.ensures.1 in
    rw (p.1, p.2)
    (copy_unread v h.hdr_offset c.in-V2.copies f selected.0
    (subst (λ (json : List ℕ). CopyRefused (uuid_field (header_at v h.hdr_offset)) json f) (same_json v h selected.1)
    (subst (λ (u : List ℕ). CopyRefused u (json_of v h) f) (sym selected.1.uuid)
    (subst (λ (w : List ℕ). CopyRefused h.uuid (json_of w h) f) (c.in_ok-bytes.ensures.unchanged.same tells) (c.in_err-meta-in-V2.ensures.refused tells)))))

pub returns-in_err-meta-in-V2-clause-memory : goal.returns-in_err-meta-in-V2-clause-memory
returns-in_err-meta-in-V2-clause-memory g c = λ tells none.
    let v = g.D.Device.bytes c.args.device.now in
    IfErr-weaker c.from_residual-in_err-meta-in-V2.result _ _ (λ f. not_for_memory v f none)
    (returns-in_err-meta-in-V2-clause-refused g c tells)
