-- The bytes of a key slot's entry are the only ones that say it.
use Rattle.std.proofs.Common.{◌≡◌, ℕ, List, lit≤, sym, ap, ◌∙◌}
use Rattle.luks_area.specs.Ranges.{part}
use Rattle.luks_area.proofs.RangeFacts.{part-whole}
use Rattle.luks1_header.specs.Written.{WritesEntry}
use Rattle.luks1_header.specs.declared.luks1.Luks1Slot.{Luks1Slot}
use Rattle.luks1_header.proofs.NumberFacts.{bytes_within, number_agrees, parts_join}

-- one key slot, one entry
pub entries_agree : (e f : List ℕ) (s : Luks1Slot) → WritesEntry e s → WritesEntry f s → e ≡ f
entries_agree e f s a b =
    let p1 : part e 0 4 ≡ part f 0 4 = number_agrees e f 0 4 (rw a.long (lit≤ tt)) (rw b.long (lit≤ tt))
    (bytes_within e 0 8 0 4 (lit≤ tt) (lit≤ tt) a.before_salt) (bytes_within f 0 8 0 4 (lit≤ tt) (lit≤ tt) b.before_salt) (a.fields.state ∙ sym b.fields.state) in
    let p2 : part e 4 4 ≡ part f 4 4 = number_agrees e f 4 4 (rw a.long (lit≤ tt)) (rw b.long (lit≤ tt))
    (bytes_within e 0 8 4 8 (lit≤ tt) (lit≤ tt) a.before_salt) (bytes_within f 0 8 4 8 (lit≤ tt) (lit≤ tt) b.before_salt) (a.fields.iterations ∙ sym b.fields.iterations) in
    let p3 : part e 8 32 ≡ part f 8 32 = a.fields.salt ∙ sym b.fields.salt in
    let p4 : part e 40 4 ≡ part f 40 4 = number_agrees e f 40 4 (rw a.long (lit≤ tt)) (rw b.long (lit≤ tt))
    (bytes_within e 40 48 40 44 (lit≤ tt) (lit≤ tt) a.after_salt) (bytes_within f 40 48 40 44 (lit≤ tt) (lit≤ tt) b.after_salt) (a.fields.key_material_offset ∙ sym b.fields.key_material_offset) in
    let p5 : part e 44 4 ≡ part f 44 4 = number_agrees e f 44 4 (rw a.long (lit≤ tt)) (rw b.long (lit≤ tt))
    (bytes_within e 40 48 44 48 (lit≤ tt) (lit≤ tt) a.after_salt) (bytes_within f 40 48 44 48 (lit≤ tt) (lit≤ tt) b.after_salt) (a.fields.stripes ∙ sym b.fields.stripes) in
    let q4 : part e 40 8 ≡ part f 40 8 = parts_join e f 40 4 4 p4 p5 in
    let q3 : part e 8 40 ≡ part f 8 40 = parts_join e f 8 32 8 p3 q4 in
    let q2 : part e 4 44 ≡ part f 4 44 = parts_join e f 4 4 40 p2 q3 in
    let q1 : part e 0 48 ≡ part f 0 48 = parts_join e f 0 4 44 p1 q2 in
    sym (part-whole e) ∙ ap (part e 0) a.long ∙ q1 ∙ ap (part f 0) (sym b.long) ∙ part-whole f
