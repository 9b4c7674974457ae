use Rattle.std.proofs.Common.{◌≡◌, ◌+◌, ◌%◌, ◌*◌, ◌-◌, ◌≤◌, ℕ, List, length, take, drop, refl, sym, ap, ◌∙◌, arith}
use Rattle.std.proofs.lemmas.List.{with_items_is, take-append-drop, length-take-le}
use Rattle.std.specs.Vec.{with_items}
use Rattle.log_scan.proofs.RowsTold.{piece_read}
use Rattle.log_scan.proofs.ring.Piece.show.Goals as goal

pub returns-clause-held : goal.returns-clause-held
returns-clause-held g c =
    let bytes = c.args.self.now.bytes in
    let n = 512 * c.min-count.result in
    let new = c.read_to_front.new.out in
    let kept : length c.read_to_front.new.out ≡ c.args.self.now.bytes.len = c.read_to_front.auto.out ∙ ap length c.deref_mut.ensures.value ∙ sym bytes.ok.0 in
    let items = with_items_is bytes new kept in
    let whole : length c.read_to_front.new.out ≡ 65536 = c.read_to_front.auto.out ∙ ap length c.deref_mut.ensures.value ∙ c.requires.held.size in
    let room : 512 * c.min-count.result ≤ length c.read_to_front.new.out = omega (arith, whole) in
    record {
      size = ap length items ∙ whole;
      room = omega arith;
      sectors = piece_read c.args.g.now c.args.head c.args.i ((c.args.head + c.args.i) % c.ring.result) (g.D.Disk.told c.args.disk.now).present (take n new) (drop n new) c.ring_place.result
          (record { first = c.args.i; count = c.min-count.result; bytes = with_items bytes new }) c.requires.head c.requires.inside
          (ap (λ (r : ℕ). (c.args.head + c.args.i) % r) c.ring.ensures) c.ring_place.ensures (omega arith) (omega arith)
          (length-take-le n new room) refl (items ∙ sym (take-append-drop n new)) c.in_ok-read_to_front.ensures.bytes;
    }
