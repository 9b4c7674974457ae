use Rattle.std.proofs.Common.{◌≡◌, ◌+◌, ◌-◌, ◌*◌, [], ◌++◌, map, take, drop, Bool, sym, subst, ◌∙◌, arith}
use Rattle.std.specs.Bool.{OnTrue}
use Rattle.std.specs.Option.{unwrap_or}
use Rattle.volume_model.specs.Format.{chunk_of}
use Rattle.fsck_core.specs.Slots.{slot_of}
use Rattle.fsck_core.proofs.DirectoryChunks.{stopped_in_block, chunk_more, all_in_block, slots_in_block, is_none_of, is_some_of}
use Rattle.fsck_core.proofs.directory.entries_in.Goals as goal

pub returns-then-not-branch : goal.returns-then-not-branch
returns-then-not-branch c =
    let bytes = c.args.bytes.now in
    let at = 512 * c.loop-k.k in
    let size = at + 512 - at in
    let none = is_none_of (chunk_of (take size (drop at bytes))) (sym c.in_ok-push_chunk.ensures.is ∙ c.if-not-branch.true) in
    stopped_in_block bytes c.loop-k.k c.args.chunks size c.loop-k-test.true (omega arith) none

pub loop-k-preserved : goal.loop-k-preserved
loop-k-preserved c =
    let bytes = c.args.bytes.now in
    let l = c.loop-k in
    let at = 512 * l.k in
    let size = at + 512 - at in
    let chunk = chunk_of (take size (drop at bytes)) in
    let slots = unwrap_or chunk [] in
    let is = chunk_more bytes l.k size slots (omega arith) (is_some_of chunk (sym c.in_ok-push_chunk.ensures.is ∙ c.if-not-branch.false)) in
    let old = map slot_of l.entries.items in
    let new = map slot_of c.push_chunk.new.entries.items in
    let pushed : new ≡ old ++ slots = subst (λ (b : Bool). OnTrue b (new ≡ old ++ slots)) c.if-not-branch.false c.in_ok-push_chunk.ensures.slots in
    record {
      all = all_in_block bytes l.k slots is l.invariant.all;
      slots_are = slots_in_block bytes l.k [] old slots new is l.invariant.slots_are pushed;
    }
