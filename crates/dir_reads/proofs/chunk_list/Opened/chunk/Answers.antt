use Rattle.std.proofs.Common.{◌+◌, ◌-◌, ◌*◌, ◌%◌, Some, None, Err, take, drop, subst, arith}
use Rattle.volume_model.specs.Format.{chunk_of}
use Rattle.dir_blocks.specs.Answers.{IsRead}
use Rattle.dir_blocks.specs.declared.chunk.ChunkError.{ChunkError}
use Rattle.meta_draft.specs.Drafted.{drafted}
use Rattle.dir_reads.proofs.ChunksTold.{none_told, chunk_told}
use Rattle.dir_reads.proofs.chunk_list.Opened.chunk.Goals as goal

pub returns-then-number-eq0-clause-value : goal.returns-then-number-eq0-clause-value
returns-then-number-eq0-clause-value g c =
    none_told (drafted c.args.draft.now.change (g.S.MetaRead.store c.args.store.now)).content c.args.self.now.numbers.items c.args.k c.number_at-number.result c.number_at-number.ensures
    c.if-number-eq0.true

pub returns-in-Ok-clause-value : goal.returns-in-Ok-clause-value
returns-in-Ok-clause-value g c =
    let at = 512 * (c.args.k % 8) in
    chunk_told (drafted c.args.draft.now.change (g.S.MetaRead.store c.args.store.now)).content c.args.self.now.numbers.items c.args.k c.number_at-number.result (at + 512 - at)
    c.show.new.self.bytes c.show.new.self.number (Some c.in-Ok.chunk) c.number_at-number.ensures c.if-number-eq0.false c.in_ok-show.ensures.shown c.in_ok-show.ensures.held (omega arith) c.in-Ok.ensures

pub returns-in-Err-Bad-clause-value : goal.returns-in-Err-Bad-clause-value
returns-in-Err-Bad-clause-value g c =
    let at = 512 * (c.args.k % 8) in
    let size = at + 512 - at in
    let none = subst (λ (e : ChunkError). IsRead (chunk_of (take size (drop at c.show.new.self.bytes))) (Err e)) c.in-Err-Bad.field-0-is c.in-Err-Bad.ensures in
    chunk_told (drafted c.args.draft.now.change (g.S.MetaRead.store c.args.store.now)).content c.args.self.now.numbers.items c.args.k c.number_at-number.result size
    c.show.new.self.bytes c.show.new.self.number None c.number_at-number.ensures c.if-number-eq0.false c.in_ok-show.ensures.shown c.in_ok-show.ensures.held (omega arith) none
