use Rattle.std.proofs.Common.{◌≡◌, ℕ, List, Some, ap, ◌∙◌}
use Rattle.lufs_base.specs.declared.geometry.Geometry.{Geometry}
use Rattle.volume_model.specs.declared.inode.Dinode.{Dinode}
use Rattle.volume_model.specs.declared.directory.Slot.{Slot}
use Rattle.volume_model.specs.Format.{dinode_bytes, chunk_bytes, new_directory}
use Rattle.meta_store.specs.declared.change.Change.{Change}
use Rattle.meta_store.specs.Deltas.{inode_delta, chunk_delta, zero_delta}
use Rattle.meta_draft.specs.Drafted.{with_delta}
use Rattle.name_ops.specs.NewRecords.{with_directory}
use Rattle.name_ops.proofs.mkdir.put_directory.Goals as goal

put_all : (g : Geometry) (i parent b : ℕ) (d : Dinode) (old zeros chunked last : Change) (slots : List Slot) → slots ≡ new_directory i parent → zeros ≡ with_delta old (zero_delta b)
    → chunked ≡ with_delta zeros (chunk_delta b 0 (chunk_bytes slots)) → last ≡ with_delta chunked (inode_delta g i (dinode_bytes (Some d))) → last ≡ with_directory g i parent b d old
put_all g i parent b d old zeros chunked last slots same clear fill write =
    write ∙ ap (λ (c : Change). with_delta c (inode_delta g i (dinode_bytes (Some d))))
    (fill ∙ ap (λ (c : Change). with_delta c (chunk_delta b 0 (chunk_bytes slots))) clear ∙ ap (λ (l : List Slot). with_delta (with_delta old (zero_delta b)) (chunk_delta b 0 (chunk_bytes l))) same)

pub returns-clause-ok : goal.returns-clause-ok
returns-clause-ok c =
    put_all c.args.g.now c.args.i.0 c.args.parent.0 c.args.b.0 c.args.d.now c.args.draft.now.change c.put_zeros.new.self.change c.put_chunk.new.self.change c.put_inode.new.self.change _
    c.in_ok-chunk.ensures c.in_ok-put_zeros.ensures.ok c.in_ok-put_chunk.ensures.ok c.in_ok-put_inode.ensures.ok
