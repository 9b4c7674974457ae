-- A store that is read again and again.
use Rattle.std.proofs.Common.{◌∙◌}
use Rattle.meta_store.specs.Store.{StoreTold, IsUnchanged}

-- unchanged, and then again
pub unchanged_then : {old mid new : StoreTold} → IsUnchanged old mid → IsUnchanged mid new → IsUnchanged old new
unchanged_then first second = record {
  geometry = second.geometry ∙ first.geometry;
  content = second.content ∙ first.content;
  disk = record {
    sectors = second.disk.sectors ∙ first.disk.sectors;
    content = second.disk.content ∙ first.disk.content;
    listed = second.disk.listed ∙ first.disk.listed;
    calls = second.disk.calls ∙ first.disk.calls;
  };
}
