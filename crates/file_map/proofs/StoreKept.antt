-- A store that is read again and again.
use Rattle.std.proofs.Common.{◌∙◌}
use Rattle.meta_store.specs.Store.{StoreTold, IsUnchanged}
use Rattle.meta_store.specs.Changing.{Changing, IsKept}

-- unchanged, and then again
pub unchanged_then : {old mid new : StoreTold} → IsUnchanged old mid → IsUnchanged mid new → IsUnchanged old new
unchanged_then first second = record {
  geometry = second.geometry ∙ first.geometry;
  content = second.content ∙ first.content;
  disk = record {
    sectors = second.disk.sectors ∙ first.disk.sectors;
    content = second.disk.content ∙ first.disk.content;
    listed = second.disk.listed ∙ first.disk.listed;
    calls = second.disk.calls ∙ first.disk.calls;
  };
}

pub kept_then : {old mid new : Changing} → IsKept old mid → IsKept mid new → IsKept old new
kept_then first second = record {
  released = λ b. second.released b ∙ first.released b;
  held = second.held ∙ first.held;
  taken = λ b. second.taken b ∙ first.taken b;
  freed = λ b. second.freed b ∙ first.freed b;
  room = second.room ∙ first.room;
}
