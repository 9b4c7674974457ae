-- A store that is read again and again.
use Rattle.std.proofs.Common.{◌≡◌, ℕ, List, Option, Some, None, IfSome, sym, subst, ◌∙◌}
use Rattle.volume_model.specs.Format.{block}
use Rattle.volume_model.specs.Format.{Image}
use Rattle.meta_store.specs.Store.{StoreTold, IsUnchanged}
use Rattle.meta_store.specs.Changing.{Changing, IsKept}
use Rattle.dir_reads.specs.Chunks.{AreOfBlock}

-- unchanged, and then again
pub unchanged_then : {old mid new : StoreTold} → IsUnchanged old mid → IsUnchanged mid new → IsUnchanged old new
unchanged_then first second = record {
  geometry = second.geometry ∙ first.geometry;
  content = second.content ∙ first.content;
  disk = record {
    sectors = second.disk.sectors ∙ first.disk.sectors;
    content = second.disk.content ∙ first.disk.content;
    listed = second.disk.listed ∙ first.disk.listed;
    calls = second.disk.calls ∙ first.disk.calls;
  };
}

pub kept_then : {old mid new : Changing} → IsKept old mid → IsKept mid new → IsKept old new
kept_then first second = record {
  released = λ b. second.released b ∙ first.released b;
  held = second.held ∙ first.held;
  taken = λ b. second.taken b ∙ first.taken b;
  freed = λ b. second.freed b ∙ first.freed b;
  room = second.room ∙ first.room;
}

-- a new window shows nothing
pub nothing_held : (content : Option Image) (number : Option ℕ) (bytes : List ℕ) → number ≡ None → AreOfBlock content number bytes
nothing_held None number bytes none = tt
nothing_held (Some image) number bytes none = subst (λ (n : Option ℕ). IfSome n (λ b. bytes ≡ block image b)) (sym none) tt

-- a window shows what it showed, where the content is as it was
pub held_still : (content now : Option Image) (number : Option ℕ) (bytes : List ℕ) → now ≡ content → AreOfBlock content number bytes → AreOfBlock now number bytes
held_still content now number bytes same held = subst (λ (o : Option Image). AreOfBlock o number bytes) (sym same) held
