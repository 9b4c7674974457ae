-- A small change, which tests apply: it takes block 38 of the smallest volume.
use Rattle.std.specs.Prelude.{ℕ, List, [], ◌∷◌, ◌++◌, replicate}
use Rattle.lufs_base.specs.declared.delta.Delta.{Delta}
use Rattle.lufs_base.specs.declared.delta.DeltaKind.TheVariants.{Group}
use Rattle.meta_store.specs.declared.change.Change.{Change}

-- the bytes of the group's record, with these bits of its first blocks: it is group 0, both counts are 0, the inodes 0 and
-- 1 are in use, and so is block 98, the last one
abbrev pub record_with : (first : ℕ) → List ℕ
record_with first = (0 ∷ 9 ∷ 2 ∷ 0x55 ∷ []) ++ (replicate 28 0 ++ (3 ∷ replicate 127 0) ++ (first ∷ replicate 6 0) ++ (0x80 ∷ replicate 248 0))

-- the record in which the blocks 35 to 38 are in use
abbrev pub new_record : Delta
new_record = record { kind = Group; home = 143360; len = 416; bytes = record_with 15 }

abbrev pub taking : Change
taking = record { deltas = new_record ∷ []; taken = 38 ∷ []; freed = []; raw = [] }
