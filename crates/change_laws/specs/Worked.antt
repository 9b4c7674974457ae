-- The smallest volume, of which a call holds an inode and a block, to compute the definitions on.
use Rattle.std.specs.Prelude.{[], ◌∷◌, take, Some}
use Rattle.volume_model.specs.declared.hand.Hand.{Hand}
use Rattle.volume_model.specs.Format.{Blocks, GroupRecord, named_group}
use Rattle.volume_model.specs.Sound.{UsedInode, used_inode}
use Rattle.volume_model.specs.Worked.{made, file}

abbrev pub three_and_block : Hand
three_and_block = record { inode = Some 3; blocks = 38 ∷ [] }

-- the file that is made of them
abbrev pub file_of_one_block : UsedInode
file_of_one_block = used_inode made (file 1 4096 (38 ∷ []) 0 1)

-- the record of its one group
abbrev pub group_in : Blocks → GroupRecord
group_in blocks = named_group (take 416 (blocks 35))
