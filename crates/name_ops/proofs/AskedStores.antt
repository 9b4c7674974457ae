-- What is asked of a store, by the tree that its content stands for.
use Rattle.std.proofs.Common.{◌≡◌, ℕ, ◌*◌, Bool, true, false, List, [], length, Option, Some, None, IfSome, sym, ap, ◌∙◌, subst}
use Rattle.std.specs.Prelude.{IsSomeAnd}
use Rattle.std.specs.Option.{option_map, option_map_or}
use Rattle.std.proofs.lemmas.Bool.{false≢true}
use Rattle.lufs_base.specs.declared.geometry.Geometry.{Geometry}
use Rattle.volume_model.specs.declared.hand.Hand.{Hand}
use Rattle.volume_model.specs.declared.inode.Dinode.{Dinode}
use Rattle.volume_model.specs.Format.{Image, block}
use Rattle.volume_model.specs.Sound.{reading_of, has_bad_numbers, Node, File, Directory, Link, Tree, tree_of, free_inodes_of, free_blocks_of, StandsFor}
use Rattle.volume_laws.proofs.SoundParts.{in_parts}
use Rattle.tree_types.specs.declared.credentials.Cred.{Cred}
use Rattle.tree_types.specs.declared.reply.Refusal.{Refusal}
use Rattle.history_model.specs.Places.{permits_on, may, is_directory_node, is_directory_in, chunks_of_node}
use Rattle.meta_store.specs.declared.change.Change.{Change}
use Rattle.meta_store.specs.Changes.{changed}
use Rattle.meta_store.specs.NoChange.{no_change}
use Rattle.meta_store.proofs.ImageLaid.{nothing_over}
use Rattle.dir_reads.specs.Rooms.{room_for}
use Rattle.dir_reads.specs.declared.space.Room.{Room}
use Rattle.dir_reads.proofs.StoredNumbers.{stored_numbers}
use Rattle.block_alloc.specs.Taking.{AreFree}
use Rattle.inode_reads.specs.InodeOf.{IsRecordOf, IsInodeOf}
use Rattle.name_ops.specs.Asked.{IsWritable, name_blocks, blocks_by, lack_by}
use Rattle.name_ops.proofs.Told.{Holds}
use Rattle.name_ops.proofs.NameRooms.{blocks_by_room}

-- what is read of an inode of each tree
abbrev pub IsReadByTree : Option Image → Geometry → (i : ℕ) → Option Dinode → Type 0
IsReadByTree content g i found = IfSome content (λ image. (tree : Tree) (hands : List Hand) → StandsFor g (block image) tree hands → IsInodeOf g tree i found)

pub none_writable : (content : Option Image) (g : Geometry) (cred : Cred) (dir : ℕ) → IsReadByTree content g dir None
    → (tree : Tree) (hands : List Hand) → Holds content g tree hands (IsWritable g tree cred dir None)
none_writable None g cred dir read tree hands = tt
none_writable (Some image) g cred dir read tree hands = λ stands. ap (λ (o : Option Node). option_map_or (permits_on cred 2) o false) (read tree hands stands)

pub denied_writable : (content : Option Image) (g : Geometry) (cred : Cred) (dir : ℕ) (d : Dinode) (allowed : Bool) → allowed ≡ false → ((tree : Tree) → IsInodeOf g tree dir (Some d) → allowed ≡ may tree cred dir 2)
    → IsReadByTree content g dir (Some d) → (tree : Tree) (hands : List Hand) → Holds content g tree hands (IsWritable g tree cred dir None)
denied_writable None g cred dir d allowed no_right by_tree read tree hands = tt
denied_writable (Some image) g cred dir d allowed no_right by_tree read tree hands = λ stands. sym (by_tree tree (read tree hands stands)) ∙ no_right

pub some_writable : (content : Option Image) (g : Geometry) (cred : Cred) (dir : ℕ) (d : Dinode) (allowed : Bool) → allowed ≡ true → ((tree : Tree) → IsInodeOf g tree dir (Some d) → allowed ≡ may tree cred dir 2)
    → IsReadByTree content g dir (Some d) → (tree : Tree) (hands : List Hand) → Holds content g tree hands (IsWritable g tree cred dir (Some d))
some_writable None g cred dir d allowed right by_tree read tree hands = tt
some_writable (Some image) g cred dir d allowed right by_tree read tree hands = λ stands.
    let inode = read tree hands stands in
    (sym (by_tree tree inode) ∙ right, inode)

-- the size in the record of a directory
sized : (g : Geometry) (tree : Tree) (dir : ℕ) (d : Dinode) (o : Option Node) → IsSomeAnd o (IsRecordOf g tree dir d) → option_map_or is_directory_node o false ≡ true → d.size ≡ 512 * length (option_map_or chunks_of_node o [])
sized g tree dir d None is directory = absurd (false≢true directory)
sized g tree dir d (Some (File file)) is directory = absurd (false≢true directory)
sized g tree dir d (Some (Directory x)) is directory = is.size
sized g tree dir d (Some (Link link)) is directory = absurd (false≢true directory)

-- where a directory of a store with no change has room
abbrev pub IsRoomFor : Option Image → Geometry → Change → (dir : ℕ) → (name : List ℕ) → Room → Type 0
IsRoomFor content g change dir name room =
    IfSome (option_map (changed change) content) (λ image. has_bad_numbers g (reading_of g (block image)) dir ≡ false → room ≡ room_for (tree_of g (block image)) dir name)

pub told_blocks : (content : Option Image) (g : Geometry) (change : Change) (dir : ℕ) (name : List ℕ) (room : Room) (d : Dinode) (blocks : Option ℕ) → change ≡ no_change → IsRoomFor content g change dir name room
    → blocks ≡ blocks_by room d.size
    → (tree : Tree) (hands : List Hand) → IfSome content (λ image. StandsFor g (block image) tree hands → IsInodeOf g tree dir (Some d) → is_directory_in tree dir ≡ true → blocks ≡ name_blocks tree dir name)
told_blocks None g change dir name room d blocks none told by tree hands = tt
told_blocks (Some image) g change dir name room d blocks none told by tree hands = λ stands inode directory.
    let same : changed change image ≡ image = ap (λ (c : Change). changed c image) none ∙ nothing_over image in
    let here = subst (λ (x : Image). has_bad_numbers g (reading_of g (block x)) dir ≡ false → room ≡ room_for (tree_of g (block x)) dir name) same told in
    let parts = (in_parts g (block image) hands).0 stands.sound in
    let is : room ≡ room_for tree dir name = here (stored_numbers g (reading_of g (block image)) hands dir parts.0) ∙ ap (λ (t : Tree). room_for t dir name) stands.stands in
    by ∙ ap (λ (r : Room). blocks_by r d.size) is ∙ blocks_by_room tree dir name d.size (sized g tree dir d (tree dir) inode directory)

pub told_lack : (content : Option Image) (g : Geometry) (inode : Bool) (blocks free_inodes free_blocks : ℕ) (hands : List Hand) (why : Option Refusal) → why ≡ lack_by inode blocks free_inodes free_blocks
    → ((tree : Tree) → IfSome content (λ image. StandsFor g (block image) tree hands → AreFree g tree free_inodes free_blocks))
    → (tree : Tree) → IfSome content (λ image. StandsFor g (block image) tree hands → why ≡ lack_by inode blocks (free_inodes_of g tree) (free_blocks_of g tree))
told_lack None g inode blocks free_inodes free_blocks hands why is free tree = tt
told_lack (Some image) g inode blocks free_inodes free_blocks hands why is free tree = λ stands.
    let are = free tree stands in
    is ∙ ap (λ (n : ℕ). lack_by inode blocks n free_blocks) are.inodes ∙ ap (λ (n : ℕ). lack_by inode blocks (free_inodes_of g tree) n) are.blocks
