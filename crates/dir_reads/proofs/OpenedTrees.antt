-- The chunks of a directory that was opened are those of the tree.
use Rattle.std.proofs.Common.{◌≡◌, ◌<◌, ◌≤◌, inl, inr, ℕ, zero, suc, ◌+◌, ◌*◌, ◌/◌, ◌%◌, min, Bool, true, false, not, if◌then◌else◌, List, [], ◌∷◌, map, take, drop, slice_index, unwrap_or, Option, Some, None, Result, Ok, Err, IfSome, IfOk, refl, sym, ap, subst, ◌∙◌, arith}
use Rattle.std.specs.Prelude.{nat_lt}
use Rattle.std.specs.List.{list_all, range_with_len}
use Rattle.std.specs.Option.{option_map, option_map_or, option_and_then, option_flatten}
use Rattle.std.proofs.lemmas.Bool.{cases_Bool, not-false, false≢true}
use Rattle.lufs_base.specs.Layout.{blocks_of}
use Rattle.lufs_base.specs.declared.geometry.Geometry.{Geometry}
use Rattle.volume_model.specs.declared.inode.Dinode.{Dinode}
use Rattle.volume_model.specs.declared.directory.Slot.{Slot}
use Rattle.volume_model.specs.Format.{Blocks, Image, block, inodes_of, is_file, is_directory, chunk_of}
use Rattle.volume_model.specs.Sound.{UsedInode, InodeState, used_of, state_of, used_inode, reading_of, inode_at, chunk_at, chunks_at, block_numbered, numbers_of, has_right_numbers, node_of, tree_of}
use Rattle.volume_laws.proofs.ClaimFacts.{length-inodes, used_in_volume}
use Rattle.volume_laws.proofs.NodeFacts.{node_of_file, node_of_directory, node_of_other}
use Rattle.volume_laws.proofs.SameReading.{used_from_record}
use Rattle.history_model.specs.Places.{chunks_of_node, chunks_in}
use Rattle.dir_reads.specs.Chunks.{only_directory, directory_at, slots_of_chunk, chunks_from, chunks_of, IsOpened}
use Rattle.dir_reads.specs.declared.chunk_list.Opened.{Opened}
use Rattle.block_numbers.proofs.RightNumbers.{pointer_inside}
use Rattle.dir_reads.proofs.RightNumbers.{size_of_directory}

-- the slots of each chunk of a record
abbrev pub slots_at : Blocks → Dinode → List (List Slot)
slots_at blocks d = map (λ chunk. unwrap_or chunk []) (chunks_at blocks d)

plain : (blocks : Blocks) (u : UsedInode) → is_directory u.inode.mode ≡ false → chunks_of_node (node_of blocks u) ≡ []
plain blocks u not_so = elim (cases_Bool (is_file u.inode.mode)) [
  | inl file ↦ ap chunks_of_node (node_of_file blocks u file)
  | inr other ↦ ap chunks_of_node (node_of_other blocks u other not_so)
]

of_record : (blocks : Blocks) (o : Option (Option Dinode))
    → option_map_or chunks_of_node (option_map (node_of blocks) (used_of (state_of blocks o))) [] ≡ option_map_or (slots_at blocks) (only_directory (option_flatten o)) []
of_record blocks None = refl
of_record blocks (Some None) = refl
of_record blocks (Some (Some d)) = elim (cases_Bool (is_directory d.mode)) [
  | inl so ↦
      ap chunks_of_node (node_of_directory blocks (used_inode blocks d) so)
      ∙ sym (ap (λ (b : Bool). option_map_or (slots_at blocks) (if b then Some d else None) []) so)
  | inr not_so ↦ plain blocks (used_inode blocks d) not_so ∙ sym (ap (λ (b : Bool). option_map_or (slots_at blocks) (if b then Some d else None) []) not_so)
]

-- the chunks of inode i in the tree are those of its record
pub chunks_in_tree : (g : Geometry) (blocks : Blocks) (i : ℕ) → i < inodes_of g
    → chunks_in (tree_of g blocks) i ≡ option_map_or (slots_at blocks) (directory_at g blocks i) []
unfolding tree_of
chunks_in_tree g blocks i within =
    ap (λ (o : Option UsedInode). option_map_or chunks_of_node (option_map (node_of blocks) o) []) (used_in_volume g blocks i within)
    ∙ of_record blocks (inode_at g blocks i)

picked : (b : Bool) (e d : Dinode) → ◌≡◌ {A = Option Dinode} (if b then Some e else None) (Some d) → (b ≡ true) × (e ≡ d)
picked true e d is = (refl, cc)
picked false e d is = absurd (cc)

pub from_record : (o : Option (Option Dinode)) (d : Dinode) → only_directory (option_flatten o) ≡ Some d → (o ≡ Some (Some d)) × (is_directory d.mode ≡ true)
from_record None d is = absurd (cc)
from_record (Some None) d is = absurd (cc)
from_record (Some (Some e)) d is =
    let parts = picked (is_directory e.mode) e d is in
    (ap (λ (x : Dinode). Some (Some x)) parts.1, ap (λ (x : Dinode). is_directory x.mode) (sym parts.1) ∙ parts.0)

-- the chunks by one list of numbers or by another
same_chunks : (blocks : Blocks) (numbers others : List ℕ) → ((k : ℕ) → slice_index numbers k ≡ slice_index others k) → (a n : ℕ)
    → map (λ chunk. unwrap_or chunk []) (map (chunk_at blocks others) (range_with_len a n)) ≡ map (slots_of_chunk blocks numbers) (range_with_len a n)
same_chunks blocks numbers others same a zero = refl
same_chunks blocks numbers others same a (suc n) =
    let first : chunk_at blocks others a ≡ chunk_at blocks numbers a =
    ap (λ (b : ℕ). chunk_of (take 512 (drop (512 * (a % 8)) (block_numbered blocks b)))) (sym (same (a / 8))) in
    let rest = same_chunks blocks numbers others same (a + 1) n in
    λ t. unwrap_or (first t) [] ∷ rest t

-- the directory of a record whose numbers are all of blocks of the volume
pub record_opened : (content : Option Image) (g : Geometry) (d : Dinode) (opened : Opened) → 0 < blocks_of g → opened.count ≡ min (d.size / 512) 2048
    → IfSome content (λ image. slice_index d.indirect 0 < blocks_of g → (k : ℕ) → slice_index opened.numbers.items k ≡ slice_index (numbers_of (block image) d) k)
    → IfSome content (λ image. (i : ℕ) → is_directory d.mode ≡ true → has_right_numbers g i (used_inode (block image) d) ≡ true
    → slots_at (block image) d ≡ chunks_of (block image) opened)
record_opened None g d opened some count read = tt
record_opened (Some image) g d opened some count read = λ i directory right.
    let blocks = block image in
    let size = size_of_directory g i (used_inode blocks d) right directory in
    let all : opened.count ≡ d.size / 512 = omega (arith, count, size) in
    let same = read (pointer_inside g i blocks d right some) in
    ap (λ (b : Bool). map (λ chunk. unwrap_or chunk []) (if b then map (chunk_at blocks (numbers_of blocks d)) (range_with_len 0 (d.size / 512)) else [])) directory
    ∙ same_chunks blocks opened.numbers.items (numbers_of blocks d) same 0 (d.size / 512)
    ∙ ap (λ (n : ℕ). chunks_from blocks opened.numbers.items 0 n) (sym all)
