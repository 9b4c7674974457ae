-- A directory with one chunk more: the node, and that what is stored stays right.
use Rattle.std.proofs.Common.{◌≡◌, ◌≢◌, ◌<◌, ◌≤◌, inl, inr, ℕ, ◌+◌, ◌*◌, ◌/◌, ◌%◌, eqb, true, false, not, ◌&&◌, ◌||◌, List, [], ◌∷◌, ◌++◌, length, map, take, drop, get_or, set, slice_index, Option, Some, refl, sym, ap, ◌∙◌, subst, arith}
use Rattle.std.specs.Prelude.{◌==◌, nat_le, nat_lt, is_some}
use Rattle.std.specs.List.{list_all}
use Rattle.std.specs.Option.{option_map, unwrap_or}
use Rattle.std.proofs.lemmas.Bool.{cases_eq, and_parts, and_from, or_left, or_right, le-leb, leb-true, eq-eqb}
use Rattle.std.proofs.lemmas.List.{map-append, length-map, length-set, get_or-set_same, get_or-set_other}
use Rattle.std.proofs.lemmas.List.Folds.{list_all-append}
use Rattle.std.proofs.lemmas.Grind.{get_or_default_zero}
use Rattle.lufs_base.specs.Fields.{are_zeros}
use Rattle.lufs_base.specs.declared.geometry.Geometry.{Geometry}
use Rattle.volume_model.specs.declared.inode.Dinode.{Dinode}
use Rattle.volume_model.specs.declared.directory.Slot.{Slot}
use Rattle.volume_model.specs.declared.hand.Hand.{Hand}
use Rattle.volume_model.specs.Format.{Blocks, is_file, is_directory}
use Rattle.volume_model.specs.Sound.{UsedInode, InodeState, InUse, reading_of, state_at, used_of, used_at, size_in_blocks, first_index, most_blocks, has_right_size, IsStored, DirectoryNode, Node, Directory, with_node, attributes_of, node_of, tree_of}
use Rattle.volume_laws.proofs.FieldFacts.{fields_of_numbers}
use Rattle.volume_laws.proofs.SameReading.{not_file, chunks_counted}
use Rattle.volume_laws.proofs.NodeClaims.{sized, directory_size}
use Rattle.volume_laws.proofs.StoredClaims.{right_numbers}
use Rattle.volume_laws.proofs.BodyChanges.{has_record}
use Rattle.volume_laws.proofs.NodeFacts.{node_of_directory, directory_by_node}
use Rattle.change_laws.specs.Exchange.{Exchanges}
use Rattle.change_laws.specs.Plans.{OnlyInodeChanges, GrowsByChunk, HoldMore}
use Rattle.change_laws.proofs.InodeWrites.{stored_after}
use Rattle.change_laws.proofs.InodeRights.{same_directory, same_file, chunks_read}
use Rattle.change_laws.proofs.ChunkSteps.{number_there}
use Rattle.change_laws.proofs.Extended.{ClaimsMore, HasRightPlaces, zero_at, zeros_from, filled_from, exchange_with_more}

-- how many chunks a directory has, by its node and by its size
pub record CountsChunks (u : UsedInode) (directory : DirectoryNode) : Type 0 where
  pub is : is_directory u.inode.mode ≡ true
  pub same : directory ≡ (record { attributes = attributes_of u.inode; chunks = map (λ chunk. unwrap_or chunk []) u.chunks })
  pub count : length u.chunks ≡ length directory.chunks
  pub size : u.inode.size ≡ 512 * length directory.chunks

pub chunks_of_directory : (g : Geometry) (blocks : Blocks) (i : ℕ) (u : UsedInode) (directory : DirectoryNode) (hands : List Hand) → IsStored g (reading_of g blocks) hands
    → used_at (reading_of g blocks) i ≡ Some u → tree_of g blocks i ≡ Some (Directory directory) → CountsChunks u directory
chunks_of_directory g blocks i u directory hands stored used stands =
    let found = directory_by_node g blocks i u directory used stands in
    let right = fields_of_numbers g i u (right_numbers g (reading_of g blocks) i u hands stored used) in
    let has = has_record g blocks i u used in
    let counted : length u.chunks ≡ u.inode.size / 512 =
    subst (λ (v : UsedInode). is_directory v.inode.mode ≡ true → length v.chunks ≡ v.inode.size / 512) has.leads (chunks_counted blocks has.dinode) found.0 in
    let whole = directory_size g u.inode right.size (not_file u.inode.mode found.0) found.0 in
    let long : length directory.chunks ≡ length u.chunks = ap (λ (d : DirectoryNode). length d.chunks) found.1 ∙ length-map u.chunks (λ chunk. unwrap_or chunk []) in
    record { is = found.0; same = found.1; count = sym long; size = omega (arith, counted, whole, long) }

-- a directory of so many chunks has a right size
pub size_is_right : (g : Geometry) (d : Dinode) (n : ℕ) → is_directory d.mode ≡ true → d.size ≡ 512 * n → 1 ≤ n → n ≤ 2048 → has_right_size g d ≡ true
size_is_right g d n directory size some few =
    let whole : (d.size % 512 == 0) ≡ true = eq-eqb (d.size % 512) 0 (omega (arith, size)) in
    let least : nat_le 512 d.size ≡ true = le-leb 512 d.size (omega (arith, size, some)) in
    let most : nat_le d.size (4096 * 256) ≡ true = le-leb d.size (4096 * 256) (omega (arith, size, few)) in
    let all : (is_directory d.mode && d.size % 512 == 0 && nat_le 512 d.size && nat_le d.size (4096 * 256)) ≡ true =
    and_from _ _ (and_from _ _ (and_from _ _ directory whole) least) most in
    or_left _ _ (or_right (is_file d.mode && nat_le d.size (4096 * most_blocks g)) _ all)

-- and no more than it may have
pub size_was_right : (g : Geometry) (d : Dinode) (n : ℕ) → is_directory d.mode ≡ true → d.size ≡ 512 * n → has_right_size g d ≡ true → n ≤ 2048
size_was_right g d n directory size right =
    let plain = not_file d.mode directory in
    elim (sized g d right plain) [
      | inl whole ↦ (let most = leb-true d.size (4096 * 256) (and_parts _ _ whole).1 in omega (arith, most, size))
      | inr link ↦
          let low : 0xa000 ≤ d.mode = leb-true 0xa000 d.mode (and_parts (nat_le 0xa000 d.mode) (nat_le d.mode (0xa000 + 0x1ff)) (and_parts _ _ (and_parts _ _ link).0).0).0 in
          let high : d.mode ≤ 0x4000 + 0x1ff = leb-true d.mode (0x4000 + 0x1ff) (and_parts (nat_le 0x4000 d.mode) (nat_le d.mode (0x4000 + 0x1ff)) directory).1 in
          absurd (omega (arith, low, high))
    ]

all_read_and_one : (chunks : List (Option (List Slot))) (slots : List Slot) → list_all is_some chunks ≡ true → list_all is_some (chunks ++ (Some slots ∷ [])) ≡ true
all_read_and_one chunks slots all = list_all-append is_some chunks (Some slots ∷ []) ∙ and_from (list_all is_some chunks) true all refl

-- an element inside a list, whatever stands for none
get_or_any : (xs : List ℕ) (j d : ℕ) → j < length xs → get_or xs j d ≡ slice_index xs j
get_or_any xs j d inside = get_or_default_zero xs j d inside

-- one chunk more, with these blocks taken
module _ (g : Geometry) (blocks others : Blocks) (i : ℕ) (u v : UsedInode) (directory : DirectoryNode) (slots : List Slot) (taken : List ℕ) (hands after : List Hand)
    (stored : IsStored g (reading_of g blocks) hands) (used : used_at (reading_of g blocks) i ≡ Some u) (stands : tree_of g blocks i ≡ Some (Directory directory))
    (only : OnlyInodeChanges g blocks others i) (state : state_at g others i ≡ InUse v) (grows : GrowsByChunk u.inode v.inode)
    (chunks : v.chunks ≡ u.chunks ++ (Some slots ∷ [])) where
  counts : CountsChunks u directory
  counts = chunks_of_directory g blocks i u directory hands stored used stands

  still : is_directory v.inode.mode ≡ true
  still = same_directory v.inode.mode u.inode.mode grows.type ∙ counts.is

  pub grown_tree : tree_of g others ≡ with_node (tree_of g blocks) i (Some (Directory (record { attributes = attributes_of v.inode; chunks = directory.chunks ++ (slots ∷ []) })))
  grown_tree =
      let plain : Option (List Slot) → List Slot = λ chunk. unwrap_or chunk [] in
      let all : map plain v.chunks ≡ directory.chunks ++ (slots ∷ []) =
      ap (map plain) chunks ∙ map-append plain u.chunks (Some slots ∷ []) ∙ ap (λ (d : DirectoryNode). d.chunks ++ (slots ∷ [])) (sym counts.same) in
      only.tree ∙ ap (λ (s : InodeState). with_node (tree_of g blocks) i (option_map (node_of others) (used_of s))) state
      ∙ ap (λ (n : Node). with_node (tree_of g blocks) i (Some n))
      (node_of_directory others v still ∙ ap (λ (l : List (List Slot)). Directory (record { attributes = attributes_of v.inode; chunks = l })) all)

  pub grown_stored : ClaimsMore i u v taken → HasRightPlaces g v → v.inode.blocks ≡ u.inode.blocks + length taken → HoldMore hands after [] taken
      → IsStored g (reading_of g others) after
  grown_stored more places count held =
      let r = reading_of g blocks in
      let read : list_all is_some v.chunks ≡ true = ap (list_all is_some) chunks ∙ all_read_and_one u.chunks slots (chunks_read g r hands i u stored used) in
      let exchange = exchange_with_more g r i u v taken hands after stored used more held places count read in
      stored_after g blocks others i hands after stored only (subst (λ (s : InodeState). Exchanges g r i s hands after) (sym state) exchange)

  -- the places of a last block that takes it in
  pub places_in_block : length directory.chunks % 8 ≢ 0 → v.numbers ≡ u.numbers → v.pointers ≡ u.pointers → HasRightPlaces g v
  places_in_block inside numbers pointers =
      let right = fields_of_numbers g i u (right_numbers g (reading_of g blocks) i u hands stored used) in
      let n = length directory.chunks in
      let few = size_was_right g u.inode n counts.is counts.size right.size in
      let size : v.inode.size ≡ 512 * (n + 1) = omega (arith, grows.size, counts.size) in
      let same : size_in_blocks v.inode.size ≡ size_in_blocks u.inode.size = omega (arith, size, counts.size, inside) in
      record {
        size = size_is_right g v.inode (n + 1) still size (omega arith) (omega (arith, few, inside));
        none_past = (λ t. are_zeros (drop (same t) (numbers t))) ∙ right.none_past;
        pointers = (λ t. list_all (λ p. p.block == 0 || nat_lt (first_index p.name) (same t)) (pointers t)) ∙ right.pointers_needed;
        no_hole = (λ t. same_file v.inode.mode u.inode.mode grows.type t || (nat_le (same t) (length (numbers t)) && list_all (λ number. not (number == 0)) (take (same t) (numbers t))))
            ∙ right.no_hole;
      }

  -- and those of a new block at the next index
  pub places_after : (k b : ℕ) → length directory.chunks ≡ 8 * k → k < 256 → v.numbers ≡ set u.numbers k b → eqb b 0 ≡ false
      → list_all (λ p. p.block == 0 || nat_lt (first_index p.name) (size_in_blocks v.inode.size)) v.pointers ≡ true → k < length u.numbers → HasRightPlaces g v
  places_after k b eight below numbers some pointers within =
      let right = fields_of_numbers g i u (right_numbers g (reading_of g blocks) i u hands stored used) in
      let n = length directory.chunks in
      let size : v.inode.size ≡ 512 * (n + 1) = omega (arith, grows.size, counts.size) in
      let next : size_in_blocks v.inode.size ≡ k + 1 = omega (arith, size, eight) in
      let old : size_in_blocks u.inode.size ≡ k = omega (arith, counts.size, eight) in
      let long = length-set u.numbers k b in
      let filled : list_all (λ number. not (number == 0)) (take (k + 1) (set u.numbers k b)) ≡ true = filled_from (set u.numbers k b) (k + 1) (omega (arith, within, long)) (λ j less d.
      elim (cases_eq j k) [
        | inl here ↦ ap (λ (m : ℕ). eqb (get_or (set u.numbers k b) m d) 0) here ∙ ap (λ (m : ℕ). eqb m 0) (get_or-set_same u.numbers k b d within) ∙ some
        | inr away ↦
            ap (λ (m : ℕ). eqb m 0) (get_or-set_other u.numbers k j b d away ∙ get_or_any u.numbers j d (omega (arith, less, within, away)))
            ∙ number_there g i u right (not_file u.inode.mode counts.is) j (omega (arith, less, away, old))
      ]) in
      record {
        size = size_is_right g v.inode (n + 1) still size (omega arith) (omega (arith, eight, below));
        none_past = (λ t. are_zeros (drop (next t) (numbers t)))
            ∙ zeros_from (set u.numbers k b) (k + 1) (λ j high inside d.
            get_or-set_other u.numbers k j b d (λ same. omega (arith, same, high)) ∙ get_or_any u.numbers j d (omega (arith, inside, long))
            ∙ zero_at u.numbers (size_in_blocks u.inode.size) j right.none_past (omega (arith, high, old)));
        pointers = pointers;
        no_hole = or_right (is_file v.inode.mode) _ (and_from _ _ (le-leb (size_in_blocks v.inode.size) (length v.numbers) (omega (arith, next, within, long, ap length numbers)))
            ((λ t. list_all (λ number. not (number == 0)) (take (next t) (numbers t))) ∙ filled));
      }
