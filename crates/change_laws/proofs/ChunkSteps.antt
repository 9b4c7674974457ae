-- A chunk of a directory whose bytes are a chunk again.
use Rattle.std.proofs.Common.{◌≡◌, ◌<◌, ◌≤◌, ℕ, ◌*◌, ◌/◌, ◌%◌, inl, inr, eqb, Bool, true, false, List, [], length, take, get_or, set, slice_index, Option, Some, refl, sym, ap, ◌∙◌, subst, arith}
use Rattle.std.specs.Prelude.{is_some, not, ◌==◌}
use Rattle.std.specs.List.{list_all}
use Rattle.std.specs.Option.{option_map, unwrap_or}
use Rattle.std.proofs.lemmas.Bool.{cases_eq, and_parts, leb-true, not-true}
use Rattle.std.proofs.lemmas.List.{map-set, length-map, length-set, get_or-set_same, get_or-set_other, get_or-take, length-take-le}
use Rattle.std.proofs.lemmas.List.Sums.{AllPass-from_list_all, list_all-from_AllPass}
use Rattle.lufs_base.specs.Layout.{IsGeometry}
use Rattle.lufs_base.specs.declared.geometry.Geometry.{Geometry}
use Rattle.volume_model.specs.declared.directory.Slot.{Slot}
use Rattle.volume_model.specs.declared.hand.Hand.{Hand}
use Rattle.volume_model.specs.Format.{Blocks, is_file, is_directory}
use Rattle.volume_model.specs.Sound.{UsedInode, InodeState, InUse, reading_of, state_at, used_of, used_at, chunk_at, index_claim, size_in_blocks, has_no_hole, IsLaid, IsStored, DirectoryNode, Node, Directory, with_node, attributes_of, node_of, tree_of}
use Rattle.volume_laws.specs.Changes.{AgreeWhereReadBut, with_state, with_chunk}
use Rattle.volume_laws.proofs.ClaimFacts.{index_claimed}
use Rattle.volume_laws.proofs.FieldFacts.{HasRightFields, fields_of_numbers}
use Rattle.volume_laws.proofs.SameReading.{not_file, chunks_counted}
use Rattle.volume_laws.proofs.NodeClaims.{second_of, directory_size}
use Rattle.volume_laws.proofs.LessAgreement.{agree_in_metadata_but}
use Rattle.volume_laws.proofs.ChunkChange.{chunk_state}
use Rattle.volume_laws.proofs.BodyChanges.{has_record}
use Rattle.volume_laws.proofs.StoredClaims.{right_numbers, stored_is_laid}
use Rattle.volume_laws.proofs.NodeFacts.{node_of_directory, directory_by_node}
use Rattle.change_laws.specs.Exchange.{Exchanges}
use Rattle.change_laws.specs.Plans.{OnlyInodeChanges}
use Rattle.change_laws.proofs.InodeWrites.{written_block, stored_after}
use Rattle.change_laws.proofs.InodeRights.{chunks_read}
use Rattle.change_laws.proofs.AttributeSteps.{exchanges_nothing}

-- an inode without holes has a number at each index below its size
pub number_there : (g : Geometry) (i : ℕ) (u : UsedInode) → HasRightFields g i u → is_file u.inode.mode ≡ false → (index : ℕ) → index < size_in_blocks u.inode.size
    → eqb (slice_index u.numbers index) 0 ≡ false
number_there g i u right no_file index below =
    let s = size_in_blocks u.inode.size in
    let parts = and_parts _ _ (second_of (is_file u.inode.mode) (has_no_hole u) right.no_hole no_file) in
    let fits : s ≤ length u.numbers = leb-true s (length u.numbers) parts.0 in
    let inside : index < length (take s u.numbers) = omega (arith, length-take-le s u.numbers fits, below) in
    not-true (eqb (slice_index u.numbers index) 0)
    (ap (λ (n : ℕ). not (n == 0)) (sym (get_or-take s u.numbers index 0 below)) ∙ AllPass-from_list_all (λ n. not (n == 0)) (take s u.numbers) parts.1 index 0 inside)

-- a list of which each passes, with another that does in one place
pub all_with : {X : Type 0} (p : X → Bool) (xs : List X) (k : ℕ) (x : X) → list_all p xs ≡ true → p x ≡ true → list_all p (set xs k x) ≡ true
all_with {X} p xs k x all one = list_all-from_AllPass p (set xs k x) (λ j d less.
    let inside : j < length xs = omega (arith, less, length-set xs k x) in
    elim (cases_eq j k) [
      | inl same ↦ ap (λ (n : ℕ). p (get_or (set xs k x) n d)) same ∙ ap p (get_or-set_same xs k x d (omega (arith, inside, same))) ∙ one
      | inr away ↦ ap p (get_or-set_other xs k j x d away) ∙ AllPass-from_list_all p xs all j d inside
    ])

module _ (g : Geometry) (blocks others : Blocks) (i k : ℕ) (u : UsedInode) (directory : DirectoryNode) (slots : List Slot) (hands : List Hand) (ok : IsGeometry g)
    (stored : IsStored g (reading_of g blocks) hands) (used : used_at (reading_of g blocks) i ≡ Some u) (stands : tree_of g blocks i ≡ Some (Directory directory))
    (below : k < length directory.chunks) (agree : AgreeWhereReadBut g blocks others (slice_index u.numbers (k / 8)) (512 * (k % 8)) 512)
    (there : chunk_at others u.numbers k ≡ Some slots) where
  laid : IsLaid g (reading_of g blocks)
  laid = stored_is_laid g (reading_of g blocks) hands stored

  is_one : is_directory u.inode.mode ≡ true
  is_one = (directory_by_node g blocks i u directory used stands).0

  inside : k < length u.chunks
  inside =
      let count : length directory.chunks ≡ length u.chunks =
      ap (λ (d : DirectoryNode). length d.chunks) (directory_by_node g blocks i u directory used stands).1 ∙ length-map u.chunks (λ chunk. unwrap_or chunk []) in
      omega (arith, below, count)

  number : eqb (slice_index u.numbers (k / 8)) 0 ≡ false
  number =
      let right = fields_of_numbers g i u (right_numbers g (reading_of g blocks) i u hands stored used) in
      let no_file = not_file u.inode.mode is_one in
      let has = has_record g blocks i u used in
      let counted : length u.chunks ≡ u.inode.size / 512 =
      subst (λ (v : UsedInode). is_directory v.inode.mode ≡ true → length v.chunks ≡ v.inode.size / 512) has.leads (chunks_counted blocks has.dinode) is_one in
      number_there g i u right no_file (k / 8) (omega (arith, inside, counted, directory_size g u.inode right.size no_file is_one))

  only : OnlyInodeChanges g blocks others i
  only = written_block g blocks others (index_claim i u (k / 8)) (512 * (k % 8)) 512 ok laid (index_claimed (reading_of g blocks) i u (k / 8) used number) agree

  state : state_at g others i ≡ InUse (with_chunk u k (Some slots))
  state =
      chunk_state g blocks others ok laid i k u used is_one inside number
      (agree_in_metadata_but g blocks others (slice_index u.numbers (k / 8)) (512 * (k % 8)) 512 agree)
      ∙ ap (λ (c : Option (List Slot)). InUse (with_chunk u k c)) there

  pub chunk_reading : reading_of g others ≡ with_state (reading_of g blocks) i (InUse (with_chunk u k (Some slots)))
  chunk_reading = only.reading ∙ ap (with_state (reading_of g blocks) i) state

  pub chunk_stored : IsStored g (reading_of g others) hands
  chunk_stored =
      let r = reading_of g blocks in
      let v = with_chunk u k (Some slots) in
      let chunks = all_with is_some u.chunks k (Some slots) (chunks_read g r hands i u stored used) refl in
      let exchange = exchanges_nothing g r i u v hands stored used (right_numbers g r i u hands stored used) chunks refl in
      stored_after g blocks others i hands hands stored only (subst (λ (s : InodeState). Exchanges g r i s hands hands) (sym state) exchange)

  pub chunk_tree : tree_of g others ≡ with_node (tree_of g blocks) i (Some (Directory (record directory { chunks = set directory.chunks k slots })))
  chunk_tree =
      let v = with_chunk u k (Some slots) in
      let same = (directory_by_node g blocks i u directory used stands).1 in
      let node : node_of others v ≡ Directory (record directory { chunks = set directory.chunks k slots }) =
      node_of_directory others v is_one
      ∙ ap (λ (l : List (List Slot)). Directory (record { attributes = attributes_of u.inode; chunks = l })) (map-set (λ chunk. unwrap_or chunk []) u.chunks k (Some slots))
      ∙ ap (λ (d : DirectoryNode). Directory (record d { chunks = set d.chunks k slots })) (sym same) in
      only.tree ∙ ap (λ (s : InodeState). with_node (tree_of g blocks) i (option_map (node_of others) (used_of s))) state
      ∙ ap (λ (n : Node). with_node (tree_of g blocks) i (Some n)) node
