-- Block maps that agree in what is read have the same tree; if they differ in bytes of files, a tree of the same shape.
use Rattle.std.proofs.Common.{◌≡◌, ◌≤◌, inl, inr, ℕ, ◌*◌, ◌-◌, arith, eqb, true, false, cond, List, [], map, take, slice_index, Option, Some, None, sym, ap, ◌∙◌, subst, refl}
use Rattle.std.specs.List.{range_with_len}
use Rattle.std.specs.Option.{option_map, unwrap_or}
use Rattle.std.proofs.lemmas.Bool.{cases_Bool, cond-true, cond-false}
use Rattle.std.proofs.lemmas.Simd.{map-map}
use Rattle.lufs_base.specs.Layout.{IsGeometry}
use Rattle.lufs_base.specs.declared.geometry.Geometry.{Geometry}
use Rattle.volume_model.specs.Format.{Blocks, is_file, is_directory}
use Rattle.volume_model.specs.declared.hand.Hand.{Hand}
use Rattle.volume_model.specs.Sound.{Reading, UsedInode, reading_of, used_at, index_claim, size_in_blocks, AreApart, Sound, finding_of, Node, File, Directory, Link, Tree, shape_of, shape_of_node, shape_of_block, StandsFor, attributes_of, file_block, file_blocks, pointer_names, link_text, node_of, tree_of, tree_of_reading, AgreeWhereRead, AgreeButInFileBytes, index_length, read_length, metadata_length}
use Rattle.volume_laws.proofs.Members.{All_range, map_same}
use Rattle.volume_laws.proofs.ClaimFacts.{index_claimed}
use Rattle.volume_laws.proofs.ReadLengths.{same_front, index_read, metadata_is_read}
use Rattle.volume_laws.proofs.SameReading.{AgreeOnClaims, reading_same, numbered_part_same}

pub same_of_option : {Y : Type 0} (f h : Option UsedInode → Y) (o : Option UsedInode) → f None ≡ h None → ((u : UsedInode) → o ≡ Some u → f (Some u) ≡ h (Some u)) → f o ≡ h o
same_of_option f h None none each = none
same_of_option f h (Some u) none each = each u refl

-- functions that give the same of each inode in use give the same of each number
pub same_of_used : {Y : Type 0} (f h : Option UsedInode → Y) (r : Reading) → f None ≡ h None → ((i : ℕ) (u : UsedInode) → used_at r i ≡ Some u → f (Some u) ≡ h (Some u))
    → (i : ℕ) → f (used_at r i) ≡ h (used_at r i)
same_of_used f h r none each i = same_of_option f h (used_at r i) none (each i)

-- the node of a file, and that of what is none
abbrev file_node : Blocks → UsedInode → Node
file_node blocks u = File (record { attributes = attributes_of u.inode; size = u.inode.size; blocks = file_blocks blocks u; pointers = pointer_names u })

abbrev other_node : UsedInode → List ℕ → Node
other_node u text =
    cond (is_directory u.inode.mode) (Directory (record { attributes = attributes_of u.inode; chunks = map (λ chunk. unwrap_or chunk []) u.chunks }))
    (Link (record { attributes = attributes_of u.inode; text = text }))

same_of_node : {Y : Type 0} (f : Node → Y) (blocks others : Blocks) (u : UsedInode) → (is_file u.inode.mode ≡ true → f (file_node others u) ≡ f (file_node blocks u))
    → (is_file u.inode.mode ≡ false → is_directory u.inode.mode ≡ false → link_text others u ≡ link_text blocks u) → f (node_of others u) ≡ f (node_of blocks u)
same_of_node f blocks others u file text =
    let test = is_file u.inode.mode in
    let directory = is_directory u.inode.mode in
    let other : Blocks → Node = λ b. other_node u (link_text b u) in
    let chunks : Node = Directory (record { attributes = attributes_of u.inode; chunks = map (λ chunk. unwrap_or chunk []) u.chunks }) in
    let link : Blocks → Node = λ b. Link (record { attributes = attributes_of u.inode; text = link_text b u }) in
    elim (cases_Bool test) [
      | inl is ↦ ap f (cond-true test (file_node others u) (other others) is) ∙ file is ∙ sym (ap f (cond-true test (file_node blocks u) (other blocks) is))
      | inr not ↦
          let same : other others ≡ other blocks = elim (cases_Bool directory) [
            | inl is ↦ cond-true directory chunks (link others) is ∙ sym (cond-true directory chunks (link blocks) is)
            | inr plain ↦
                cond-false directory chunks (link others) plain ∙ ap (λ (t : List ℕ). Link (record { attributes = attributes_of u.inode; text = t })) (text not plain)
                ∙ sym (cond-false directory chunks (link blocks) plain)
          ] in
          ap f (cond-false test (file_node others u) (other others) not) ∙ ap f same ∙ sym (ap f (cond-false test (file_node blocks u) (other blocks) not))
    ]

-- the shape of a file depends on no bytes
same_shape_of_block : (blocks others : Blocks) (number : ℕ) → shape_of_block (file_block others number) ≡ shape_of_block (file_block blocks number)
same_shape_of_block blocks others number =
    elim (eqb number 0) as (λ b. shape_of_block (cond b None (Some (take 4096 (others number)))) ≡ shape_of_block (cond b None (Some (take 4096 (blocks number))))) [ true ↦ refl | false ↦ refl ]

same_shape_of_file : (blocks others : Blocks) (u : UsedInode) → shape_of_node (file_node others u) ≡ shape_of_node (file_node blocks u)
same_shape_of_file blocks others u =
    let indexes = range_with_len 0 (size_in_blocks u.inode.size) in
    let at : Blocks → ℕ → Option (List ℕ) = λ b index. file_block b (slice_index u.numbers index) in
    let each : map (λ index. shape_of_block (at others index)) indexes ≡ map (λ index. shape_of_block (at blocks index)) indexes =
    map_same (λ index. shape_of_block (at others index)) (λ index. shape_of_block (at blocks index)) indexes
    (All_range (λ index. shape_of_block (at others index) ≡ shape_of_block (at blocks index)) (size_in_blocks u.inode.size) (λ index within.
    same_shape_of_block blocks others (slice_index u.numbers index))) in
    ap (λ (l : List (Option (List ℕ))). File (record { attributes = attributes_of u.inode; size = u.inode.size; blocks = l; pointers = pointer_names u }))
    (map-map shape_of_block (at others) indexes ∙ each ∙ sym (map-map shape_of_block (at blocks) indexes))

-- what agrees where it is read agrees in metadata
claims_in_metadata : (g : Geometry) (blocks others : Blocks) (i : ℕ) → AgreeOnClaims (read_length g (reading_of g blocks)) (reading_of g blocks) blocks others i
    → AgreeOnClaims (metadata_length g (reading_of g blocks)) (reading_of g blocks) blocks others i
claims_in_metadata g blocks others i agree claim here its =
    let r = reading_of g blocks in
    let b = claim.block in
    same_front (metadata_length g r b) (read_length g r b) (others b) (blocks b) (agree claim here its) (metadata_is_read g r b)

pub agree_in_metadata : (g : Geometry) (blocks others : Blocks) → AgreeWhereRead g blocks others → AgreeButInFileBytes g blocks others
agree_in_metadata g blocks others agree b =
    let r = reading_of g blocks in
    same_front (metadata_length g r b) (read_length g r b) (others b) (blocks b) (agree b) (metadata_is_read g r b)

-- one inode in use, where the blocks that it claims have the same bytes where they are read
module _ (g : Geometry) (blocks others : Blocks) (i : ℕ) (u : UsedInode) (used : used_at (reading_of g blocks) i ≡ Some u) where
  same_text : AgreeOnClaims (metadata_length g (reading_of g blocks)) (reading_of g blocks) blocks others i
      → is_file u.inode.mode ≡ false → is_directory u.inode.mode ≡ false → link_text others u ≡ link_text blocks u
  same_text agree other plain =
      let is : index_length u 0 ≡ u.inode.size - 4096 * 0 = cond-false (is_file u.inode.mode) 4096 _ other ∙ cond-false (is_directory u.inode.mode) _ (u.inode.size - 4096 * 0) plain in
      numbered_part_same g blocks others i agree u 0 0 u.inode.size used other (omega (arith, is))

  same_file_blocks : AgreeOnClaims (read_length g (reading_of g blocks)) (reading_of g blocks) blocks others i → is_file u.inode.mode ≡ true → file_blocks others u ≡ file_blocks blocks u
  same_file_blocks agree file =
      let r = reading_of g blocks in
      let at : Blocks → ℕ → Option (List ℕ) = λ b index. file_block b (slice_index u.numbers index) in
      map_same (at others) (at blocks) (range_with_len 0 (size_in_blocks u.inode.size))
      (All_range (λ index. at others index ≡ at blocks index) (size_in_blocks u.inode.size) (λ index within.
      let number = slice_index u.numbers index in
      elim (cases_Bool (eqb number 0)) [
        | inl none ↦ cond-true (eqb number 0) None (Some (take 4096 (others number))) none ∙ sym (cond-true (eqb number 0) None (Some (take 4096 (blocks number))) none)
        | inr some ↦
            let is : index_length u index ≡ 4096 = cond-true (is_file u.inode.mode) 4096 _ file in
            let whole : 4096 ≤ read_length g r number = omega (arith, is, index_read g r i u index used some) in
            ap (λ (bytes : List ℕ). cond (eqb number 0) None (Some bytes))
            (same_front 4096 (read_length g r number) (others number) (blocks number)
            (agree (index_claim i u index) (index_claimed r i u index used some) refl) whole)
      ]))

  pub same_node : AgreeOnClaims (read_length g (reading_of g blocks)) (reading_of g blocks) blocks others i → node_of others u ≡ node_of blocks u
  same_node agree =
      same_of_node (λ node. node) blocks others u
      (λ file. ap (λ (l : List (Option (List ℕ))). File (record { attributes = attributes_of u.inode; size = u.inode.size; blocks = l; pointers = pointer_names u }))
      (same_file_blocks agree file)) (same_text (claims_in_metadata g blocks others i agree))

  pub same_shape_of_used : AgreeOnClaims (metadata_length g (reading_of g blocks)) (reading_of g blocks) blocks others i
      → shape_of_node (node_of others u) ≡ shape_of_node (node_of blocks u)
  same_shape_of_used agree = same_of_node shape_of_node blocks others u (λ file. same_shape_of_file blocks others u) (same_text agree)

module _ (g : Geometry) (blocks others : Blocks) (ok : IsGeometry g) where
  pub same_tree_of : AgreeWhereRead g blocks others → tree_of g others ≡ tree_of g blocks
  unfolding tree_of
  same_tree_of agree =
      let r = reading_of g blocks in
      let node : (i : ℕ) → tree_of_reading others r i ≡ tree_of_reading blocks r i =
      same_of_used (option_map (node_of others)) (option_map (node_of blocks)) r refl (λ i u used.
      ap (λ (n : Node). Some n) (same_node g blocks others i u used (λ claim here its. agree claim.block))) in
      let nodes : tree_of_reading others r ≡ tree_of_reading blocks r = λ t i. node i t in
      ap (tree_of_reading others) (reading_same g blocks others ok (agree_in_metadata g blocks others agree)) ∙ nodes

  pub same_shape_of : AgreeButInFileBytes g blocks others → shape_of (tree_of g others) ≡ shape_of (tree_of g blocks)
  unfolding tree_of shape_of
  same_shape_of agree =
      let shaped : Blocks → Option UsedInode → Option Node = λ b o. option_map shape_of_node (option_map (node_of b) o) in
      let r = reading_of g blocks in
      let node : (i : ℕ) → shaped others (used_at r i) ≡ shaped blocks (used_at r i) =
      same_of_used (shaped others) (shaped blocks) r refl (λ i u used.
      ap (λ (n : Node). Some n) (same_shape_of_used g blocks others i u used (λ claim here its. agree claim.block))) in
      let nodes : shape_of (tree_of_reading others r) ≡ shape_of (tree_of_reading blocks r) = λ t i. node i t in
      ap (λ (q : Reading). shape_of (tree_of_reading others q)) (reading_same g blocks others ok agree) ∙ nodes

  pub sound_too : (hands : List Hand) → AgreeButInFileBytes g blocks others → Sound g blocks hands → Sound g others hands
  sound_too hands agree sound =
      let same = reading_same g blocks others ok agree in
      record {
        rules = ap (λ (r : Reading). finding_of g r hands) same ∙ sound.rules;
        apart = subst (λ (r : Reading). AreApart g r hands) (sym same) sound.apart;
      }

pub same_tree : (g : Geometry) (blocks others : Blocks) (tree : Tree) (hands : List Hand) → IsGeometry g → AgreeWhereRead g blocks others
    → StandsFor g blocks tree hands → StandsFor g others tree hands
same_tree g blocks others tree hands ok agree stands = record {
  sound = sound_too g blocks others ok hands (agree_in_metadata g blocks others agree) stands.sound;
  stands = same_tree_of g blocks others ok agree ∙ stands.stands;
}

pub same_shape : (g : Geometry) (blocks others : Blocks) (tree : Tree) (hands : List Hand) → IsGeometry g → AgreeButInFileBytes g blocks others
    → StandsFor g blocks tree hands → StandsFor g others (tree_of g others) hands × (shape_of (tree_of g others) ≡ shape_of tree)
same_shape g blocks others tree hands ok agree stands = (
  record { sound = sound_too g blocks others ok hands agree stands.sound; stands = refl },
  same_shape_of g blocks others ok agree ∙ ap shape_of stands.stands,
)
