-- What the record of an inode in use says, by its node.
use Rattle.std.proofs.Common.{◌≡◌, ◌<◌, ◌≤◌, inl, inr, ℕ, ◌+◌, ◌/◌, ◌%◌, eqb, leb, Bool, true, false, not, cond, List, [], ◌∷◌, length, map, take, slice_index, Option, Some, None, refl, sym, ap, ◌∙◌, subst, arith}
use Rattle.std.specs.Prelude.{◌==◌, nat_lt, nat_le, ◌&&◌, ◌||◌, if◌then◌else◌, IsSomeAnd, is_some}
use Rattle.std.specs.List.{list_all}
use Rattle.std.specs.Option.{option_map, option_map_or, unwrap_or}
use Rattle.std.proofs.lemmas.Bool.{and_parts, or_cases, cond_both, cond-false, eqb-true, leb-true, ltb-true, not-false, not-true, false≢true}
use Rattle.std.proofs.lemmas.List.{get_or-take, length-map, length-take-le}
use Rattle.std.proofs.lemmas.List.Sums.{AllPass-from_list_all}
use Rattle.lufs_base.specs.Fields.{are_zeros}
use Rattle.lufs_base.specs.Layout.{blocks_of, region_of}
use Rattle.lufs_base.specs.declared.geometry.Geometry.{Geometry}
use Rattle.volume_model.specs.declared.inode.Dinode.{Dinode}
use Rattle.volume_model.specs.declared.directory.Slot.{Slot}
use Rattle.volume_model.specs.declared.hand.Hand.{Hand}
use Rattle.volume_model.specs.Format.{Blocks, IsWhole, inodes_of, is_body, is_body_region, is_file, is_directory, is_link, is_mode, named_dinode, is_dinode, dinode_of}
use Rattle.volume_model.specs.Sound.{UsedInode, reading_of, used_at, inodes_in, claims_in, index_claim, block_numbered, size_in_blocks, has_no_hole, Names, names_in_reading, names_in_tree, links_to, IsStored, HasRightLinks, Node, Directory, Link, DirectoryNode, LinkNode, claimed_by, attributes_of, node_of, tree_of}
use Rattle.volume_laws.specs.Nodes.{attributes_of_node, mode_of_node, size_of_node}
use Rattle.volume_laws.proofs.ClaimFacts.{length-inodes, used_within, index_claimed}
use Rattle.volume_laws.proofs.LaidClaims.{body_of_claim}
use Rattle.volume_laws.proofs.StoredClaims.{right_numbers, stored_is_laid}
use Rattle.volume_laws.proofs.FieldFacts.{HasRightFields, fields_of_numbers, count_of_numbers}
use Rattle.volume_laws.proofs.NodeClaims.{second_of, sized, directory_size, link_size, claims_of_node}
use Rattle.volume_laws.proofs.TreeClaims.{direct_size}
use Rattle.volume_laws.proofs.SameReading.{chunks_counted}
use Rattle.volume_laws.proofs.SoundParts.{names_same}
use Rattle.volume_laws.proofs.BodyChanges.{has_record}
use Rattle.volume_laws.proofs.NodeFacts.{as_file, as_directory, as_link, node_is, directory_by_node, other_by_node}

-- the mode of a record in use has a type
mode_tested : (zeros named : Bool) (n d : Dinode) → ◌≡◌ {A = Option (Option Dinode)} (if zeros then Some None else (if named then Some (Some n) else None)) (Some (Some d))
    → (named ≡ true) × (n ≡ d)
mode_tested true named n d is = absurd (cc)
mode_tested false true n d is = (refl, cc)
mode_tested false false n d is = absurd (cc)

mode_is : (version : ℕ) (bytes : List ℕ) (d : Dinode) → dinode_of version bytes ≡ Some (Some d) → is_mode d.mode ≡ true
unfolding dinode_of
mode_is version bytes d is =
    let read = mode_tested (are_zeros bytes) (is_dinode version bytes) (named_dinode bytes) d is in
    ap (λ (e : Dinode). is_mode e.mode) (sym read.1) ∙ (and_parts _ _ (and_parts _ _ (and_parts _ _ read.0).0).0).0

pub mode_in_use : (g : Geometry) (blocks : Blocks) (i : ℕ) (u : UsedInode) → used_at (reading_of g blocks) i ≡ Some u → is_mode u.inode.mode ≡ true
mode_in_use g blocks i u used =
    let has = has_record g blocks i u used in
    ap (λ (v : UsedInode). is_mode v.inode.mode) (sym has.leads) ∙ mode_is g.version _ has.dinode has.there

type_and_rights : (type mode : ℕ) → type % 512 ≡ 0 → (leb type mode && leb mode (type + 0x1ff)) ≡ true → mode ≡ type + mode % 512
type_and_rights type mode step test =
    let parts = and_parts (leb type mode) (leb mode (type + 0x1ff)) test in
    omega (arith, step, leb-true type mode parts.0, leb-true mode (type + 0x1ff) parts.1)

mode_by_node : (blocks : Blocks) (u : UsedInode) → is_mode u.inode.mode ≡ true → u.inode.mode ≡ mode_of_node (node_of blocks u)
mode_by_node blocks u mode =
    let m = u.inode.mode in
    let is : Node → Type 0 = λ node. m ≡ mode_of_node node in
    cond_both (is_file m) (as_file blocks u) (cond (is_directory m) (as_directory u) (as_link blocks u)) is (λ file. type_and_rights 0x8000 m refl file) (λ no_file.
    cond_both (is_directory m) (as_directory u) (as_link blocks u) is (λ directory. type_and_rights 0x4000 m refl directory) (λ plain.
    elim (or_cases (is_file m || is_directory m) (is_link m) mode) [
      | inl either ↦ absurd (false≢true (sym plain ∙ second_of (is_file m) (is_directory m) either no_file))
      | inr link ↦ type_and_rights 0xa000 m refl link
    ]))

attributes_by_node : (blocks : Blocks) (u : UsedInode) → attributes_of u.inode ≡ attributes_of_node (node_of blocks u)
attributes_by_node blocks u =
    let m = u.inode.mode in
    elim (is_file m) as (λ t. attributes_of u.inode ≡ attributes_of_node (cond t (as_file blocks u) (cond (is_directory m) (as_directory u) (as_link blocks u)))) [
      | true ↦ refl
      | false ↦ elim (is_directory m) as (λ t. attributes_of u.inode ≡ attributes_of_node (cond t (as_directory u) (as_link blocks u))) [ true ↦ refl | false ↦ refl ]
    ]

-- the text of a link fills so many bytes of its block
text_counted : (g : Geometry) (blocks : Blocks) (i : ℕ) (u : UsedInode) → IsWhole g blocks → HasRightFields g i u → is_file u.inode.mode ≡ false
    → is_directory u.inode.mode ≡ false → (eqb (slice_index u.numbers 0) 0 ≡ false → is_body g (slice_index u.numbers 0) ≡ true)
    → u.inode.size ≡ length (take u.inode.size (block_numbered blocks (slice_index u.numbers 0)))
text_counted g blocks i u whole right no_file plain its_body =
    let number = slice_index u.numbers 0 in
    let size = u.inode.size in
    let few : size ≤ 1024 = elim (sized g u.inode right.size no_file) [
      | inl chunks ↦ absurd (false≢true (sym plain ∙ (and_parts _ _ (and_parts _ _ (and_parts _ _ chunks).0).0).0))
      | inr link ↦ leb-true size 1024 (and_parts (is_link u.inode.mode && nat_le 1 size) (nat_le size 1024) link).1
    ] in
    let one : size_in_blocks size ≡ 1 = link_size g u.inode right.size no_file plain in
    let parts = and_parts _ _ (second_of (is_file u.inode.mode) (has_no_hole u) right.no_hole no_file) in
    let fits : size_in_blocks size ≤ length u.numbers = leb-true (size_in_blocks size) (length u.numbers) parts.0 in
    let inside : 0 < length (take (size_in_blocks size) u.numbers) = omega (arith, length-take-le (size_in_blocks size) u.numbers fits, one) in
    let some : not (number == 0) ≡ true =
    ap (λ (n : ℕ). not (n == 0)) (sym (get_or-take (size_in_blocks size) u.numbers 0 0 (omega (arith, one))))
    ∙ AllPass-from_list_all (λ n. not (n == 0)) (take (size_in_blocks size) u.numbers) parts.1 0 0 inside in
    let none : eqb number 0 ≡ false = not-true (eqb number 0) some in
    let body : is_body g number ≡ true = its_body none in
    let below : number < blocks_of g = ltb-true number (blocks_of g) (and_parts (nat_lt number (blocks_of g)) (is_body_region (region_of g number)) body).0 in
    let long : length (block_numbered blocks number) ≡ 4096 = ap length (cond-false (eqb number 0) [] (blocks number) none) ∙ whole.size number below in
    sym (length-take-le size (block_numbered blocks number) (omega (arith, long, few)))

size_by_node : (g : Geometry) (blocks : Blocks) (i : ℕ) (u : UsedInode) → IsWhole g blocks → HasRightFields g i u
    → (eqb (slice_index u.numbers 0) 0 ≡ false → is_body g (slice_index u.numbers 0) ≡ true)
    → (is_directory u.inode.mode ≡ true → length u.chunks ≡ u.inode.size / 512) → u.inode.size ≡ size_of_node (node_of blocks u)
size_by_node g blocks i u whole right its_body counted =
    let m = u.inode.mode in
    let is : Node → Type 0 = λ node. u.inode.size ≡ size_of_node node in
    cond_both (is_file m) (as_file blocks u) (cond (is_directory m) (as_directory u) (as_link blocks u)) is (λ file. refl) (λ no_file.
    cond_both (is_directory m) (as_directory u) (as_link blocks u) is
    (λ directory. omega (arith, directory_size g u.inode right.size no_file directory, counted directory, length-map u.chunks (λ chunk. unwrap_or chunk [])))
    (λ plain. text_counted g blocks i u whole right no_file plain its_body))

node_in_option : (blocks : Blocks) (o : Option UsedInode) (node : Node) → option_map (node_of blocks) o ≡ Some node → IsSomeAnd o (λ u. node_of blocks u ≡ node)
node_in_option blocks None node is = absurd (cc)
node_in_option blocks (Some u) node is = cc

none_in_option : (blocks : Blocks) (o : Option UsedInode) → option_map (node_of blocks) o ≡ None → o ≡ None
none_in_option blocks None is = refl
none_in_option blocks (Some u) is = absurd (cc)

module _ (g : Geometry) (blocks : Blocks) (i : ℕ) where
  pub used_where_node : (node : Node) → tree_of g blocks i ≡ Some node → IsSomeAnd (used_at (reading_of g blocks) i) (λ u. node_of blocks u ≡ node)
  unfolding tree_of
  used_where_node node stands = node_in_option blocks (used_at (reading_of g blocks) i) node stands

  pub unused_where_none : tree_of g blocks i ≡ None → used_at (reading_of g blocks) i ≡ None
  unfolding tree_of
  unused_where_none stands = none_in_option blocks (used_at (reading_of g blocks) i) stands

module _ (g : Geometry) (blocks : Blocks) (i : ℕ) (u : UsedInode) (node : Node) where
  pub mode_of_its_node : used_at (reading_of g blocks) i ≡ Some u → tree_of g blocks i ≡ Some node → u.inode.mode ≡ mode_of_node node
  mode_of_its_node used stands = mode_by_node blocks u (mode_in_use g blocks i u used) ∙ ap mode_of_node (node_is g blocks i u node used stands)

  pub attributes_of_its_node : used_at (reading_of g blocks) i ≡ Some u → tree_of g blocks i ≡ Some node → attributes_of u.inode ≡ attributes_of_node node
  attributes_of_its_node used stands = attributes_by_node blocks u ∙ ap attributes_of_node (node_is g blocks i u node used stands)

  pub size_of_its_node : (hands : List Hand) → IsWhole g blocks → IsStored g (reading_of g blocks) hands
      → used_at (reading_of g blocks) i ≡ Some u → tree_of g blocks i ≡ Some node → u.inode.size ≡ size_of_node node
  size_of_its_node hands whole stored used stands =
      let r = reading_of g blocks in
      let right = fields_of_numbers g i u (right_numbers g r i u hands stored used) in
      let has = has_record g blocks i u used in
      let counted : is_directory u.inode.mode ≡ true → length u.chunks ≡ u.inode.size / 512 =
      subst (λ (v : UsedInode). is_directory v.inode.mode ≡ true → length v.chunks ≡ v.inode.size / 512) has.leads (chunks_counted blocks has.dinode) in
      let body : eqb (slice_index u.numbers 0) 0 ≡ false → is_body g (slice_index u.numbers 0) ≡ true = λ some.
      body_of_claim g r (stored_is_laid g r hands stored) (index_claim i u 0) (index_claimed r i u 0 used some) in
      size_by_node g blocks i u whole right body counted ∙ ap size_of_node (node_is g blocks i u node used stands)

  pub blocks_of_its_node : (hands : List Hand) → IsStored g (reading_of g blocks) hands
      → used_at (reading_of g blocks) i ≡ Some u → tree_of g blocks i ≡ Some node → u.inode.blocks ≡ claimed_by node
  blocks_of_its_node hands stored used stands =
      let test = right_numbers g (reading_of g blocks) i u hands stored used in
      let has = has_record g blocks i u used in
      let claims : HasRightFields g i u → length (claims_in i u) ≡ claimed_by (node_of blocks u) =
      subst (λ (v : UsedInode). HasRightFields g i v → length (claims_in i v) ≡ claimed_by (node_of blocks v)) has.leads
      (λ right. claims_of_node blocks has.dinode i right (direct_size g.version _ has.dinode has.there)) in
      count_of_numbers g i u test ∙ claims (fields_of_numbers g i u test) ∙ ap claimed_by (node_is g blocks i u node used stands)

pub links_of_inode : (g : Geometry) (blocks : Blocks) (i : ℕ) (u : UsedInode) → HasRightLinks (reading_of g blocks) → used_at (reading_of g blocks) i ≡ Some u
    → u.inode.links ≡ links_to (inodes_of g) (names_in_tree (tree_of g blocks)) i
unfolding tree_of
links_of_inode g blocks i u right used =
    let r = reading_of g blocks in
    let n = links_to (inodes_in r) (names_in_reading r) i in
    let test : not (u.inode.links == n) ≡ false =
    subst (λ (o : Option UsedInode). option_map_or (λ u. not (u.inode.links == n)) o false ≡ false) used (right.counted i (used_within r i u used)) in
    eqb-true u.inode.links n (not-false (u.inode.links == n) test)
    ∙ ap (λ (k : ℕ). links_to k (names_in_reading r) i) (length-inodes g blocks)
    ∙ ap (λ (m : Names). links_to (inodes_of g) m i) (sym (names_same blocks r))

pub link_by_node : (g : Geometry) (blocks : Blocks) (i : ℕ) (u : UsedInode) (link : LinkNode) → used_at (reading_of g blocks) i ≡ Some u
    → tree_of g blocks i ≡ Some (Link link) → is_link u.inode.mode ≡ true
link_by_node g blocks i u link used stands =
    let m = u.inode.mode in
    let types = other_by_node g blocks i u link used stands in
    elim (or_cases (is_file m || is_directory m) (is_link m) (mode_in_use g blocks i u used)) [
      | inl either ↦ absurd (false≢true (sym types.1 ∙ second_of (is_file m) (is_directory m) either types.0))
      | inr is ↦ is
    ]

-- chunks that all could be read
all_read : (chunks : List (Option (List Slot))) → list_all is_some chunks ≡ true → chunks ≡ map (λ slots. Some slots) (map (λ chunk. unwrap_or chunk []) chunks)
all_read [] test = refl
all_read (None ∷ chunks) test = absurd (false≢true (and_parts false (list_all is_some chunks) test).0)
all_read (Some slots ∷ chunks) test =
    ap (λ (l : List (Option (List Slot))). Some slots ∷ l) (all_read chunks (and_parts true (list_all is_some chunks) test).1)

pub chunks_of_its_node : (g : Geometry) (blocks : Blocks) (i : ℕ) (u : UsedInode) (directory : DirectoryNode) (hands : List Hand) → IsStored g (reading_of g blocks) hands
    → used_at (reading_of g blocks) i ≡ Some u → tree_of g blocks i ≡ Some (Directory directory) → u.chunks ≡ map (λ slots. Some slots) directory.chunks
chunks_of_its_node g blocks i u directory hands stored used stands =
    let r = reading_of g blocks in
    let test : not (list_all is_some u.chunks) ≡ false =
    subst (λ (o : Option UsedInode). option_map_or (λ u. not (list_all is_some u.chunks)) o false ≡ false) used (stored.chunks i (used_within r i u used)) in
    all_read u.chunks (not-false (list_all is_some u.chunks) test)
    ∙ ap (λ (d : DirectoryNode). map (λ slots. Some slots) d.chunks) (sym (directory_by_node g blocks i u directory used stands).1)
