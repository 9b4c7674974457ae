-- What sound means, in its three parts, and what a reading and its tree both say of names.
use Rattle.std.proofs.Common.{◌≡◌, ◌<◌, ◌↔◌, ℕ, inl, inr, Bool, true, false, not, ◌&&◌, cond, List, [], ◌∷◌, ◌++◌, map, Option, Some, None, refl, sym, ap, ◌∙◌, subst, arith}
use Rattle.std.specs.Prelude.{option_map, unwrap_or, slice_index_or, Contains}
use Rattle.std.specs.List.{flat_map}
use Rattle.std.specs.Option.{option_map_or}
use Rattle.std.proofs.lemmas.Bool.{cases_Bool, and_parts, and_from, or_parts, or_from, cond-true, cond-false, not-false, not_from_true}
use Rattle.lufs_base.specs.Layout.{blocks_of}
use Rattle.lufs_base.specs.declared.geometry.Geometry.{Geometry}
use Rattle.volume_model.specs.declared.directory.Slot.{Slot}
use Rattle.volume_model.specs.declared.finding.Kind.{Kind}
use Rattle.volume_model.specs.declared.finding.Kind.TheVariants.{Group, Inode, Fields, Root, Twice, Chunk, Name, Parent, Links, InodeBit, BlockBit, Count}
use Rattle.volume_model.specs.declared.hand.Hand.{Hand}
use Rattle.volume_model.specs.Format.{Blocks, is_file, is_directory}
use Rattle.volume_model.specs.Sound.{UsedInode, Reading, reading_of, inodes_in, used_at, numbers_of_kind, is_broken, Sound, Names, slots_of, names_in_reading, is_directory_in, has_bad_slots, has_bad_bytes, has_right_links, has_right_numbers, Node, File, Directory, Link, slots_of_node, names_in_tree, file_blocks, pointer_names, link_text, attributes_of, node_of, tree_of_reading, tree_of, IsStored, MakeATree, IsRightTree, HasRightLinks}
use Rattle.volume_laws.proofs.Members.{Contains_range, Contains_head, in_range}
use Rattle.volume_laws.proofs.SoundRules.{rule_kept, no_rule_broken}
use Rattle.volume_laws.proofs.ClaimFacts.{length-inodes}
use Rattle.volume_laws.proofs.SameReading.{not_file}

joined_chunks : (chunks : List (Option (List Slot))) → flat_map (λ chunk. chunk) (map (λ chunk. unwrap_or chunk []) chunks) ≡ flat_map (λ chunk. unwrap_or chunk []) chunks
joined_chunks [] = refl
joined_chunks (chunk ∷ chunks) = ap (λ (l : List Slot). unwrap_or chunk [] ++ l) (joined_chunks chunks)

-- the slots of a node are those of its inode
slots_same : (blocks : Blocks) (u : UsedInode) → slots_of_node (node_of blocks u) ≡ slots_of u
slots_same blocks u =
    let file = is_file u.inode.mode in
    let directory = is_directory u.inode.mode in
    let slots : List Slot = flat_map (λ chunk. unwrap_or chunk []) u.chunks in
    let of_file : Node = File (record { attributes = attributes_of u.inode; size = u.inode.size; blocks = file_blocks blocks u; pointers = pointer_names u }) in
    let of_directory : Node = Directory (record { attributes = attributes_of u.inode; chunks = map (λ chunk. unwrap_or chunk []) u.chunks }) in
    let of_link : Node = Link (record { attributes = attributes_of u.inode; text = link_text blocks u }) in
    elim (cases_Bool directory) [
      | inl is ↦
          let plain : file ≡ false = not_file u.inode.mode is in
          ap slots_of_node (cond-false file of_file (cond directory of_directory of_link) plain ∙ cond-true directory of_directory of_link is)
          ∙ ap (λ (l : List Slot). Some l) (joined_chunks u.chunks) ∙ sym (cond-true directory (Some slots) None is)
      | inr plain ↦
          let none : slots_of_node (cond file of_file of_link) ≡ None =
          elim file as (λ t. slots_of_node (cond t of_file of_link) ≡ None) [ true ↦ refl | false ↦ refl ] in
          ap (λ (n : Node). slots_of_node (cond file of_file n)) (cond-false directory of_directory of_link plain) ∙ none
          ∙ sym (cond-false directory (Some slots) None plain)
    ]

same_at : (blocks : Blocks) (o : Option UsedInode) → option_map slots_of_node (option_map (node_of blocks) o) ≡ option_map slots_of o
same_at blocks None = refl
same_at blocks (Some u) = ap (λ (s : Option (List Slot)). Some s) (slots_same blocks u)

-- the tree in a reading says of names what the reading says
pub names_same : (blocks : Blocks) (r : Reading) → names_in_tree (tree_of_reading blocks r) ≡ names_in_reading r
names_same blocks r = λ t i. same_at blocks (used_at r i) t

split_test : (a b : UsedInode → Bool) (o : Option UsedInode) → option_map_or (λ u. not (a u && b u)) o false ≡ false
    → (option_map_or (λ u. not (a u)) o false ≡ false) × (option_map_or (λ u. not (b u)) o false ≡ false)
split_test a b None kept = (refl, refl)
split_test a b (Some u) kept =
    let parts = and_parts (a u) (b u) (not-false (a u && b u) kept) in
    (not_from_true (a u) parts.0, not_from_true (b u) parts.1)

join_tests : (a b : UsedInode → Bool) (o : Option UsedInode) → option_map_or (λ u. not (a u)) o false ≡ false → option_map_or (λ u. not (b u)) o false ≡ false
    → option_map_or (λ u. not (a u && b u)) o false ≡ false
join_tests a b None first second = refl
join_tests a b (Some u) first second =
    not_from_true (a u && b u) (and_from (a u) (b u) (not-false (a u) first) (not-false (b u) second))

module _ (g : Geometry) (blocks : Blocks) (hands : List Hand) where
  abbrev r : Reading
  r = reading_of g blocks

  -- names that make a tree in the reading make one in the tree, and the other way round
  same_names : names_in_tree (tree_of g blocks) ≡ names_in_reading r
  unfolding tree_of
  same_names = names_same blocks r

  to_tree : MakeATree (inodes_in r) (names_in_reading r) → IsRightTree g (tree_of g blocks)
  to_tree right =
      subst (λ (n : ℕ). MakeATree n (names_in_tree (tree_of g blocks))) (length-inodes g blocks)
      (subst (λ (m : Names). MakeATree (inodes_in r) m) (sym same_names) right)

  from_tree : IsRightTree g (tree_of g blocks) → MakeATree (inodes_in r) (names_in_reading r)
  from_tree right =
      subst (λ (m : Names). MakeATree (inodes_in r) m) same_names
      (subst (λ (n : ℕ). MakeATree n (names_in_tree (tree_of g blocks))) (sym (length-inodes g blocks)) right)

  fields_split : Sound g blocks hands → (i : ℕ) → i < inodes_in r
      → (option_map_or (λ u. not (has_right_links u.inode)) (used_at r i) false ≡ false) × (option_map_or (λ u. not (has_right_numbers g i u)) (used_at r i) false ≡ false)
  fields_split sound i within =
      split_test (λ u. has_right_links u.inode) (has_right_numbers g i) (used_at r i) (rule_kept sound Fields i (Contains_range (inodes_in r) i within))

  chunks_split : Sound g blocks hands → (i : ℕ) → i < inodes_in r → (has_bad_bytes r i ≡ false) × (has_bad_slots (names_in_reading r) i ≡ false)
  chunks_split sound i within =
      let parts = or_parts (has_bad_bytes r i) (has_bad_slots (names_in_reading r) i) (rule_kept sound Chunk i (Contains_range (inodes_in r) i within)) in
      (parts.0, parts.1)

  stored : Sound g blocks hands → IsStored g r hands
  stored sound = record {
    groups = λ n within. rule_kept sound Group n (Contains_range g.groups n within);
    inodes = λ i within. rule_kept sound Inode i (Contains_range (inodes_in r) i within);
    numbers = λ i within. (fields_split sound i within).1;
    once = λ b within. rule_kept sound Twice b (Contains_range (blocks_of g) b within);
    chunks = λ i within. (chunks_split sound i within).0;
    inode_bits = λ i within. rule_kept sound InodeBit i (Contains_range (inodes_in r) i within);
    block_bits = λ b within. rule_kept sound BlockBit b (Contains_range (blocks_of g) b within);
    counts = λ n within. rule_kept sound Count n (Contains_range g.groups n within);
    apart = sound.apart;
  }

  right_names : Sound g blocks hands → MakeATree (inodes_in r) (names_in_reading r)
  right_names sound = record {
    root = not-false (is_directory_in (names_in_reading r) 2) (rule_kept sound Root 2 (Contains_head 2 []));
    slots = λ i within. (chunks_split sound i within).1;
    used = λ i within. rule_kept sound Name i (Contains_range (inodes_in r) i within);
    parents = λ i within. rule_kept sound Parent i (Contains_range (inodes_in r) i within);
  }

  right_links : Sound g blocks hands → HasRightLinks r
  right_links sound = record {
    range = λ i within. (fields_split sound i within).0;
    counted = λ i within. rule_kept sound Links i (Contains_range (inodes_in r) i within);
  }

  kept : IsStored g r hands → MakeATree (inodes_in r) (names_in_reading r) → HasRightLinks r
      → (kind : Kind) (n : ℕ) → Contains (numbers_of_kind g r kind) n → is_broken g r hands kind n ≡ false
  kept s t l Group n here = s.groups n (in_range g.groups n here)
  kept s t l Inode n here = s.inodes n (in_range (inodes_in r) n here)
  kept s t l Fields n here =
      join_tests (λ u. has_right_links u.inode) (has_right_numbers g n) (used_at r n)
      (l.range n (in_range (inodes_in r) n here)) (s.numbers n (in_range (inodes_in r) n here))
  kept s t l Root n here =
      let first : here.0 ≡ 0 = omega (arith, here.1) in
      let two : 2 ≡ n = ap (λ k. slice_index_or (2 ∷ []) k n) (sym first) ∙ here.2 in
      not_from_true (is_directory_in (names_in_reading r) n) (ap (is_directory_in (names_in_reading r)) (sym two) ∙ t.root)
  kept s t l Twice n here = s.once n (in_range (blocks_of g) n here)
  kept s t l Chunk n here =
      or_from (has_bad_bytes r n) (has_bad_slots (names_in_reading r) n) (s.chunks n (in_range (inodes_in r) n here)) (t.slots n (in_range (inodes_in r) n here))
  kept s t l Name n here = t.used n (in_range (inodes_in r) n here)
  kept s t l Parent n here = t.parents n (in_range (inodes_in r) n here)
  kept s t l Links n here = l.counted n (in_range (inodes_in r) n here)
  kept s t l InodeBit n here = s.inode_bits n (in_range (inodes_in r) n here)
  kept s t l BlockBit n here = s.block_bits n (in_range (blocks_of g) n here)
  kept s t l Count n here = s.counts n (in_range g.groups n here)

  pub in_parts : Sound g blocks hands ↔ (IsStored g r hands × IsRightTree g (tree_of g blocks) × HasRightLinks r)
  in_parts = (
    (λ sound. (stored sound, to_tree (right_names sound), right_links sound)),
    (λ parts. record { rules = (no_rule_broken g r hands).1 (kept parts.0 (from_tree parts.1) parts.2); apart = parts.0.apart }),
  )
