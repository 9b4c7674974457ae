-- A tree and its shape have the same names, rights, sizes, links and blocks, so each call is decided alike on both.
use Rattle.std.proofs.Common.{◌≡◌, ℕ, zero, suc, ◌+◌, ◌-◌, Bool, true, false, not, ◌&&◌, ◌||◌, cond, List, [], ◌∷◌, ◌++◌, length, map, take, replicate, Option, Some, None, Result, Ok, Err, refl, sym, ap, ◌∙◌, arith, max, option_map, sum_by}
use Rattle.std.specs.Prelude.{◌==◌, nat_lt, nat_le, if◌then◌else◌, find, is_some, option_and_then}
use Rattle.std.specs.List.{flat_map, count_by, filter, range_with_len, list_any}
use Rattle.std.specs.Option.{option_map_or}
use Rattle.std.proofs.lemmas.List.Sums.{sum_by-cons}
use Rattle.lufs_base.specs.declared.geometry.Geometry.{Geometry}
use Rattle.tree_types.specs.declared.credentials.Cred.{Cred}
use Rattle.tree_types.specs.declared.call.Call.{Call}
use Rattle.tree_types.specs.declared.call.Call.TheVariants as call
use Rattle.tree_types.specs.declared.reply.Refusal.{Refusal}
use Rattle.tree_types.specs.declared.reply.Refusal.TheVariants.{Notdir, Denied, Exist, Isdir, Notempty, Inval, Mlink, Fbig, Noinodes, Nospace, Nametoolong, Loop}
use Rattle.tree_types.specs.declared.reply.StatInfo.{StatInfo}
use Rattle.tree_types.specs.declared.reply.Reply.{Reply}
use Rattle.tree_types.specs.declared.reply.Reply.TheVariants as reply
use Rattle.volume_model.specs.declared.directory.Slot.{Slot}
use Rattle.volume_model.specs.Format.{inodes_of, body_blocks_of, room_in}
use Rattle.volume_model.specs.Sound.{size_in_blocks, Attributes, FileNode, Node, File, Directory, Link, Tree, directory_blocks, claimed_by, claimed_at, free_blocks_of, shape_of_block, shape_of_node, shape_of, dot_dot, free_inodes_of}
use Rattle.history_model.specs.Places.{attributes_in, is_directory_node, is_link_node, file_of, chunks_of_node, is_directory_in, is_link_in, file_in, chunks_in, slots_in_node, directory_slots, has_name, lookup, is_dots, entries_in, links_in, permits_on, may}
use Rattle.history_model.specs.Walk.{WalkEnd, first_of, is_empty, step_on, step_of, refused_part, end_at, or_refused, after_step, walk_parts, walk_within, most_followed, root, parts_of, walk_of}
use Rattle.history_model.specs.Ends.{WalkEnds, One, Two, is_long, and_then, unless_long, end_of, both_ends_of, ends_of}
use Rattle.history_model.specs.FileBytes.{greatest_size, bytes_read, reaches, at_length, missing_from, missing_indexes, misses_pointers}
use Rattle.history_model.specs.Wants.{Wanted, nothing, blocks_in, has_no_room, blocks_for_name, create_wants, mkdir_wants, link_wants, symlink_wants, rename_wants, write_wants, file_found, wants_at, lacks}
use Rattle.history_model.specs.Refusals.{Decision, Refuse, Unchanged, Proceed, Rows, most_links, most_chunks, has_most_links, cannot_grow, has_no_inode, is_empty_in, is_superuser, owns, found_is, is_below, on_found, on_file, rename_refusals, refusals_at, decision_at}
use Rattle.history_model.specs.Names.{names_after, listing_of, is_before, in_order}
use Rattle.history_model.specs.Replies.{type_bits, size_of, text_in, info_of, stat_reply, read_reply, list_reply, readlink_reply, reply_on, reply_at, decided_reply, walked_reply, reply_of, refusal_of, tells_bytes, decided, walked_wants, wanted_of}

-- what is told of a node's shape is told of the node
through : {X : Type 0} (f h : Node → X) (d : X) → ((n : Node) → f (shape_of_node n) ≡ h n) → (o : Option Node) → option_map_or f (option_map shape_of_node o) d ≡ option_map_or h o d
through f h d same None = refl
through f h d same (Some n) = same n

same_attributes : (n : Node) → attributes_in (shape_of_node n) ≡ attributes_in n
same_attributes (File file) = refl
same_attributes (Directory directory) = refl
same_attributes (Link link) = refl

same_directory : (n : Node) → is_directory_node (shape_of_node n) ≡ is_directory_node n
same_directory (File file) = refl
same_directory (Directory directory) = refl
same_directory (Link link) = refl

same_link : (n : Node) → is_link_node (shape_of_node n) ≡ is_link_node n
same_link (File file) = refl
same_link (Directory directory) = refl
same_link (Link link) = refl

same_chunks : (n : Node) → chunks_of_node (shape_of_node n) ≡ chunks_of_node n
same_chunks (File file) = refl
same_chunks (Directory directory) = refl
same_chunks (Link link) = refl

same_text : (n : Node) → text_in (shape_of_node n) ≡ text_in n
same_text (File file) = refl
same_text (Directory directory) = refl
same_text (Link link) = refl

same_bits : (n : Node) → type_bits (shape_of_node n) ≡ type_bits n
same_bits (File file) = refl
same_bits (Directory directory) = refl
same_bits (Link link) = refl

same_size : (n : Node) → size_of (shape_of_node n) ≡ size_of n
same_size (File file) = refl
same_size (Directory directory) = refl
same_size (Link link) = refl

same_block : (block : Option (List ℕ)) → is_some (shape_of_block block) ≡ is_some block
same_block None = refl
same_block (Some bytes) = refl

abbrev one_if_there : Option (List ℕ) → ℕ
one_if_there block = cond (is_some block) 1 0

same_count : (blocks : List (Option (List ℕ))) → count_by is_some (map shape_of_block blocks) ≡ count_by is_some blocks
same_count [] = refl
same_count (block ∷ blocks) =
    let here : one_if_there (shape_of_block block) ≡ one_if_there block = ap (λ (b : Bool). cond b 1 0) (same_block block) in
    omega (arith, sum_by-cons one_if_there (shape_of_block block) (map shape_of_block blocks), sum_by-cons one_if_there block blocks, same_count blocks, here)

same_claimed : (n : Node) → claimed_by (shape_of_node n) ≡ claimed_by n
same_claimed (File file) = λ t. same_count file.blocks t + length file.pointers
same_claimed (Directory directory) = refl
same_claimed (Link link) = refl

-- the file without its bytes
abbrev shape_of_file : FileNode → FileNode
shape_of_file file = record file { blocks = map shape_of_block file.blocks }

same_file : (n : Node) → file_of (shape_of_node n) ≡ option_map shape_of_file (file_of n)
same_file (File file) = refl
same_file (Directory directory) = refl
same_file (Link link) = refl

same_there : (o : Option Node) → is_some (option_map shape_of_node o) ≡ is_some o
same_there None = refl
same_there (Some n) = refl

holes_alike : (n m : ℕ) → take n (replicate m None) ≡ map shape_of_block (take n (replicate m None))
holes_alike zero m = refl
holes_alike (suc n) zero = refl
holes_alike (suc n) (suc m) = λ t. None ∷ holes_alike n m t

padded_alike : (blocks : List (Option (List ℕ))) (n m : ℕ) → take n (map shape_of_block blocks ++ replicate m None) ≡ map shape_of_block (take n (blocks ++ replicate m None))
padded_alike [] n m = holes_alike n m
padded_alike (block ∷ blocks) zero m = refl
padded_alike (block ∷ blocks) (suc n) m = λ t. shape_of_block block ∷ padded_alike blocks n m t

missing_alike : (offset count index : ℕ) (blocks : List (Option (List ℕ))) → missing_from offset count index (map shape_of_block blocks) ≡ missing_from offset count index blocks
missing_alike offset count index [] = refl
missing_alike offset count index (block ∷ blocks) =
    let more = missing_alike offset count (index + 1) blocks in
    λ t. cond (reaches offset count index && not (same_block block t)) (index ∷ more t) (more t)

same_missing : (file : FileNode) (offset count : ℕ) → missing_indexes (shape_of_file file) offset count ≡ missing_indexes file offset count
same_missing file offset count =
    let n = size_in_blocks (max file.size (offset + count)) in
    (λ t. missing_from offset count 0 (padded_alike file.blocks n n t)) ∙ missing_alike offset count 0 (at_length n file.blocks)

same_write_wants : (file : FileNode) (offset count : ℕ) → write_wants (shape_of_file file) offset count ≡ write_wants file offset count
same_write_wants file offset count = λ t. record {
  inode = false;
  fresh = same_missing file offset count t;
  others = if misses_pointers file offset count then 1 else 0;
}

file_through : {X : Type 0} (f h : FileNode → X) (d : X) → ((file : FileNode) → f (shape_of_file file) ≡ h file) → (o : Option FileNode)
    → option_map_or f (option_map shape_of_file o) d ≡ option_map_or h o d
file_through f h d same None = refl
file_through f h d same (Some file) = same file

step_on_shape : (last follow : Bool) (i : ℕ) (o : Option Node) → step_on last follow i (option_map shape_of_node o) ≡ step_on last follow i o
step_on_shape last follow i None = refl
step_on_shape last follow i (Some (File file)) = refl
step_on_shape last follow i (Some (Directory directory)) = refl
step_on_shape last follow i (Some (Link link)) = refl

-- `is_below` by what the directory has above it
abbrev below_by : (i other : ℕ) → (above : Option ℕ) → (more : ℕ → Bool) → Bool
below_by i other above more =
    elim (i == other) [
      | true ↦ true
      | false ↦ elim (i == root) [ true ↦ false | false ↦ elim above [ None ↦ false | Some parent ↦ more parent ] ]
    ]

module _ (tree : Tree) where
  at_directory : (i : ℕ) → is_directory_in (shape_of tree) i ≡ is_directory_in tree i
  unfolding shape_of
  at_directory i = through is_directory_node is_directory_node false same_directory (tree i)

  at_link : (i : ℕ) → is_link_in (shape_of tree) i ≡ is_link_in tree i
  unfolding shape_of
  at_link i = through is_link_node is_link_node false same_link (tree i)

  at_chunks : (i : ℕ) → chunks_in (shape_of tree) i ≡ chunks_in tree i
  unfolding shape_of
  at_chunks i = through chunks_of_node chunks_of_node [] same_chunks (tree i)

  at_slots : (i : ℕ) → directory_slots (shape_of tree) i ≡ directory_slots tree i
  unfolding shape_of
  at_slots i = through slots_in_node slots_in_node [] (λ n. λ t. flat_map (λ chunk. chunk) (same_chunks n t)) (tree i)

  at_claimed : (i : ℕ) → claimed_at (shape_of tree) i ≡ claimed_at tree i
  unfolding shape_of
  at_claimed i = through claimed_by claimed_by 0 same_claimed (tree i)

  at_there : (i : ℕ) → is_some (shape_of tree i) ≡ is_some (tree i)
  unfolding shape_of
  at_there i = same_there (tree i)

  at_file : {X : Type 0} (f h : FileNode → X) (d : X) → ((file : FileNode) → f (shape_of_file file) ≡ h file) → (i : ℕ) → option_map_or f (file_in (shape_of tree) i) d ≡ option_map_or h (file_in tree i) d
  unfolding shape_of
  at_file f h d same i = by_node (tree i) where
    by_node : (o : Option Node) → option_map_or f (option_map_or file_of (option_map shape_of_node o) None) d ≡ option_map_or h (option_map_or file_of o None) d
    by_node None = refl
    by_node (Some n) = (λ t. option_map_or f (same_file n t) d) ∙ file_through f h d same (file_of n)

  at_step : (last follow : Bool) (found : Option ℕ) → step_of (shape_of tree) last follow found ≡ step_of tree last follow found
  unfolding shape_of
  at_step last follow None = refl
  at_step last follow (Some i) = step_on_shape last follow i (tree i)

  at_lookup : (dir : ℕ) (name : List ℕ) → lookup (shape_of tree) dir name ≡ lookup tree dir name
  at_lookup dir name = λ t. option_map (λ (s : Slot). s.ino) (find (has_name name) (at_slots dir t))

  at_entries : (i : ℕ) → entries_in (shape_of tree) i ≡ entries_in tree i
  at_entries i = λ t. filter (λ (s : Slot). not (s.ino == 0) && not (is_dots s.name)) (at_slots i t)

  at_names : (i : ℕ) (after : Option (List ℕ)) → names_after (shape_of tree) i after ≡ names_after tree i after
  at_names i after = λ t. in_order (filter (λ name. option_map_or (λ a. is_before a name) after true) (map (λ (s : Slot). s.name) (at_entries i t)))

  at_no_room : (dir : ℕ) (name : List ℕ) → has_no_room (shape_of tree) dir name ≡ has_no_room tree dir name
  at_no_room dir name = λ t. not (list_any (λ chunk. is_some (room_in chunk name)) (at_chunks dir t))

  at_blocks : (dir : ℕ) (name : List ℕ) → blocks_for_name (shape_of tree) dir name ≡ blocks_for_name tree dir name
  at_blocks dir name = λ t. let chunks = length (at_chunks dir t) in if at_no_room dir name t then directory_blocks (chunks + 1) - directory_blocks chunks else 0

  at_grow : (dir : ℕ) (name : List ℕ) → cannot_grow (shape_of tree) dir name ≡ cannot_grow tree dir name
  at_grow dir name = λ t. nat_le most_chunks (length (at_chunks dir t)) && at_no_room dir name t

  at_empty : (i : ℕ) → is_empty_in (shape_of tree) i ≡ is_empty_in tree i
  at_empty i = λ t. length (at_entries i t) == 0

  at_below : (steps i other : ℕ) → is_below steps (shape_of tree) i other ≡ is_below steps tree i other
  at_below zero i other = refl
  at_below (suc steps) i other =
      let more = at_below steps in
      λ t. below_by i other (at_lookup i dot_dot t) (λ parent. more parent other t)

  module _ (cred : Cred) where
    at_may : (i bit : ℕ) → may (shape_of tree) cred i bit ≡ may tree cred i bit
    unfolding shape_of
    at_may i bit = through (permits_on cred bit) (permits_on cred bit) false (λ n. by_cases n) (tree i) where
      by_cases : (n : Node) → permits_on cred bit (shape_of_node n) ≡ permits_on cred bit n
      by_cases (File file) = refl
      by_cases (Directory directory) = refl
      by_cases (Link link) = refl

    at_owns : (i : ℕ) → owns (shape_of tree) cred i ≡ owns tree cred i
    unfolding shape_of
    at_owns i = by_node (tree i) where
      by_node : (o : Option Node) → option_map_or (λ node. let a = attributes_in node in cred.uid == a.uid) (option_map shape_of_node o) false ≡ option_map_or (λ node. let a = attributes_in node in cred.uid == a.uid) o false
      by_node None = refl
      by_node (Some (File file)) = refl
      by_node (Some (Directory directory)) = refl
      by_node (Some (Link link)) = refl

    at_refused : (dir : ℕ) (part : List ℕ) → refused_part (shape_of tree) cred dir part ≡ refused_part tree cred dir part
    at_refused dir part = λ t. first_of ((not (at_directory dir t), Some Notdir) ∷ ((not (at_may dir 1 t), Some Denied) ∷ ((nat_lt 255 (length part), Some Nametoolong) ∷ []))) None

    at_end : (dir : ℕ) (name : List ℕ) → end_at (shape_of tree) dir name ≡ end_at tree dir name
    at_end dir name = λ t. record { dir = dir; name = name; found = at_lookup dir name t }

    module _ (follow : Bool) where
      at_parts : (again other : ℕ → List (List ℕ) → Result WalkEnd Refusal) → ((i : ℕ) (parts : List (List ℕ)) → again i parts ≡ other i parts) → (parts : List (List ℕ)) (dir : ℕ)
          → walk_parts again (shape_of tree) cred follow dir parts ≡ walk_parts other tree cred follow dir parts
      at_parts again other same [] dir = refl
      at_parts again other same (part ∷ rest) dir =
          let more = at_parts again other same rest in
          λ t. or_refused (at_refused dir part t)
          (after_step rest (λ i parts. same i parts t) (λ i. more i t) (at_end dir part t) (at_step (is_empty rest) follow (at_lookup dir part t) t))

      at_within : (links dir : ℕ) (parts : List (List ℕ)) → walk_within links (shape_of tree) cred follow dir parts ≡ walk_within links tree cred follow dir parts
      at_within zero dir parts = at_parts (λ i more. Err Loop) (λ i more. Err Loop) (λ i more. refl) parts dir
      at_within (suc links) dir parts = at_parts (walk_within links (shape_of tree) cred follow) (walk_within links tree cred follow) (at_within links) parts dir

      at_walk : (path : List ℕ) → walk_of (shape_of tree) cred path follow ≡ walk_of tree cred path follow
      unfolding walk_of
      at_walk path = at_within most_followed root (parts_of path)

    at_one : (follow : Bool) (path : List ℕ) → end_of (shape_of tree) cred follow path ≡ end_of tree cred follow path
    at_one follow path = λ t. unless_long (is_long path) (and_then (at_walk follow path t) (λ p. Ok (One p)))

    at_two : (old new : List ℕ) → both_ends_of (shape_of tree) cred old new ≡ both_ends_of tree cred old new
    at_two old new = λ t. unless_long (is_long old || is_long new) (and_then (at_walk false old t) (λ p. and_then (at_walk false new t) (λ q. Ok (Two p q))))

    at_ends : (c : Call) → ends_of (shape_of tree) cred c ≡ ends_of tree cred c
    unfolding ends_of
    at_ends (call.Create path mode) = at_one false path
    at_ends (call.Mkdir path mode) = at_one false path
    at_ends (call.Link old new) = at_two old new
    at_ends (call.Symlink text path) = λ t. unless_long (is_long text) (at_one false path t)
    at_ends (call.Rename old new) = at_two old new
    at_ends (call.Remove path) = at_one false path
    at_ends (call.Rmdir path) = at_one false path
    at_ends (call.Chmod path mode) = at_one true path
    at_ends (call.Chown path uid gid) = at_one true path
    at_ends (call.Write path offset bytes) = at_one true path
    at_ends (call.Trunc path size) = at_one true path
    at_ends (call.Fsync path) = at_one true path
    at_ends (call.Read path offset count) = at_one true path
    at_ends (call.Stat path) = at_one true path
    at_ends (call.Lstat path) = at_one false path
    at_ends (call.List path after) = at_one true path
    at_ends (call.Readlink path) = at_one false path
    at_ends call.Df = refl
    at_ends (call.Become uid gid) = refl

    module _ (g : Geometry) where
      at_links : (i : ℕ) → links_in g (shape_of tree) i ≡ links_in g tree i
      unfolding links_in
      at_links i = λ t. sum_by (λ j. count_by (λ (s : Slot). s.ino == i) (at_slots j t)) (range_with_len 0 (inodes_of g))

      at_most_links : (i : ℕ) → has_most_links g (shape_of tree) i ≡ has_most_links g tree i
      at_most_links i = λ t. nat_le most_links (at_links i t)

      at_free : free_blocks_of g (shape_of tree) ≡ free_blocks_of g tree
      unfolding free_blocks_of
      at_free = λ t. body_blocks_of g - sum_by (λ i. at_claimed i t) (range_with_len 0 (inodes_of g))

      at_free_inodes : free_inodes_of g (shape_of tree) ≡ free_inodes_of g tree
      unfolding free_inodes_of
      at_free_inodes = λ t. inodes_of g - 2 - count_by (λ i. at_there i t) (range_with_len 0 (inodes_of g))

      at_no_inode : has_no_inode g (shape_of tree) ≡ has_no_inode g tree
      at_no_inode = λ t. at_free_inodes t == 0

      at_lacks : (wanted others : Wanted) → wanted ≡ others → lacks g (shape_of tree) wanted ≡ lacks g tree others
      at_lacks wanted others same = λ t. nat_lt (at_free t) (blocks_in (same t))

      at_create : (p : WalkEnd) → create_wants (shape_of tree) p ≡ create_wants tree p
      at_create p = λ t. record { inode = true; fresh = []; others = at_blocks p.dir p.name t }

      at_mkdir : (p : WalkEnd) → mkdir_wants (shape_of tree) p ≡ mkdir_wants tree p
      at_mkdir p = λ t. record { inode = true; fresh = []; others = 1 + at_blocks p.dir p.name t }

      at_new_name : (p : WalkEnd) → link_wants (shape_of tree) p ≡ link_wants tree p
      at_new_name p = λ t. record { inode = false; fresh = []; others = at_blocks p.dir p.name t }

      at_symlink : (p : WalkEnd) → symlink_wants (shape_of tree) p ≡ symlink_wants tree p
      at_symlink p = λ t. record { inode = true; fresh = []; others = 1 + at_blocks p.dir p.name t }

      at_rename : (p : WalkEnd) → rename_wants (shape_of tree) p ≡ rename_wants tree p
      at_rename p = λ t. if is_some p.found then nothing else at_new_name p t

      at_write : (p : WalkEnd) (offset count : ℕ)
          → option_map_or (λ file. write_wants file offset count) (file_found (shape_of tree) p) nothing ≡ option_map_or (λ file. write_wants file offset count) (file_found tree p) nothing
      at_write p offset count = by_found p.found where
        by_found : (found : Option ℕ)
            → option_map_or (λ file. write_wants file offset count) (option_and_then (file_in (shape_of tree)) found) nothing
            ≡ option_map_or (λ file. write_wants file offset count) (option_and_then (file_in tree) found) nothing
        by_found None = refl
        by_found (Some i) = at_file (λ file. write_wants file offset count) (λ file. write_wants file offset count) nothing (λ file. same_write_wants file offset count) i

      -- rows below what was found
      found_rows : (found : Option ℕ) (rows others : ℕ → Rows) → ((i : ℕ) → rows i ≡ others i) → on_found found rows ≡ on_found found others
      found_rows None rows others same = refl
      found_rows (Some i) rows others same = same i

      file_rows : (right i : ℕ) (rows others : FileNode → Rows) → ((file : FileNode) → rows (shape_of_file file) ≡ others file) → on_file (shape_of tree) cred right i rows ≡ on_file tree cred right i others
      file_rows right i rows others same = λ t.
          (not (at_may i right t), Refuse Denied)
          ∷ ((at_directory i t, Refuse Isdir)
          ∷ at_file rows others [] same i t)

      rename_rows : (old new : WalkEnd) (i : ℕ) → (λ (j : ℕ). rename_refusals g (shape_of tree) cred (record old { found = Some j }) new) i ≡ rename_refusals g tree cred (record old { found = Some i }) new
      rename_rows old new i = λ t.
          let moves_directory = at_directory i t in
          let onto_directory = found_is (λ n. at_directory n t) new.found in
          let has_dots = is_dots old.name || is_dots new.name in
          (moves_directory && (is_some new.found && not onto_directory), Refuse Notdir)
          ∷ ((not (at_may old.dir 2 t) || not (at_may new.dir 2 t), Refuse Denied)
          ∷ ((found_is (λ n. n == i) new.found && not has_dots, Unchanged)
          ∷ ((onto_directory && not moves_directory, Refuse Isdir)
          ∷ ((found_is (λ n. at_directory n t && not (at_empty n t)) new.found, Refuse Notempty)
          ∷ ((has_dots || at_below (inodes_of g) new.dir i t, Refuse Inval)
          ∷ ((moves_directory && (not (is_some new.found) && (not (new.dir == old.dir) && at_most_links new.dir t)), Refuse Mlink)
          ∷ ((not (is_some new.found) && at_grow new.dir new.name t, Refuse Fbig)
          ∷ ((at_lacks (rename_wants (shape_of tree) new) (rename_wants tree new) (at_rename new) t, Refuse Nospace) ∷ []))))))))

      at_rows : (c : Call) (ends : WalkEnds) → refusals_at g (shape_of tree) cred c ends ≡ refusals_at g tree cred c ends
      at_rows (call.Create path mode) (One p) = λ t.
          (not (at_may p.dir 2 t), Refuse Denied)
          ∷ ((is_some p.found, Refuse Exist)
          ∷ ((at_grow p.dir p.name t, Refuse Fbig)
          ∷ ((at_no_inode t, Refuse Noinodes)
          ∷ ((at_lacks (create_wants (shape_of tree) p) (create_wants tree p) (at_create p) t, Refuse Nospace) ∷ []))))
      at_rows (call.Mkdir path mode) (One p) = λ t.
          (not (at_may p.dir 2 t), Refuse Denied)
          ∷ ((is_some p.found, Refuse Exist)
          ∷ ((at_most_links p.dir t, Refuse Mlink)
          ∷ ((at_grow p.dir p.name t, Refuse Fbig)
          ∷ ((at_no_inode t, Refuse Noinodes)
          ∷ ((at_lacks (mkdir_wants (shape_of tree) p) (mkdir_wants tree p) (at_mkdir p) t, Refuse Nospace) ∷ [])))))
      at_rows (call.Link old new) (Two p q) = λ t. on_found p.found (λ i.
          (not (at_may q.dir 2 t), Refuse Denied)
          ∷ ((is_some q.found, Refuse Exist)
          ∷ ((at_directory i t, Refuse Isdir)
          ∷ ((at_most_links i t, Refuse Mlink)
          ∷ ((at_grow q.dir q.name t, Refuse Fbig)
          ∷ ((at_lacks (link_wants (shape_of tree) q) (link_wants tree q) (at_new_name q) t, Refuse Nospace) ∷ []))))))
      at_rows (call.Symlink text path) (One p) = λ t.
          (not (at_may p.dir 2 t), Refuse Denied)
          ∷ ((is_some p.found, Refuse Exist)
          ∷ ((at_grow p.dir p.name t, Refuse Fbig)
          ∷ ((at_no_inode t, Refuse Noinodes)
          ∷ ((at_lacks (symlink_wants (shape_of tree) p) (symlink_wants tree p) (at_symlink p) t, Refuse Nospace) ∷ []))))
      at_rows (call.Rename old new) (Two p q) = λ t. on_found p.found (λ i. rename_rows p q i t)
      at_rows (call.Remove path) (One p) = λ t. on_found p.found (λ i. (not (at_may p.dir 2 t), Refuse Denied) ∷ ((at_directory i t, Refuse Isdir) ∷ []))
      at_rows (call.Rmdir path) (One p) = λ t. on_found p.found (λ i.
          (not (at_directory i t), Refuse Notdir)
          ∷ ((not (at_may p.dir 2 t), Refuse Denied)
          ∷ ((not (at_empty i t), Refuse Notempty)
          ∷ ((is_dots p.name, Refuse Inval) ∷ []))))
      at_rows (call.Chmod path mode) (One p) = λ t. on_found p.found (λ i. (not (is_superuser cred || at_owns i t), Refuse Denied) ∷ [])
      at_rows (call.Write path offset bytes) (One p) = λ t. on_found p.found (λ i.
          file_rows 2 i
          (λ file. (nat_lt greatest_size (offset + length bytes), Refuse Fbig) ∷ ((lacks g (shape_of tree) (write_wants file offset (length bytes)), Refuse Nospace) ∷ []))
          (λ file. (nat_lt greatest_size (offset + length bytes), Refuse Fbig) ∷ ((lacks g tree (write_wants file offset (length bytes)), Refuse Nospace) ∷ []))
          (λ file. λ u. (nat_lt greatest_size (offset + length bytes), Refuse Fbig)
          ∷ ((at_lacks (write_wants (shape_of_file file) offset (length bytes)) (write_wants file offset (length bytes)) (same_write_wants file offset (length bytes)) u, Refuse Nospace) ∷ [])) t)
      at_rows (call.Trunc path size) (One p) = λ t. on_found p.found (λ i.
          file_rows 2 i (λ file. (nat_lt greatest_size size, Refuse Fbig) ∷ []) (λ file. (nat_lt greatest_size size, Refuse Fbig) ∷ []) (λ file. refl) t)
      at_rows (call.Read path offset count) (One p) = λ t. on_found p.found (λ i. file_rows 4 i (λ file. []) (λ file. []) (λ file. refl) t)
      at_rows (call.List path after) (One p) = λ t. on_found p.found (λ i. (not (at_directory i t), Refuse Notdir) ∷ ((not (at_may i 4 t), Refuse Denied) ∷ []))
      at_rows (call.Readlink path) (One p) = λ t. on_found p.found (λ i. (not (at_link i t), Refuse Inval) ∷ [])
      at_rows c ends = refl

      at_decision : (c : Call) (ends : WalkEnds) → decision_at g (shape_of tree) cred c ends ≡ decision_at g tree cred c ends
      unfolding decision_at
      at_decision c ends = λ t. first_of (at_rows c ends t) Proceed

      at_wants : (c : Call) (ends : WalkEnds) → wants_at (shape_of tree) c ends ≡ wants_at tree c ends
      at_wants (call.Create path mode) (One p) = at_create p
      at_wants (call.Mkdir path mode) (One p) = at_mkdir p
      at_wants (call.Link old new) (Two p q) = at_new_name q
      at_wants (call.Symlink text path) (One p) = at_symlink p
      at_wants (call.Rename old new) (Two p q) = at_rename q
      at_wants (call.Write path offset bytes) (One p) = at_write p offset (length bytes)
      at_wants c ends = refl

      abbrev info_with : ℕ → ℕ → Attributes → (links size blocks : ℕ) → StatInfo
      info_with i bits a links size blocks = record { ino = i; mode = bits + a.rights; links = links; uid = a.uid; gid = a.gid; size = size; mtime = a.mtime; blocks = blocks }

      at_stat : (i : ℕ) → stat_reply g (shape_of tree) i ≡ stat_reply g tree i
      unfolding shape_of
      at_stat i =
          through (λ node. reply.Stat (info_of g (shape_of tree) i node)) (λ node. reply.Stat (info_of g tree i node)) reply.Done
          (λ n. λ t. reply.Stat (info_with i (same_bits n t) (same_attributes n t) (at_links i t) (same_size n t) (same_claimed n t)))
          (tree i)

      at_text : (i : ℕ) → readlink_reply (shape_of tree) i ≡ readlink_reply tree i
      unfolding shape_of
      at_text i = through (λ node. reply.Text (text_in node)) (λ node. reply.Text (text_in node)) reply.Done (λ n. λ t. reply.Text (same_text n t)) (tree i)

      at_list : (i : ℕ) (after : Option (List ℕ)) → list_reply (shape_of tree) i after ≡ list_reply tree i after
      at_list i after = λ t. let listing = listing_of (at_names i after t) in reply.Names listing.names listing.more

      at_reply : (c : Call) (ends : WalkEnds) → tells_bytes c ≡ false → reply_at g (shape_of tree) c ends ≡ reply_at g tree c ends
      at_reply (call.Read path offset count) ends other = absurd (let e : true ≡ false = other in cc)
      at_reply (call.Stat path) (One p) other = λ t. reply_on p.found (λ i. at_stat i t)
      at_reply (call.Lstat path) (One p) other = λ t. reply_on p.found (λ i. at_stat i t)
      at_reply (call.List path after) (One p) other = λ t. reply_on p.found (λ i. at_list i after t)
      at_reply (call.Readlink path) (One p) other = λ t. reply_on p.found (λ i. at_text i t)
      at_reply call.Df ends other = λ t. reply.Df (at_free t) (at_free_inodes t)
      at_reply c ends other = refl

      walked_replies : (c : Call) → tells_bytes c ≡ false → (ends : Result WalkEnds Refusal) → walked_reply g (shape_of tree) cred c ends ≡ walked_reply g tree cred c ends
      walked_replies c other (Err why) = refl
      walked_replies c other (Ok ends) = λ t. decided_reply (at_decision c ends t) (at_reply c ends other t)

      pub shape_reply : (c : Call) → tells_bytes c ≡ false → reply_of g (shape_of tree) cred c ≡ reply_of g tree cred c
      unfolding reply_of
      shape_reply c other = ap (walked_reply g (shape_of tree) cred c) (at_ends c) ∙ walked_replies c other (ends_of tree cred c)

      -- no reply that isn't decided to be one refuses
      none_on : {X : Type 0} (f : X → Reply) (o : Option X) → ((x : X) → refusal_of (f x) ≡ None) → refusal_of (option_map_or f o reply.Done) ≡ None
      none_on f None none = refl
      none_on f (Some x) none = none x

      read_tells : (some : Tree) (path : List ℕ) (offset count : ℕ) (ends : WalkEnds) → refusal_of (reply_at g some (call.Read path offset count) ends) ≡ None
      read_tells some path offset count (One p) =
          none_on (λ i. read_reply some i offset count) p.found (λ i. none_on (λ file. reply.Read (bytes_read file offset count)) (file_in some i) (λ file. refl))
      read_tells some path offset count ends = refl

      decided_alike : (decision : Decision) (told other : Reply) → refusal_of told ≡ refusal_of other → refusal_of (decided_reply decision told) ≡ refusal_of (decided_reply decision other)
      decided_alike (Refuse why) told other same = refl
      decided_alike Unchanged told other same = refl
      decided_alike Proceed told other same = same

      walked_refusals : (c : Call) → ((ends : WalkEnds) → refusal_of (reply_at g (shape_of tree) c ends) ≡ refusal_of (reply_at g tree c ends))
          → (ends : Result WalkEnds Refusal) → refusal_of (walked_reply g (shape_of tree) cred c ends) ≡ refusal_of (walked_reply g tree cred c ends)
      walked_refusals c same (Err why) = refl
      walked_refusals c same (Ok ends) =
          (λ t. refusal_of (decided_reply (at_decision c ends t) (reply_at g (shape_of tree) c ends)))
          ∙ decided_alike (decision_at g tree cred c ends) (reply_at g (shape_of tree) c ends) (reply_at g tree c ends) (same ends)

      by_kind : (c : Call) (ends : WalkEnds) → refusal_of (reply_at g (shape_of tree) c ends) ≡ refusal_of (reply_at g tree c ends)
      by_kind (call.Read path offset count) ends = read_tells (shape_of tree) path offset count ends ∙ sym (read_tells tree path offset count ends)
      by_kind c ends = λ t. refusal_of (at_reply c ends refl t)

      pub shape_refusal : (c : Call) → refusal_of (reply_of g (shape_of tree) cred c) ≡ refusal_of (reply_of g tree cred c)
      unfolding reply_of
      shape_refusal c = ap (λ (ends : Result WalkEnds Refusal). refusal_of (walked_reply g (shape_of tree) cred c ends)) (at_ends c) ∙ walked_refusals c (by_kind c) (ends_of tree cred c)

      walked_alike : (c : Call) (ends : Result WalkEnds Refusal) → walked_wants g (shape_of tree) cred c ends ≡ walked_wants g tree cred c ends
      walked_alike c (Err why) = refl
      walked_alike c (Ok ends) = λ t. decided (at_decision c ends t) nothing (at_wants c ends t)

      pub shape_wanted : (c : Call) → wanted_of g (shape_of tree) cred c ≡ wanted_of g tree cred c
      unfolding wanted_of
      shape_wanted c = ap (walked_wants g (shape_of tree) cred c) (at_ends c) ∙ walked_alike c (ends_of tree cred c)
