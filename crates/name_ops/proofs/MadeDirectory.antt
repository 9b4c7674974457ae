-- The draft of a `mkdir` has the tree after it.
use Rattle.std.proofs.Common.{◌≡◌, ◌≢◌, ◌<◌, ◌≤◌, inl, inr, ℕ, zero, suc, ◌+◌, ◌*◌, ◌%◌, ◌^◌, ◌==◌, Bool, true, not, ◌||◌, cond, List, [], ◌∷◌, length, replicate, slice_index, Option, Some, None, IfSome, refl, sym, ap, ◌∙◌, subst, arith}
use Rattle.std.specs.Prelude.{nat_le}
use Rattle.std.specs.List.{count_by}
use Rattle.std.specs.Option.{option_map}
use Rattle.std.proofs.lemmas.Bool.{cases_eq, and_from, or_left, or_right, le-leb, leb-false, cond-true, cond-false, eq-eqb, ne_eqb}
use Rattle.std.proofs.lemmas.List.Sums.{sum_by-cons}
use Rattle.lufs_base.specs.Layout.{IsGeometry, blocks_of}
use Rattle.lufs_base.specs.declared.geometry.Geometry.{Geometry}
use Rattle.volume_model.specs.declared.hand.Hand.{Hand}
use Rattle.volume_model.specs.declared.inode.Dinode.{Dinode}
use Rattle.volume_model.specs.declared.directory.Slot.{Slot}
use Rattle.volume_model.specs.Format.{Image, Blocks, block, sectors_of, is_file, is_directory, is_link, IsDinode, IsChunk, new_directory}
use Rattle.volume_model.specs.Sound.{Node, Directory, Tree, with_node, attributes_of, tree_of}
use Rattle.tree_types.specs.declared.credentials.Cred.{Cred}
use Rattle.tree_types.specs.declared.call.Call.{Call}
use Rattle.tree_types.specs.declared.call.Call.TheVariants.{Mkdir}
use Rattle.history_model.specs.Places.{slots_in_node, links_in}
use Rattle.history_model.specs.Walk.{WalkEnd}
use Rattle.history_model.specs.Ends.{One}
use Rattle.history_model.specs.Edits.{Enter, SetTime, edited, edited_all}
use Rattle.history_model.specs.Effects.{new_subdirectory, making}
use Rattle.history_model.specs.Wants.{blocks_for_name}
use Rattle.history_model.specs.Refusals.{Proceed, decision_at}
use Rattle.history_model.specs.Replies.{tree_after}
use Rattle.history_rules.proofs.CarriedOutLaws.{mkdir_goes}
use Rattle.change_laws.specs.Hands.{times}
use Rattle.change_laws.specs.Plans.{HoldMore}
use Rattle.change_laws.proofs.Counts.{times-cons}
use Rattle.meta_store.specs.declared.change.Change.{Change}
use Rattle.meta_store.specs.Changing.{AllTold}
use Rattle.meta_store.specs.NoChange.{no_change}
use Rattle.meta_draft.specs.Drafted.{drafted_blocks}
use Rattle.draft_laws.specs.Drafts.{Draws, links_at}
use Rattle.draft_laws.proofs.Ends.{draft_begun, nothing_drafted}
use Rattle.draft_laws.proofs.NewSteps.{directory_drawn, once_first}
use Rattle.dir_ops.specs.Edits.{DrawsTree, MayEnter}
use Rattle.plan_ends.specs.Planned.{MayPlan, IsHandFor, IsDrawn}
use Rattle.plan_ends.proofs.TreeTold.{links_told}
use Rattle.name_ops.specs.NewRecords.{directory_record, with_directory}
use Rattle.name_ops.specs.GainedNames.{HasLinkMore}
use Rattle.name_ops.proofs.Created.{zero_in, same_links}
use Rattle.name_ops.proofs.MadeNodes.{stored, spent, apart, may_attach, may_enter, made_drawn}

first_fits : (b k : ℕ) → b < 2 ^ 32 → slice_index (b ∷ replicate 11 0) k < 2 ^ 32
first_fits b zero fits = fits
first_fits b (suc k) fits = omega (arith, zero_in 11 k)

directory_mode : (rights : ℕ) → rights < 512 → is_directory (0x4000 + rights) ≡ true
directory_mode rights below = and_from (nat_le 0x4000 (0x4000 + rights)) (nat_le (0x4000 + rights) 0x41ff) (le-leb 0x4000 (0x4000 + rights) (omega arith)) (le-leb (0x4000 + rights) 0x41ff (omega (arith, below)))

directory_dinode : (version : ℕ) (cred : Cred) (rights moment b : ℕ) → rights < 512 → cred.uid < 2 ^ 32 → cred.gid < 2 ^ 32 → moment < 2 ^ 64 → b < 2 ^ 32 → IsDinode version (directory_record cred rights moment b)
directory_dinode version cred rights moment b below uid gid time fits = record {
  mode = or_left (is_file (0x4000 + rights) || is_directory (0x4000 + rights)) (is_link (0x4000 + rights)) (or_right (is_file (0x4000 + rights)) (is_directory (0x4000 + rights)) (directory_mode rights below));
  links_fits = omega arith;
  uid_fits = uid;
  gid_fits = gid;
  size_fits = omega arith;
  mtime_fits = time;
  direct_size = refl;
  direct_fits = λ i. first_fits b i fits;
  indirect_size = refl;
  indirect_fits = λ i. omega (arith, zero_in 3 i);
  blocks_fits = omega arith;
  indirect_in_version = or_right (not (version == 1)) true refl;
}

-- a new directory names itself and its parent, once each
abbrev one_if : Bool → ℕ
one_if b = cond b 1 0

named_once : (cred : Cred) (rights moment i parent k : ℕ) → count_by (λ s. s.ino == k) (slots_in_node (new_subdirectory cred rights moment i parent)) ≡ one_if (i == k) + one_if (parent == k)
named_once cred rights moment i parent k =
    let own : Slot = record { ino = i; len = 12; name = 46 ∷ [] } in
    let above : Slot = record { ino = parent; len = 500; name = 46 ∷ 46 ∷ [] } in
    let by : Slot → ℕ = λ s. one_if (s.ino == k) in
    let first : count_by (λ s. s.ino == k) (own ∷ (above ∷ [])) ≡ one_if (i == k) + count_by (λ s. s.ino == k) (above ∷ []) = sum_by-cons by own (above ∷ []) in
    let second : count_by (λ s. s.ino == k) (above ∷ []) ≡ one_if (parent == k) + 0 = sum_by-cons by above [] in
    omega (arith, first, second)

-- the links of the parent have room for one more
has_room : (o : Option ℕ) (n : ℕ) → n < 32767 → IfSome o (λ links. links ≡ n) → IfSome o (λ links. links + 1 < 65536)
has_room None n few is = tt
has_room (Some links) n few is = omega (arith, few, is)

module _ (told : AllTold) (image : Image) (tree : Tree) (cred : Cred) (path : List ℕ) (mode moment : ℕ) (p : WalkEnd) (held after : List Hand) (hand : Hand)
    (ok : IsGeometry told.read.geometry) (room : 8 * blocks_of told.read.geometry ≤ sectors_of image)
    (may : MayPlan told image tree cred (Mkdir path mode) (One p) held hand after)
    (go : decision_at told.read.geometry tree cred (Mkdir path mode) (One p) ≡ Proceed) where
  abbrev g : Geometry
  g = told.read.geometry

  abbrev taken : ℕ → Bool
  taken = told.changing.is_taken

  abbrev call : Call
  call = Mkdir path mode

  fits : IsHandFor (record { inode = true; fresh = []; others = 1 + blocks_for_name tree p.dir p.name }) hand
  fits = may.wanted go

  -- the hand has a block
  pub some_block : length hand.blocks ≢ 0
  some_block none = let many : length hand.blocks ≡ 0 + (1 + blocks_for_name tree p.dir p.name) = fits.blocks in omega (arith, many, none)

  module _ (i : ℕ) (has : hand.inode ≡ Some i) (b : ℕ) (rest : List ℕ) (all : hand.blocks ≡ b ∷ rest)
      (below : mode < 512) (uid : cred.uid < 2 ^ 32) (gid : cred.gid < 2 ^ 32) (time : moment < 2 ^ 64) (fits_block : b < 2 ^ 32) (chunk : IsChunk (new_directory i p.dir)) where
    abbrev pub mid : List Hand
    mid = record { inode = None; blocks = rest } ∷ after

    all_spent : HoldMore held after (i ∷ []) (b ∷ rest)
    all_spent = subst (λ (l : List ℕ). HoldMore held after (i ∷ []) l) all (spent told image tree cred call p held after hand may i has)

    first : HoldMore held mid (i ∷ []) (b ∷ [])
    first = let more = all_spent in record { inodes = more.inodes; blocks = more.blocks }

    second : HoldMore mid after [] rest
    second = record { inodes = λ n. refl; blocks = λ n. refl }

    in_hand : (c : ℕ) → 1 ≤ times c (b ∷ rest) → 1 ≤ times c hand.blocks
    in_hand c some = subst (λ (l : List ℕ). 1 ≤ times c l) (sym all) some

    abbrev d : Dinode
    d = directory_record cred mode moment b

    abbrev node : Node
    node = new_subdirectory cred mode moment i p.dir

    abbrev one : Change
    one = with_directory g i p.dir b d no_change

    pub drawn_directory : Draws g image taken no_change one i (Some (Directory (record { attributes = attributes_of d; chunks = new_directory i p.dir ∷ [] }))) (Some 2) mid
    drawn_directory =
        directory_drawn g image taken no_change held mid i b d (draft_begun g image taken held ok room (stored told image tree cred call p held after hand may)) first
        (may_attach told image tree cred call p held after hand may no_change refl b (in_hand b (once_first b rest)))
        (directory_dinode g.version cred mode moment b below uid gid time fits_block) (record { direct = refl; indirect = refl; blocks = refl })
        (new_directory i p.dir) chunk (directory_mode mode below) refl

    its_tree : tree_of g (drafted_blocks one image) ≡ with_node tree i (Some node)
    its_tree =
        let rights : (0x4000 + mode) % 512 ≡ mode = omega (arith, below) in
        drawn_directory.tree
        ∙ ap (λ (t : Tree). with_node t i (Some (Directory (record { attributes = attributes_of d; chunks = new_directory i p.dir ∷ [] })))) (ap (tree_of g) (nothing_drafted image) ∙ may.stands.stands)
        ∙ ap (λ (r : ℕ). with_node tree i (Some (Directory (record { attributes = record { rights = r; uid = cred.uid; gid = cred.gid; mtime = moment }; chunks = new_directory i p.dir ∷ [] })))) rights

    pub directory_may_enter : MayEnter g image taken one p.dir p.name rest mid after
    directory_may_enter =
        may_enter told image tree cred call p held after hand may i has node one its_tree refl rest mid (λ c some. in_hand c (omega (arith, times-cons c b rest, some))) second
        (mkdir_goes g tree cred path mode p go).1.1.1.0
        (let many : length hand.blocks ≡ 0 + (1 + blocks_for_name tree p.dir p.name) = fits.blocks in
        let same : length hand.blocks ≡ length rest + 1 = ap length all ∙ (let next : length (b ∷ rest) ≡ length rest + 1 = omega arith in next) in
        omega (arith, many, same))

    -- after the name and the time, and the link of the parent
    module _ (two three : Change) (entered : DrawsTree g image taken one two p.dir (edited (Enter p.dir p.name i)) after)
        (timed : DrawsTree g image taken two three p.dir (edited (SetTime p.dir moment)) after) where
      links_as_drawn : (k : ℕ) → links_at g (drafted_blocks three image) k ≡ links_at g (drafted_blocks one image) k
      links_as_drawn k = timed.links k ∙ entered.links k

      links_as_before : (k : ℕ) → k ≢ i → links_at g (drafted_blocks three image) k ≡ links_at g (block image) k
      links_as_before k other =
          links_as_drawn k ∙ ap (option_map (λ u. u.inode.links)) (drawn_directory.others k other) ∙ ap (λ (x : Blocks). links_at g x k) (nothing_drafted image)

      away : p.dir ≢ i
      away = apart told image tree cred call p held after hand may i has

      pub room_for_link : IfSome (links_at g (drafted_blocks three image) p.dir) (λ links. links + 1 < 65536)
      room_for_link =
          let few : links_in g tree p.dir < 32767 = leb-false 32767 (links_in g tree p.dir) (mkdir_goes g tree cred path mode p go).1.1.0 in
          subst (λ (o : Option ℕ). IfSome o (λ links. links + 1 < 65536)) (sym (links_as_before p.dir away))
          (has_room (links_at g (block image) p.dir) (links_in g tree p.dir) few (links_told g (block image) tree held may.stands p.dir))

      module _ (four : Change) (linked : HasLinkMore g image taken three four p.dir after) where
        final_tree : tree_of g (drafted_blocks four image) ≡ edited_all (making p i moment node) tree
        unfolding edited
        final_tree = linked.tree ∙ timed.tree ∙ ap (edited (SetTime p.dir moment)) (entered.tree ∙ ap (edited (Enter p.dir p.name i)) its_tree)

        other_kept : (k : ℕ) → k ≢ p.dir → links_at g (drafted_blocks four image) k ≡ links_at g (drafted_blocks three image) k
        other_kept k other = ap (option_map (λ u. u.inode.links)) (linked.others k other)

        abbrev named : ℕ → ℕ
        named k = count_by (λ s. s.ino == k) (slots_in_node node)

        yes : (k : ℕ) → one_if (k == k) ≡ 1
        yes k = cond-true (k == k) 1 0 (eq-eqb k k refl)

        no : (k j : ℕ) → k ≢ j → one_if (k == j) ≡ 0
        no k j differ = cond-false (k == j) 1 0 (ne_eqb k j differ)

        own_links : links_at g (drafted_blocks four image) i ≡ Some (named i + 1)
        own_links =
            let two_is : ℕ = 2 in
            let sum : two_is ≡ named i + 1 = omega (arith, named_once cred mode moment i p.dir i, yes i, no p.dir i away) in
            other_kept i (λ same. away (sym same)) ∙ links_as_drawn i ∙ drawn_directory.own_links ∙ ap (λ (n : ℕ). Some n) sum

        other_links : (k : ℕ) → k ≢ i → links_at g (drafted_blocks four image) k ≡ option_map (λ links. links + named k) (links_at g (block image) k)
        other_links k other = elim (cases_eq k p.dir) [
          | inl same ↦
              let count : named k ≡ 1 = omega (arith, named_once cred mode moment i p.dir k, no i k (λ e. other (sym e)), ap (λ (n : ℕ). one_if (p.dir == n)) same, yes p.dir) in
              ap (links_at g (drafted_blocks four image)) same ∙ linked.own_links ∙ ap (option_map (λ links. links + 1)) (links_as_before p.dir away)
              ∙ ap (λ (n : ℕ). option_map (λ links. links + 1) (links_at g (block image) n)) (sym same)
              ∙ ap (λ (n : ℕ). option_map (λ links. links + n) (links_at g (block image) k)) (sym count)
          | inr differ ↦
              let count : named k ≡ 0 = omega (arith, named_once cred mode moment i p.dir k, no i k (λ e. other (sym e)), no p.dir k (λ e. differ (sym e))) in
              other_kept k differ ∙ links_as_before k other ∙ sym (same_links (links_at g (block image) k))
              ∙ ap (λ (n : ℕ). option_map (λ links. links + n) (links_at g (block image) k)) (sym count)
        ]

        pub made : IsDrawn g image taken four (tree_after g tree cred i moment call) after
        made = made_drawn told image tree cred call p held after hand may i has node moment four own_links other_links linked.draft final_tree go refl
