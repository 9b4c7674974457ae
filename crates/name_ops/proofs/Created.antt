-- The draft of a `create` has the tree after it.
use Rattle.std.proofs.Common.{◌≡◌, ◌≢◌, ◌<◌, ◌≤◌, inl, inr, ℕ, ◌+◌, ◌*◌, ◌%◌, ◌^◌, ◌==◌, Bool, true, not, ◌||◌, List, [], ◌∷◌, replicate, slice_index, Option, Some, None, refl, sym, ap, ◌∙◌, arith}
use Rattle.std.specs.Prelude.{nat_le}
use Rattle.std.specs.Option.{option_map}
use Rattle.std.proofs.lemmas.Bool.{cases_lt, and_from, or_left, or_right, le-leb}
use Rattle.std.proofs.lemmas.List.{length-replicate, get_or-replicate, get_or_past}
use Rattle.lufs_base.specs.Layout.{IsGeometry, blocks_of}
use Rattle.lufs_base.specs.declared.geometry.Geometry.{Geometry}
use Rattle.volume_model.specs.declared.hand.Hand.{Hand}
use Rattle.volume_model.specs.declared.inode.Dinode.{Dinode}
use Rattle.volume_model.specs.Format.{Image, Blocks, block, sectors_of, is_file, is_directory, is_link, IsDinode, dinode_bytes}
use Rattle.volume_model.specs.Sound.{Node, File, Tree, with_node, attributes_of, tree_of}
use Rattle.tree_types.specs.declared.credentials.Cred.{Cred}
use Rattle.tree_types.specs.declared.call.Call.TheVariants.{Create}
use Rattle.history_model.specs.Walk.{WalkEnd}
use Rattle.history_model.specs.Ends.{One}
use Rattle.history_model.specs.Edits.{Enter, SetTime, edited, edited_all}
use Rattle.history_model.specs.Effects.{new_file, making}
use Rattle.history_model.specs.Wants.{blocks_for_name}
use Rattle.history_model.specs.Refusals.{Proceed, decision_at}
use Rattle.history_model.specs.Replies.{tree_after}
use Rattle.history_rules.proofs.CarriedOutLaws.{create_goes}
use Rattle.change_laws.specs.Plans.{HoldMore}
use Rattle.meta_store.specs.declared.change.Change.{Change}
use Rattle.meta_store.specs.Changing.{AllTold}
use Rattle.meta_store.specs.NoChange.{no_change}
use Rattle.meta_store.specs.Deltas.{inode_delta}
use Rattle.meta_draft.specs.Drafted.{drafted_blocks, with_delta}
use Rattle.draft_laws.specs.Drafts.{Draws, links_at}
use Rattle.draft_laws.proofs.Ends.{draft_begun, nothing_drafted}
use Rattle.draft_laws.proofs.NewSteps.{file_drawn}
use Rattle.dir_ops.specs.Edits.{DrawsTree, MayEnter}
use Rattle.plan_ends.specs.Planned.{MayPlan, IsHandFor, IsDrawn}
use Rattle.name_ops.specs.NewRecords.{file_record}
use Rattle.name_ops.proofs.MadeNodes.{spent, stored, may_enter, made_drawn}

pub zero_in : (n i : ℕ) → slice_index (replicate n 0) i ≡ 0
zero_in n i = elim (cases_lt i n) [
  | inl below ↦ get_or-replicate n i 0 0 below
  | inr past ↦ get_or_past (replicate n 0) i 0 (omega (arith, past, length-replicate {A = ℕ} n 0))
]

file_mode : (rights : ℕ) → rights < 512 → is_file (0x8000 + rights) ≡ true
file_mode rights below = and_from (nat_le 0x8000 (0x8000 + rights)) (nat_le (0x8000 + rights) 0x81ff) (le-leb 0x8000 (0x8000 + rights) (omega arith)) (le-leb (0x8000 + rights) 0x81ff (omega (arith, below)))

file_dinode : (version : ℕ) (cred : Cred) (rights moment : ℕ) → rights < 512 → cred.uid < 2 ^ 32 → cred.gid < 2 ^ 32 → moment < 2 ^ 64 → IsDinode version (file_record cred rights moment)
file_dinode version cred rights moment below uid gid time = record {
  mode = or_left (is_file (0x8000 + rights) || is_directory (0x8000 + rights)) (is_link (0x8000 + rights)) (or_left (is_file (0x8000 + rights)) (is_directory (0x8000 + rights)) (file_mode rights below));
  links_fits = omega arith;
  uid_fits = uid;
  gid_fits = gid;
  size_fits = omega arith;
  mtime_fits = time;
  direct_size = refl;
  direct_fits = λ i. omega (arith, zero_in 12 i);
  indirect_size = refl;
  indirect_fits = λ i. omega (arith, zero_in 3 i);
  blocks_fits = omega arith;
  indirect_in_version = or_right (not (version == 1)) true refl;
}

none_more : (n : ℕ) → 0 + n ≡ n
none_more n = omega arith

-- no names are no more links
pub same_links : (o : Option ℕ) → option_map (λ links. links + 0) o ≡ o
same_links None = refl
same_links (Some n) = ap (λ (k : ℕ). Some k) (let same : n + 0 ≡ n = omega arith in same)

module _ (told : AllTold) (image : Image) (tree : Tree) (cred : Cred) (path : List ℕ) (mode moment : ℕ) (p : WalkEnd) (held after : List Hand) (hand : Hand)
    (ok : IsGeometry told.read.geometry) (room : 8 * blocks_of told.read.geometry ≤ sectors_of image)
    (may : MayPlan told image tree cred (Create path mode) (One p) held hand after)
    (go : decision_at told.read.geometry tree cred (Create path mode) (One p) ≡ Proceed) (i : ℕ) (has : hand.inode ≡ Some i)
    (below : mode < 512) (uid : cred.uid < 2 ^ 32) (gid : cred.gid < 2 ^ 32) (time : moment < 2 ^ 64) where
  abbrev g : Geometry
  g = told.read.geometry

  abbrev taken : ℕ → Bool
  taken = told.changing.is_taken

  fits : IsHandFor (record { inode = true; fresh = []; others = blocks_for_name tree p.dir p.name }) hand
  fits = may.wanted go

  abbrev pub mid : List Hand
  mid = record { inode = None; blocks = hand.blocks } ∷ after

  first : HoldMore held mid (i ∷ []) []
  first = let all = spent told image tree cred (Create path mode) p held after hand may i has in record { inodes = all.inodes; blocks = all.blocks }

  second : HoldMore mid after [] hand.blocks
  second = record { inodes = λ n. refl; blocks = λ n. refl }

  abbrev d : Dinode
  d = file_record cred mode moment

  abbrev node : Node
  node = new_file cred mode moment

  abbrev one : Change
  one = with_delta no_change (inode_delta g i (dinode_bytes (Some d)))

  pub drawn_file : Draws g image taken no_change one i (Some (File (record { attributes = attributes_of d; size = 0; blocks = []; pointers = [] }))) (Some 1) mid
  drawn_file = file_drawn g image taken no_change held mid i d (draft_begun g image taken held ok room (stored told image tree cred (Create path mode) p held after hand may)) first
      (file_dinode g.version cred mode moment below uid gid time) (record { direct = refl; indirect = refl; blocks = refl }) (file_mode mode below) refl

  its_tree : tree_of g (drafted_blocks one image) ≡ with_node tree i (Some node)
  its_tree =
      let rights : (0x8000 + mode) % 512 ≡ mode = omega (arith, below) in
      drawn_file.tree
      ∙ ap (λ (t : Tree). with_node t i (Some (File (record { attributes = attributes_of d; size = 0; blocks = []; pointers = [] })))) (ap (tree_of g) (nothing_drafted image) ∙ may.stands.stands)
      ∙ ap (λ (r : ℕ). with_node tree i (Some (File (record { attributes = record { rights = r; uid = cred.uid; gid = cred.gid; mtime = moment }; size = 0; blocks = []; pointers = [] })))) rights

  pub file_may_enter : MayEnter g image taken one p.dir p.name hand.blocks mid after
  file_may_enter = may_enter told image tree cred (Create path mode) p held after hand may i has node one its_tree refl hand.blocks mid (λ b some. some) second
      (create_goes g tree cred path mode p go).1.1.0 (fits.blocks ∙ none_more (blocks_for_name tree p.dir p.name))

  -- after the name and the time
  module _ (two three : Change) (entered : DrawsTree g image taken one two p.dir (edited (Enter p.dir p.name i)) after)
      (timed : DrawsTree g image taken two three p.dir (edited (SetTime p.dir moment)) after) where
    final_tree : tree_of g (drafted_blocks three image) ≡ edited_all (making p i moment node) tree
    unfolding edited
    final_tree = timed.tree ∙ ap (edited (SetTime p.dir moment)) (entered.tree ∙ ap (edited (Enter p.dir p.name i)) its_tree)

    links_as_drawn : (k : ℕ) → links_at g (drafted_blocks three image) k ≡ links_at g (drafted_blocks one image) k
    links_as_drawn k = timed.links k ∙ entered.links k

    other_links : (k : ℕ) → k ≢ i → links_at g (drafted_blocks three image) k ≡ option_map (λ links. links + 0) (links_at g (block image) k)
    other_links k other =
        links_as_drawn k ∙ ap (option_map (λ u. u.inode.links)) (drawn_file.others k other) ∙ ap (λ (b : Blocks). links_at g b k) (nothing_drafted image)
        ∙ sym (same_links (links_at g (block image) k))

    pub created : IsDrawn g image taken three (tree_after g tree cred i moment (Create path mode)) after
    created = made_drawn told image tree cred (Create path mode) p held after hand may i has node moment three (links_as_drawn i ∙ drawn_file.own_links) other_links
        timed.draft final_tree go refl
