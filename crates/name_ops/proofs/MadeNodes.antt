-- A call that makes an inode with one name: its directory, the inode of its hand, how the name may be entered once the inode
-- is made, and how many links are told then.
use Rattle.std.proofs.Common.{◌≡◌, ◌≢◌, ◌≤◌, inl, inr, ℕ, ◌+◌, ◌-◌, ◌/◌, ◌<◌, ◌==◌, Bool, true, false, not, ◌&&◌, if◌then◌else◌, cond, List, [], ◌∷◌, length, Option, Some, None, Result, Ok, Err, IfSome, refl, sym, ap, ◌∙◌, subst, arith}
use Rattle.std.specs.Prelude.{is_some, nat_le}
use Rattle.std.specs.List.{All, count_by, list_any}
use Rattle.std.specs.Option.{option_map, option_map_or}
use Rattle.std.proofs.lemmas.Bool.{cases_eq, cond-true, cond-false, eq-eqb, ne_eqb, false≢true}
use Rattle.lufs_base.specs.declared.geometry.Geometry.{Geometry}
use Rattle.volume_model.specs.declared.hand.Hand.{Hand}
use Rattle.volume_model.specs.declared.directory.Slot.{Slot}
use Rattle.volume_model.specs.Format.{Image, block, room_in}
use Rattle.volume_model.specs.Sound.{Reading, reading_of, inodes_in, used_at, is_claimed, held_inodes, held_blocks, IsStored, DirectoryNode, Node, Directory, Tree, with_node, directory_blocks, tree_of, node_of}
use Rattle.volume_laws.proofs.ClaimFacts.{length-inodes}
use Rattle.volume_laws.proofs.SoundParts.{in_parts}
use Rattle.tree_types.specs.declared.credentials.Cred.{Cred}
use Rattle.tree_types.specs.declared.call.Call.{Call}
use Rattle.tree_types.specs.declared.reply.Refusal.{Refusal}
use Rattle.history_model.specs.Places.{chunks_of_node, chunks_in, is_directory_node, is_directory_in, links_in, slots_in_node}
use Rattle.history_model.specs.Walk.{WalkEnd}
use Rattle.history_model.specs.Ends.{WalkEnds, One, ends_of}
use Rattle.history_model.specs.Edits.{Edit, edited_all}
use Rattle.history_model.specs.Effects.{making, edits_at}
use Rattle.history_model.specs.Wants.{blocks_for_name}
use Rattle.history_model.specs.Refusals.{Proceed, most_chunks, cannot_grow, decision_at}
use Rattle.history_model.specs.Replies.{tree_after}
use Rattle.history_model.specs.Histories.{IsUsable}
use Rattle.history_model.specs.Right.{IsRightWithin}
use Rattle.history_rules.proofs.AccountLaws.{EndsIn, ends_in}
use Rattle.history_rules.proofs.MakeLaws.{directory_in}
use Rattle.history_rules.proofs.NodeLaws.{with_node-other}
use Rattle.change_laws.specs.Hands.{times}
use Rattle.change_laws.specs.Plans.{HoldMore}
use Rattle.change_laws.proofs.Counts.{times-append, holds_of, holds_of_all}
use Rattle.meta_store.specs.declared.change.Change.{Change}
use Rattle.meta_store.specs.declared.change.RawWrite.{RawWrite}
use Rattle.meta_store.specs.Changing.{AllTold}
use Rattle.meta_draft.specs.Drafted.{drafted_blocks}
use Rattle.draft_laws.specs.Drafts.{IsDraft, MayAttach, links_at}
use Rattle.draft_laws.proofs.NewSteps.{once_first}
use Rattle.dir_ops.specs.Edits.{MayEnter}
use Rattle.plan_ends.specs.Planned.{MayPlan, IsDrawn}
use Rattle.plan_ends.proofs.TreeTold.{right_told, links_told, edits_of_call}
use Rattle.plan_ends.proofs.LinksMade.{made_links, free_links}

-- the walk of a call with one path ends in a directory
pub ends_in_directory : (tree : Tree) (cred : Cred) (call : Call) (p : WalkEnd) → ends_of tree cred call ≡ Ok (One p) → is_directory_in tree p.dir ≡ true
ends_in_directory tree cred call p is = (at is).0
  where
    at : ends_of tree cred call ≡ Ok (One p) → EndsIn tree (One p)
    at is = subst (λ (r : Result WalkEnds Refusal). let Q : Type 0 = elim r [ Ok ends ↦ EndsIn tree ends | Err why ↦ Unit {0} ] in Q) is (ends_in tree cred call)

pub has_some : (o : Option ℕ) → is_some o ≡ true → (i : ℕ) × (o ≡ Some i)
has_some None some = absurd (false≢true some)
has_some (Some i) some = (i, refl)

-- links that are told, with more names
counted_more : (o : Option ℕ) (before more now : ℕ) → now ≡ before + more → IfSome o (λ links. links ≡ before) → IfSome (option_map (λ links. links + more) o) (λ links. links ≡ now)
counted_more None before more now is links = tt
counted_more (Some n) before more now is links = omega (arith, is, links)

module _ (told : AllTold) (image : Image) (tree : Tree) (cred : Cred) (call : Call) (p : WalkEnd) (held after : List Hand) (hand : Hand)
    (may : MayPlan told image tree cred call (One p) held hand after) where
  abbrev g : Geometry
  g = told.read.geometry

  abbrev before : Reading
  before = reading_of g (block image)

  abbrev taken : ℕ → Bool
  taken = told.changing.is_taken

  pub stored : IsStored g before held
  stored = ((in_parts g (block image) held).0 may.stands.sound).0

  right : IsRightWithin g tree
  right = right_told g (block image) tree held may.stands

  pub is_dir : is_directory_in tree p.dir ≡ true
  is_dir = ends_in_directory tree cred call p may.walked

  pub unclaimed : (b : ℕ) → 1 ≤ times b hand.blocks → is_claimed before b ≡ false
  unclaimed b some = holds_of (λ c. is_claimed before c ≡ false) (held_blocks held) b stored.apart.blocks_free
      (omega (arith, may.spent.blocks b, times-append b hand.blocks (held_blocks after), some))

  pub may_attach : (change : Change) → change.raw ≡ [] → (b : ℕ) → 1 ≤ times b hand.blocks → MayAttach g image taken change b
  may_attach change none b some = record {
    in_transaction = holds_of (λ c. taken c ≡ true) hand.blocks b may.taken some;
    unclaimed = unclaimed b some;
    unwritten = subst (λ (l : List RawWrite). All (λ w. w.first / 8 ≢ b) l) (sym none) (λ k w inside. absurd (omega (arith, inside)));
  }

  module _ (i : ℕ) (has : hand.inode ≡ Some i) where
    pub spent : HoldMore held after (i ∷ []) hand.blocks
    spent = subst (λ (o : Option ℕ). HoldMore held after (held_inodes (record { inode = o; blocks = hand.blocks } ∷ [])) hand.blocks) has may.spent

    is_held : 1 ≤ times i (held_inodes held)
    is_held = omega (arith, spent.inodes i, times-append i (i ∷ []) (held_inodes after), once_first i [])

    pub usable : IsUsable g tree i
    unfolding tree_of
    usable =
        let range = holds_of (λ n. (2 ≤ n) × (n < inodes_in before)) (held_inodes held) i stored.apart.inodes_usable is_held in
        record {
          low = range.0;
          high = omega (arith, range.1, length-inodes g (block image));
          free = free_in (holds_of (λ n. used_at before n ≡ None) (held_inodes held) i stored.apart.inodes_free is_held);
        }
      where
        free_in : used_at before i ≡ None → tree i ≡ None
        free_in unused = sym (ap (λ (t : Tree). t i) may.stands.stands) ∙ ap (option_map (node_of (block image))) unused

    pub real : i ≢ 0
    real zero_is = let low : 2 ≤ i = usable.low in omega (arith, low, zero_is)

    pub apart : p.dir ≢ i
    apart same = absent (sym (directory_in (tree p.dir) is_dir).1 ∙ ap tree same ∙ usable.free)
      where
        absent : {x : DirectoryNode} → Some (Directory x) ≡ None → ⊥
        absent is = cc

    module _ (node : Node) where
      -- the inode is made, and the directory is what it was
      module _ (one : Change) (its_tree : tree_of g (drafted_blocks one image) ≡ with_node tree i (Some node)) (none : one.raw ≡ []) where
        still : with_node tree i (Some node) p.dir ≡ tree p.dir
        still = with_node-other tree i p.dir (Some node) apart

        chunks_still : chunks_in (tree_of g (drafted_blocks one image)) p.dir ≡ chunks_in tree p.dir
        chunks_still = ap (λ (t : Tree). chunks_in t p.dir) its_tree ∙ ap (λ (o : Option Node). option_map_or chunks_of_node o []) still

        pub may_enter : (fresh : List ℕ) (mid : List Hand) → ((b : ℕ) → 1 ≤ times b fresh → 1 ≤ times b hand.blocks) → HoldMore mid after [] fresh → cannot_grow tree p.dir p.name ≡ false
            → length fresh ≡ blocks_for_name tree p.dir p.name → MayEnter g image taken one p.dir p.name fresh mid after
        may_enter fresh mid among more grows many = record {
          directory = ap (λ (t : Tree). is_directory_in t p.dir) its_tree ∙ ap (λ (o : Option Node). option_map_or is_directory_node o false) still ∙ is_dir;
          grows = ap (λ (l : List (List Slot)). nat_le most_chunks (length l) && not (list_any (λ chunk. is_some (room_in chunk p.name)) l)) chunks_still ∙ grows;
          wanted = many ∙ sym (ap (λ (l : List (List Slot)). if not (list_any (λ chunk. is_some (room_in chunk p.name)) l) then directory_blocks (length l + 1) - directory_blocks (length l) else 0) chunks_still);
          held = more;
          attach = holds_of_all (MayAttach g image taken one) fresh (λ b some. may_attach one none b (among b some));
        }

      -- after the name and the time
      module _ (moment : ℕ) (last : Change) where
        abbrev final : Tree
        final = edited_all (making p i moment node) tree

        -- how often the new node names an inode
        abbrev named : ℕ → ℕ
        named k = count_by (λ s. s.ino == k) (slots_in_node node)

        own_links : links_in g final i ≡ named i + 1
        own_links =
            let made_is = made_links g tree p i moment node i right is_dir usable real in
            let none = free_links g tree i right real usable.free in
            let one_is : ℕ = 1 in
            let here : cond (i == i) 1 0 ≡ one_is = cond-true (i == i) 1 0 (eq-eqb i i refl) in
            omega (arith, made_is, none, here)

        other_links : (k : ℕ) → k ≢ 0 → k ≢ i → links_in g final k ≡ links_in g tree k + named k
        other_links k known other =
            let made_is = made_links g tree p i moment node k right is_dir usable known in
            let none_is : ℕ = 0 in
            let none : cond (i == k) 1 0 ≡ none_is = cond-false (i == k) 1 0 (ne_eqb i k (λ same. other (sym same))) in
            omega (arith, made_is, none)

        module _ (own : links_at g (drafted_blocks last image) i ≡ Some (named i + 1))
            (others : (k : ℕ) → k ≢ i → links_at g (drafted_blocks last image) k ≡ option_map (λ links. links + named k) (links_at g (block image) k)) where
          final_links : (k : ℕ) → k ≢ 0 → IfSome (links_at g (drafted_blocks last image) k) (λ links. links ≡ links_in g final k)
          final_links k known = elim (cases_eq k i) [
            | inl same ↦
                subst (λ (o : Option ℕ). IfSome o (λ links. links ≡ links_in g final k)) (sym (ap (links_at g (drafted_blocks last image)) same ∙ own))
                (sym own_links ∙ ap (links_in g final) (sym same))
            | inr other ↦
                subst (λ (o : Option ℕ). IfSome o (λ links. links ≡ links_in g final k)) (sym (others k other))
                (counted_more (links_at g (block image) k) (links_in g tree k) (named k) (links_in g final k) (other_links k known other) (links_told g (block image) tree held may.stands k))
          ]

          pub made_drawn : IsDraft g image taken last after → tree_of g (drafted_blocks last image) ≡ final → decision_at g tree cred call (One p) ≡ Proceed
              → edits_at g tree cred i moment call (One p) ≡ making p i moment node → IsDrawn g image taken last (tree_after g tree cred i moment call) after
          made_drawn draft draws go edits =
              subst (λ (t : Tree). IsDrawn g image taken last t after) (sym (edits_of_call g tree cred i moment call (One p) may.walked go ∙ ap (λ (l : List Edit). edited_all l tree) edits))
              (record { draft = draft; draws = draws; links = final_links })
