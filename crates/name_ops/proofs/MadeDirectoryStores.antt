-- The draft of a `mkdir`, where the content is told.
use Rattle.std.proofs.Common.{◌≡◌, ◌<◌, ℕ, ◌^◌, true, not, List, [], ◌∷◌, length, Option, Some, None, refl, sym, ap, ◌∙◌, subst, arith}
use Rattle.std.specs.Prelude.{unwrap_or, is_some}
use Rattle.lufs_base.specs.Layout.{IsGeometry}
use Rattle.lufs_base.specs.declared.geometry.Geometry.{Geometry}
use Rattle.lufs_base.specs.declared.numbers.BlockNo.{BlockNo}
use Rattle.volume_model.specs.declared.hand.Hand.{Hand}
use Rattle.volume_model.specs.Format.{Image, IsChunk, new_directory, inodes_of}
use Rattle.volume_model.specs.Sound.{Tree}
use Rattle.tree_types.specs.declared.credentials.Cred.{Cred}
use Rattle.tree_types.specs.declared.call.Call.{Call}
use Rattle.tree_types.specs.declared.call.Call.TheVariants.{Mkdir}
use Rattle.tree_types.specs.declared.reply.Refusal.TheVariants.{Denied, Exist, Mlink, Fbig, Noinodes, Nospace}
use Rattle.history_model.specs.Places.{may, is_directory_in}
use Rattle.history_model.specs.Walk.{WalkEnd}
use Rattle.history_model.specs.Edits.{SetTime, edited}
use Rattle.history_model.specs.Wants.{mkdir_wants, lacks}
use Rattle.history_model.specs.Refusals.{cannot_grow, has_no_inode, has_most_links, decision_at}
use Rattle.history_model.specs.Replies.{tree_after}
use Rattle.meta_store.specs.declared.change.Change.{Change}
use Rattle.meta_store.specs.Changing.{AllTold}
use Rattle.meta_store.specs.Changes.{numbers_in}
use Rattle.meta_store.specs.NoChange.{no_change}
use Rattle.dir_ops.proofs.ToldEdits.{EditsDrafts}
use Rattle.plan_ends.specs.Planned.{IsDrawn}
use Rattle.plan_ends.proofs.TreeTold.{right_told}
use Rattle.history_rules.proofs.RightNameLaws.{no_zero}
use Rattle.volume_model.specs.Format.{block}
use Rattle.volume_model.specs.Sound.{Node, StandsFor, names_in_tree}
use Rattle.history_rules.proofs.MakeLaws.{directory_in}
use Rattle.history_rules.proofs.NamedRightLaws.{below, directory_as}
use Rattle.name_ops.specs.NewRecords.{directory_record, with_directory}
use Rattle.name_ops.proofs.GainedLinks.{GainsInDrafts}
use Rattle.name_ops.proofs.MadeNodes.{ends_in_directory}
use Rattle.name_ops.proofs.MadeDirectory.{some_block, mid, drawn_directory, directory_may_enter, room_for_link, made}
use Rattle.name_ops.proofs.PlannedStores.{MakesInode, rows_decide, HasRoom, Drawn, Enters}

abbrev pub making_directory : (mode : ℕ) → List ℕ → Call
making_directory mode = λ path. Mkdir path mode

pub mkdir_makes : (cred : Cred) (mode : ℕ) (p : WalkEnd) (g : Geometry) (tree : Tree) (path : List ℕ) → MakesInode g tree cred (making_directory mode path) p
unfolding decision_at
mkdir_makes cred mode p g tree path = record {
  decides = rows_decide ((not (may tree cred p.dir 2), Denied) ∷ ((is_some p.found, Exist) ∷ ((has_most_links g tree p.dir, Mlink) ∷ ((cannot_grow tree p.dir p.name, Fbig)
      ∷ ((has_no_inode g tree, Noinodes) ∷ ((lacks g tree (mkdir_wants tree p), Nospace) ∷ []))))));
  answer = refl;
  inode = refl;
}

none_there : (blocks : List BlockNo) → length blocks ≡ 0 → length (numbers_in blocks) ≡ 0
none_there [] none = refl
none_there (b ∷ blocks) none = absurd (omega (arith, none))

-- the hand always has a block
pub told_no_block : (content : Option Image) (told : AllTold) (cred : Cred) (mode moment : ℕ) (p : WalkEnd) (hand : Hand) (change : Change) → IsGeometry told.read.geometry → HasRoom content told.read.geometry
    → (blocks : List BlockNo) → numbers_in blocks ≡ hand.blocks → length blocks ≡ 0 → Drawn content told cred (making_directory mode) moment p hand change
told_no_block None told cred mode moment p hand change ok room blocks are none tree path held after = tt
told_no_block (Some image) told cred mode moment p hand change ok room blocks are none tree path held after = λ may go.
    absurd (some_block told image tree cred path mode moment p held after hand ok room may go (ap length (sym are) ∙ none_there blocks none))

-- inode 0 is no directory
not_zero : (g : Geometry) (image : Image) (tree : Tree) (held : List Hand) → StandsFor g (block image) tree held → is_directory_in tree 0 ≡ true → ⊥
not_zero g image tree held stands is =
    let right = right_told g (block image) tree held stands in
    let within : 0 < inodes_of g = below g tree right 0 (ap (λ (o : Option Node). is_some o) (directory_in (tree 0) is).1) in
    no_zero (inodes_of g) (names_in_tree tree) right.names within (directory_as (tree 0) ∙ is)

pub told_no_parent : (content : Option Image) (told : AllTold) (cred : Cred) (mode moment : ℕ) (p : WalkEnd) (hand : Hand) (change : Change)
    → p.dir ≡ 0 → Drawn content told cred (making_directory mode) moment p hand change
told_no_parent None told cred mode moment p hand change zero_is tree path held after = tt
told_no_parent (Some image) told cred mode moment p hand change zero_is tree path held after = λ may go.
    absurd (not_zero told.read.geometry image tree held may.stands (ap (is_directory_in tree) (sym zero_is) ∙ ends_in_directory tree cred (Mkdir path mode) p may.walked))

pub told_made : (content later last : Option Image) (told : AllTold) (h k : Geometry) (cred : Cred) (mode moment : ℕ) (p : WalkEnd) (hand : Hand) (i b : ℕ) (rest : List ℕ) (one two three four : Change)
    → IsGeometry told.read.geometry → HasRoom content told.read.geometry → later ≡ content → h ≡ told.read.geometry → last ≡ content → k ≡ told.read.geometry → hand.inode ≡ Some i → hand.blocks ≡ b ∷ rest
    → mode < 512 → cred.uid < 2 ^ 32 → cred.gid < 2 ^ 32 → moment < 2 ^ 64 → b < 2 ^ 32 → IsChunk (new_directory i p.dir)
    → one ≡ with_directory told.read.geometry i p.dir b (directory_record cred mode moment b) no_change
    → Enters content told.read.geometry one two p rest i → EditsDrafts later h two three p.dir (edited (SetTime p.dir moment)) → GainsInDrafts last k three four p.dir
    → Drawn content told cred (making_directory mode) moment p hand four
told_made None later last told h k cred mode moment p hand i b rest one two three four ok room same alike same_last alike_last has all below uid gid time fits chunk put enters times gains tree path held after = tt
told_made (Some image) later last told h k cred mode moment p hand i b rest one two three four ok room same alike same_last alike_last has all below uid gid time fits chunk put enters times gains tree path held after = λ may go.
    let g = told.read.geometry in
    let taken = told.changing.is_taken in
    let directory = with_directory g i p.dir b (directory_record cred mode moment b) no_change in
    let enters_here = subst (λ (c : Change). Enters (Some image) g c two p rest i) put enters in
    let times_here = subst (λ (x : Geometry). EditsDrafts (Some image) x two three p.dir (edited (SetTime p.dir moment))) alike
    (subst (λ (c : Option Image). EditsDrafts c h two three p.dir (edited (SetTime p.dir moment))) same times) in
    let gains_here = subst (λ (x : Geometry). GainsInDrafts (Some image) x three four p.dir) alike_last (subst (λ (c : Option Image). GainsInDrafts c k three four p.dir) same_last gains) in
    let drawn = drawn_directory told image tree cred path mode moment p held after hand ok room may go i has b rest all below uid gid time fits chunk in
    let entered = enters_here taken (mid told image tree cred path mode moment p held after hand ok room may go i has b rest all below uid gid time fits chunk) after drawn.draft
    (directory_may_enter told image tree cred path mode moment p held after hand ok room may go i has b rest all below uid gid time fits chunk) in
    let timed = times_here taken after entered.draft in
    let linked = gains_here taken after timed.draft (room_for_link told image tree cred path mode moment p held after hand ok room may go i has b rest all below uid gid time fits chunk two three entered timed) in
    subst (λ (n : ℕ). IsDrawn g image taken four (tree_after g tree cred n moment (Mkdir path mode)) after) (sym (ap (λ (o : Option ℕ). unwrap_or o 0) has))
    (made told image tree cred path mode moment p held after hand ok room may go i has b rest all below uid gid time fits chunk two three entered timed four linked)
