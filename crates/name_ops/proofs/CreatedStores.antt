-- The draft of a `create`, where the content is told.
use Rattle.std.proofs.Common.{◌≡◌, ◌<◌, ℕ, ◌^◌, List, [], ◌∷◌, Option, Some, None, refl, sym, ap, subst}
use Rattle.std.specs.Prelude.{unwrap_or}
use Rattle.lufs_base.specs.Layout.{IsGeometry}
use Rattle.lufs_base.specs.declared.geometry.Geometry.{Geometry}
use Rattle.volume_model.specs.declared.hand.Hand.{Hand}
use Rattle.volume_model.specs.Format.{Image, dinode_bytes}
use Rattle.volume_model.specs.Sound.{Tree}
use Rattle.tree_types.specs.declared.credentials.Cred.{Cred}
use Rattle.tree_types.specs.declared.call.Call.{Call}
use Rattle.tree_types.specs.declared.call.Call.TheVariants.{Create}
use Rattle.tree_types.specs.declared.reply.Refusal.TheVariants.{Denied, Exist, Fbig, Noinodes, Nospace}
use Rattle.history_model.specs.Places.{may}
use Rattle.history_model.specs.Walk.{WalkEnd}
use Rattle.history_model.specs.Edits.{SetTime, edited}
use Rattle.history_model.specs.Wants.{create_wants, lacks}
use Rattle.history_model.specs.Refusals.{cannot_grow, has_no_inode, decision_at}
use Rattle.history_model.specs.Replies.{tree_after}
use Rattle.meta_store.specs.declared.change.Change.{Change}
use Rattle.meta_store.specs.Changing.{AllTold}
use Rattle.meta_store.specs.NoChange.{no_change}
use Rattle.meta_store.specs.Deltas.{inode_delta}
use Rattle.meta_draft.specs.Drafted.{with_delta}
use Rattle.dir_ops.proofs.ToldEdits.{EditsDrafts}
use Rattle.plan_ends.specs.Planned.{IsDrawn}
use Rattle.std.specs.Prelude.{not, is_some}
use Rattle.name_ops.specs.NewRecords.{file_record}
use Rattle.name_ops.proofs.Created.{mid, drawn_file, file_may_enter, created}
use Rattle.name_ops.proofs.PlannedStores.{MakesInode, rows_decide, HasRoom, Drawn, Enters}

abbrev pub creating : (mode : ℕ) → List ℕ → Call
creating mode = λ path. Create path mode

pub create_makes : (cred : Cred) (mode : ℕ) (p : WalkEnd) (g : Geometry) (tree : Tree) (path : List ℕ) → MakesInode g tree cred (creating mode path) p
unfolding decision_at
create_makes cred mode p g tree path = record {
  decides = rows_decide ((not (may tree cred p.dir 2), Denied) ∷ ((is_some p.found, Exist) ∷ ((cannot_grow tree p.dir p.name, Fbig)
      ∷ ((has_no_inode g tree, Noinodes) ∷ ((lacks g tree (create_wants tree p), Nospace) ∷ [])))));
  answer = refl;
  inode = refl;
}

pub told_created : (content later : Option Image) (told : AllTold) (h : Geometry) (cred : Cred) (mode moment : ℕ) (p : WalkEnd) (hand : Hand) (i : ℕ) (one two three : Change) (fresh : List ℕ)
    → IsGeometry told.read.geometry → HasRoom content told.read.geometry → later ≡ content → h ≡ told.read.geometry → hand.inode ≡ Some i → mode < 512 → cred.uid < 2 ^ 32 → cred.gid < 2 ^ 32 → moment < 2 ^ 64
    → one ≡ with_delta no_change (inode_delta told.read.geometry i (dinode_bytes (Some (file_record cred mode moment)))) → fresh ≡ hand.blocks
    → Enters content told.read.geometry one two p fresh i → EditsDrafts later h two three p.dir (edited (SetTime p.dir moment))
    → Drawn content told cred (creating mode) moment p hand three
told_created None later told h cred mode moment p hand i one two three fresh ok room same alike has below uid gid time put blocks enters times tree path held after = tt
told_created (Some image) later told h cred mode moment p hand i one two three fresh ok room same alike has below uid gid time put blocks enters times tree path held after = λ may go.
    let g = told.read.geometry in
    let taken = told.changing.is_taken in
    let file = with_delta no_change (inode_delta g i (dinode_bytes (Some (file_record cred mode moment)))) in
    let enters_here = subst (λ (l : List ℕ). Enters (Some image) g file two p l i) blocks (subst (λ (c : Change). Enters (Some image) g c two p fresh i) put enters) in
    let times_here = subst (λ (k : Geometry). EditsDrafts (Some image) k two three p.dir (edited (SetTime p.dir moment))) alike
    (subst (λ (c : Option Image). EditsDrafts c h two three p.dir (edited (SetTime p.dir moment))) same times) in
    let drawn = drawn_file told image tree cred path mode moment p held after hand ok room may go i has below uid gid time in
    let entered = enters_here taken (mid told image tree cred path mode moment p held after hand ok room may go i has below uid gid time) after drawn.draft
    (file_may_enter told image tree cred path mode moment p held after hand ok room may go i has below uid gid time) in
    let timed = times_here taken after entered.draft in
    subst (λ (n : ℕ). IsDrawn g image taken three (tree_after g tree cred n moment (Create path mode)) after) (sym (ap (λ (o : Option ℕ). unwrap_or o 0) has))
    (created told image tree cred path mode moment p held after hand ok room may go i has below uid gid time two three entered timed)
