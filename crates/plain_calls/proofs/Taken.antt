-- The hand that is taken has what is wanted.
use Rattle.std.proofs.Common.{◌≡◌, ℕ, Bool, false, List, [], ◌∷◌, length, Ok, IfSome, sym, ap, ◌∙◌, subst, arith}
use Rattle.std.specs.Prelude.{is_some}
use Rattle.lufs_base.specs.Layout.{IsGeometry}
use Rattle.lufs_base.specs.declared.geometry.Geometry.{Geometry}
use Rattle.volume_model.specs.declared.hand.Hand.{Hand}
use Rattle.volume_model.specs.Format.{Image, block}
use Rattle.volume_model.specs.Sound.{reading_of, Tree, StandsFor}
use Rattle.history_model.specs.Histories.{IsUsable}
use Rattle.meta_store.specs.Store.{plain_told}
use Rattle.meta_store.specs.Changing.{Changing, all_told}
use Rattle.meta_store.specs.Plain.{is_free}
use Rattle.block_alloc.specs.declared.taken.Taken.{Taken}
use Rattle.block_alloc.specs.declared.taken.Taken.TheVariants.{Got, Later, NoInodes, NoSpace}
use Rattle.block_alloc.specs.Taking.{hand_for, answer_of}
use Rattle.block_alloc.specs.Marking.{TakesWhatItGot, no_hand}
use Rattle.plain_calls.specs.InHand.{HasEnough, HasHand}
use Rattle.plain_calls.proofs.Free.{inode_found, inode_usable, is_got, blocks_got}
use Rattle.plain_calls.proofs.Kept.{with_empty}

hand_of : Taken → Hand
hand_of (Got hand) = hand
hand_of (Later cause) = no_hand
hand_of NoInodes = no_hand
hand_of NoSpace = no_hand

same_hand : (hand other : Hand) → Got hand ≡ Got other → hand ≡ other
unfolding hand_of
same_hand hand other same = ap hand_of same

module _ (g h : Geometry) (image now : Image) (before after : Changing) (tree : Tree) (inode : Bool) (n : ℕ) (ok : IsGeometry g) (stands : StandsFor g (block image) tree []) (has : HasEnough g tree inode n) where
  module _ (held : List Hand) (none : held ≡ []) (taken : Taken) (answer : StandsFor g (block image) tree held → taken ≡ answer_of g (reading_of g (block image)) tree (is_free g image) held inode n) where
    pub got_it : taken ≡ Got (hand_for g (reading_of g (block image)) tree (is_free g image) [] inode n)
    got_it =
        subst (λ (l : List Hand). StandsFor g (block image) tree l → taken ≡ answer_of g (reading_of g (block image)) tree (is_free g image) l inode n) none answer stands
        ∙ is_got g image tree ok stands inode n has

    pub has_hand : (hand : Hand) → taken ≡ Got hand → TakesWhatItGot (Ok taken) (all_told (plain_told g image) before) (all_told (plain_told h now) after)
        → HasHand inode n tree hand (all_told (plain_told h now) after)
    has_hand hand got takes =
        let is = same_hand hand (hand_for g (reading_of g (block image)) tree (is_free g image) [] inode n) (sym got ∙ got_it) in
        let its = subst (λ (t : Taken). TakesWhatItGot (Ok t) (all_told (plain_told g image) before) (all_told (plain_told h now) after)) got takes in
        let alike = its.applied.1.geometry in
        record {
          stands = subst (λ (k : Geometry). StandsFor k (block now) tree (hand ∷ [])) (sym alike) (its.stands tree [] stands);
          holds = its.holds;
          inode = ap (λ (x : Hand). is_some x.inode) is ∙ inode_found g tree inode has.inodes;
          blocks = ap (λ (x : Hand). length x.blocks) is ∙ blocks_got g image tree ok stands inode n has;
          usable = subst (λ (k : Geometry). IfSome hand.inode (IsUsable k tree)) (sym alike) (subst (λ (x : Hand). IfSome x.inode (IsUsable g tree)) (sym is) (inode_usable g tree inode));
        }

-- a hand of nothing, where nothing is wanted
pub has_no_hand : (g : Geometry) (image : Image) (changing : Changing) (tree : Tree) (inode : Bool) (n : ℕ) (hand : Hand) → hand ≡ no_hand → inode ≡ false → n ≡ 0 → StandsFor g (block image) tree []
    → HasHand inode n tree hand (all_told (plain_told g image) changing)
has_no_hand g image changing tree inode n hand is none no_blocks stands =
    subst (λ (x : Hand). HasHand inode n tree x (all_told (plain_told g image) changing)) (sym is) (record {
      stands = with_empty g (block image) tree stands;
      holds = record {
        of_volume = record { usable = λ k d inside. absurd (omega (arith, inside)); body = λ k d inside. absurd (omega (arith, inside)) };
        apart = λ i j d first inside. absurd (omega (arith, inside));
        inode = λ k d inside. absurd (omega (arith, inside));
        blocks = λ k d inside. absurd (omega (arith, inside));
        taken = λ k d inside. absurd (omega (arith, inside));
      };
      inode = sym none;
      blocks = sym no_blocks;
      usable = tt;
    })
