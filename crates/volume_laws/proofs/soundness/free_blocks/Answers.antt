use Rattle.std.proofs.Common.{◌≡◌, ℕ, ◌+◌, ◌-◌, List, length, sym, ap, ◌∙◌, subst, arith}
use Rattle.std.proofs.lemmas.Bool.{or_parts, or_from}
use Rattle.lufs_base.specs.Layout.{IsGeometry}
use Rattle.lufs_base.specs.declared.geometry.Geometry.{Geometry}
use Rattle.volume_model.specs.declared.finding.Counts.{Counts}
use Rattle.volume_model.specs.Format.{Blocks, body_blocks_of}
use Rattle.volume_model.specs.Sound.{reading_of, inodes_in, claims_of, is_claimed, held_blocks, is_among, clear_blocks_of, Sound, counts_of, Tree, used_in_tree, claimed_in_tree, free_blocks_of, tree_of}
use Rattle.volume_model.specs.declared.finding.Kind.TheVariants.{Fields}
use Rattle.volume_model.specs.declared.hand.Hand.{Hand}
use Rattle.volume_laws.proofs.ClaimFacts.{length-inodes}
use Rattle.volume_laws.proofs.Members.{Contains_range}
use Rattle.volume_laws.proofs.SoundRules.{rule_kept}
use Rattle.volume_laws.proofs.TreeClaims.{claims_of_tree, nodes_counted}
use Rattle.volume_laws.proofs.FreeBits.{bit_of_body, clear_and_taken}
use Rattle.volume_laws.proofs.soundness.free_blocks.Goals as goal

pub returns-clause-bit : goal.returns-clause-bit
returns-clause-bit c g blocks hands b sound body =
    let claimed = is_claimed (reading_of g blocks) b in
    let held = is_among b (held_blocks hands) in
    let bit = bit_of_body g blocks hands sound b body in
    ((λ clear. or_parts claimed held (sym bit ∙ clear)), (λ free. bit ∙ or_from claimed held free.0 free.1))

-- the claims of a sound volume are those of its tree
claims_of_sound : (g : Geometry) (blocks : Blocks) (hands : List Hand) → Sound g blocks hands
    → length (claims_of (reading_of g blocks)) ≡ claimed_in_tree g (tree_of g blocks)
claims_of_sound g blocks hands sound = claims_of_tree g blocks (λ i below. rule_kept sound Fields i (Contains_range (inodes_in (reading_of g blocks)) i (omega (arith, below, length-inodes g blocks))))

left_in_tree : (g : Geometry) (blocks : Blocks) (hands : List Hand) → IsGeometry g → Sound g blocks hands
    → clear_blocks_of g (reading_of g blocks) + length (held_blocks hands) ≡ free_blocks_of g (tree_of g blocks)
unfolding free_blocks_of
left_in_tree g blocks hands ok sound = omega (arith, clear_and_taken g blocks hands sound ok, claims_of_sound g blocks hands sound)

counts_in_tree : (g : Geometry) (blocks : Blocks) (hands : List Hand) → Sound g blocks hands
    → counts_of g (reading_of g blocks) ≡ record {
      inodes = used_in_tree g (tree_of g blocks);
      blocks = claimed_in_tree g (tree_of g blocks);
      free = free_blocks_of g (tree_of g blocks);
    }
unfolding free_blocks_of
counts_in_tree g blocks hands sound =
    let counts : ℕ → ℕ → Counts = λ inodes claimed. record { inodes = inodes; blocks = claimed; free = body_blocks_of g - claimed } in
    ap (λ (n : ℕ). counts n (length (claims_of (reading_of g blocks)))) (nodes_counted g blocks)
    ∙ ap (counts (used_in_tree g (tree_of g blocks))) (claims_of_sound g blocks hands sound)

pub returns-clause-clear : goal.returns-clause-clear
returns-clause-clear c g blocks tree hands ok stands =
    subst (λ (t : Tree). clear_blocks_of g (reading_of g blocks) + length (held_blocks hands) ≡ free_blocks_of g t) stands.stands
    (left_in_tree g blocks hands ok stands.sound)

pub returns-clause-counts : goal.returns-clause-counts
returns-clause-counts c g blocks tree hands stands =
    subst (λ (t : Tree). counts_of g (reading_of g blocks) ≡ record {
      inodes = used_in_tree g t;
      blocks = claimed_in_tree g t;
      free = free_blocks_of g t;
    }) stands.stands (counts_in_tree g blocks hands stands.sound)
