use Rattle.std.proofs.Common.{◌≡◌, ℕ, ◌*◌, ◌<◌, ◌++◌, true, List, All, length, refl, sym, ap, subst, ◌∙◌, arith}
use Rattle.std.proofs.lemmas.List.Elements.{All-weaker}
use Rattle.lufs_base.specs.Layout.{blocks_of}
use Rattle.lufs_base.specs.declared.geometry.Geometry.{Geometry}
use Rattle.volume_model.specs.declared.inode.Dinode.{Dinode}
use Rattle.volume_model.specs.Format.{is_body}
use Rattle.volume_model.specs.Sound.{has_right_fields}
use Rattle.fsck_core.specs.Claimed.{used_with, blocks_claimed, with_zeros, HasClaimed}
use Rattle.fsck_core.proofs.ClaimBridges.{within_of_bodies}
use Rattle.fsck_core.proofs.SurveyTold.{told_fields_wrong, told_names, told_seen}
use Rattle.fsck_core.proofs.WithZeros.{claimed-with_zeros, fields-with_zeros}
use Rattle.fsck_core.proofs.survey.look_at_numbers.Goals as goal

pub returns-then-not-has_right_fields-clause-part : goal.returns-then-not-has_right_fields-clause-part
returns-then-not-has_right_fields-clause-part g c =
    let told = g.S.MetaRead.store c.args.store.now in
    let d = c.args.d.now in
    let numbers = c.args.numbers.now in
    told_fields_wrong told.geometry told.content c.args.inodes.now c.args.i d (with_zeros numbers) c.args.survey.now c.requires.here c.requires.read
    (λ chunks. fields-with_zeros told.geometry c.args.i d numbers chunks
    ∙ ap (λ (k : Geometry). has_right_fields k c.args.i (used_with d numbers chunks)) (sym c.geometry.ensures.value)
    ∙ sym (c.has_right_fields.ensures.value c.args.i chunks) ∙ c.if-not-has_right_fields.true)

within : (g h : Geometry) (d : Dinode) (numbers part : List ℕ) → h ≡ g → blocks_claimed d part ≡ blocks_claimed d numbers
    → All (λ b. is_body h b ≡ true) (blocks_claimed d numbers) → All (λ b. b < blocks_of g) (blocks_claimed d part)
within g h d numbers part geometry same bodies =
    subst (λ (l : List ℕ). All (λ b. b < blocks_of g) l) (sym same)
    (within_of_bodies g (blocks_claimed d numbers) (subst (λ (k : Geometry). All (λ b. is_body k b ≡ true) (blocks_claimed d numbers)) geometry bodies))

pub claim_all-requires-clause-room : goal.claim_all-requires-clause-room
claim_all-requires-clause-room g c =
    let d = c.args.d.now in
    let told = g.S.MetaRead.store c.args.store.now in
    let bits = length c.args.survey.now.claims.bits.items in
    let below : blocks_claimed d c.below_size.result.now ≡ blocks_claimed d c.args.numbers.now =
    ap (λ (l : List ℕ). blocks_claimed d l) c.below_size.ensures.value ∙ c.has_right_fields.ensures.below c.if-not-has_right_fields.false in
    All-weaker (λ b. b < blocks_of told.geometry) (λ b. b < 8 * bits) (λ b less. omega (arith, less, c.requires.room.blocks)) (blocks_claimed d c.below_size.result.now)
    (within told.geometry c.geometry.result.now d c.args.numbers.now c.below_size.result.now c.geometry.ensures.value below
    (c.has_right_fields.ensures.bodies c.if-not-has_right_fields.false))

pub returns-clause-part : goal.returns-clause-part
returns-clause-part g c =
    let told = g.S.MetaRead.store c.args.store.now in
    let d = c.args.d.now in
    let i = c.args.i in
    let numbers = c.args.numbers.now in
    let claims = c.claim_all.new.self in
    let below : blocks_claimed d c.below_size.result.now ≡ blocks_claimed d numbers =
    ap (λ (l : List ℕ). blocks_claimed d l) c.below_size.ensures.value ∙ c.has_right_fields.ensures.below c.if-not-has_right_fields.false in
    told_seen told.geometry told.content c.args.inodes.now i d (with_zeros numbers) c.args.survey.now c.look_at_names.new.survey claims c.requires.here c.requires.read
    (λ chunks. fields-with_zeros told.geometry i d numbers chunks
    ∙ ap (λ (k : Geometry). has_right_fields k i (used_with d numbers chunks)) (sym c.geometry.ensures.value)
    ∙ sym (c.has_right_fields.ensures.value i chunks) ∙ c.if-not-has_right_fields.false)
    (λ blocks has. subst (λ (l : List ℕ). HasClaimed (blocks_of told.geometry) (blocks ++ l) claims) (below ∙ sym (claimed-with_zeros d numbers))
    (c.claim_all.ensures.claimed (blocks_of told.geometry) blocks
    (within told.geometry c.geometry.result.now d numbers c.below_size.result.now c.geometry.ensures.value below
    (c.has_right_fields.ensures.bodies c.if-not-has_right_fields.false)) has))
    c.in_ok-look_at_names.ensures.claims
    (told_names told.geometry told.geometry told.content told.content i c.args.survey.now c.look_at_names.new.survey claims refl refl c.in_ok-look_at_names.ensures.names)
