-- A group record that a store amends, to give back what a hand took, is a step of the journal.
use Rattle.std.proofs.Common.{◌≡◌, ◌≢◌, ◌≤◌, inl, inr, ℕ, ◌+◌, ◌*◌, ◌/◌, ◌%◌, eqb, Bool, true, false, not, ◌&&◌, ◌||◌, cond, List, [], ◌∷◌, map, length, take, drop, length-take, length-drop, ◌++◌, Option, Some, None, IfSome, IsSome, refl, sym, ap, subst, ◌∙◌, arith}
use Rattle.std.specs.Prelude.{nat_lt, All, Contains, slice_index_or}
use Rattle.std.specs.List.{list_any}
use Rattle.std.proofs.lemmas.Bool.{cases_Bool, both_ways, true≢false, false≢true, eq-eqb, eqb-true, ne_eqb, and_parts, or_cases, ltb-true, lt-ltb, cond-true, cond-false}
use Rattle.std.proofs.Math.Seq.{take-append_seam}
use Rattle.std.proofs.lemmas.List.Sums.{sum_by-cons}
use Rattle.std.proofs.lemmas.List.Elements.{All-cons, All-nil, All-map, All-contains}
use Rattle.lufs_base.specs.Fields.{put_at}
use Rattle.lufs_base.specs.Layout.{IsGeometry, blocks_of, group_start}
use Rattle.lufs_base.specs.declared.geometry.Geometry.{Geometry}
use Rattle.lufs_base.specs.declared.numbers.BlockNo.{BlockNo}
use Rattle.lufs_base.specs.declared.delta.Delta.{Delta}
use Rattle.lufs_base.specs.declared.delta.DeltaKind.{DeltaKind}
use Rattle.lufs_base.specs.declared.delta.DeltaKind.TheVariants.{Group, Chunk}
use Rattle.volume_model.specs.declared.hand.Hand.{Hand}
use Rattle.volume_model.specs.Format.{Image, Blocks, block, is_body, GroupRecord, group_of}
use Rattle.volume_model.specs.Crash.{Record, present_of}
use Rattle.volume_model.specs.Log.{AreLoggable, may_be_logged, is_cancel, logged_len, delta_bytes}
use Rattle.volume_model.specs.Sound.{Reading, reading_of, group_at, is_claimed, is_among, block_bit, metadata_length, IsLaid, IsStored, Sound, tree_of, shape_of}
use Rattle.volume_model.proofs.ReplayLaws.{length-replayed}
use Rattle.volume_laws.specs.Changes.{AgreeBut, AgreeInMetadataBut, with_group}
use Rattle.volume_laws.proofs.LaidClaims.{sound_is_laid}
use Rattle.volume_laws.proofs.OneEntry.{one_group, shape_beside}
use Rattle.volume_laws.proofs.RecordChanges.{only_group}
use Rattle.volume_laws.proofs.SoundParts.{in_parts}
use Rattle.volume_laws.proofs.Members.{Contains_head, Contains_behind}
use Rattle.meta_store.specs.Changes.{numbers_in, with_part, is_group_at, amended, deltas_on}
use Rattle.meta_store.specs.Changing.{AllTold}
use Rattle.meta_store.specs.Conditions.{HasBitsOf}
use Rattle.meta_store.specs.Laid.{laid_over}
use Rattle.meta_store.specs.Suited.{suits_block, suits}
use Rattle.meta_store.proofs.MergedTable.{table_parts}
use Rattle.meta_store.specs.Deltas.{group_delta}
use Rattle.draft_laws.proofs.Contents.{put_agree}
use Rattle.draft_laws.proofs.GivenBack.{claimed_same, suits_same, length_same}
use Rattle.draft_laws.proofs.MetadataLengths.{suited_some}
use Rattle.draft_laws.proofs.OneLaid.{blocks_with}
use Rattle.journal_model.specs.Journals.{Owner, Released, Journal}
use Rattle.journal_model.specs.Versions.{Running, txs_of}
use Rattle.journal_model.specs.BlockRoles.{Roles, Changes, moved, is_metadata, is_claimed as has_claim}
use Rattle.journal_model.specs.Changes.{owner_after, MovesRoles, MovesDeltas}
use Rattle.journal_model.specs.Safety.{IsSafe}
use Rattle.journal_model.specs.Steps.{Step, Apply}
use Rattle.journal_laws.proofs.KeptSteps.{geometry_of_safe}
use Rattle.journal_laws.proofs.Outcomes.{blocks_fit}
use Rattle.journal_laws.proofs.RollFacts.{geometry_at_home}
use Rattle.history_laws.specs.Applied.{IsMadeBy}
use Rattle.history_laws.specs.Published.{AreRolesOf, reading_in}
use Rattle.history_laws.specs.Volumes.{IsRunningAs}
use Rattle.history_laws.specs.VolumeRoles.{role_of}
use Rattle.history_laws.proofs.ChangedContents.{changed_reading, changed_running}
use Rattle.history_laws.proofs.VolumeRolesLaws.{roles_of_volume}
use Rattle.store_laws.specs.Tied.{is_live, IsRead, running_image, as_amended, journal_amended, blocks_amended, roles_amended, MayGiveBack}
use Rattle.store_laws.proofs.AmendedDeltas.{long, own, amended_is_merged}
use Rattle.store_laws.proofs.MadeBy.{laid_is_made}
use Rattle.store_laws.proofs.MovedRoles.{live_is, claim_of_role, metadata_of_role, role_sizes}
use Rattle.store_laws.proofs.RolesSeen.{seen, role_in_body, role_outside}

-- what is told of one content
pub told_if : (P : Geometry → Image → Type 0) (g told : Geometry) (base : Image) (content : Option Image) → told ≡ g → content ≡ Some base → IfSome content (P told) → P g base
told_if P g told base content same is holds = subst (λ (h : Geometry). P h base) same (subst (λ (o : Option Image). IfSome o (P told)) is holds)

amended_bytes : (home : ℕ) (bytes : List ℕ) (held : List Delta) → delta_bytes (map (amended home bytes) held) ≡ delta_bytes held
amended_bytes home bytes [] = refl
amended_bytes home bytes (e ∷ held) =
    let one : 16 + logged_len (amended home bytes e).kind (amended home bytes e).len ≡ 16 + logged_len e.kind e.len =
    elim (is_group_at home (length bytes) e) as (λ here. 16 + logged_len (cond here (record e { bytes = bytes }) e).kind (cond here (record e { bytes = bytes }) e).len ≡ 16 + logged_len e.kind e.len) [ true ↦ refl | false ↦ refl ] in
    omega (arith, one, amended_bytes home bytes held, sum_by-cons (λ (x : Delta). 16 + logged_len x.kind x.len) e held, sum_by-cons (λ (x : Delta). 16 + logged_len x.kind x.len) (amended home bytes e) (map (amended home bytes) held))

some_record : (o : Option GroupRecord) → IsSome o → (x : GroupRecord) × (o ≡ Some x)
some_record (Some x) is = (x, refl)
some_record None is = absurd (false≢true is)

among_numbers : (returned : List BlockNo) (b : ℕ) → is_among b (numbers_in returned) ≡ true → (x : BlockNo) × Contains returned x × (x.0 ≡ b)
among_numbers [] b among = absurd (false≢true among)
among_numbers (x ∷ more) b among = elim (or_cases (eqb x.0 b) (is_among b (numbers_in more)) among) [
  | inl here ↦ (x, Contains_head x more, eqb-true x.0 b here)
  | inr rest ↦ let found = among_numbers more b rest in (found.0, Contains_behind x more found.0 found.1, found.2)
]

module _ (g : Geometry) (roles : Roles) (r : Record) (j : Journal) (hands then : List Hand) (told : AllTold) (n : ℕ) (bytes : List ℕ) (returned : List BlockNo) (safe : IsSafe g roles r j)
    (may : MayGiveBack g roles r j hands told n bytes returned then) where
  abbrev base : Image
  base = running_image g r j

  abbrev home : ℕ
  home = 4096 * group_start g n

  abbrev d : Delta
  d = group_delta g n bytes

  abbrev blocks : Blocks
  blocks = blocks_amended g r j n bytes

  abbrev r0 : Reading
  r0 = reading_of g (block base)

  abbrev r1 : Reading
  r1 = reading_of g blocks

  ok : IsGeometry g
  ok = geometry_of_safe g roles r j safe

  table : may_be_logged g Group home (length bytes) ≡ true
  table = subst (λ (h : Geometry). may_be_logged h Group home (length bytes) ≡ true) may.tells.geometry may.amends.place

  its_block : home / 4096 ≡ group_start g n
  its_block = omega arith

  its_place : home % 4096 ≡ 0
  its_place = omega arith

  size : 4096 * blocks_of g ≤ length base
  size = omega (arith, length-replayed (present_of r) (txs_of g j Running), blocks_fit g (present_of r) (geometry_at_home g roles r j safe))

  -- the image of those blocks
  abbrev image : Image
  image = laid_over (deltas_on (d ∷ [])) base

  image_blocks : block image ≡ blocks
  image_blocks =
      blocks_with g base d size (own g n bytes table) refl
      ∙ (λ t c. elim (eqb c (its_block t)) [ true ↦ put_at (block base c) (its_place t) bytes | false ↦ block base c ])
      ∙ (λ t c. by_test (eqb c (group_start g n)) (put_at (block base c) 0 bytes) (block base c) t)
    where
      by_test : (test : Bool) (x y : List ℕ) → (let o : List ℕ = elim test [ true ↦ x | false ↦ y ] in o) ≡ cond test x y
      by_test true x y = refl
      by_test false x y = refl

  stored : IsStored g r0 hands
  stored = ((in_parts g (block base) hands).0 may.sound).0

  stored_after : IsStored g r1 then
  stored_after = ((in_parts g blocks then).0 may.sound_after).0

  record_there : IsSome (group_of g n bytes)
  record_there =
      let all : (m : ℕ) → home ≡ 4096 * group_start g m → IsSome (group_of g m bytes) =
      subst (λ (h : Geometry). (m : ℕ) → home ≡ 4096 * group_start h m → IsSome (group_of h m bytes)) may.tells.geometry (subst (λ (h : Geometry). (m : ℕ) → 4096 * group_start g n ≡ 4096 * group_start h m → IsSome (group_of h m bytes)) refl may.amends.group) in
      all n refl

  pub new : GroupRecord
  new = (some_record (group_of g n bytes) record_there).0

  fits : 0 + length bytes ≤ length (block base (group_start g n))
  fits =
      let low = ltb-true (home / 4096) (blocks_of g) (and_parts (nat_lt (home / 4096) (blocks_of g)) _ (table_parts g Group home (length bytes) table).0).0 in
      omega (arith, low, size, long g n bytes table, length-take 4096 (drop (512 * (8 * group_start g n)) base), length-drop (512 * (8 * group_start g n)) base)

  elsewhere : (c : ℕ) → c ≢ group_start g n → blocks c ≡ block base c
  elsewhere c away = cond-false (eqb c (group_start g n)) (put_at (block base c) 0 bytes) (block base c) (ne_eqb c (group_start g n) away)

  here : blocks (group_start g n) ≡ put_at (block base (group_start g n)) 0 bytes
  here = cond-true (eqb (group_start g n) (group_start g n)) (put_at (block base (group_start g n)) 0 bytes) (block base (group_start g n)) (eq-eqb (group_start g n) (group_start g n) refl)

  agree : AgreeInMetadataBut g (block base) blocks (group_start g n) 0 416
  agree = subst (λ (k : ℕ). AgreeBut (metadata_length g r0) (block base) blocks (group_start g n) 0 k) (long g n bytes table) (put_agree (metadata_length g r0) (block base) blocks (group_start g n) 0 bytes fits elsewhere here)

  front : take 416 (put_at (block base (group_start g n)) 0 bytes) ≡ bytes
  front =
      let old = block base (group_start g n) in
      ap (λ (k : ℕ). take k (bytes ++ drop (0 + length bytes) old)) (sym (long g n bytes table)) ∙ take-append_seam bytes (drop (0 + length bytes) old)

  read_there : group_at g blocks n ≡ Some new
  unfolding new
  read_there = ap (λ (l : List ℕ). group_of g n (take 416 l)) here ∙ ap (group_of g n) front ∙ (some_record (group_of g n bytes) record_there).1

  laid : IsLaid g r0
  laid = sound_is_laid g (block base) hands may.sound

  pub reading_is : r1 ≡ with_group r0 n (Some new)
  reading_is = one_group g (block base) blocks n may.within (only_group g (block base) blocks ok laid n may.within agree) ∙ ap (with_group r0 n) read_there

  pub shape_is : shape_of (tree_of g blocks) ≡ shape_of (tree_of g (block base))
  shape_is = shape_beside g (block base) blocks n may.within (only_group g (block base) blocks ok laid n may.within agree)

  claimed_is : (b : ℕ) → is_claimed r1 b ≡ is_claimed r0 b
  claimed_is b = ap (λ (s : Reading). is_claimed s b) reading_is ∙ claimed_same g r0 n new b

  suits_is : (kind : DeltaKind) (b : ℕ) → suits_block g r1 kind b ≡ suits_block g r0 kind b
  suits_is kind b = ap (λ (s : Reading). suits_block g s kind b) reading_is ∙ suits_same g r0 n new kind b

  length_is : (b : ℕ) → metadata_length g r1 b ≡ metadata_length g r0 b
  length_is b = ap (λ (s : Reading). metadata_length g s b) reading_is ∙ length_same g r0 n new b

  role_same : (b : ℕ) → roles_amended g r j n bytes b ≡ roles Running b
  role_same b =
      elim (cases_Bool (is_body g b)) [
        | inl body ↦
            role_in_body g blocks then stored_after b body
            ∙ (λ t. seen (claimed_is b t) (suits_is Chunk b t) (length_is b t))
            ∙ sym (role_in_body g (block base) hands stored b body)
        | inr no_body ↦ role_outside g blocks then stored_after b no_body ∙ sym (role_outside g (block base) hands stored b no_body)
      ]
      ∙ sym (may.read.claimed b)

  unclaimed : (b : ℕ) → is_among b (numbers_in returned) ≡ true → is_claimed r0 b ≡ false
  unclaimed b among =
      let found = among_numbers returned b among in
      let all : All (λ (x : BlockNo). is_claimed r0 x.0 ≡ false) returned =
      told_if (λ h i. All (λ (x : BlockNo). is_claimed (reading_of h (block i)) x.0 ≡ false) returned) g told.read.geometry base told.read.content may.tells.geometry may.tells.content may.amends.unclaimed in
      ap (is_claimed r0) (sym found.2) ∙ All-contains (λ (x : BlockNo). is_claimed r0 x.0 ≡ false) returned found.0 all found.1

  body_of : (b : ℕ) → is_among b (numbers_in returned) ≡ true → is_body g b ≡ true
  body_of b among =
      let found = among_numbers returned b among in
      let all : All (λ (x : BlockNo). is_body g x.0 ≡ true) returned = subst (λ (h : Geometry). All (λ (x : BlockNo). is_body h x.0 ≡ true) returned) may.tells.geometry may.amends.body in
      ap (is_body g) (sym found.2) ∙ All-contains (λ (x : BlockNo). is_body g x.0 ≡ true) returned found.0 all found.1

  bits : HasBitsOf g (λ b. false) (λ b. is_among b (numbers_in returned)) r0 r1
  bits =
      let then_bits = told_if (λ h i. HasBitsOf h (λ b. false) (λ b. is_among b (numbers_in returned)) (reading_of h (block i)) (reading_of h (with_part (block i) (home / 4096) (home % 4096) bytes))) g told.read.geometry base
      told.read.content may.tells.geometry may.tells.content may.amends.bits in
      subst (λ (at : ℕ). HasBitsOf g (λ b. false) (λ b. is_among b (numbers_in returned)) r0 (reading_of g (with_part (block base) (group_start g n) at bytes))) its_place
      (subst (λ (c : ℕ). HasBitsOf g (λ b. false) (λ b. is_among b (numbers_in returned)) r0 (reading_of g (with_part (block base) c (home % 4096) bytes))) its_block then_bits)

  -- a block that goes back had its bit set
  was_set : (b : ℕ) → is_body g b ≡ true → is_among b (numbers_in returned) ≡ true → block_bit g r0 b ≡ true
  was_set b body among = (and_parts (block_bit g r0 b) (not (block_bit g r1 b)) (bits.cleared b body ∙ among)).0

  live_after : (b : ℕ) → is_body g b ≡ true → is_live (owner_after g j (as_amended g n bytes returned) b) ≡ block_bit g r1 b
  live_after b body =
      ap (λ (t : Bool). is_live (cond t Released (j.owners b))) (sym (bits.cleared b body))
      ∙ by_bits (j.owners b) (block_bit g r0 b) (block_bit g r1 b) (may.read.owners b body) (bits.set b body)
    where
      by_bits : (owner : Owner) (b0 b1 : Bool) → is_live owner ≡ b0 → (not b0 && b1) ≡ false → is_live (cond (b0 && not b1) Released owner) ≡ b1
      by_bits owner true true is set = is
      by_bits owner true false is set = refl
      by_bits owner false true is set = absurd (true≢false set)
      by_bits owner false false is set = is

  moves_roles : MovesRoles g roles j (as_amended g n bytes returned) (roles_amended g r j n bytes)
  moves_roles = record {
    taken = λ b among. absurd (false≢true among);
    given_back = λ b among.
        let body = body_of b among in
        let free : has_claim (roles Running b) ≡ false = ap has_claim (may.read.claimed b) ∙ claim_of_role g (block base) hands stored b body ∙ unclaimed b among in
        (live_is (j.owners b) (may.read.owners b body ∙ was_set b body among), free, ap has_claim (role_same b) ∙ free);
    freed = λ b among. absurd (false≢true among);
    kept = λ b claimed free. role_same b;
    claimed = λ b free claimed. absurd (both_ways (has_claim (roles Running b)) free (sym (ap has_claim (role_same b)) ∙ claimed));
    covered = λ b m i free is low. absurd (both_ways (has_claim (roles Running b)) free (sym (ap has_claim (role_same b)) ∙ ap has_claim is));
    sizes = role_sizes g blocks then stored_after;
  }

  held_there : list_any (is_group_at home (length bytes)) j.running ≡ true
  held_there = sym (ap (λ (l : List Delta). list_any (is_group_at home (length bytes)) l) may.tells.held) ∙ may.amends.held

  -- the record lies on metadata
  is_suited : suits_block g r1 Group (home / 4096) ≡ true
  is_suited = (table_parts g Group home (length bytes) table).0

  laid_on_metadata : is_metadata (roles_amended g r j n bytes (home / 4096)) ≡ true
  laid_on_metadata =
      metadata_of_role g blocks then stored_after (home / 4096) ∙ lt-ltb 0 (metadata_length g r1 (home / 4096)) (suited_some g blocks then stored_after Group (home / 4096) is_suited)

  moves_deltas : MovesDeltas g roles j (as_amended g n bytes returned) (roles_amended g r j n bytes) (map (amended home bytes) j.running)
  moves_deltas = record {
    merged = amended_is_merged g n bytes table j.running safe.versions.loggable held_there;
    table = All-cons (λ e. may_be_logged g e.kind e.home e.len ≡ true) d [] (own g n bytes table).table (All-nil (λ e. may_be_logged g e.kind e.home e.len ≡ true));
    laid = All-cons (λ e. is_cancel e.kind ≡ false → is_metadata (roles_amended g r j n bytes (e.home / 4096)) ≡ true) d [] (λ lays. laid_on_metadata)
        (All-nil (λ e. is_cancel e.kind ≡ false → is_metadata (roles_amended g r j n bytes (e.home / 4096)) ≡ true));
    cancels = λ b. refl;
    room = omega (arith, amended_bytes home bytes j.running);
  }

  pub step_of_amended : Step g roles (present_of r) j (Changes (roles_amended g r j n bytes)) [] (journal_amended g j n bytes returned)
  step_of_amended = Apply (as_amended g n bytes returned) (roles_amended g r j n bytes) (map (amended home bytes) j.running) moves_roles moves_deltas

  one_delta : AreLoggable g (d ∷ [])
  one_delta = record {
    table = moves_deltas.table;
    order = λ i k e before inside. absurd (omega (arith, before, inside));
    bytes = All-cons (λ e. length e.bytes ≡ logged_len e.kind e.len) d [] (own g n bytes table).bytes (All-nil (λ e. length e.bytes ≡ logged_len e.kind e.len));
  }

  made : IsMadeBy (d ∷ []) base image
  made = laid_is_made g (d ∷ []) base one_delta size

  sound_image : Sound g (block image) then
  sound_image = subst (λ (x : Blocks). Sound g x then) (sym image_blocks) may.sound_after

  are_roles : AreRolesOf g (roles_amended g r j n bytes) (reading_of g (block image))
  are_roles = subst (λ (x : Blocks). AreRolesOf g (roles_amended g r j n bytes) (reading_of g x)) (sym image_blocks) (roles_of_volume g blocks then ok may.sound_after)

  pub reads_amended : reading_in g (journal_amended g j n bytes returned) (present_of r) Running ≡ reading_of g blocks
  reads_amended =
      changed_reading g roles r j safe (as_amended g n bytes returned) (roles_amended g r j n bytes) (map (amended home bytes) j.running) moves_roles moves_deltas image made then (shape_of (tree_of g (block image)))
      sound_image refl are_roles
      ∙ ap (reading_of g) image_blocks

  pub running_amended : IsRunningAs g (moved (Changes (roles_amended g r j n bytes)) roles) (present_of r) (journal_amended g j n bytes returned) then (shape_of (tree_of g (block base)))
  running_amended =
      let shape : shape_of (tree_of g (block image)) ≡ shape_of (tree_of g (block base)) = ap (λ (x : Blocks). shape_of (tree_of g x)) image_blocks ∙ shape_is in
      let w = changed_running g roles r j safe (as_amended g n bytes returned) (roles_amended g r j n bytes) (map (amended home bytes) j.running) moves_roles moves_deltas image made then
      (shape_of (tree_of g (block base))) sound_image shape are_roles in
      record { sound = w.sound; has = w.has; read = w.read }

  suited_amended : All (λ e. suits g r1 e ≡ true) (map (amended home bytes) j.running)
  suited_amended =
      All-map (λ e. suits g r1 e ≡ true) (amended home bytes) j.running
      (λ k e inside. let x = slice_index_or j.running k e in still x (may.read.suited k e inside))
    where
      same_suits : (e : Delta) → suits g r1 e ≡ suits g r0 e
      same_suits e = ap (λ (t : Bool). is_cancel e.kind || t) (suits_is e.kind (e.home / 4096))

      still : (e : Delta) → suits g r0 e ≡ true → suits g r1 (amended home bytes e) ≡ true
      still e is = elim (is_group_at home (length bytes) e) as (λ t. suits g r1 (cond t (record e { bytes = bytes }) e) ≡ true) [ true ↦ same_suits e ∙ is | false ↦ same_suits e ∙ is ]

  pub read_amended : IsRead g (moved (Changes (roles_amended g r j n bytes)) roles) (present_of r) (journal_amended g j n bytes returned)
  read_amended = record {
    claimed = λ b. ap (λ (s : Reading). role_of g s b) (sym reads_amended);
    owners = λ b body. live_after b body ∙ ap (λ (s : Reading). block_bit g s b) (sym reads_amended);
    suited = subst (λ (s : Reading). All (λ e. suits g s e ≡ true) (map (amended home bytes) j.running)) (sym reads_amended) suited_amended;
  }
