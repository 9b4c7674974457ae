-- What is put back part by part.
use Rattle.std.proofs.Common.{◌≡◌, ◌≢◌, ◌<◌, inl, inr, ℕ, Bool, true, false, not, ◌&&◌, ◌||◌, cond, List, [], ◌∷◌, length, map, Option, Some, None, IfSome, refl, sym, ap, ◌∙◌, subst}
use Rattle.std.specs.Prelude.{is_some, ◌==◌}
use Rattle.std.specs.List.{list_any}
use Rattle.std.proofs.lemmas.Bool.{cases_Bool, and_parts, eqb-true, false≢true}
use Rattle.lufs_base.specs.Layout.{group_start, blocks_of}
use Rattle.lufs_base.specs.declared.geometry.Geometry.{Geometry}
use Rattle.lufs_base.specs.declared.delta.Delta.{Delta}
use Rattle.volume_model.specs.declared.hand.Hand.{Hand}
use Rattle.volume_model.specs.Format.{Image, Blocks, block}
use Rattle.volume_model.specs.Sound.{is_among, Tree, StandsFor}
use Rattle.change_laws.specs.Hands.{HoldTheSame}
use Rattle.change_laws.proofs.SameHands.{sound_same}
use Rattle.meta_store.specs.Changing.{AllTold, IsAsBefore}
use Rattle.meta_store.specs.Changes.{is_group_at, amended}
use Rattle.meta_store.specs.Merged.{is_group}
use Rattle.meta_store.proofs.PlainSteps.{any_of_map}
use Rattle.block_alloc.specs.Marking.{HasPutBack}

-- hands that hold the same stand for the same tree
pub stands_alike : (g : Geometry) (blocks : Blocks) (tree : Tree) (hands others : List Hand) → HoldTheSame hands others → StandsFor g blocks tree hands → StandsFor g blocks tree others
stands_alike g blocks tree hands others same stands = record { sound = sound_same hands others same g blocks stands.sound; stands = stands.stands }

-- a record that is amended is at its place still
amended_place : (home other n : ℕ) (bytes : List ℕ) (d : Delta) → is_group_at other n (amended home bytes d) ≡ is_group_at other n d
amended_place home other n bytes d = elim (cases_Bool (is_group_at home (length bytes) d)) [
  | inl is ↦
      let size : length bytes ≡ length d.bytes = sym (eqb-true (length d.bytes) (length bytes) (and_parts _ (length d.bytes == length bytes) is).1) in
      ap (λ (t : Bool). is_group_at other n (cond t (record d { bytes = bytes }) d)) is
      ∙ ap (λ (k : ℕ). is_group d.kind && d.home == other && k == n) size
  | inr not ↦ ap (λ (t : Bool). is_group_at other n (cond t (record d { bytes = bytes }) d)) not
]

any_alike : {X : Type 0} (p q : X → Bool) (xs : List X) → ((x : X) → p x ≡ q x) → list_any p xs ≡ list_any q xs
any_alike p q [] same = refl
any_alike p q (x ∷ xs) same = (λ t. same x t || list_any p xs) ∙ ap (λ (b : Bool). q x || b) (any_alike p q xs same)

pub places_stay : (home other n : ℕ) (bytes : List ℕ) (held : List Delta) → list_any (is_group_at other n) (map (amended home bytes) held) ≡ list_any (is_group_at other n) held
places_stay home other n bytes held =
    any_of_map (is_group_at other n) (amended home bytes) held
    ∙ any_alike (λ d. is_group_at other n (amended home bytes d)) (is_group_at other n) held (amended_place home other n bytes)

-- two parts that were put back, one after the other
joined_parts : (old whole rest less : Bool) → (rest ≡ true → whole ≡ true) → (less ≡ true → rest ≡ true) → ((old || (whole && not rest)) || (rest && not less)) ≡ (old || (whole && not less))
joined_parts true whole rest less first last = refl
joined_parts false true true true first last = refl
joined_parts false true true false first last = refl
joined_parts false true false true first last = absurd (false≢true (last refl))
joined_parts false true false false first last = refl
joined_parts false false true less first last = absurd (false≢true (first refl))
joined_parts false false false true first last = absurd (false≢true (last refl))
joined_parts false false false false first last = refl

left_parts : (old whole rest less : Bool) → (rest ≡ true → whole ≡ true) → (less ≡ true → rest ≡ true) → ((old && not (whole && not rest)) && not (rest && not less)) ≡ (old && not (whole && not less))
left_parts false whole rest less first last = refl
left_parts true true true true first last = refl
left_parts true true true false first last = refl
left_parts true true false true first last = absurd (false≢true (last refl))
left_parts true true false false first last = refl
left_parts true false true less first last = absurd (false≢true (first refl))
left_parts true false false true first last = absurd (false≢true (last refl))
left_parts true false false false first last = refl

stands_both : (g h : Geometry) (first mid last : Option Image) (one two three : List Hand) (tree : Tree) → h ≡ g → is_some mid ≡ is_some first
    → IfSome first (λ a. IfSome mid (λ b. StandsFor g (block a) tree one → StandsFor g (block b) tree two))
    → IfSome mid (λ b. IfSome last (λ c. StandsFor h (block b) tree two → StandsFor h (block c) tree three))
    → IfSome first (λ a. IfSome last (λ c. StandsFor g (block a) tree one → StandsFor g (block c) tree three))
stands_both g h None mid last one two three tree same tells before after = tt
stands_both g h (Some a) None last one two three tree same tells before after = absurd (false≢true tells)
stands_both g h (Some a) (Some b) None one two three tree same tells before after = tt
stands_both g h (Some a) (Some b) (Some c) one two three tree same tells before after = λ stands.
    subst (λ (k : Geometry). StandsFor k (block b) tree two → StandsFor k (block c) tree three) same after (before stands)

-- of these contents each block but those of groups is as it was
abbrev pub IsElsewhere : Geometry → (first last : Option Image) → Type 0
IsElsewhere g first last = IfSome first (λ image. IfSome last (λ now. (b : ℕ) → b < blocks_of g → ((n : ℕ) → n < g.groups → b ≢ group_start g n) → block now b ≡ block image b))

elsewhere_both : (g h : Geometry) (first mid last : Option Image) → h ≡ g → is_some mid ≡ is_some first → IsElsewhere g first mid → IsElsewhere h mid last → IsElsewhere g first last
elsewhere_both g h None mid last same tells before after = tt
elsewhere_both g h (Some a) None last same tells before after = absurd (false≢true tells)
elsewhere_both g h (Some a) (Some b) None same tells before after = tt
elsewhere_both g h (Some a) (Some b) (Some c) same tells before after =
    let then : IsElsewhere g (Some b) (Some c) = subst (λ (k : Geometry). IsElsewhere k (Some b) (Some c)) same after in
    λ n inside away. then n inside away ∙ before n inside away

pub put_back_then : (hand rest less : Hand) (old mid new : AllTold) → ((b : ℕ) → is_among b rest.blocks ≡ true → is_among b hand.blocks ≡ true)
    → ((b : ℕ) → is_among b less.blocks ≡ true → is_among b rest.blocks ≡ true) → HasPutBack hand rest old mid → HasPutBack rest less mid new → HasPutBack hand less old new
put_back_then hand rest less old mid new first last before after = record {
  geometry = after.geometry ∙ before.geometry;
  tells = after.tells ∙ before.tells;
  stands = λ tree hands. stands_both old.read.geometry mid.read.geometry old.read.content mid.read.content new.read.content (hand ∷ hands) (rest ∷ hands) (less ∷ hands) tree before.geometry
      before.tells (before.stands tree hands) (after.stands tree hands);
  elsewhere = elsewhere_both old.read.geometry mid.read.geometry old.read.content mid.read.content new.read.content before.geometry before.tells before.elsewhere after.elsewhere;
  released = λ b. after.released b ∙ ap (λ (t : Bool). t || (is_among b rest.blocks && not (is_among b less.blocks))) (before.released b)
      ∙ joined_parts (old.changing.is_released b) (is_among b hand.blocks) (is_among b rest.blocks) (is_among b less.blocks) (first b) (last b);
  taken = λ b. after.taken b ∙ ap (λ (t : Bool). t && not (is_among b rest.blocks && not (is_among b less.blocks))) (before.taken b)
      ∙ left_parts (old.changing.is_taken b) (is_among b hand.blocks) (is_among b rest.blocks) (is_among b less.blocks) (first b) (last b);
  freed = λ b. after.freed b ∙ before.freed b;
  held = λ home bytes. after.held home bytes ∙ before.held home bytes;
  room = after.room ∙ before.room;
  disk = record {
    sectors = after.disk.sectors ∙ before.disk.sectors;
    content = after.disk.content ∙ before.disk.content;
    listed = after.disk.listed ∙ before.disk.listed;
    calls = after.disk.calls ∙ before.disk.calls;
  };
}

-- nothing was put back of a store that was only read
kept_or : (bit whole : Bool) → bit ≡ (bit || (whole && not whole))
kept_or true whole = refl
kept_or false true = refl
kept_or false false = refl

kept_and : (bit whole : Bool) → bit ≡ (bit && not (whole && not whole))
kept_and false whole = refl
kept_and true true = refl
kept_and true false = refl

stands_still : (g : Geometry) (first last : Option Image) (tree : Tree) (hands : List Hand) → last ≡ first
    → IfSome first (λ a. IfSome last (λ b. StandsFor g (block a) tree hands → StandsFor g (block b) tree hands))
stands_still g None last tree hands same = tt
stands_still g (Some a) last tree hands same =
    subst (λ (o : Option Image). IfSome o (λ b. StandsFor g (block a) tree hands → StandsFor g (block b) tree hands)) (sym same) (λ stands. stands)

elsewhere_still : (g : Geometry) (first last : Option Image) → last ≡ first → IsElsewhere g first last
elsewhere_still g None last same = tt
elsewhere_still g (Some a) last same = subst (λ (o : Option Image). IsElsewhere g (Some a) o) (sym same) (λ b inside away. refl)

pub nothing_put_back : (hand : Hand) (old new : AllTold) → IsAsBefore old new → HasPutBack hand hand old new
nothing_put_back hand old new same = record {
  geometry = same.read.geometry;
  tells = ap is_some same.read.content;
  stands = λ tree hands. stands_still old.read.geometry old.read.content new.read.content tree (hand ∷ hands) same.read.content;
  elsewhere = elsewhere_still old.read.geometry old.read.content new.read.content same.read.content;
  released = λ b. same.changing.released b ∙ kept_or (old.changing.is_released b) (is_among b hand.blocks);
  taken = λ b. same.changing.taken b ∙ kept_and (old.changing.is_taken b) (is_among b hand.blocks);
  freed = same.changing.freed;
  held = λ home bytes. ap (list_any (is_group_at home bytes)) same.changing.held;
  room = same.changing.room;
  disk = same.read.disk;
}

-- a store is as it is
pub as_before : (told : AllTold) → IsAsBefore told told
as_before told = record {
  read = record { geometry = refl; content = refl; disk = record { sectors = refl; content = refl; listed = refl; calls = refl } };
  changing = record { released = λ b. refl; held = refl; taken = λ b. refl; freed = λ b. refl; room = refl };
}
