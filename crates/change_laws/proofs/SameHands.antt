-- What hands hold, counted over all of them, and what is so of all that hold the same.
use Rattle.std.proofs.Common.{◌≡◌, ◌<◌, ◌≤◌, ℕ, ◌+◌, Bool, true, false, ◌&&◌, ◌||◌, List, [], ◌∷◌, ◌++◌, Option, None, refl, sym, ap, ◌∙◌, arith, append_assoc}
use Rattle.std.specs.Prelude.{All, nat_lt, nat_le, is_some, sum_by, IsPermutation}
use Rattle.std.proofs.lemmas.Grind.{flat_map-append}
use Rattle.std.proofs.lemmas.List.Elements.{filter_map-append}
use Rattle.std.proofs.lemmas.List.Sums.{sum_by-cons}
use Rattle.std.proofs.lemmas.List.Sorted.{sum_by-IsPermutation}
use Rattle.lufs_base.specs.declared.geometry.Geometry.{Geometry}
use Rattle.volume_model.specs.declared.hand.Hand.{Hand}
use Rattle.volume_model.specs.Format.{Blocks, is_body}
use Rattle.volume_model.specs.Sound.{Reading, reading_of, inodes_in, used_at, is_claimed, held_inodes, held_blocks, is_among, AreApart, inode_bit, block_bit, differ, Sound, IsStored}
use Rattle.volume_laws.proofs.Counting.{times_apart}
use Rattle.volume_laws.proofs.SoundParts.{in_parts}
use Rattle.change_laws.specs.Hands.{times, HaveTheSame, HoldTheSame}
use Rattle.change_laws.proofs.Counts.{times-append, among_counted, holds_of, holds_of_all, apart_if_once}

pub blocks_of_both : (hands others : List Hand) (b : ℕ) → times b (held_blocks (hands ++ others)) ≡ times b (held_blocks hands) + times b (held_blocks others)
blocks_of_both hands others b =
    ap (times b) (flat_map-append (λ (h : Hand). h.blocks) hands others) ∙ times-append b (held_blocks hands) (held_blocks others)

pub inodes_of_both : (hands others : List Hand) (i : ℕ) → times i (held_inodes (hands ++ others)) ≡ times i (held_inodes hands) + times i (held_inodes others)
inodes_of_both hands others i =
    ap (times i) (filter_map-append (λ (h : Hand). h.inode) hands others) ∙ times-append i (held_inodes hands) (held_inodes others)

-- hand by hand
blocks_by_hand : (b : ℕ) (hands : List Hand) → times b (held_blocks hands) ≡ sum_by (λ hand. times b hand.blocks) hands
blocks_by_hand b [] = refl
blocks_by_hand b (hand ∷ hands) =
    omega (arith, times-append b hand.blocks (held_blocks hands), blocks_by_hand b hands, sum_by-cons (λ (h : Hand). times b h.blocks) hand hands)

inodes_by_hand : (i : ℕ) (hands : List Hand) → times i (held_inodes hands) ≡ sum_by (λ hand. times i (held_inodes (hand ∷ []))) hands
inodes_by_hand i [] = refl
inodes_by_hand i (hand ∷ hands) =
    omega (arith, inodes_of_both (hand ∷ []) hands i, inodes_by_hand i hands, sum_by-cons (λ (h : Hand). times i (held_inodes (h ∷ []))) hand hands)

pub hold_of_permutation : (hands others : List Hand) → IsPermutation hands others → HoldTheSame hands others
hold_of_permutation hands others moved = record {
  blocks = λ b. blocks_by_hand b others ∙ sum_by-IsPermutation (λ (h : Hand). times b h.blocks) hands others moved ∙ sym (blocks_by_hand b hands);
  inodes = λ i.
      inodes_by_hand i others ∙ sum_by-IsPermutation (λ (h : Hand). times i (held_inodes (h ∷ []))) hands others moved ∙ sym (inodes_by_hand i hands);
}

pub hold_of_both : (hands others more after : List Hand) → HoldTheSame hands others → HoldTheSame more after → HoldTheSame (hands ++ more) (others ++ after)
hold_of_both hands others more after first second = record {
  blocks = λ b. omega (arith, blocks_of_both hands more b, blocks_of_both others after b, first.blocks b, second.blocks b);
  inodes = λ i. omega (arith, inodes_of_both hands more i, inodes_of_both others after i, first.inodes i, second.inodes i);
}

pub hold_swapped : (hands others : List Hand) → HoldTheSame (hands ++ others) (others ++ hands)
hold_swapped hands others = record {
  blocks = λ b. omega (arith, blocks_of_both hands others b, blocks_of_both others hands b);
  inodes = λ i. omega (arith, inodes_of_both hands others i, inodes_of_both others hands i);
}

pub hold_to_front : (before after : List Hand) (hand : Hand) → HoldTheSame (before ++ (hand ∷ after)) (hand ∷ (before ++ after))
hold_to_front before after hand = record {
  blocks = λ b. omega (
    arith,
    blocks_of_both before (hand ∷ after) b,
    blocks_of_both (hand ∷ []) after b,
    blocks_of_both (hand ∷ []) (before ++ after) b,
    blocks_of_both before after b,
  );
  inodes = λ i. omega (
    arith,
    inodes_of_both before (hand ∷ after) i,
    inodes_of_both (hand ∷ []) after i,
    inodes_of_both (hand ∷ []) (before ++ after) i,
    inodes_of_both before after i,
  );
}

pub hold_divided : (inode : Option ℕ) (front back : List ℕ) (hands : List Hand)
    → HoldTheSame (record { inode = inode; blocks = front ++ back } ∷ hands) (record { inode = inode; blocks = front } ∷ (record { inode = None; blocks = back } ∷ hands))
hold_divided inode front back hands = record {
  blocks = λ b. ap (times b) (sym (append_assoc front back (held_blocks hands)));
  inodes = λ i. refl;
}

pub hold_of_blocks : (inode : Option ℕ) (numbers others : List ℕ) (hands : List Hand) → HaveTheSame numbers others
    → HoldTheSame (record { inode = inode; blocks = numbers } ∷ hands) (record { inode = inode; blocks = others } ∷ hands)
hold_of_blocks inode numbers others hands same = record {
  blocks = λ b. omega (arith, times-append b numbers (held_blocks hands), times-append b others (held_blocks hands), same b);
  inodes = λ i. refl;
}

module _ (hands others : List Hand) (same : HoldTheSame hands others) where
  pub apart_same : (g : Geometry) (r : Reading) → AreApart g r hands → AreApart g r others
  apart_same g r apart = record {
    inodes = apart_if_once (held_inodes others) (λ i. omega (arith, same.inodes i, times_apart i (held_inodes hands) apart.inodes));
    blocks = apart_if_once (held_blocks others) (λ b. omega (arith, same.blocks b, times_apart b (held_blocks hands) apart.blocks));
    inodes_usable = of_inodes (λ i. (2 ≤ i) × (i < inodes_in r)) apart.inodes_usable;
    inodes_free = of_inodes (λ i. used_at r i ≡ None) apart.inodes_free;
    blocks_body = of_blocks (λ b. is_body g b ≡ true) apart.blocks_body;
    blocks_free = of_blocks (λ b. is_claimed r b ≡ false) apart.blocks_free;
  }
    where
      of_inodes : (P : ℕ → Type 0) → All P (held_inodes hands) → All P (held_inodes others)
      of_inodes P each = holds_of_all P (held_inodes others) (λ i some. holds_of P (held_inodes hands) i each (omega (arith, some, same.inodes i)))

      of_blocks : (P : ℕ → Type 0) → All P (held_blocks hands) → All P (held_blocks others)
      of_blocks P each = holds_of_all P (held_blocks others) (λ b some. holds_of P (held_blocks hands) b each (omega (arith, some, same.blocks b)))

  among_inodes : (i : ℕ) → is_among i (held_inodes others) ≡ is_among i (held_inodes hands)
  among_inodes i = among_counted i (held_inodes others) ∙ ap (λ (k : ℕ). nat_lt 0 k) (same.inodes i) ∙ sym (among_counted i (held_inodes hands))

  among_blocks : (b : ℕ) → is_among b (held_blocks others) ≡ is_among b (held_blocks hands)
  among_blocks b = among_counted b (held_blocks others) ∙ ap (λ (k : ℕ). nat_lt 0 k) (same.blocks b) ∙ sym (among_counted b (held_blocks hands))

  pub stored_same : (g : Geometry) (r : Reading) → IsStored g r hands → IsStored g r others
  stored_same g r stored = record {
    groups = stored.groups;
    inodes = stored.inodes;
    numbers = stored.numbers;
    once = stored.once;
    chunks = stored.chunks;
    inode_bits = λ i within. ap (λ (t : Bool). nat_le 2 i && differ (inode_bit g r i) (is_some (used_at r i) || t)) (among_inodes i) ∙ stored.inode_bits i within;
    block_bits = λ b within. ap (λ (t : Bool). is_body g b && differ (block_bit g r b) (is_claimed r b || t)) (among_blocks b) ∙ stored.block_bits b within;
    counts = stored.counts;
    apart = apart_same g r stored.apart;
  }

  pub sound_same : (g : Geometry) (blocks : Blocks) → Sound g blocks hands → Sound g blocks others
  sound_same g blocks sound =
      let parts = (in_parts g blocks hands).0 sound in
      (in_parts g blocks others).1 (stored_same g (reading_of g blocks) parts.0, parts.1, parts.2)
