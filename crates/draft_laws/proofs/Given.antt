-- What deltas give of a block, with one more merged into them.
use Rattle.std.proofs.Common.{◌≡◌, ◌<◌, ◌≤◌, ℕ, ◌+◌, ◌-◌, ◌*◌, ◌/◌, ◌%◌, leb, ltb, Bool, true, false, ◌&&◌, cond, List, Option, Some, None, refl, sym, ap, ◌∙◌, arith}
use Rattle.std.specs.Prelude.{All, is_some}
use Rattle.std.specs.List.{last_or}
use Rattle.std.proofs.lemmas.Bool.{true≢false, and_from, le-leb, lt-ltb}
use Rattle.std.proofs.lemmas.List.Elements.{recursion_from_All}
use Rattle.lufs_base.specs.Kinds.{has_bytes}
use Rattle.lufs_base.specs.declared.geometry.Geometry.{Geometry}
use Rattle.lufs_base.specs.declared.delta.Delta.{Delta}
use Rattle.lufs_base.specs.declared.delta.DeltaKind.{DeltaKind}
use Rattle.lufs_base.specs.declared.delta.DeltaKind.TheVariants.{Group, Inode, Chunk, Pointers, Zero, LinkText, Cancel}
use Rattle.volume_model.specs.Log.{AreLoggable, is_cancel, is_zero_block, byte_of, given_at}
use Rattle.meta_store.specs.Laid.{IsWithinBlock}
use Rattle.meta_store.specs.Conditions.{is_given}
use Rattle.meta_store.proofs.LogLaid.{given_by_block}
use Rattle.meta_store.proofs.MergedTable.{IsLoggable, each_loggable, all_within}
use Rattle.meta_draft.proofs.Later.{later}
use Rattle.meta_draft.proofs.MergedLays.{last_at, merged_gives}
use Rattle.meta_store.specs.Merged.{stands_beside, merged}
use Rattle.meta_store.proofs.MergedOrder.{merged_are_loggable}

-- whether a byte is given, by its address
given_at_address : (g : Geometry) (deltas : List Delta) (b place : ℕ) → AreLoggable g deltas → place < 4096 → is_given deltas b place ≡ is_some (last_at (4096 * b + place) deltas)
given_at_address g deltas b place are low =
    ap (λ (l : List ℕ). is_some (last_or None l)) (given_by_block b place (4096 * b + place) deltas low refl (recursion_from_All IsWithinBlock deltas (all_within g deltas are)))

kept_some : (o p : Option ℕ) → is_some p ≡ true → is_some (later o p) ≡ true
kept_some (Some y) p some = refl
kept_some None p some = some

first_some : (o p : Option ℕ) → is_some o ≡ true → is_some (later o p) ≡ true
first_some (Some y) p some = refl
first_some None p some = absurd (true≢false (sym some))

gives_byte : (kind : DeltaKind) (byte : ℕ) → is_cancel kind ≡ false → is_some (cond (has_bytes kind) (Some byte) (cond (is_zero_block kind) (Some 0) None)) ≡ true
gives_byte Group byte lays = refl
gives_byte Inode byte lays = refl
gives_byte Chunk byte lays = refl
gives_byte Pointers byte lays = refl
gives_byte Zero byte lays = refl
gives_byte LinkText byte lays = refl
gives_byte Cancel byte lays = absurd (true≢false lays)

-- a byte of what was merged
gives_then : (g : Geometry) (a : ℕ) (deltas : List Delta) (d : Delta) → AreLoggable g deltas → IsLoggable g d → All (λ older. stands_beside d older ≡ true) deltas
    → (is_cancel d.kind ≡ true → d.home / 4096 ≡ a / 4096 → ⊥) → last_at a (merged deltas d) ≡ later (given_at a d) (last_at a deltas)
gives_then g a deltas d are own beside away = merged_gives g a deltas d (each_loggable g deltas are) own are.order (merged_are_loggable g deltas d are own).order beside away

module _ (g : Geometry) (deltas : List Delta) (d : Delta) (are : AreLoggable g deltas) (own : IsLoggable g d) (beside : All (λ older. stands_beside d older ≡ true) deltas) where
  -- what was given still is, but where a cancel lies
  pub given_still : (b place : ℕ) → (is_cancel d.kind ≡ true → d.home / 4096 ≡ b → ⊥) → place < 4096 → is_given deltas b place ≡ true → is_given (merged deltas d) b place ≡ true
  given_still b place away low given =
      let a = 4096 * b + place in
      let block : a / 4096 ≡ b = omega (arith, low) in
      given_at_address g (merged deltas d) b place (merged_are_loggable g deltas d are own) low
      ∙ ap is_some (gives_then g a deltas d are own beside (λ cancel same. away cancel (same ∙ block)))
      ∙ kept_some (given_at a d) (last_at a deltas) (sym (given_at_address g deltas b place are low) ∙ given)

  -- and what the new one covers is
  pub given_new : (b place : ℕ) → is_cancel d.kind ≡ false → d.home / 4096 ≡ b → d.home % 4096 ≤ place → place < d.home % 4096 + d.len → place < 4096 → is_given (merged deltas d) b place ≡ true
  given_new b place lays same from below low =
      let a = 4096 * b + place in
      let covers : (leb d.home a && ltb a (d.home + d.len)) ≡ true =
      and_from (leb d.home a) (ltb a (d.home + d.len)) (le-leb d.home a (omega (arith, same, from))) (lt-ltb a (d.home + d.len) (omega (arith, same, below))) in
      let some : is_some (given_at a d) ≡ true =
      ap (λ (test : Bool). is_some (cond test (byte_of d (a - d.home)) None)) covers ∙ gives_byte d.kind _ lays in
      given_at_address g (merged deltas d) b place (merged_are_loggable g deltas d are own) low
      ∙ ap is_some (gives_then g a deltas d are own beside (λ cancel same. true≢false (sym cancel ∙ lays)))
      ∙ first_some (given_at a d) (last_at a deltas) some
