-- The change of nothing may always be applied.
use Rattle.std.proofs.Common.{◌≡◌, ◌≤◌, ℕ, Bool, true, false, not, ◌&&◌, Option, Some, None, IfSome, refl, sym, subst, arith}
use Rattle.std.proofs.lemmas.Bool.{false≢true, both_ways}
use Rattle.lufs_base.specs.declared.geometry.Geometry.{Geometry}
use Rattle.volume_model.specs.Format.{Image, block}
use Rattle.volume_model.specs.Sound.{Reading, reading_of, block_bit, is_claimed}
use Rattle.meta_store.specs.NoChange.{no_change}
use Rattle.meta_store.specs.Changing.{AllTold}
use Rattle.meta_store.specs.Changes.{changed}
use Rattle.meta_store.specs.Conditions.{MayFollow, MayApply}
use Rattle.meta_store.proofs.ImageLaid.{nothing_over}

not_both : (bit : Bool) → (not bit && bit) ≡ false
not_both true = refl
not_both false = refl

not_either : (bit : Bool) → (bit && not bit) ≡ false
not_either true = refl
not_either false = refl

nothing_follows : (g : Geometry) (taken : ℕ → Bool) (r : Reading) → MayFollow g no_change taken r r
nothing_follows g taken r =
    record {
      raw_before = λ k w inside. absurd (omega (arith, inside));
      raw_after = λ k w inside. absurd (omega (arith, inside));
      deltas = λ k d inside. absurd (omega (arith, inside));
      suited = λ k d inside. absurd (omega (arith, inside));
      kept = λ b kept. omega arith;
      given = λ b place from below. absurd (omega (arith, from, below));
      fresh = λ b none some. absurd (omega (arith, none, some));
      stays = λ b is kept. record { claimed = is; kinds = λ kind. refl; length = λ none. refl };
      claimed = λ b none is. absurd (both_ways (is_claimed r b) none is);
      marked = λ b is. absurd (false≢true is);
      bits = record { set = λ b body. not_both (block_bit g r b); cleared = λ b body. not_either (block_bit g r b) };
    }

by_content : (g : Geometry) (taken : ℕ → Bool) (content : Option Image) → IfSome content (λ image. MayFollow g no_change taken (reading_of g (block image)) (reading_of g (block (changed no_change image))))
by_content g taken None = tt
by_content g taken (Some image) =
    subst (λ (after : Image). MayFollow g no_change taken (reading_of g (block image)) (reading_of g (block after))) (sym (nothing_over image)) (nothing_follows g taken (reading_of g (block image)))

no_room : (room : Option ℕ) → IfSome room (λ room. 0 ≤ room)
no_room None = tt
no_room (Some room) = omega arith

pub nothing_applied : (told : AllTold) → MayApply no_change told
nothing_applied told =
    record {
      taken = λ k b inside. absurd (omega (arith, inside));
      deltas = record { table = λ k d inside. absurd (omega (arith, inside)); order = λ i j d before inside. absurd (omega (arith, inside)); bytes = λ k d inside. absurd (omega (arith, inside)) };
      cancels = λ b. refl;
      raw = λ k w inside. absurd (omega (arith, inside));
      room = no_room told.changing.room;
      content = by_content told.read.geometry _ told.read.content;
    }
