-- The last of deltas in order decides alone which may follow.
use Rattle.std.proofs.Common.{◌≡◌, ℕ, ◌+◌, ◌-◌, Bool, true, false, subst, IfSome, ◌&&◌, List, [], ◌∷◌, ◌++◌, length, Option, Some, None, refl, sym, ap, ◌∙◌, arith}
use Rattle.std.specs.List.{list_all}
use Rattle.std.proofs.lemmas.List.{length_push, get_or_push}
use Rattle.std.proofs.lemmas.List.Folds.{list_all-append}
use Rattle.std.proofs.lemmas.Option.{slice_get-get_or}
use Rattle.lufs_base.specs.declared.geometry.Geometry.{Geometry}
use Rattle.lufs_base.specs.declared.delta.Delta.{Delta}
use Rattle.lufs_base.specs.declared.delta.DeltaKind.{DeltaKind}
use Rattle.volume_model.specs.Log.{may_precede}
use Rattle.log_laws.proofs.DeltaOrder.{may_precede_through}
use Rattle.log_format.specs.InOrder.{last_of, may_stand_after, MayBeLogged, InOrder}

-- a test that follows from another one decides with it
absorbs : (x y : Bool) → (y ≡ true → x ≡ true) → (x && (y && true)) ≡ y
absorbs true true follows = refl
absorbs true false follows = refl
absorbs false true follows = follows refl
absorbs false false follows = refl

-- the last of the deltas with one more
last_pushed : (deltas : List Delta) (d : Delta) → last_of (deltas ++ d ∷ []) ≡ Some d
last_pushed deltas d =
    let size : length (deltas ++ d ∷ []) ≡ length deltas + 1 = length_push deltas d in
    slice_get-get_or (deltas ++ d ∷ []) (length (deltas ++ d ∷ []) - 1) d (omega arith)
    ∙ ap (λ x. Some x) (get_or_push deltas d d (length (deltas ++ d ∷ []) - 1) (omega arith))

-- what may stand after a delta after the last one, may stand after that
through_last : (g : Geometry) (last : Option Delta) (d : Delta) (kind : DeltaKind) (home : ℕ) → IfSome last (MayBeLogged g) → MayBeLogged g d
    → may_stand_after last d.kind d.home ≡ true → may_precede d kind home ≡ true → may_stand_after last kind home ≡ true
through_last g None d kind home last_may d_may first second = refl
through_last g (Some p) d kind home last_may d_may first second = may_precede_through g p d kind home last_may d_may first second

pub InOrder-nil : (g : Geometry) → InOrder g []
InOrder-nil g = record { last_logged = tt; last_decides = λ kind home. refl }

pub InOrder-push : (g : Geometry) (deltas : List Delta) (d : Delta) → InOrder g deltas → MayBeLogged g d
    → list_all (λ e. may_precede e d.kind d.home) deltas ≡ true → InOrder g (deltas ++ d ∷ [])
InOrder-push g deltas d order d_may all =
    let first : may_stand_after (last_of deltas) d.kind d.home ≡ true = sym (order.last_decides d.kind d.home) ∙ all in
    record {
      last_logged = subst (λ (last : Option Delta). IfSome last (MayBeLogged g)) (sym (last_pushed deltas d)) d_may;
      last_decides = λ kind home.
          list_all-append (λ e. may_precede e kind home) deltas (d ∷ [])
          ∙ absorbs (list_all (λ e. may_precede e kind home) deltas) (may_precede d kind home)
          (λ second. order.last_decides kind home ∙ through_last g (last_of deltas) d kind home order.last_logged d_may first second)
          ∙ ap (λ (last : Option Delta). may_stand_after last kind home) (sym (last_pushed deltas d));
    }
