-- The deltas of each of the four changes may be those of one transaction.
use Rattle.std.proofs.Common.{◌≡◌, eqb, Bool, true, ◌&&◌, List, [], ◌∷◌, length, refl, arith}
use Rattle.std.specs.Prelude.{AllPairs}
use Rattle.std.specs.List.{list_all}
use Rattle.std.proofs.lemmas.Bool.{and_parts, eqb-true}
use Rattle.std.proofs.lemmas.List.Elements.{All-weaker}
use Rattle.std.proofs.lemmas.List.Kept.{AllPairs-cons}
use Rattle.std.proofs.lemmas.List.Sums.{AllPass-from_list_all}
use Rattle.lufs_base.specs.declared.delta.Delta.{Delta}
use Rattle.volume_model.specs.Format.{group_bytes, dinode_bytes}
use Rattle.volume_model.specs.Log.{AreLoggable, may_be_logged, may_precede, logged_len}
use Rattle.volume_model.specs.Worked.{smallest}
use Rattle.worked_session.specs.FourChanges.{mkdir_change, rmdir_change, create_change, write_change}

are_in_order : List Delta → Bool
are_in_order [] = true
are_in_order (d ∷ deltas) = list_all (λ x. may_precede d x.kind x.home) deltas && are_in_order deltas

in_order : (deltas : List Delta) → are_in_order deltas ≡ true → AllPairs (λ d later. may_precede d later.kind later.home ≡ true) deltas
unfolding are_in_order
in_order [] test = λ i j d before inside. absurd (omega arith)
in_order (d ∷ deltas) test =
    let both = and_parts (list_all (λ x. may_precede d x.kind x.home) deltas) (are_in_order deltas) test in
    AllPairs-cons (λ d later. may_precede d later.kind later.home ≡ true) d deltas (AllPass-from_list_all (λ x. may_precede d x.kind x.home) deltas both.0) (in_order deltas both.1)

by_tests : (deltas : List Delta) → list_all (λ d. may_be_logged smallest d.kind d.home d.len) deltas ≡ true → are_in_order deltas ≡ true
    → list_all (λ d. eqb (length d.bytes) (logged_len d.kind d.len)) deltas ≡ true → AreLoggable smallest deltas
by_tests deltas table order bytes = record {
  table = AllPass-from_list_all (λ d. may_be_logged smallest d.kind d.home d.len) deltas table;
  order = in_order deltas order;
  bytes = All-weaker (λ d. eqb (length d.bytes) (logged_len d.kind d.len) ≡ true) (λ d. length d.bytes ≡ logged_len d.kind d.len) (λ d same. eqb-true (length d.bytes) (logged_len d.kind d.len) same) deltas
      (AllPass-from_list_all (λ d. eqb (length d.bytes) (logged_len d.kind d.len)) deltas bytes);
}

pub mkdir_loggable : AreLoggable smallest mkdir_change.deltas
unfolding are_in_order may_be_logged may_precede group_bytes dinode_bytes
mkdir_loggable = by_tests mkdir_change.deltas refl refl refl

pub rmdir_loggable : AreLoggable smallest rmdir_change.deltas
unfolding are_in_order may_be_logged may_precede group_bytes dinode_bytes
rmdir_loggable = by_tests rmdir_change.deltas refl refl refl

pub create_loggable : AreLoggable smallest create_change.deltas
unfolding are_in_order may_be_logged may_precede group_bytes dinode_bytes
create_loggable = by_tests create_change.deltas refl refl refl

pub write_loggable : AreLoggable smallest write_change.deltas
unfolding are_in_order may_be_logged may_precede group_bytes dinode_bytes
write_loggable = by_tests write_change.deltas refl refl refl
