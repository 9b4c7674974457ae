use Rattle.std.proofs.Common.{rules, ◌≡◌, ◌≤◌, ℕ, ◌+◌, eqb, not, List, length, ap, sym, subst, ◌∙◌, arith}
use Rattle.std.specs.List.{list_any, filter}
use Rattle.std.proofs.lemmas.Fn.{filter_same}
use Rattle.std.proofs.lemmas.List.Elements.{filter_agree}
use Rattle.lufs_base.specs.declared.delta.Delta.{Delta}
use Rattle.lufs_base.specs.declared.numbers.BlockNo.{BlockNo}
use Rattle.volume_model.specs.Sound.{is_among}
use Rattle.meta_store.specs.Changes.{numbers_in}
use Rattle.meta_store.proofs.LogLaid.{logged_within}
use Rattle.meta_store.proofs.PutBytes.{length-put_at}
use Rattle.meta_store.proofs.PlainSteps.{any_of_map, logged_inside, amends}
use Rattle.meta_store.proofs.MergedTable.{all_amended}
use Rattle.volume_model.specs.Log.{AreLoggable}
use Rattle.meta_store.proofs.plain.PlainStoreMetaStore.amend.Goals as goal

pub put-requires : goal.put-requires
put-requires c =
    let s = c.args.self.now in
    let place = c.requires.may.place in
    omega (arith, logged_within s.geometry _ c.args.home (length c.args.bytes.now) place, logged_inside s.geometry _ c.args.home (length c.args.bytes.now) place, s.whole)

pub invariant_of-self : goal.invariant_of-self
invariant_of-self c =
    let s = c.args.self.now in
    let home = c.args.home in
    let bytes : List ℕ = c.args.bytes.now in
    let place = c.requires.may.place in
    let fits : home + length bytes ≤ length s.image.items = omega (arith, logged_within s.geometry _ home (length bytes) place, logged_inside s.geometry _ home (length bytes) place, s.whole) in
    let size : length c.put.new.image.items ≡ length s.image.items = ap length c.put.ensures ∙ length-put_at s.image.items home bytes fits in
    record {
      in_range = s.in_range;
      whole = omega (arith, s.whole, size);
      loggable = subst (λ (l : List Delta). AreLoggable s.geometry l) (sym c.amend_held.ensures) (all_amended s.geometry home bytes s.held.items s.loggable);
    }

pub returns : goal.returns
returns c =
    let s = c.args.self.now in
    let returned : List BlockNo = c.args.returned.now in
    let kept : c.retain.new.self.items ≡ filter (λ b. not (list_any (λ x. eqb x.0 b) returned)) s.taken.items = filter_same _ (λ b. not (list_any (λ x. eqb x.0 b) returned)) _ (λ x b f' k. search rules) s.taken.items c.retain.new.self.items c.retain.ensures.filtered in
    amends s.geometry s.image.items c.put.new.image.items s.held.items c.amend_held.new.held.items s.taken.items c.retain.new.self.items s.freed.items c.args.home c.args.bytes.now returned s.in_range
    (omega (arith, s.whole)) c.requires.may c.put.ensures c.amend_held.ensures
    (kept ∙ filter_agree (λ b. not (list_any (λ x. eqb x.0 b) returned)) (λ b. not (is_among b (numbers_in returned))) (λ b. ap not (sym (any_of_map (λ m. eqb m b) (λ x. x.0) returned))) s.taken.items)
