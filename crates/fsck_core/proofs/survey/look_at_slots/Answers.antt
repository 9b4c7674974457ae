use Rattle.std.proofs.Common.{List, None, Some, Option, Vec, Global, map, option_map, refl, sym, subst}
use Rattle.volume_model.specs.Sound.{has_bad_bytes, has_bad_slots, names_in_reading}
use Rattle.std.proofs.lemmas.Bool.{or_left}
use Rattle.fsck_core.specs.declared.entries.Entry.{Entry}
use Rattle.fsck_core.specs.Slots.{slot_of, chunks_in, AreSlots}
use Rattle.fsck_core.specs.Survey.{AreSlotsOf}
use Rattle.fsck_core.proofs.SurveySteps.{bad_chunk_seen}
use Rattle.fsck_core.proofs.survey.look_at_slots.Goals as goal

pub returns-in-Some-clause-names : goal.returns-in-Some-clause-names
returns-in-Some-clause-names c = λ n r are none has.
    let chunks = chunks_in c.args.bytes.now c.args.chunks in
    let items = c.in-Some.slots.items in
    let read : AreSlots chunks (Some (map slot_of items)) =
    subst (λ (o : Option (Vec Entry Global)). AreSlots chunks (option_map (λ v. map slot_of v.items) o)) c.in-Some.is c.in_ok-slots.ensures in
    let slots : AreSlotsOf n r c.args.inodes.now c.args.i (map slot_of c.deref.result.now) =
    subst (λ (l : List Entry). AreSlotsOf n r c.args.inodes.now c.args.i (map slot_of l)) (sym c.deref.ensures.value) (are.good (map slot_of items) read) in
    c.enter.ensures.names n r slots none has

pub returns-in-None-clause-names : goal.returns-in-None-clause-names
returns-in-None-clause-names c = λ n r are none has.
    let chunks = chunks_in c.args.bytes.now c.args.chunks in
    let read : AreSlots chunks None =
    subst (λ (o : Option (Vec Entry Global)). AreSlots chunks (option_map (λ v. map slot_of v.items) o)) c.in-None.is c.in_ok-slots.ensures in
    bad_chunk_seen n c.args.i r c.args.survey.now _ has none (or_left (has_bad_bytes r c.args.i) (has_bad_slots (names_in_reading r) c.args.i) (are.bad read)) refl
