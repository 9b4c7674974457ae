use Rattle.std.proofs.Common.{◌≡◌, ℕ, Bool, List, length, Option, Ok, ap, ◌∙◌, arith}
use Rattle.std.specs.Prelude.{nat_lt}
use Rattle.std.specs.Option.{option_map}
use Rattle.volume_model.specs.declared.directory.Slot.{Slot}
use Rattle.volume_model.specs.Sound.{Tree}
use Rattle.meta_store.specs.Changes.{changed}
use Rattle.history_model.specs.Names.{in_order, names_after}
use Rattle.meta_draft.specs.Drafted.{drafted}
use Rattle.dir_reads.specs.Chunks.{slots_in}
use Rattle.dir_reads.specs.Names.{names_in, first_names}
use Rattle.dir_reads.proofs.FoundSlots.{on_tree, names_listed}
use Rattle.dir_reads.proofs.NamesInOrder.{list_read}
use Rattle.dir_reads.proofs.listing.entries.Goals as goal

pub returns-clause-value : goal.returns-clause-value
returns-clause-value g c =
    let change = c.args.draft.now.change in
    let told = drafted change (g.S.MetaRead.store c.args.store.now) in
    let now = drafted change (g.S.MetaRead.store c.open_chunks.new.store) in
    let same = ap (option_map (changed change)) c.in_ok-directory.ensures.unchanged.content in
    let after : Option (List ℕ) = option_map (λ n. n.now) c.args.after in
    let most = c.args.most in
    let first : List (List ℕ) = c.in_ok-names.names.items in
    let names : List (List ℕ) = c.in_ok-list_of.field-0 in
    let size : c.len.result ≡ length first = omega (arith, c.len.ensures, c.in_ok-names.names.ok) in
    on_tree {X = List (List ℕ) × Bool} (λ (x : List (List ℕ) × Bool). x) (λ (chunks : List (List Slot)). first_names most (in_order (names_in after (slots_in chunks))))
    (λ (tree : Tree). first_names most (names_after tree c.args.dir.0 after))
    told.content now.content told.geometry c.args.dir.0 c.in_ok-directory.directory (Ok (names, nat_lt most c.len.result)) same (names_listed c.args.dir.0 most after)
    c.in_ok-directory.ensures.value
    (list_read now.content c.in_ok-directory.directory after most first names (nat_lt most c.len.result) (c.in_ok-list_of.ensures ∙ c.truncate.ensures.items) (ap (nat_lt most) size)
    c.in_ok-names.ensures.value)
