-- An entry begins, a reply is told, a roll is noted: the history goes on, and the disk and the journal stay.
use Rattle.std.proofs.Common.{◌≡◌, ◌≤◌, ◌<◌, ℕ, zero, suc, ◌-◌, true, false, List, [], ◌∷◌, ◌++◌, length, Option, Some, None, sym, ap, ◌∙◌, subst, arith}
use Rattle.std.specs.Prelude.{IfSome}
use Rattle.std.specs.Option.{option_map_or}
use Rattle.std.specs.List.{AllByRecursion}
use Rattle.std.proofs.lemmas.List.{append-nil}
use Rattle.lufs_base.specs.declared.geometry.Geometry.{Geometry}
use Rattle.tree_types.specs.declared.history.Entry.{Entry}
use Rattle.tree_types.specs.declared.history.Commit.{Commit}
use Rattle.tree_types.specs.declared.history.RollNote.{RollNote}
use Rattle.volume_model.specs.Crash.{Record, present_of}
use Rattle.volume_model.specs.Sound.{Reading, Tree, shape_of}
use Rattle.history_model.specs.Lines.{is_fsync}
use Rattle.history_model.specs.Histories.{entry_at, is_ok, replay_of, Legal}
use Rattle.history_model.specs.Touched.{touches_byte, tree_before}
use Rattle.history_rules.proofs.HistoryLaws.{legal-last}
use Rattle.journal_model.specs.Journals.{SealedTx}
use Rattle.journal_model.specs.Versions.{Version, Published, Sealed, Running}
use Rattle.history_laws.specs.Additions.{AreMoreEntries}
use Rattle.history_laws.specs.Named.{HasByteOf}
use Rattle.history_laws.specs.KeptBytes.{AreBytesKept, AreToldPublished, BeganBefore}
use Rattle.history_laws.specs.Published.{IsVersionOf, IsSealedBefore}
use Rattle.history_laws.specs.Volumes.{Volume, readings_of, IsRunningAs, KeepsHistory}
use Rattle.history_laws.specs.VolumeSteps.{IsBegun, with_told, MayBeTold}
use Rattle.history_laws.proofs.LikeEntries.{AreLike, tree_like, like_long, old_like, new_like, like_more, holds_more, adds_one, like_told, holds_told, tells_one, legal_told}
use Rattle.history_laws.proofs.Moments.{same_entries, earlier_added}

module _ (g : Geometry) (moment : ℕ) (opening : Tree) (entries more : List Entry) (like : AreLike entries more) where
  -- what no later entry of the longer history touches, none of the shorter one does
  leaves_like : (n ino p i : ℕ) → IfSome (entry_at more i) (λ e. e.start < n → touches_byte (tree_before g moment opening more i) e ino p ≡ false)
      → IfSome (entry_at entries i) (λ e. e.start < n → touches_byte (tree_before g moment opening entries i) e ino p ≡ false)
  leaves_like n ino p zero leaves = tt
  leaves_like n ino p (suc i) leaves =
      old_like (λ e. e.start < n → touches_byte (tree_before g moment opening entries (suc i)) e ino p ≡ false) (λ e. e.start < n → touches_byte (tree_before g moment opening more (suc i)) e ino p ≡ false)
      entries more i like
      (λ within e t leaves. subst (λ (tree : Tree). e.start < n → touches_byte tree e ino p ≡ false) (tree_like g moment opening entries more (suc i - 1) like (omega (arith, within))) leaves)
      leaves

  spares_like : (ino p i : ℕ) → IfSome (entry_at more i) (λ e. touches_byte (tree_before g moment opening more i) e ino p ≡ false)
      → IfSome (entry_at entries i) (λ e. touches_byte (tree_before g moment opening entries i) e ino p ≡ false)
  spares_like ino p zero leaves = tt
  spares_like ino p (suc i) leaves =
      old_like (λ e. touches_byte (tree_before g moment opening entries (suc i)) e ino p ≡ false) (λ e. touches_byte (tree_before g moment opening more (suc i)) e ino p ≡ false)
      entries more i like
      (λ within e t leaves. subst (λ (tree : Tree). touches_byte tree e ino p ≡ false) (tree_like g moment opening entries more (suc i - 1) like (omega (arith, within))) leaves)
      leaves

  to_old : (k ino p value : ℕ) → k ≤ length entries → HasByteOf (replay_of g moment opening more k) ino p value → HasByteOf (replay_of g moment opening entries k) ino p value
  to_old k ino p value within = subst (λ (t : Tree). HasByteOf t ino p value) (tree_like g moment opening entries more k like within)

  to_new : (k ino p value : ℕ) → k ≤ length entries → HasByteOf (replay_of g moment opening entries k) ino p value → HasByteOf (replay_of g moment opening more k) ino p value
  to_new k ino p value within = subst (λ (t : Tree). HasByteOf t ino p value) (sym (tree_like g moment opening entries more k like within))

  pub bytes_like : (r : Record) (readings : Version → Reading) (held : Version → ℕ) → ((i : ℕ) → IfSome (entry_at more i) (λ e. e.start ≤ length r.calls))
      → AreBytesKept g moment opening entries r readings held → AreBytesKept g moment opening more r readings held
  bytes_like r readings held begun kept =
      let last : held Running ≤ length entries = kept.order.all in
      let middle : held Sealed ≤ length entries = omega (arith, kept.order.running, last) in
      let low : held Published ≤ length entries = omega (arith, kept.order.sealed, middle) in
      record {
        order = record { sealed = kept.order.sealed; running = kept.order.running; all = omega (arith, last, like_long entries more like) };
        places = kept.places;
        published = λ ino p value b image has names free left.
            kept.published ino p value b image (to_old (held Published) ino p value low has) names (λ i past. leaves_like (length r.calls) ino p i (free i past)) left;
        sealed = λ ino p value b has names free. kept.sealed ino p value b (to_old (held Sealed) ino p value middle has) names (λ i past. spares_like ino p i (free i past));
        running = λ ino p value b has names free. kept.running ino p value b (to_old (held Running) ino p value last has) names (λ i past. spares_like ino p i (free i past));
        to_sealed = λ ino p value b has names within.
            let one = kept.to_sealed ino p value b (to_old (held Sealed) ino p value middle has) names (λ i above below. spares_like ino p i (within i above below)) in
            (one.0, to_new (held Published) ino p value low one.1);
        to_running = λ ino p value b has names within.
            let one = kept.to_running ino p value b (to_old (held Running) ino p value last has) names (λ i above below. spares_like ino p i (within i above below)) in
            (one.0, to_new (held Sealed) ino p value middle one.1);
        begun = begun;
      }

  began_like : (k n : ℕ) → k ≤ length entries → BeganBefore entries k n → BeganBefore more k n
  began_like k n within began zero low = tt
  began_like k n within began (suc i) low = new_like (λ e. e.start < n) entries more i like (omega (arith, low, within)) (λ e t before. before) (began (suc i) low)

  pub sealed_like : (n : ℕ) (held : Version → ℕ) (o : Option SealedTx) → held Sealed ≤ length entries → IsSealedBefore entries n held o → IsSealedBefore more n held o
  sealed_like n held None within is = is
  sealed_like n held (Some s) within is = λ some. began_like (held Sealed) n within (is some)

within_more : (commits : List Commit) (n m : ℕ) → n ≤ m → AllByRecursion (λ c. c.boundary ≤ n) commits → AllByRecursion (λ c. c.boundary ≤ m) commits
within_more [] n m more all = tt
within_more (c ∷ commits) n m more all = (let low : c.boundary ≤ n = all.0 in omega (arith, low, more), within_more commits n m more all.1)

module _ (g : Geometry) (moment : ℕ) (opening : Tree) (first : ℕ) (v : Volume) (keeps : KeepsHistory g moment opening first v) where
  -- the history goes on with these entries
  goes_on : (more : List Entry) → AreLike v.h.entries more → ((i : ℕ) → IfSome (entry_at more i) (λ e. e.start ≤ length v.r.calls)) → AreToldPublished more (v.held Published)
      → Legal g moment opening more → ((n : ℕ) → n < length v.r.calls → AreMoreEntries n v.h.entries more)
      → KeepsHistory g moment opening first (record v { h = record v.h { entries = more } })
  goes_on more like begun told legal adds =
      let last : v.held Running ≤ length v.h.entries = keeps.bytes.order.all in
      let middle : v.held Sealed ≤ length v.h.entries = omega (arith, keeps.bytes.order.running, last) in
      let low : v.held Published ≤ length v.h.entries = omega (arith, keeps.bytes.order.sealed, middle) in
      let home = present_of v.r in
      record {
        safe = keeps.safe;
        versions = record {
          published = subst (λ (t : Tree). IsVersionOf g v.roles home v.j Published (shape_of t)) (sym (tree_like g moment opening v.h.entries more (v.held Published) like low)) keeps.versions.published;
          sealed = subst (λ (t : Tree). IsVersionOf g v.roles home v.j Sealed (shape_of t)) (sym (tree_like g moment opening v.h.entries more (v.held Sealed) like middle)) keeps.versions.sealed;
          published_boundary = keeps.versions.published_boundary;
          sealed_boundary = keeps.versions.sealed_boundary;
        };
        running = subst (λ (t : Tree). IsRunningAs g v.roles home v.j v.hands (shape_of t)) (sym (tree_like g moment opening v.h.entries more (v.held Running) like last)) keeps.running;
        bytes = bytes_like g moment opening v.h.entries more like v.r (readings_of g v) v.held begun keeps.bytes;
        told = told;
        sealed = sealed_like g moment opening v.h.entries more like (length v.r.calls) v.held v.j.sealed middle keeps.sealed;
        idle = keeps.idle;
        legal = legal;
        within = within_more v.h.commits (length v.h.entries) (length more) (like_long v.h.entries more like) keeps.within;
        earlier = earlier_added g moment opening first v keeps (record v.h { entries = more })
            (λ n before. record { entries = adds n before; commits = ([], sym (append-nil v.h.commits)); within = keeps.within });
        geometry = keeps.geometry;
      }

  pub beginning_keeps : (e : Entry) → IsBegun g moment opening v.h.entries (length v.r.calls) e
      → KeepsHistory g moment opening first (record v { h = record v.h { entries = v.h.entries ++ e ∷ [] } })
  beginning_keeps e is =
      goes_on (v.h.entries ++ e ∷ []) (like_more v.h.entries e) begun told
      ((legal-last g moment opening v.h.entries e).1 (keeps.legal, is.right)) (λ n before. adds_one n v.h.entries e is.told)
    where
      begun : (i : ℕ) → IfSome (entry_at (v.h.entries ++ e ∷ []) i) (λ f. f.start ≤ length v.r.calls)
      begun zero = tt
      begun (suc i) = holds_more (λ f. f.start ≤ length v.r.calls) v.h.entries e i (let now : e.start ≡ length v.r.calls = is.start in omega (arith, now)) (keeps.bytes.begun (suc i))

      told_now : (i : ℕ) → IfSome (entry_at (v.h.entries ++ e ∷ []) i) (λ f. f.sync ≡ true → IfSome f.told (λ told. i ≤ v.held Published))
      told_now zero = tt
      told_now (suc i) =
          holds_more (λ f. f.sync ≡ true → IfSome f.told (λ told. suc i ≤ v.held Published)) v.h.entries e i
          (λ sync. subst (λ (o : Option ℕ). IfSome o (λ told. suc i ≤ v.held Published)) (sym is.told) tt) (keeps.told.told (suc i))

      fsyncs : (i : ℕ) → IfSome (entry_at (v.h.entries ++ e ∷ []) i) (λ f. option_map_or is_fsync f.call false ≡ true → is_ok f.reply ≡ true → f.sync ≡ true)
      fsyncs zero = tt
      fsyncs (suc i) = holds_more (λ f. option_map_or is_fsync f.call false ≡ true → is_ok f.reply ≡ true → f.sync ≡ true) v.h.entries e i is.fsync (keeps.told.fsyncs (suc i))

      told : AreToldPublished (v.h.entries ++ e ∷ []) (v.held Published)
      told = record { told = told_now; fsyncs = fsyncs }

  pub telling_keeps : (k : ℕ) → MayBeTold v.h.entries (v.held Published) k
      → KeepsHistory g moment opening first (record v { h = record v.h { entries = with_told (length v.r.calls) v.h.entries k } })
  telling_keeps k may =
      goes_on (with_told (length v.r.calls) v.h.entries k) (like_told (length v.r.calls) v.h.entries k) begun told
      (legal_told g moment opening (length v.r.calls) v.h.entries k keeps.legal)
      (λ n before. tells_one n (length v.r.calls) v.h.entries k before (subst (λ (o : Option Entry). IfSome o (λ e. e.told ≡ None)) (sym may.is) may.untold))
    where
      n : ℕ
      n = length v.r.calls

      begun : (i : ℕ) → IfSome (entry_at (with_told (length v.r.calls) v.h.entries k) i) (λ f. f.start ≤ length v.r.calls)
      begun zero = tt
      begun (suc i) = holds_told (λ f. f.start ≤ length v.r.calls) (length v.r.calls) v.h.entries k i (λ same e is holds. holds) (keeps.bytes.begun (suc i))

      told_now : (i : ℕ) → IfSome (entry_at (with_told (length v.r.calls) v.h.entries k) i) (λ f. f.sync ≡ true → IfSome f.told (λ told. i ≤ v.held Published))
      told_now zero = tt
      told_now (suc i) =
          holds_told (λ f. f.sync ≡ true → IfSome f.told (λ told. suc i ≤ v.held Published)) (length v.r.calls) v.h.entries k i
          (λ same e is holds sync.
          let one : may.entry ≡ e = some_of (sym may.is ∙ is) in
          let low : suc k ≤ v.held Published = may.published_if (ap (λ (x : Entry). x.sync) one ∙ sync) in
          omega (arith, low, same)) (keeps.told.told (suc i))
        where
          some_of : {x y : Entry} → ◌≡◌ {A = Option Entry} (Some x) (Some y) → x ≡ y
          some_of is = cc

      fsyncs : (i : ℕ) → IfSome (entry_at (with_told (length v.r.calls) v.h.entries k) i) (λ f. option_map_or is_fsync f.call false ≡ true → is_ok f.reply ≡ true → f.sync ≡ true)
      fsyncs zero = tt
      fsyncs (suc i) =
          holds_told (λ f. option_map_or is_fsync f.call false ≡ true → is_ok f.reply ≡ true → f.sync ≡ true) (length v.r.calls) v.h.entries k i (λ same e is holds. holds) (keeps.told.fsyncs (suc i))

      told : AreToldPublished (with_told (length v.r.calls) v.h.entries k) (v.held Published)
      told = record { told = told_now; fsyncs = fsyncs }

  pub noting_keeps : (note : RollNote) → KeepsHistory g moment opening first (record v { h = record v.h { rolls = v.h.rolls ++ note ∷ [] } })
  noting_keeps note = record {
    safe = keeps.safe;
    versions = record {
      published = keeps.versions.published;
      sealed = keeps.versions.sealed;
      published_boundary = keeps.versions.published_boundary;
      sealed_boundary = keeps.versions.sealed_boundary;
    };
    running = keeps.running;
    bytes = keeps.bytes;
    told = keeps.told;
    sealed = keeps.sealed;
    idle = keeps.idle;
    legal = keeps.legal;
    within = keeps.within;
    earlier = earlier_added g moment opening first v keeps (record v.h { rolls = v.h.rolls ++ note ∷ [] })
        (λ n before. record { entries = same_entries n v.h.entries; commits = ([], sym (append-nil v.h.commits)); within = keeps.within });
    geometry = keeps.geometry;
  }
