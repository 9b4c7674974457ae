use Rattle.std.proofs.Common.{◌≡◌, ◌*◌, ℕ, [], length, Some, Result, Err, Vec, Global, refl, sym, subst, arith}
use Rattle.std.specs.Prelude.{IfSome, IfOk, IsErrOf}
use Rattle.lufs_base.specs.Layout.{blocks_of}
use Rattle.volume_model.specs.declared.log.Header.{Header}
use Rattle.volume_model.specs.Format.{Image, block, geometry_of}
use Rattle.volume_model.specs.Log.{WithHeader, Listed, log_of, replayed}
use Rattle.sector_disk.specs.Disk.{FailsJustAt}
use Rattle.meta_store.specs.declared.error.StoreError.{StoreError}
use Rattle.meta_store.specs.declared.error.StoreError.TheVariants as stores
use Rattle.drive_command.specs.declared.mount.MountError.{MountError}
use Rattle.drive_command.specs.Volume.{IsRefusalOf, IsLogRead, IsMountOf, HasBlocksOf, opening_of}
use Rattle.drive_command.proofs.VolumeSteps.{if_then, if_both, stop_says_nothing, none_twice, unwritten_twice, IsKnown, known, same_homes_as, mount_of, content_refused}
use Rattle.plain_image.proofs.SameHomes.{stands_too}
use Rattle.drive_command.proofs.SameVerdict.{same_verdict}
use Rattle.drive_command.proofs.mount.mount.Goals as goal

pub returns-in-Err-read_log-clause-refused : goal.returns-in-Err-read_log-clause-refused
returns-in-Err-read_log-clause-refused g c =
    let k = c.in-Ok.geometry in
    let why = c.in-Err-read_log.why in
    if_both (λ (i : Image). geometry_of i ≡ Some k) (λ (i : Image). IsLogRead k i (Err why)) (λ (i : Image). IsRefusalOf i why)
    (g.D.Disk.told c.read_geometry.new.disk).present (g.D.Disk.told c.args.disk).present c.in-Ok.ensures.unwritten.content
    (λ i geometry log. log geometry) c.in-Ok.ensures.value c.in-Err-read_log.ensures.log

pub returns-in-Err-content-clause-refused : goal.returns-in-Err-content-clause-refused
returns-in-Err-content-clause-refused g c =
    subst (λ (why : MountError). IfSome (g.D.Disk.told c.args.disk).present (λ image. IsRefusalOf image why)) (sym c.stopped.ensures)
    (stop_says_nothing (g.D.Disk.told c.args.disk).present c.in-Err-content.error)

pub returns-in-Ok-checked-clause-mounted : goal.returns-in-Ok-checked-clause-mounted
returns-in-Ok-checked-clause-mounted g c =
    let told = g.D.Disk.told in
    let k = c.in-Ok.geometry in
    let h = c.in-Ok-read_log.read.0 in
    let txs = c.in-Ok-read_log.read.1 in
    let content = c.in-Ok-content.content.items in
    let first = told c.args.disk in
    let second = told c.read_geometry.new.disk in
    let third = told c.read_log.new.disk in
    let last = told c.read_content-disk.result.0 in
    let size = subst (λ (r : Result (Vec ℕ Global) StoreError). IfOk r (λ read. length read.items ≡ 4096 * blocks_of k)) c.in-Ok-content.is c.read_content-disk.ensures.size in
    let blocks = subst (λ (r : Result (Vec ℕ Global) StoreError). IfSome third.present (λ image. (x : Header) → log_of k image ≡ WithHeader x (Listed txs) → IfOk r (λ read. HasBlocksOf k read.items (replayed image txs))))
    c.in-Ok-content.is c.read_content-disk.ensures.content in
    let fails = subst (λ (r : Result (Vec ℕ Global) StoreError). FailsJustAt (IsErrOf r stores.Disk) third last) c.in-Ok-content.is c.read_content-disk.ensures.failure in
    let all = known k h txs content first.present second.present third.present c.in-Ok.ensures.unwritten.content c.in-Ok-read_log.ensures.unwritten.content c.in-Ok.ensures.value c.in-Ok-read_log.ensures.log blocks in (
      content,
      c.in-Ok-checked.ensures.geometry,
      c.in-Ok-checked.ensures.content,
      record {
        in_range = c.in-Ok.ensures.in_range;
        disk = omega (arith, c.in-Ok.ensures.fits, c.in-Ok-read_log.ensures.unwritten.sectors, c.read_content-disk.ensures.unwritten.sectors);
        size = omega (arith, size);
        epoch = c.in-Ok-read_log.ensures.epoch;
        sound = c.in-Ok-checked.ensures.sound;
        image = if_then (IsKnown k h txs content) (IsMountOf k h content) first.present
            (λ i is. mount_of k h content i txs is.geometry is.log
            (stands_too k c.in-Ok.ensures.in_range (block content) (block (replayed i txs)) (opening_of k content) [] (same_homes_as k content (replayed i txs) is.blocks)
            (record { sound = c.in-Ok-checked.ensures.sound; stands = refl }))) all;
        unwritten = unwritten_twice first second last c.in-Ok.ensures.unwritten (unwritten_twice second third last c.in-Ok-read_log.ensures.unwritten c.read_content-disk.ensures.unwritten);
        none_failed = none_twice first second last (c.in-Ok.ensures.failure.none (λ p. cc)) (none_twice second third last (c.in-Ok-read_log.ensures.failure.none (λ p. cc)) (fails.none (λ p. cc)));
      },
    )

pub returns-clause-refused : goal.returns-clause-refused
returns-clause-refused g c =
    let told = g.D.Disk.told in
    let k = c.in-Ok.geometry in
    let h = c.in-Ok-read_log.read.0 in
    let txs = c.in-Ok-read_log.read.1 in
    let content = c.in-Ok-content.content.items in
    let why = c.in-Err-checked.why in
    let first = told c.args.disk in
    let third = told c.read_log.new.disk in
    let blocks = subst (λ (r : Result (Vec ℕ Global) StoreError). IfSome third.present (λ image. (x : Header) → log_of k image ≡ WithHeader x (Listed txs) → IfOk r (λ read. HasBlocksOf k read.items (replayed image txs))))
    c.in-Ok-content.is c.read_content-disk.ensures.content in
    if_then (IsKnown k h txs content) (λ (i : Image). IsRefusalOf i why) first.present
    (λ i is. content_refused i k h txs content why c.in-Ok-read_log.ensures.epoch is.geometry is.log
    (same_verdict k c.in-Ok.ensures.in_range (block content) (block (replayed i txs)) (same_homes_as k content (replayed i txs) is.blocks)) c.in-Err-checked.ensures.unsound)
    (known k h txs content first.present (told c.read_geometry.new.disk).present third.present c.in-Ok.ensures.unwritten.content c.in-Ok-read_log.ensures.unwritten.content c.in-Ok.ensures.value c.in-Ok-read_log.ensures.log blocks)
