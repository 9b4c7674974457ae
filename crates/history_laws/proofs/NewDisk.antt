-- The worked new volume's disk may be mounted.
use Rattle.std.proofs.Common.{◌≡◌, ℕ, ◌%◌, [], refl, sym, ap, subst, arith, lit<}
use Rattle.std.proofs.lemmas.List.{ext_get_or}
use Rattle.volume_model.specs.Format.{Image, block}
use Rattle.volume_model.specs.Log.{replayed}
use Rattle.volume_model.specs.MkfsImage.{made_header}
use Rattle.volume_model.specs.Sound.{StandsFor}
use Rattle.volume_model.specs.Worked.{smallest}
use Rattle.volume_model.proofs.ReplayLaws.{length-replayed, byte_replayed}
use Rattle.history_model.specs.WorkedTrees.{new_tree}
use Rattle.history_laws.specs.Sessions.{MayBeMounted}
use Rattle.history_laws.specs.WorkedSession.{new_image, new_disk}
use Rattle.history_laws.proofs.NewImage.{length_there, geometry_there, empty_log, idents_there, stands_there}

as_replayed : (image : Image) → replayed image [] ≡ image
as_replayed image =
    ext_get_or 0 (replayed image []) image (length-replayed image []) (λ i below. byte_replayed image [] i (omega (arith, below, length-replayed image [])))

pub new_disk_mounts : MayBeMounted smallest (record { header = made_header; txs = [] }) new_disk new_tree
new_disk_mounts = record {
  sectors = record { opening = ap (λ (n : ℕ). n % 512) length_there; calls = tt };
  settled = refl;
  log = record { geometry = geometry_there; log = empty_log; idents = idents_there; epoch = lit< tt };
  tree = subst (λ (image : Image). StandsFor smallest (block image) new_tree []) (sym (as_replayed new_image)) stands_there;
}
