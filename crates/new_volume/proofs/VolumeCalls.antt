-- The calls that make a volume, one part after the other, and what went where a part failed.
use Rattle.std.proofs.Common.{◌≡◌, List, [], ◌∷◌, ◌++◌, ℕ, subst, Result}
use Rattle.lufs_base.specs.Layout.{header_sector}
use Rattle.lufs_base.specs.declared.geometry.Geometry.{Geometry}
use Rattle.volume_model.specs.declared.device_call.DeviceCall.{DeviceCall}
use Rattle.volume_model.specs.declared.device_call.DeviceCall.TheVariants.{Write, Flush}
use Rattle.volume_model.specs.Format.{super_bytes}
use Rattle.sector_disk.specs.Disk.{DiskTold, HasMade, Makes}
use Rattle.sector_disk.proofs.MadeCalls.{HasBegun, begun_more, begun_then, made_then, makes_then, fits_still, CanCount}
use Rattle.new_volume.specs.Mkfs.{clearing, sealing, group_calls, volume_calls}

-- The disk before, and after the parts that went one after the other.
module _ (g : Geometry) (log first : List ℕ) (old : DiskTold) (fits : CanCount old) where
  abbrev logging : List DeviceCall
  logging = Write (header_sector g) log ∷ []

  abbrev groups : List DeviceCall
  groups = group_calls g first g.groups

  abbrev flushing : List DeviceCall
  flushing = Flush ∷ []

  abbrev last : List DeviceCall
  last = sealing (super_bytes g)

  pub clearing_begun : (new : DiskTold) → HasBegun clearing old new → HasBegun (volume_calls g log first) old new
  clearing_begun new begun = begun_more clearing (logging ++ ((groups ++ flushing) ++ last)) old new begun

  module _ (cleared : DiskTold) (clears : HasMade clearing old cleared) where
    pub log_begun : (new : DiskTold) → HasBegun logging cleared new → HasBegun (volume_calls g log first) old new
    log_begun new begun = begun_then clearing (logging ++ ((groups ++ flushing) ++ last)) old cleared new fits clears (begun_more logging ((groups ++ flushing) ++ last) cleared new begun)

    module _ (logged : DiskTold) (logs : HasMade logging cleared logged) where
      log_fits : CanCount cleared
      log_fits = fits_still clearing old cleared clears

      group_fits : CanCount logged
      group_fits = fits_still logging cleared logged logs

      -- a part of the calls after the log
      later_begun : (new : DiskTold) → HasBegun ((groups ++ flushing) ++ last) logged new → HasBegun (volume_calls g log first) old new
      later_begun new begun =
          begun_then clearing (logging ++ ((groups ++ flushing) ++ last)) old cleared new fits clears (begun_then logging ((groups ++ flushing) ++ last) cleared logged new log_fits logs begun)

      pub groups_begun : (new : DiskTold) → HasBegun groups logged new → HasBegun (volume_calls g log first) old new
      groups_begun new begun = later_begun new (begun_more (groups ++ flushing) last logged new (begun_more groups flushing logged new begun))

      module _ (grouped : DiskTold) (fills : HasMade groups logged grouped) where
        pub flush_begun : (new : DiskTold) → HasBegun flushing grouped new → HasBegun (volume_calls g log first) old new
        flush_begun new begun = later_begun new (begun_more (groups ++ flushing) last logged new (begun_then groups flushing logged grouped new group_fits fills begun))

        pub all_made : {T E : Type 0} (result : Result T E) (flushed new : DiskTold) → HasMade flushing grouped flushed → (sector : List ℕ) → sector ≡ super_bytes g
            → Makes (sealing sector) result flushed new → Makes (volume_calls g log first) result old new
        all_made result flushed new flushes sector is makes_of_sector =
            let makes : Makes last result flushed new = subst (λ (bytes : List ℕ). Makes (sealing bytes) result flushed new) is makes_of_sector in
            makes_then result clearing (logging ++ ((groups ++ flushing) ++ last)) old cleared new fits clears
            (makes_then result logging ((groups ++ flushing) ++ last) cleared logged new log_fits logs
            (makes_then result (groups ++ flushing) last logged flushed new group_fits (made_then groups flushing logged grouped flushed fills flushes) makes))
