use Rattle.std.proofs.Common.{◌≡◌, ◌++◌, take, string_bytes}
use Rattle.std.specs.List.{flat_map}
use Rattle.volume_model.specs.Texts.{header_line}
use Rattle.lufs_top.specs.Listing.{summed_line}
use Rattle.lufs_top.proofs.scan.listing.listing_text.Given as goal

abbrev pub invariant-loop-tx : goal.invariant-loop-tx
invariant-loop-tx l = string_bytes l.text ≡ header_line l.g l.header ++ flat_map summed_line (take l.tx-index l.tx-items)
