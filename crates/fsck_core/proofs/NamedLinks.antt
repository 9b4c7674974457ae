-- The tables say which inodes have another number of links than their records.
use Rattle.std.proofs.Common.{◌≡◌, ℕ, ◌==◌, false, not, List, slice_index_or, slice_get, Option, Some, None, option_map, refl, sym, ap, ◌∙◌}
use Rattle.std.specs.Option.{option_flatten, option_map_or}
use Rattle.volume_model.specs.Sound.{UsedInode, Reading, inodes_in, used_at, names_in_reading, links_to, has_bad_links}
use Rattle.fsck_core.specs.declared.inodes.Brief.{Brief}
use Rattle.fsck_core.specs.Inodes.{brief_of}
use Rattle.fsck_core.specs.StepsUp.{has_other_links}
use Rattle.fsck_core.proofs.PlacedDirectories.{record_at_place}

other_links_of : (used : Option UsedInode) (links : ℕ) → has_other_links (brief_of (option_map (λ u. u.inode) used)) links ≡ option_map_or (λ u. not (u.inode.links == links)) used false
other_links_of None links = refl
other_links_of (Some u) links = refl

pub other_links_is : (r : Reading) (inodes : List (Option Brief)) (i : ℕ) → brief_of (option_map (λ u. u.inode) (used_at r i)) ≡ option_flatten (slice_get inodes i)
    → has_other_links (slice_index_or inodes i None) (links_to (inodes_in r) (names_in_reading r) i) ≡ has_bad_links r i
other_links_is r inodes i record_is =
    let links = links_to (inodes_in r) (names_in_reading r) i in
    ap (λ (inode : Option Brief). has_other_links inode links) (sym (record_is ∙ record_at_place inodes i)) ∙ other_links_of (used_at r i) links
