-- What sound means: the rules in the order in which they are looked at, and the first that is broken.
use Rattle.std.specs.Prelude.{◌≡◌, ℕ, ◌-◌, Bool, List, [], ◌∷◌, length, find, Option, Some, None, is_some, option_map}
use Rattle.std.specs.List.{count_by, range_with_len}
use Rattle.std.specs.Option.{option_or}
use Rattle.lufs_base.specs.Layout.{blocks_of}
use Rattle.lufs_base.specs.declared.geometry.Geometry.{Geometry}
use Rattle.volume_model.specs.declared.finding.Kind.{Kind}
use Rattle.volume_model.specs.declared.hand.Hand.{Hand}
use Rattle.volume_model.specs.declared.finding.Kind.TheVariants.{Group, Inode, Fields, Root, Twice, Chunk, Name, Parent, Links, InodeBit, BlockBit, Count}
use Rattle.volume_model.specs.declared.finding.Counts.{Counts}
use Rattle.volume_model.specs.declared.finding.Verdict.{Verdict}
use Rattle.volume_model.specs.declared.finding.Verdict.TheVariants.{Clean, Finding}
use Rattle.volume_model.specs.Format.{Blocks, body_blocks_of}
use Rattle.volume_model.specs.Sound.Readings.{Reading, reading_of, inodes_in, used_of}
use Rattle.volume_model.specs.Sound.Claims.{claims_of}
use Rattle.volume_model.specs.Sound.Hands.{AreApart}
use Rattle.volume_model.specs.Sound.RecordRules.{is_bad_group, is_bad_inode, has_bad_fields, is_claimed_twice}
use Rattle.volume_model.specs.Sound.NameRules.{names_in_reading, is_no_directory, has_bad_chunk, names_unused, has_bad_parent, has_bad_links}
use Rattle.volume_model.specs.Sound.BitRules.{has_bad_inode_bit, has_bad_block_bit, has_bad_count}

-- the rules in order; each later one is of volumes that keep the earlier ones
abbrev pub all_kinds : List Kind
all_kinds =
    Group ∷ (Inode ∷ (Fields ∷ (Root ∷ (Twice ∷ (Chunk ∷ (Name ∷ (Parent ∷ (Links ∷ (InodeBit ∷ (BlockBit ∷ (Count ∷ [])))))))))))

-- the numbers for which a rule may be broken
abbrev pub numbers_of_kind : Geometry → Reading → Kind → List ℕ
numbers_of_kind g r Group = range_with_len 0 g.groups
numbers_of_kind g r Inode = range_with_len 0 (inodes_in r)
numbers_of_kind g r Fields = range_with_len 0 (inodes_in r)
numbers_of_kind g r Root = 2 ∷ []
numbers_of_kind g r Twice = range_with_len 0 (blocks_of g)
numbers_of_kind g r Chunk = range_with_len 0 (inodes_in r)
numbers_of_kind g r Name = range_with_len 0 (inodes_in r)
numbers_of_kind g r Parent = range_with_len 0 (inodes_in r)
numbers_of_kind g r Links = range_with_len 0 (inodes_in r)
numbers_of_kind g r InodeBit = range_with_len 0 (inodes_in r)
numbers_of_kind g r BlockBit = range_with_len 0 (blocks_of g)
numbers_of_kind g r Count = range_with_len 0 g.groups

-- the rule is broken for this number
abbrev pub is_broken : Geometry → Reading → List Hand → Kind → ℕ → Bool
is_broken g r hands Group n = is_bad_group r n
is_broken g r hands Inode n = is_bad_inode r n
is_broken g r hands Fields n = has_bad_fields g r n
is_broken g r hands Root n = is_no_directory (names_in_reading r) n
is_broken g r hands Twice n = is_claimed_twice r n
is_broken g r hands Chunk n = has_bad_chunk r n
is_broken g r hands Name n = names_unused (names_in_reading r) n
is_broken g r hands Parent n = has_bad_parent (inodes_in r) (names_in_reading r) n
is_broken g r hands Links n = has_bad_links r n
is_broken g r hands InodeBit n = has_bad_inode_bit g r hands n
is_broken g r hands BlockBit n = has_bad_block_bit g r hands n
is_broken g r hands Count n = has_bad_count g r n

-- the lowest number for which a rule is broken
abbrev pub first_of_kind : Geometry → Reading → List Hand → Kind → Option ℕ
first_of_kind g r hands kind = find (is_broken g r hands kind) (numbers_of_kind g r kind)

-- the first of these rules that is broken, with that number
abbrev pub first_of_kinds : Geometry → Reading → List Hand → List Kind → Option (Kind × ℕ)
first_of_kinds g r hands [] = None
first_of_kinds g r hands (kind ∷ kinds) =
    option_or (option_map (λ n. (kind, n)) (first_of_kind g r hands kind)) (first_of_kinds g r hands kinds)

-- the first finding in what the records of a volume say
unfoldable pub finding_of : Geometry → Reading → List Hand → Option (Kind × ℕ)
finding_of g r hands = first_of_kinds g r hands all_kinds

-- The volume is sound while these are held: no rule is broken, and what is held is free.
pub record Sound (g : Geometry) (blocks : Blocks) (hands : List Hand) : Type 0 where
  pub rules : finding_of g (reading_of g blocks) hands ≡ None
  pub apart : AreApart g (reading_of g blocks) hands

-- how many inodes are in use, how many blocks they claim, and how many are left
abbrev pub counts_of : Geometry → Reading → Counts
counts_of g r = record {
  inodes = count_by (λ state. is_some (used_of state)) r.inodes;
  blocks = length (claims_of r);
  free = body_blocks_of g - length (claims_of r);
}

abbrev pub verdict_on : Geometry → Reading → Option (Kind × ℕ) → Verdict
verdict_on g r None = Clean (counts_of g r)
verdict_on g r (Some finding) = Finding finding.0 finding.1

abbrev pub verdict_of_reading : Geometry → Reading → Verdict
verdict_of_reading g r = verdict_on g r (finding_of g r [])

-- what a check of a volume answers, while nothing is held
unfoldable pub verdict_of : Geometry → Blocks → Verdict
verdict_of g blocks = verdict_of_reading g (reading_of g blocks)
