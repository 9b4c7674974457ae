use Rattle.std.proofs.Common.{◌≡◌, [], ◌∷◌, None, refl}
use Rattle.lufs_base.specs.declared.geometry.Geometry.{Geometry}
use Rattle.volume_model.specs.declared.finding.Counts.{Counts}
use Rattle.volume_model.specs.declared.finding.Kind.TheVariants.{Group as of_groups, Inode as of_inodes, Fields, Root, Twice, Chunk, Name, Parent, Links, InodeBit, BlockBit, Count}
use Rattle.volume_model.specs.Format.{Blocks}
use Rattle.volume_model.specs.Sound.{reading_of, counts_of, finding_of}
use Rattle.fsck_core.proofs.Findings.{nothing_found}
use Rattle.fsck_core.proofs.CheckSteps.{passed, stopped, none_more, none_of_records, twice_first, chunk_first, name_first, parent_first, links_first, claimed_by_all}
use Rattle.fsck_core.proofs.verdict.judge.Goals as goal

abbrev Says : Geometry → Blocks → Counts → Type 0
Says g blocks counts = (counts ≡ counts_of g (reading_of g blocks)) × (finding_of g (reading_of g blocks) [] ≡ None)

pub returns-in_err-unless_found-clause-part : goal.returns-in_err-unless_found-clause-part
returns-in_err-unless_found-clause-part c = λ blocks are_groups are_inodes seen.
    let g = c.args.g.now in
    let inodes = c.args.inodes.now in
    let s = c.args.survey.now in
    let r = reading_of g blocks in
    let size = c.requires.inodes in
    let none = none_of_records g blocks c.args.groups.now inodes s are_groups c.requires.groups are_inodes size seen in
    stopped (Says g blocks) g blocks (of_groups ∷ (of_inodes ∷ (Fields ∷ []))) Root (Twice ∷ (Chunk ∷ (Name ∷ (Parent ∷ (Links ∷ (InodeBit ∷ (BlockBit ∷ (Count ∷ [])))))))) c.first_bad_root.result c.in_err-unless_found.field-0.0 c.from_residual.result refl none
    (c.first_bad_root.ensures g blocks are_inodes size) c.in_err-unless_found.ensures c.from_residual.ensures.1

pub returns-in_err-unless_found-2-clause-part : goal.returns-in_err-unless_found-2-clause-part
returns-in_err-unless_found-2-clause-part c = λ blocks are_groups are_inodes seen.
    let g = c.args.g.now in
    let inodes = c.args.inodes.now in
    let s = c.args.survey.now in
    let r = reading_of g blocks in
    let size = c.requires.inodes in
    let none = none_of_records g blocks c.args.groups.now inodes s are_groups c.requires.groups are_inodes size seen in
    let is-0 : c.first_bad_root.result ≡ None = passed Root c.first_bad_root.result c.in_ok-unless_found.field-0 c.in_ok-unless_found.ensures in
    let none-0 = none_more g r (of_groups ∷ (of_inodes ∷ (Fields ∷ []))) Root c.first_bad_root.result none (c.first_bad_root.ensures g blocks are_inodes size) is-0 in
    stopped (Says g blocks) g blocks (of_groups ∷ (of_inodes ∷ (Fields ∷ (Root ∷ [])))) Twice (Chunk ∷ (Name ∷ (Parent ∷ (Links ∷ (InodeBit ∷ (BlockBit ∷ (Count ∷ []))))))) s.claims.twice c.in_err-unless_found-2.field-0.0 c.from_residual-in_err-unless_found-2.result refl none-0
    (twice_first g blocks s seen) c.in_err-unless_found-2.ensures c.from_residual-in_err-unless_found-2.ensures.1

pub returns-in_err-unless_found-3-clause-part : goal.returns-in_err-unless_found-3-clause-part
returns-in_err-unless_found-3-clause-part c = λ blocks are_groups are_inodes seen.
    let g = c.args.g.now in
    let inodes = c.args.inodes.now in
    let s = c.args.survey.now in
    let r = reading_of g blocks in
    let size = c.requires.inodes in
    let none = none_of_records g blocks c.args.groups.now inodes s are_groups c.requires.groups are_inodes size seen in
    let is-0 : c.first_bad_root.result ≡ None = passed Root c.first_bad_root.result c.in_ok-unless_found.field-0 c.in_ok-unless_found.ensures in
    let none-0 = none_more g r (of_groups ∷ (of_inodes ∷ (Fields ∷ []))) Root c.first_bad_root.result none (c.first_bad_root.ensures g blocks are_inodes size) is-0 in
    let is-1 : s.claims.twice ≡ None = passed Twice s.claims.twice c.in_ok-unless_found-2.field-0 c.in_ok-unless_found-2.ensures in
    let none-1 = none_more g r (of_groups ∷ (of_inodes ∷ (Fields ∷ (Root ∷ [])))) Twice s.claims.twice none-0 (twice_first g blocks s seen) is-1 in
    stopped (Says g blocks) g blocks (of_groups ∷ (of_inodes ∷ (Fields ∷ (Root ∷ (Twice ∷ []))))) Chunk (Name ∷ (Parent ∷ (Links ∷ (InodeBit ∷ (BlockBit ∷ (Count ∷ [])))))) s.bad_chunk c.in_err-unless_found-3.field-0.0 c.from_residual-in_err-unless_found-3.result refl none-1
    (chunk_first g blocks s seen is-1) c.in_err-unless_found-3.ensures c.from_residual-in_err-unless_found-3.ensures.1

pub returns-in_err-unless_found-4-clause-part : goal.returns-in_err-unless_found-4-clause-part
returns-in_err-unless_found-4-clause-part c = λ blocks are_groups are_inodes seen.
    let g = c.args.g.now in
    let inodes = c.args.inodes.now in
    let s = c.args.survey.now in
    let r = reading_of g blocks in
    let size = c.requires.inodes in
    let none = none_of_records g blocks c.args.groups.now inodes s are_groups c.requires.groups are_inodes size seen in
    let is-0 : c.first_bad_root.result ≡ None = passed Root c.first_bad_root.result c.in_ok-unless_found.field-0 c.in_ok-unless_found.ensures in
    let none-0 = none_more g r (of_groups ∷ (of_inodes ∷ (Fields ∷ []))) Root c.first_bad_root.result none (c.first_bad_root.ensures g blocks are_inodes size) is-0 in
    let is-1 : s.claims.twice ≡ None = passed Twice s.claims.twice c.in_ok-unless_found-2.field-0 c.in_ok-unless_found-2.ensures in
    let none-1 = none_more g r (of_groups ∷ (of_inodes ∷ (Fields ∷ (Root ∷ [])))) Twice s.claims.twice none-0 (twice_first g blocks s seen) is-1 in
    let is-2 : s.bad_chunk ≡ None = passed Chunk s.bad_chunk c.in_ok-unless_found-3.field-0 c.in_ok-unless_found-3.ensures in
    let none-2 = none_more g r (of_groups ∷ (of_inodes ∷ (Fields ∷ (Root ∷ (Twice ∷ []))))) Chunk s.bad_chunk none-1 (chunk_first g blocks s seen is-1) is-2 in
    stopped (Says g blocks) g blocks (of_groups ∷ (of_inodes ∷ (Fields ∷ (Root ∷ (Twice ∷ (Chunk ∷ [])))))) Name (Parent ∷ (Links ∷ (InodeBit ∷ (BlockBit ∷ (Count ∷ []))))) s.bad_name c.in_err-unless_found-4.field-0.0 c.from_residual-in_err-unless_found-4.result refl none-2
    (name_first g blocks s seen is-1 is-2) c.in_err-unless_found-4.ensures c.from_residual-in_err-unless_found-4.ensures.1

pub returns-in_err-unless_found-5-clause-part : goal.returns-in_err-unless_found-5-clause-part
returns-in_err-unless_found-5-clause-part c = λ blocks are_groups are_inodes seen.
    let g = c.args.g.now in
    let inodes = c.args.inodes.now in
    let s = c.args.survey.now in
    let r = reading_of g blocks in
    let size = c.requires.inodes in
    let none = none_of_records g blocks c.args.groups.now inodes s are_groups c.requires.groups are_inodes size seen in
    let is-0 : c.first_bad_root.result ≡ None = passed Root c.first_bad_root.result c.in_ok-unless_found.field-0 c.in_ok-unless_found.ensures in
    let none-0 = none_more g r (of_groups ∷ (of_inodes ∷ (Fields ∷ []))) Root c.first_bad_root.result none (c.first_bad_root.ensures g blocks are_inodes size) is-0 in
    let is-1 : s.claims.twice ≡ None = passed Twice s.claims.twice c.in_ok-unless_found-2.field-0 c.in_ok-unless_found-2.ensures in
    let none-1 = none_more g r (of_groups ∷ (of_inodes ∷ (Fields ∷ (Root ∷ [])))) Twice s.claims.twice none-0 (twice_first g blocks s seen) is-1 in
    let is-2 : s.bad_chunk ≡ None = passed Chunk s.bad_chunk c.in_ok-unless_found-3.field-0 c.in_ok-unless_found-3.ensures in
    let none-2 = none_more g r (of_groups ∷ (of_inodes ∷ (Fields ∷ (Root ∷ (Twice ∷ []))))) Chunk s.bad_chunk none-1 (chunk_first g blocks s seen is-1) is-2 in
    let is-3 : s.bad_name ≡ None = passed Name s.bad_name c.in_ok-unless_found-4.field-0 c.in_ok-unless_found-4.ensures in
    let none-3 = none_more g r (of_groups ∷ (of_inodes ∷ (Fields ∷ (Root ∷ (Twice ∷ (Chunk ∷ [])))))) Name s.bad_name none-2 (name_first g blocks s seen is-1 is-2) is-3 in
    stopped (Says g blocks) g blocks (of_groups ∷ (of_inodes ∷ (Fields ∷ (Root ∷ (Twice ∷ (Chunk ∷ (Name ∷ []))))))) Parent (Links ∷ (InodeBit ∷ (BlockBit ∷ (Count ∷ [])))) c.in_ok-first_bad_parent.field-0 c.in_err-unless_found-5.field-0.0 c.from_residual-in_err-unless_found-5.result refl none-3
    (parent_first g blocks inodes s c.in_ok-first_bad_parent.field-0 are_inodes size seen is-1 is-2 is-3 c.in_ok-first_bad_parent.ensures) c.in_err-unless_found-5.ensures c.from_residual-in_err-unless_found-5.ensures.1

pub returns-in_err-unless_found-6-clause-part : goal.returns-in_err-unless_found-6-clause-part
returns-in_err-unless_found-6-clause-part c = λ blocks are_groups are_inodes seen.
    let g = c.args.g.now in
    let inodes = c.args.inodes.now in
    let s = c.args.survey.now in
    let r = reading_of g blocks in
    let size = c.requires.inodes in
    let none = none_of_records g blocks c.args.groups.now inodes s are_groups c.requires.groups are_inodes size seen in
    let is-0 : c.first_bad_root.result ≡ None = passed Root c.first_bad_root.result c.in_ok-unless_found.field-0 c.in_ok-unless_found.ensures in
    let none-0 = none_more g r (of_groups ∷ (of_inodes ∷ (Fields ∷ []))) Root c.first_bad_root.result none (c.first_bad_root.ensures g blocks are_inodes size) is-0 in
    let is-1 : s.claims.twice ≡ None = passed Twice s.claims.twice c.in_ok-unless_found-2.field-0 c.in_ok-unless_found-2.ensures in
    let none-1 = none_more g r (of_groups ∷ (of_inodes ∷ (Fields ∷ (Root ∷ [])))) Twice s.claims.twice none-0 (twice_first g blocks s seen) is-1 in
    let is-2 : s.bad_chunk ≡ None = passed Chunk s.bad_chunk c.in_ok-unless_found-3.field-0 c.in_ok-unless_found-3.ensures in
    let none-2 = none_more g r (of_groups ∷ (of_inodes ∷ (Fields ∷ (Root ∷ (Twice ∷ []))))) Chunk s.bad_chunk none-1 (chunk_first g blocks s seen is-1) is-2 in
    let is-3 : s.bad_name ≡ None = passed Name s.bad_name c.in_ok-unless_found-4.field-0 c.in_ok-unless_found-4.ensures in
    let none-3 = none_more g r (of_groups ∷ (of_inodes ∷ (Fields ∷ (Root ∷ (Twice ∷ (Chunk ∷ [])))))) Name s.bad_name none-2 (name_first g blocks s seen is-1 is-2) is-3 in
    let is-4 : c.in_ok-first_bad_parent.field-0 ≡ None = passed Parent c.in_ok-first_bad_parent.field-0 c.in_ok-unless_found-5.field-0 c.in_ok-unless_found-5.ensures in
    let none-4 = none_more g r (of_groups ∷ (of_inodes ∷ (Fields ∷ (Root ∷ (Twice ∷ (Chunk ∷ (Name ∷ []))))))) Parent c.in_ok-first_bad_parent.field-0 none-3 (parent_first g blocks inodes s c.in_ok-first_bad_parent.field-0 are_inodes size seen is-1 is-2 is-3 c.in_ok-first_bad_parent.ensures) is-4 in
    stopped (Says g blocks) g blocks (of_groups ∷ (of_inodes ∷ (Fields ∷ (Root ∷ (Twice ∷ (Chunk ∷ (Name ∷ (Parent ∷ [])))))))) Links (InodeBit ∷ (BlockBit ∷ (Count ∷ []))) c.first_bad_links.result c.in_err-unless_found-6.field-0.0 c.from_residual-in_err-unless_found-6.result refl none-4
    (links_first g blocks inodes s c.first_bad_links.result are_inodes size seen is-1 is-2 c.first_bad_links.ensures) c.in_err-unless_found-6.ensures c.from_residual-in_err-unless_found-6.ensures.1

pub returns-in_err-unless_found-7-clause-part : goal.returns-in_err-unless_found-7-clause-part
returns-in_err-unless_found-7-clause-part c = λ blocks are_groups are_inodes seen.
    let g = c.args.g.now in
    let inodes = c.args.inodes.now in
    let s = c.args.survey.now in
    let r = reading_of g blocks in
    let size = c.requires.inodes in
    let none = none_of_records g blocks c.args.groups.now inodes s are_groups c.requires.groups are_inodes size seen in
    let is-0 : c.first_bad_root.result ≡ None = passed Root c.first_bad_root.result c.in_ok-unless_found.field-0 c.in_ok-unless_found.ensures in
    let none-0 = none_more g r (of_groups ∷ (of_inodes ∷ (Fields ∷ []))) Root c.first_bad_root.result none (c.first_bad_root.ensures g blocks are_inodes size) is-0 in
    let is-1 : s.claims.twice ≡ None = passed Twice s.claims.twice c.in_ok-unless_found-2.field-0 c.in_ok-unless_found-2.ensures in
    let none-1 = none_more g r (of_groups ∷ (of_inodes ∷ (Fields ∷ (Root ∷ [])))) Twice s.claims.twice none-0 (twice_first g blocks s seen) is-1 in
    let is-2 : s.bad_chunk ≡ None = passed Chunk s.bad_chunk c.in_ok-unless_found-3.field-0 c.in_ok-unless_found-3.ensures in
    let none-2 = none_more g r (of_groups ∷ (of_inodes ∷ (Fields ∷ (Root ∷ (Twice ∷ []))))) Chunk s.bad_chunk none-1 (chunk_first g blocks s seen is-1) is-2 in
    let is-3 : s.bad_name ≡ None = passed Name s.bad_name c.in_ok-unless_found-4.field-0 c.in_ok-unless_found-4.ensures in
    let none-3 = none_more g r (of_groups ∷ (of_inodes ∷ (Fields ∷ (Root ∷ (Twice ∷ (Chunk ∷ [])))))) Name s.bad_name none-2 (name_first g blocks s seen is-1 is-2) is-3 in
    let is-4 : c.in_ok-first_bad_parent.field-0 ≡ None = passed Parent c.in_ok-first_bad_parent.field-0 c.in_ok-unless_found-5.field-0 c.in_ok-unless_found-5.ensures in
    let none-4 = none_more g r (of_groups ∷ (of_inodes ∷ (Fields ∷ (Root ∷ (Twice ∷ (Chunk ∷ (Name ∷ []))))))) Parent c.in_ok-first_bad_parent.field-0 none-3 (parent_first g blocks inodes s c.in_ok-first_bad_parent.field-0 are_inodes size seen is-1 is-2 is-3 c.in_ok-first_bad_parent.ensures) is-4 in
    let is-5 : c.first_bad_links.result ≡ None = passed Links c.first_bad_links.result c.in_ok-unless_found-6.field-0 c.in_ok-unless_found-6.ensures in
    let none-5 = none_more g r (of_groups ∷ (of_inodes ∷ (Fields ∷ (Root ∷ (Twice ∷ (Chunk ∷ (Name ∷ (Parent ∷ [])))))))) Links c.first_bad_links.result none-4 (links_first g blocks inodes s c.first_bad_links.result are_inodes size seen is-1 is-2 c.first_bad_links.ensures) is-5 in
    stopped (Says g blocks) g blocks (of_groups ∷ (of_inodes ∷ (Fields ∷ (Root ∷ (Twice ∷ (Chunk ∷ (Name ∷ (Parent ∷ (Links ∷ []))))))))) InodeBit (BlockBit ∷ (Count ∷ [])) c.first_bad_inode_bit.result c.in_err-unless_found-7.field-0.0 c.from_residual-in_err-unless_found-7.result refl none-5
    (c.first_bad_inode_bit.ensures blocks are_groups are_inodes) c.in_err-unless_found-7.ensures c.from_residual-in_err-unless_found-7.ensures.1

pub returns-in_err-unless_found-8-clause-part : goal.returns-in_err-unless_found-8-clause-part
returns-in_err-unless_found-8-clause-part c = λ blocks are_groups are_inodes seen.
    let g = c.args.g.now in
    let inodes = c.args.inodes.now in
    let s = c.args.survey.now in
    let r = reading_of g blocks in
    let size = c.requires.inodes in
    let none = none_of_records g blocks c.args.groups.now inodes s are_groups c.requires.groups are_inodes size seen in
    let is-0 : c.first_bad_root.result ≡ None = passed Root c.first_bad_root.result c.in_ok-unless_found.field-0 c.in_ok-unless_found.ensures in
    let none-0 = none_more g r (of_groups ∷ (of_inodes ∷ (Fields ∷ []))) Root c.first_bad_root.result none (c.first_bad_root.ensures g blocks are_inodes size) is-0 in
    let is-1 : s.claims.twice ≡ None = passed Twice s.claims.twice c.in_ok-unless_found-2.field-0 c.in_ok-unless_found-2.ensures in
    let none-1 = none_more g r (of_groups ∷ (of_inodes ∷ (Fields ∷ (Root ∷ [])))) Twice s.claims.twice none-0 (twice_first g blocks s seen) is-1 in
    let is-2 : s.bad_chunk ≡ None = passed Chunk s.bad_chunk c.in_ok-unless_found-3.field-0 c.in_ok-unless_found-3.ensures in
    let none-2 = none_more g r (of_groups ∷ (of_inodes ∷ (Fields ∷ (Root ∷ (Twice ∷ []))))) Chunk s.bad_chunk none-1 (chunk_first g blocks s seen is-1) is-2 in
    let is-3 : s.bad_name ≡ None = passed Name s.bad_name c.in_ok-unless_found-4.field-0 c.in_ok-unless_found-4.ensures in
    let none-3 = none_more g r (of_groups ∷ (of_inodes ∷ (Fields ∷ (Root ∷ (Twice ∷ (Chunk ∷ [])))))) Name s.bad_name none-2 (name_first g blocks s seen is-1 is-2) is-3 in
    let is-4 : c.in_ok-first_bad_parent.field-0 ≡ None = passed Parent c.in_ok-first_bad_parent.field-0 c.in_ok-unless_found-5.field-0 c.in_ok-unless_found-5.ensures in
    let none-4 = none_more g r (of_groups ∷ (of_inodes ∷ (Fields ∷ (Root ∷ (Twice ∷ (Chunk ∷ (Name ∷ []))))))) Parent c.in_ok-first_bad_parent.field-0 none-3 (parent_first g blocks inodes s c.in_ok-first_bad_parent.field-0 are_inodes size seen is-1 is-2 is-3 c.in_ok-first_bad_parent.ensures) is-4 in
    let is-5 : c.first_bad_links.result ≡ None = passed Links c.first_bad_links.result c.in_ok-unless_found-6.field-0 c.in_ok-unless_found-6.ensures in
    let none-5 = none_more g r (of_groups ∷ (of_inodes ∷ (Fields ∷ (Root ∷ (Twice ∷ (Chunk ∷ (Name ∷ (Parent ∷ [])))))))) Links c.first_bad_links.result none-4 (links_first g blocks inodes s c.first_bad_links.result are_inodes size seen is-1 is-2 c.first_bad_links.ensures) is-5 in
    let is-6 : c.first_bad_inode_bit.result ≡ None = passed InodeBit c.first_bad_inode_bit.result c.in_ok-unless_found-7.field-0 c.in_ok-unless_found-7.ensures in
    let none-6 = none_more g r (of_groups ∷ (of_inodes ∷ (Fields ∷ (Root ∷ (Twice ∷ (Chunk ∷ (Name ∷ (Parent ∷ (Links ∷ []))))))))) InodeBit c.first_bad_inode_bit.result none-5 (c.first_bad_inode_bit.ensures blocks are_groups are_inodes) is-6 in
    stopped (Says g blocks) g blocks (of_groups ∷ (of_inodes ∷ (Fields ∷ (Root ∷ (Twice ∷ (Chunk ∷ (Name ∷ (Parent ∷ (Links ∷ (InodeBit ∷ [])))))))))) BlockBit (Count ∷ []) c.first_bad_block_bit.result c.in_err-unless_found-8.field-0.0 c.from_residual-in_err-unless_found-8.result refl none-6
    (c.first_bad_block_bit.ensures blocks are_groups (claimed_by_all g blocks s seen)) c.in_err-unless_found-8.ensures c.from_residual-in_err-unless_found-8.ensures.1

pub returns-in_err-unless_found-9-clause-part : goal.returns-in_err-unless_found-9-clause-part
returns-in_err-unless_found-9-clause-part c = λ blocks are_groups are_inodes seen.
    let g = c.args.g.now in
    let inodes = c.args.inodes.now in
    let s = c.args.survey.now in
    let r = reading_of g blocks in
    let size = c.requires.inodes in
    let none = none_of_records g blocks c.args.groups.now inodes s are_groups c.requires.groups are_inodes size seen in
    let is-0 : c.first_bad_root.result ≡ None = passed Root c.first_bad_root.result c.in_ok-unless_found.field-0 c.in_ok-unless_found.ensures in
    let none-0 = none_more g r (of_groups ∷ (of_inodes ∷ (Fields ∷ []))) Root c.first_bad_root.result none (c.first_bad_root.ensures g blocks are_inodes size) is-0 in
    let is-1 : s.claims.twice ≡ None = passed Twice s.claims.twice c.in_ok-unless_found-2.field-0 c.in_ok-unless_found-2.ensures in
    let none-1 = none_more g r (of_groups ∷ (of_inodes ∷ (Fields ∷ (Root ∷ [])))) Twice s.claims.twice none-0 (twice_first g blocks s seen) is-1 in
    let is-2 : s.bad_chunk ≡ None = passed Chunk s.bad_chunk c.in_ok-unless_found-3.field-0 c.in_ok-unless_found-3.ensures in
    let none-2 = none_more g r (of_groups ∷ (of_inodes ∷ (Fields ∷ (Root ∷ (Twice ∷ []))))) Chunk s.bad_chunk none-1 (chunk_first g blocks s seen is-1) is-2 in
    let is-3 : s.bad_name ≡ None = passed Name s.bad_name c.in_ok-unless_found-4.field-0 c.in_ok-unless_found-4.ensures in
    let none-3 = none_more g r (of_groups ∷ (of_inodes ∷ (Fields ∷ (Root ∷ (Twice ∷ (Chunk ∷ [])))))) Name s.bad_name none-2 (name_first g blocks s seen is-1 is-2) is-3 in
    let is-4 : c.in_ok-first_bad_parent.field-0 ≡ None = passed Parent c.in_ok-first_bad_parent.field-0 c.in_ok-unless_found-5.field-0 c.in_ok-unless_found-5.ensures in
    let none-4 = none_more g r (of_groups ∷ (of_inodes ∷ (Fields ∷ (Root ∷ (Twice ∷ (Chunk ∷ (Name ∷ []))))))) Parent c.in_ok-first_bad_parent.field-0 none-3 (parent_first g blocks inodes s c.in_ok-first_bad_parent.field-0 are_inodes size seen is-1 is-2 is-3 c.in_ok-first_bad_parent.ensures) is-4 in
    let is-5 : c.first_bad_links.result ≡ None = passed Links c.first_bad_links.result c.in_ok-unless_found-6.field-0 c.in_ok-unless_found-6.ensures in
    let none-5 = none_more g r (of_groups ∷ (of_inodes ∷ (Fields ∷ (Root ∷ (Twice ∷ (Chunk ∷ (Name ∷ (Parent ∷ [])))))))) Links c.first_bad_links.result none-4 (links_first g blocks inodes s c.first_bad_links.result are_inodes size seen is-1 is-2 c.first_bad_links.ensures) is-5 in
    let is-6 : c.first_bad_inode_bit.result ≡ None = passed InodeBit c.first_bad_inode_bit.result c.in_ok-unless_found-7.field-0 c.in_ok-unless_found-7.ensures in
    let none-6 = none_more g r (of_groups ∷ (of_inodes ∷ (Fields ∷ (Root ∷ (Twice ∷ (Chunk ∷ (Name ∷ (Parent ∷ (Links ∷ []))))))))) InodeBit c.first_bad_inode_bit.result none-5 (c.first_bad_inode_bit.ensures blocks are_groups are_inodes) is-6 in
    let is-7 : c.first_bad_block_bit.result ≡ None = passed BlockBit c.first_bad_block_bit.result c.in_ok-unless_found-8.field-0 c.in_ok-unless_found-8.ensures in
    let none-7 = none_more g r (of_groups ∷ (of_inodes ∷ (Fields ∷ (Root ∷ (Twice ∷ (Chunk ∷ (Name ∷ (Parent ∷ (Links ∷ (InodeBit ∷ [])))))))))) BlockBit c.first_bad_block_bit.result none-6 (c.first_bad_block_bit.ensures blocks are_groups (claimed_by_all g blocks s seen)) is-7 in
    stopped (Says g blocks) g blocks (of_groups ∷ (of_inodes ∷ (Fields ∷ (Root ∷ (Twice ∷ (Chunk ∷ (Name ∷ (Parent ∷ (Links ∷ (InodeBit ∷ (BlockBit ∷ []))))))))))) Count [] c.first_bad_count.result c.in_err-unless_found-9.field-0.0 c.from_residual-in_err-unless_found-9.result refl none-7
    (c.first_bad_count.ensures blocks are_groups) c.in_err-unless_found-9.ensures c.from_residual-in_err-unless_found-9.ensures.1

pub returns-clause-part : goal.returns-clause-part
returns-clause-part c = λ blocks are_groups are_inodes seen.
    let g = c.args.g.now in
    let inodes = c.args.inodes.now in
    let s = c.args.survey.now in
    let r = reading_of g blocks in
    let size = c.requires.inodes in
    let none = none_of_records g blocks c.args.groups.now inodes s are_groups c.requires.groups are_inodes size seen in
    let is-0 : c.first_bad_root.result ≡ None = passed Root c.first_bad_root.result c.in_ok-unless_found.field-0 c.in_ok-unless_found.ensures in
    let none-0 = none_more g r (of_groups ∷ (of_inodes ∷ (Fields ∷ []))) Root c.first_bad_root.result none (c.first_bad_root.ensures g blocks are_inodes size) is-0 in
    let is-1 : s.claims.twice ≡ None = passed Twice s.claims.twice c.in_ok-unless_found-2.field-0 c.in_ok-unless_found-2.ensures in
    let none-1 = none_more g r (of_groups ∷ (of_inodes ∷ (Fields ∷ (Root ∷ [])))) Twice s.claims.twice none-0 (twice_first g blocks s seen) is-1 in
    let is-2 : s.bad_chunk ≡ None = passed Chunk s.bad_chunk c.in_ok-unless_found-3.field-0 c.in_ok-unless_found-3.ensures in
    let none-2 = none_more g r (of_groups ∷ (of_inodes ∷ (Fields ∷ (Root ∷ (Twice ∷ []))))) Chunk s.bad_chunk none-1 (chunk_first g blocks s seen is-1) is-2 in
    let is-3 : s.bad_name ≡ None = passed Name s.bad_name c.in_ok-unless_found-4.field-0 c.in_ok-unless_found-4.ensures in
    let none-3 = none_more g r (of_groups ∷ (of_inodes ∷ (Fields ∷ (Root ∷ (Twice ∷ (Chunk ∷ [])))))) Name s.bad_name none-2 (name_first g blocks s seen is-1 is-2) is-3 in
    let is-4 : c.in_ok-first_bad_parent.field-0 ≡ None = passed Parent c.in_ok-first_bad_parent.field-0 c.in_ok-unless_found-5.field-0 c.in_ok-unless_found-5.ensures in
    let none-4 = none_more g r (of_groups ∷ (of_inodes ∷ (Fields ∷ (Root ∷ (Twice ∷ (Chunk ∷ (Name ∷ []))))))) Parent c.in_ok-first_bad_parent.field-0 none-3 (parent_first g blocks inodes s c.in_ok-first_bad_parent.field-0 are_inodes size seen is-1 is-2 is-3 c.in_ok-first_bad_parent.ensures) is-4 in
    let is-5 : c.first_bad_links.result ≡ None = passed Links c.first_bad_links.result c.in_ok-unless_found-6.field-0 c.in_ok-unless_found-6.ensures in
    let none-5 = none_more g r (of_groups ∷ (of_inodes ∷ (Fields ∷ (Root ∷ (Twice ∷ (Chunk ∷ (Name ∷ (Parent ∷ [])))))))) Links c.first_bad_links.result none-4 (links_first g blocks inodes s c.first_bad_links.result are_inodes size seen is-1 is-2 c.first_bad_links.ensures) is-5 in
    let is-6 : c.first_bad_inode_bit.result ≡ None = passed InodeBit c.first_bad_inode_bit.result c.in_ok-unless_found-7.field-0 c.in_ok-unless_found-7.ensures in
    let none-6 = none_more g r (of_groups ∷ (of_inodes ∷ (Fields ∷ (Root ∷ (Twice ∷ (Chunk ∷ (Name ∷ (Parent ∷ (Links ∷ []))))))))) InodeBit c.first_bad_inode_bit.result none-5 (c.first_bad_inode_bit.ensures blocks are_groups are_inodes) is-6 in
    let is-7 : c.first_bad_block_bit.result ≡ None = passed BlockBit c.first_bad_block_bit.result c.in_ok-unless_found-8.field-0 c.in_ok-unless_found-8.ensures in
    let none-7 = none_more g r (of_groups ∷ (of_inodes ∷ (Fields ∷ (Root ∷ (Twice ∷ (Chunk ∷ (Name ∷ (Parent ∷ (Links ∷ (InodeBit ∷ [])))))))))) BlockBit c.first_bad_block_bit.result none-6 (c.first_bad_block_bit.ensures blocks are_groups (claimed_by_all g blocks s seen)) is-7 in
    let is-8 : c.first_bad_count.result ≡ None = passed Count c.first_bad_count.result c.in_ok-unless_found-9.field-0 c.in_ok-unless_found-9.ensures in
    let none-8 = none_more g r (of_groups ∷ (of_inodes ∷ (Fields ∷ (Root ∷ (Twice ∷ (Chunk ∷ (Name ∷ (Parent ∷ (Links ∷ (InodeBit ∷ (BlockBit ∷ []))))))))))) Count c.first_bad_count.result none-7 (c.first_bad_count.ensures blocks are_groups) is-8 in
    (c.counts.ensures blocks are_inodes (claimed_by_all g blocks s seen), nothing_found g r none-8)
