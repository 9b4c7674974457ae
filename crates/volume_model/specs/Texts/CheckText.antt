-- The line for what a check of a volume answers.
use Rattle.std.specs.Prelude.{ℕ, List, [], ◌∷◌, ◌++◌, codes, Option, option_and_then, option_map}
use Rattle.volume_model.specs.declared.finding.Kind.{Kind}
use Rattle.volume_model.specs.declared.finding.Kind.TheVariants.{Group, Inode, Fields, Root, Twice, Chunk, Name, Parent, Links, InodeBit, BlockBit, Count}
use Rattle.volume_model.specs.declared.finding.Verdict.{Verdict}
use Rattle.volume_model.specs.declared.finding.Verdict.TheVariants.{Clean, Finding}
use Rattle.volume_model.specs.Format.{Image, block, geometry_of}
use Rattle.volume_model.specs.Log.{recovered}
use Rattle.volume_model.specs.Texts.ScanText.{field}
use Rattle.volume_model.specs.Sound.{verdict_of}

-- the word for a kind of finding
abbrev pub word_of : Kind → List ℕ
word_of Group = codes "group"
word_of Inode = codes "inode"
word_of Fields = codes "fields"
word_of Root = codes "root"
word_of Twice = codes "twice"
word_of Chunk = codes "chunk"
word_of Name = codes "name"
word_of Parent = codes "parent"
word_of Links = codes "links"
word_of InodeBit = codes "inodebit"
word_of BlockBit = codes "blockbit"
word_of Count = codes "count"

-- the line for what a check answers
unfoldable pub verdict_text : Verdict → List ℕ
verdict_text (Clean counts) =
    field (codes "clean inodes") counts.inodes ++ (field (codes " blocks") counts.blocks ++ (field (codes " free") counts.free ++ (10 ∷ [])))
verdict_text (Finding kind number) = codes "unsound " ++ (field (word_of kind) number ++ (10 ∷ []))

-- what a check answers of an image, if it is a volume whose log is a list of transactions
abbrev pub verdict_of_image : Image → Option Verdict
verdict_of_image image = option_and_then (λ g. option_map (λ content. verdict_of g (block content)) (recovered g image)) (geometry_of image)

-- the line for it
unfoldable pub check_text_of : Image → Option (List ℕ)
check_text_of image = option_map verdict_text (verdict_of_image image)
