-- What a `create` is answered that asks a store, where the content is told.
use Rattle.std.proofs.Common.{◌≡◌, ℕ, true, false, List, [], Option, Some, None, IfSome, refl, subst}
use Rattle.std.specs.Prelude.{is_some}
use Rattle.std.specs.Option.{option_map}
use Rattle.lufs_base.specs.declared.geometry.Geometry.{Geometry}
use Rattle.lufs_base.specs.declared.numbers.Ino.{Ino}
use Rattle.volume_model.specs.declared.hand.Hand.{Hand}
use Rattle.volume_model.specs.declared.inode.Dinode.{Dinode}
use Rattle.volume_model.specs.Format.{Image, block}
use Rattle.volume_model.specs.Sound.{Tree, free_inodes_of, free_blocks_of, StandsFor}
use Rattle.tree_types.specs.declared.credentials.Cred.{Cred}
use Rattle.tree_types.specs.declared.reply.Refusal.{Refusal}
use Rattle.tree_types.specs.declared.reply.Refusal.TheVariants.{Denied, Exist, Fbig}
use Rattle.history_model.specs.Places.{is_directory_in}
use Rattle.history_model.specs.Walk.{WalkEnd}
use Rattle.inode_reads.specs.InodeOf.{IsInodeOf}
use Rattle.name_ops.specs.Asked.{IsWritable, name_blocks, lack_by}
use Rattle.name_ops.specs.declared.wanted.Wanted.{Wanted}
use Rattle.name_ops.specs.declared.wanted.Wanted.TheVariants.{Refused, Wants}
use Rattle.name_ops.proofs.Decided.{answer, denied, there, past, lacking, enough}

pub some_mapped : (o : Option Ino) → is_some (option_map (λ i. i.0) o) ≡ is_some o
some_mapped None = refl
some_mapped (Some i) = refl

-- what was asked, of each tree
abbrev pub Writable : Option Image → Geometry → Cred → (dir : ℕ) → Option Dinode → Type 0
Writable content g cred dir found = (tree : Tree) (hands : List Hand) → IfSome content (λ image. StandsFor g (block image) tree hands → IsWritable g tree cred dir found)

abbrev pub Blocks : Option Image → Geometry → (dir : ℕ) → (name : List ℕ) → Dinode → Option ℕ → Type 0
Blocks content g dir name d blocks = (tree : Tree) (hands : List Hand) → IfSome content (λ image. StandsFor g (block image) tree hands
    → IsInodeOf g tree dir (Some d) → is_directory_in tree dir ≡ true → blocks ≡ name_blocks tree dir name)

abbrev pub Lack : Option Image → Geometry → (others : ℕ) → List Hand → Option Refusal → Type 0
Lack content g others held why = (tree : Tree) → IfSome content (λ image. StandsFor g (block image) tree held → why ≡ lack_by true others (free_inodes_of g tree) (free_blocks_of g tree))

-- what is answered
abbrev pub Answers : Option Image → Geometry → Cred → WalkEnd → List Hand → Wanted → Type 0
Answers content g cred p held wanted = (tree : Tree) (path : List ℕ) (mode : ℕ) → IfSome content (λ image. StandsFor g (block image) tree held → is_directory_in tree p.dir ≡ true
    → wanted ≡ answer g tree cred path mode p)

pub told_denied : (content : Option Image) (g : Geometry) (cred : Cred) (p : WalkEnd) (held : List Hand) → Writable content g cred p.dir None → Answers content g cred p held (Refused Denied)
told_denied None g cred p held writable tree path mode = tt
told_denied (Some image) g cred p held writable tree path mode = λ stands directory. denied g tree cred path mode p (writable tree held stands)

module _ (d : Dinode) where
  pub told_there : (content : Option Image) (g : Geometry) (cred : Cred) (p : WalkEnd) (held : List Hand) → Writable content g cred p.dir (Some d) → is_some p.found ≡ true → Answers content g cred p held (Refused Exist)
  told_there None g cred p held writable found tree path mode = tt
  told_there (Some image) g cred p held writable found tree path mode = λ stands directory. there g tree cred path mode p (writable tree held stands).0 found

  pub told_past : (content now : Option Image) (g h : Geometry) (cred : Cred) (p : WalkEnd) (held : List Hand) → now ≡ content → h ≡ g → Writable content g cred p.dir (Some d) → is_some p.found ≡ false
      → Blocks now h p.dir p.name d None → Answers content g cred p held (Refused Fbig)
  told_past None now g h cred p held same alike writable found blocks tree path mode = tt
  told_past (Some image) now g h cred p held same alike writable found blocks tree path mode = λ stands directory.
      let may = writable tree held stands in
      let here = subst (λ (k : Geometry). Blocks (Some image) k p.dir p.name d None) alike (subst (λ (c : Option Image). Blocks c h p.dir p.name d None) same blocks) in
      past g tree cred path mode p may.0 found (here tree held stands may.1 directory)

  module _ (others : ℕ) where
    pub told_lacking : (content now later : Option Image) (g h k : Geometry) (cred : Cred) (p : WalkEnd) (held : List Hand) → now ≡ content → h ≡ g → later ≡ content → k ≡ g → Writable content g cred p.dir (Some d)
        → is_some p.found ≡ false → Blocks now h p.dir p.name d (Some others) → (why : Refusal) → Lack later k others held (Some why) → Answers content g cred p held (Refused why)
    told_lacking None now later g h k cred p held same alike same_later alike_later writable found blocks why lack tree path mode = tt
    told_lacking (Some image) now later g h k cred p held same alike same_later alike_later writable found blocks why lack tree path mode = λ stands directory.
        let may = writable tree held stands in
        let here = subst (λ (k : Geometry). Blocks (Some image) k p.dir p.name d (Some others)) alike (subst (λ (c : Option Image). Blocks c h p.dir p.name d (Some others)) same blocks) in
        let free = subst (λ (x : Geometry). Lack (Some image) x others held (Some why)) alike_later (subst (λ (c : Option Image). Lack c k others held (Some why)) same_later lack) in
        lacking g tree cred path mode p may.0 found others (here tree held stands may.1 directory) why (free tree stands)

    pub told_enough : (content now later : Option Image) (g h k : Geometry) (cred : Cred) (p : WalkEnd) (held : List Hand) → now ≡ content → h ≡ g → later ≡ content → k ≡ g → Writable content g cred p.dir (Some d)
        → is_some p.found ≡ false → Blocks now h p.dir p.name d (Some others) → Lack later k others held None → Answers content g cred p held (Wants true [] others)
    told_enough None now later g h k cred p held same alike same_later alike_later writable found blocks lack tree path mode = tt
    told_enough (Some image) now later g h k cred p held same alike same_later alike_later writable found blocks lack tree path mode = λ stands directory.
        let may = writable tree held stands in
        let here = subst (λ (k : Geometry). Blocks (Some image) k p.dir p.name d (Some others)) alike (subst (λ (c : Option Image). Blocks c h p.dir p.name d (Some others)) same blocks) in
        let free = subst (λ (x : Geometry). Lack (Some image) x others held None) alike_later (subst (λ (c : Option Image). Lack c k others held None) same_later lack) in
        enough g tree cred path mode p may.0 found others (here tree held stands may.1 directory) (free tree stands)
