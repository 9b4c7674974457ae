-- What a `mkdir` is answered that asks a store, where the content is told.
use Rattle.std.proofs.Common.{◌≡◌, ◌≤◌, ◌<◌, ℕ, ◌+◌, true, false, List, [], Option, Some, None, IfSome, subst, arith}
use Rattle.std.specs.Prelude.{is_some, IsSomeAnd, nat_le}
use Rattle.std.proofs.lemmas.Bool.{le-leb, lt-leb}
use Rattle.lufs_base.specs.declared.geometry.Geometry.{Geometry}
use Rattle.volume_model.specs.declared.hand.Hand.{Hand}
use Rattle.volume_model.specs.declared.inode.Dinode.{Dinode}
use Rattle.volume_model.specs.Format.{Image, block}
use Rattle.volume_model.specs.Sound.{Node, Tree, StandsFor}
use Rattle.tree_types.specs.declared.credentials.Cred.{Cred}
use Rattle.tree_types.specs.declared.reply.Refusal.{Refusal}
use Rattle.tree_types.specs.declared.reply.Refusal.TheVariants.{Denied, Exist, Mlink, Fbig}
use Rattle.history_model.specs.Places.{is_directory_in, links_in}
use Rattle.history_model.specs.Walk.{WalkEnd}
use Rattle.inode_reads.specs.InodeOf.{IsRecordOf}
use Rattle.name_ops.specs.declared.wanted.Wanted.{Wanted}
use Rattle.name_ops.specs.declared.wanted.Wanted.TheVariants.{Refused, Wants}
use Rattle.name_ops.proofs.WantedCreate.{Writable, Blocks, Lack}
use Rattle.name_ops.proofs.DecidedMkdir.{answer, denied, there, linked, past, lacking, enough}

-- what is answered
abbrev pub Answers : Option Image → Geometry → Cred → WalkEnd → List Hand → Wanted → Type 0
Answers content g cred p held wanted = (tree : Tree) (path : List ℕ) (mode : ℕ) → IfSome content (λ image. StandsFor g (block image) tree held → is_directory_in tree p.dir ≡ true
    → wanted ≡ answer g tree cred path mode p)

links_of : (g : Geometry) (tree : Tree) (i : ℕ) (d : Dinode) (o : Option Node) → IsSomeAnd o (IsRecordOf g tree i d) → d.links ≡ links_in g tree i
links_of g tree i d None is = absurd is
links_of g tree i d (Some node) is = is.links

most_if : (links names : ℕ) → links ≡ names → 32767 ≤ links → nat_le 32767 names ≡ true
most_if links names same many = le-leb 32767 names (omega (arith, same, many))

few_if : (links names : ℕ) → links ≡ names → links < 32767 → nat_le 32767 names ≡ false
few_if links names same few = lt-leb 32767 names (omega (arith, same, few))

pub told_denied : (content : Option Image) (g : Geometry) (cred : Cred) (p : WalkEnd) (held : List Hand) → Writable content g cred p.dir None → Answers content g cred p held (Refused Denied)
told_denied None g cred p held writable tree path mode = tt
told_denied (Some image) g cred p held writable tree path mode = λ stands directory. denied g tree cred path mode p (writable tree held stands)

module _ (d : Dinode) where
  pub told_there : (content : Option Image) (g : Geometry) (cred : Cred) (p : WalkEnd) (held : List Hand) → Writable content g cred p.dir (Some d) → is_some p.found ≡ true → Answers content g cred p held (Refused Exist)
  told_there None g cred p held writable found tree path mode = tt
  told_there (Some image) g cred p held writable found tree path mode = λ stands directory. there g tree cred path mode p (writable tree held stands).0 found

  pub told_linked : (content : Option Image) (g : Geometry) (cred : Cred) (p : WalkEnd) (held : List Hand) → Writable content g cred p.dir (Some d) → is_some p.found ≡ false → 32767 ≤ d.links
      → Answers content g cred p held (Refused Mlink)
  told_linked None g cred p held writable found most tree path mode = tt
  told_linked (Some image) g cred p held writable found most tree path mode = λ stands directory.
      let may = writable tree held stands in
      linked g tree cred path mode p may.0 found (most_if d.links (links_in g tree p.dir) (links_of g tree p.dir d (tree p.dir) may.1) most)

  module _ (few : d.links < 32767) where
    pub told_past : (content now : Option Image) (g h : Geometry) (cred : Cred) (p : WalkEnd) (held : List Hand) → now ≡ content → h ≡ g → Writable content g cred p.dir (Some d) → is_some p.found ≡ false
        → Blocks now h p.dir p.name d None → Answers content g cred p held (Refused Fbig)
    told_past None now g h cred p held same alike writable found blocks tree path mode = tt
    told_past (Some image) now g h cred p held same alike writable found blocks tree path mode = λ stands directory.
        let may = writable tree held stands in
        let here = subst (λ (k : Geometry). Blocks (Some image) k p.dir p.name d None) alike (subst (λ (c : Option Image). Blocks c h p.dir p.name d None) same blocks) in
        past g tree cred path mode p may.0 found (few_if d.links (links_in g tree p.dir) (links_of g tree p.dir d (tree p.dir) may.1) few) (here tree held stands may.1 directory)

    module _ (named : ℕ) where
      pub told_lacking : (content now later : Option Image) (g h k : Geometry) (cred : Cred) (p : WalkEnd) (held : List Hand) → now ≡ content → h ≡ g → later ≡ content → k ≡ g → Writable content g cred p.dir (Some d)
          → is_some p.found ≡ false → Blocks now h p.dir p.name d (Some named) → (why : Refusal) → Lack later k (named + 1) held (Some why) → Answers content g cred p held (Refused why)
      told_lacking None now later g h k cred p held same alike same_later alike_later writable found blocks why lack tree path mode = tt
      told_lacking (Some image) now later g h k cred p held same alike same_later alike_later writable found blocks why lack tree path mode = λ stands directory.
          let may = writable tree held stands in
          let here = subst (λ (k : Geometry). Blocks (Some image) k p.dir p.name d (Some named)) alike (subst (λ (c : Option Image). Blocks c h p.dir p.name d (Some named)) same blocks) in
          let free = subst (λ (x : Geometry). Lack (Some image) x (named + 1) held (Some why)) alike_later (subst (λ (c : Option Image). Lack c k (named + 1) held (Some why)) same_later lack) in
          lacking g tree cred path mode p may.0 found (few_if d.links (links_in g tree p.dir) (links_of g tree p.dir d (tree p.dir) may.1) few) named (here tree held stands may.1 directory) why (free tree stands)

      pub told_enough : (content now later : Option Image) (g h k : Geometry) (cred : Cred) (p : WalkEnd) (held : List Hand) → now ≡ content → h ≡ g → later ≡ content → k ≡ g → Writable content g cred p.dir (Some d)
          → is_some p.found ≡ false → Blocks now h p.dir p.name d (Some named) → Lack later k (named + 1) held None → Answers content g cred p held (Wants true [] (named + 1))
      told_enough None now later g h k cred p held same alike same_later alike_later writable found blocks lack tree path mode = tt
      told_enough (Some image) now later g h k cred p held same alike same_later alike_later writable found blocks lack tree path mode = λ stands directory.
          let may = writable tree held stands in
          let here = subst (λ (k : Geometry). Blocks (Some image) k p.dir p.name d (Some named)) alike (subst (λ (c : Option Image). Blocks c h p.dir p.name d (Some named)) same blocks) in
          let free = subst (λ (x : Geometry). Lack (Some image) x (named + 1) held None) alike_later (subst (λ (c : Option Image). Lack c k (named + 1) held None) same_later lack) in
          enough g tree cred path mode p may.0 found (few_if d.links (links_in g tree p.dir) (links_of g tree p.dir d (tree p.dir) may.1) few) named (here tree held stands may.1 directory) (free tree stands)
