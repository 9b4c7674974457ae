-- What a crash of a session leaves may be mounted again.
use Rattle.std.proofs.Common.{◌≡◌, ◌≤◌, ◌<◌, ℕ, ◌/◌, ◌%◌, List, length, map, slice_index, Option, Some, refl, sym, ap, ◌∙◌, subst, arith, get_or-take}
use Rattle.std.specs.Prelude.{IsSomeAnd}
use Rattle.std.specs.Option.{option_map}
use Rattle.lufs_base.specs.declared.geometry.Geometry.{Geometry}
use Rattle.volume_model.specs.declared.log.Header.{Header}
use Rattle.volume_model.specs.declared.log.Tx.{Tx}
use Rattle.volume_model.specs.Format.{Image, Blocks, block, geometry_of}
use Rattle.volume_model.specs.Log.{Log, NoHeader, WithHeader, Transactions, Listed, BadRun, log_of, recovered, recovered_by, replayed}
use Rattle.volume_model.specs.Crash.{Outcome}
use Rattle.volume_model.specs.Sound.{UsedInode, reading_of, used_at, FileNode, Node, File, Directory, Link, Tree, shape_of, shape_of_block, shape_of_node, node_of, tree_of, HasShape}
use Rattle.log_laws.specs.StaleSectors.{HasNoIdentAbove}
use Rattle.log_laws.specs.LogOnImage.{ring_sector}
use Rattle.history_model.specs.Histories.{History, replay_of}
use Rattle.history_model.specs.CrashSafety.{byte_named, HasKept, RecoversTo, IsBoundary}
use Rattle.journal_laws.proofs.LogRead.{log_read}
use Rattle.history_laws.specs.Named.{HasByteOf}
use Rattle.history_laws.specs.Volumes.{Volume, KeepsHistory}
use Rattle.history_laws.specs.Sessions.{MountsAgain}
use Rattle.history_laws.proofs.NamedBlocks.{named_by_shape, named_in_record, block_by_name}
use Rattle.history_laws.proofs.Moments.{up_to_now, geometry_up_to_now}

abbrev size_in : Option Node → ℕ
size_in (Some (File file)) = file.size
size_in other = 0

file_of_shape : (node : Node) (file : FileNode) → ◌≡◌ {A = Option Node} (Some (shape_of_node node)) (Some (File (record file { blocks = map shape_of_block file.blocks })))
    → (f : FileNode) × (node ≡ File f) × (f.size ≡ file.size)
file_of_shape (File f) file is = (f, refl, ap size_in is)
file_of_shape (Directory directory) file is = absurd cc
file_of_shape (Link link) file is = absurd cc

tree_in_use : (g : Geometry) (blocks : Blocks) (ino : ℕ) (u : UsedInode) → used_at (reading_of g blocks) ino ≡ Some u → tree_of g blocks ino ≡ Some (node_of blocks u)
unfolding tree_of
tree_in_use g blocks ino u used = ap (option_map (node_of blocks)) used

shape_at : (tree : Tree) (ino : ℕ) (node : Node) → tree ino ≡ Some node → shape_of tree ino ≡ Some (shape_of_node node)
unfolding shape_of
shape_at tree ino node is = ap (option_map shape_of_node) is

-- A content of a tree's shape in which a byte is kept has that byte.
pub kept_in_tree : (g : Geometry) (content : Image) (tree : Tree) (ino p value : ℕ) → shape_of (tree_of g (block content)) ≡ shape_of tree → HasByteOf tree ino p value → HasKept g content ino p value
    → HasByteOf (tree_of g (block content)) ino p value
kept_in_tree g content tree ino p value shape has kept =
    let blocks = block content in
    let named = named_by_shape g blocks tree ino p value shape has in
    let at = named_in_record (reading_of g blocks) ino (p / 4096) named.0 named.1 in
    let same : ◌≡◌ {A = Option Node} (Some (shape_of_node (node_of blocks at.0))) (Some (File (record has.file { blocks = map shape_of_block has.file.blocks }))) =
    sym (shape_at (tree_of g blocks) ino (node_of blocks at.0) (tree_in_use g blocks ino at.0 at.1)) ∙ ap (λ (t : Tree). t ino) shape ∙ shape_at tree ino (File has.file) has.is in
    let file = file_of_shape (node_of blocks at.0) has.file same in
    let is : tree_of g blocks ino ≡ Some (File file.0) = tree_in_use g blocks ino at.0 at.1 ∙ ap (λ (n : Node). Some n) file.1 in
    let byte : byte_named content at.0 p ≡ value = subst (λ (o : Option UsedInode). IsSomeAnd o (λ u. byte_named content u p ≡ value)) at.1 kept in
    let place : p % 4096 < 4096 = omega arith in
    record {
      file = file.0;
      is = is;
      has = record {
        below = let below : p < has.file.size = has.has.below in omega (arith, below, file.2);
        claimed = subst (λ (o : Option (List ℕ)). IsSomeAnd o (λ bytes. slice_index bytes (p % 4096) ≡ value)) (sym (block_by_name g blocks ino (p / 4096) named.0 file.0 is named.1))
            (get_or-take 4096 (block content named.0) (p % 4096) 0 place ∙ ap (λ (number : ℕ). slice_index (block content number) (p % 4096)) (sym at.2) ∙ byte);
      };
    }

-- the log of an image of which something is recovered
record IsListed (g : Geometry) (image : Image) : Type 0 where
  pub header : Header
  pub txs : List Tx
  pub log : log_of g image ≡ WithHeader header (Listed txs)

listed_log : (g : Geometry) (image : Image) (P : Image → Type 0) → IsSomeAnd (recovered g image) P → IsListed g image
listed_log g image P some = by_log (log_of g image) refl some
  where
    by_txs : (h : Header) (t : Transactions) → log_of g image ≡ WithHeader h t → IsSomeAnd (recovered_by image (WithHeader h t)) P → IsListed g image
    by_txs h (Listed txs) is some = record { header = h; txs = txs; log = is }
    by_txs h (BadRun tid place) is some = absurd some

    by_log : (o : Log) → log_of g image ≡ o → IsSomeAnd (recovered_by image o) P → IsListed g image
    by_log NoHeader is some = absurd some
    by_log (WithHeader h t) is some = by_txs h t is some

module _ (g : Geometry) (moment : ℕ) (opening : Tree) (h : History) (n : ℕ) (image : Image) (whole : length image % 512 ≡ 0) (is_g : geometry_of image ≡ Some g)
    (k : ℕ) (boundary : IsBoundary h k) (to : RecoversTo g moment opening h n image k) where
  has_shape : IsSomeAnd (recovered g image) (λ content. HasShape g content (shape_of (replay_of g moment opening h.entries k)))
  has_shape = subst (λ (o : Option Geometry). IsSomeAnd o (λ own. IsSomeAnd (recovered own image) (λ content. HasShape own content (shape_of (replay_of g moment opening h.entries k))))) is_g to.mounts

  listed : IsListed g image
  listed = listed_log g image (λ content. HasShape g content (shape_of (replay_of g moment opening h.entries k))) has_shape

  content_is : recovered g image ≡ Some (replayed image listed.txs)
  content_is = ap (recovered_by image) listed.log

  shaped : HasShape g (replayed image listed.txs) (shape_of (replay_of g moment opening h.entries k))
  shaped = subst (λ (o : Option Image). IsSomeAnd o (λ content. HasShape g content (shape_of (replay_of g moment opening h.entries k)))) content_is has_shape

  no_ident_above : HasNoIdentAbove g listed.header.epoch (ring_sector g image)
  no_ident_above place below =
      let same : ◌≡◌ {A = Option Header} (Some to.idents.header) (Some listed.header) = sym to.idents.reads ∙ (log_read g image listed.header (Listed listed.txs) listed.log).0 in
      let header : to.idents.header ≡ listed.header = some_of same in
      subst (λ (k : Header). HasNoIdentAbove g k.epoch (ring_sector g image)) header to.idents.idents place below
    where
      some_of : {x y : Header} → ◌≡◌ {A = Option Header} (Some x) (Some y) → x ≡ y
      some_of is = cc

  pub mounted_again : MountsAgain g moment opening h n image
  mounted_again = record {
    found = record { header = listed.header; txs = listed.txs };
    tree = tree_of g (block (replayed image listed.txs));
    count = k;
    boundary = boundary;
    shape = shaped.has;
    bytes = λ ino p value has settled.
        kept_in_tree g (replayed image listed.txs) (replay_of g moment opening h.entries k) ino p value shaped.has has
        (subst (λ (o : Option Image). IsSomeAnd o (λ content. HasKept g content ino p value)) content_is (to.bytes ino p value has.file has.is has.has settled));
    may = λ epoch. record {
      sectors = record { opening = whole; calls = tt };
      settled = refl;
      log = record { geometry = is_g; log = listed.log; idents = no_ident_above; epoch = epoch };
      tree = record { sound = shaped.sound; stands = refl };
    };
  }

pub left_again : (g : Geometry) (moment : ℕ) (opening : Tree) (first : ℕ) (v : Volume) (n : ℕ) (image : Image) → KeepsHistory g moment opening first v → first ≤ n → n ≤ length v.r.calls
    → Outcome v.r n image → MountsAgain g moment opening v.h n image
left_again g moment opening first v n image keeps from within left =
    let safe = up_to_now g moment opening first v keeps n from within image left in
    let size : length image ≡ length v.r.opening = left.size in
    mounted_again g moment opening v.h n image (ap (λ (m : ℕ). m % 512) size ∙ keeps.safe.sectors.opening)
    (geometry_up_to_now g moment opening first v keeps n image from within left) safe.0 safe.1 safe.2
