-- Why a part is refused, by the record and by the tree.
use Rattle.std.proofs.Common.{◌≡◌, inl, inr, ℕ, Bool, true, false, not, if◌then◌else◌, List, [], ◌∷◌, length, Option, Some, None, IfSome, refl, sym, ap, ◌∙◌}
use Rattle.std.specs.Prelude.{nat_lt}
use Rattle.std.specs.Option.{option_map, option_map_or}
use Rattle.std.proofs.lemmas.Bool.{cases_Bool}
use Rattle.lufs_base.specs.declared.geometry.Geometry.{Geometry}
use Rattle.volume_model.specs.declared.inode.Dinode.{Dinode}
use Rattle.volume_model.specs.Format.{Blocks, Image, block, is_file, is_directory}
use Rattle.volume_model.specs.Sound.{used_inode, reading_of, used_at, Node, Tree}
use Rattle.volume_laws.proofs.NodeFacts.{node_of_file, node_of_directory, node_of_other}
use Rattle.tree_types.specs.declared.credentials.Cred.{Cred}
use Rattle.tree_types.specs.declared.reply.Refusal.{Refusal}
use Rattle.tree_types.specs.declared.reply.Refusal.TheVariants.{Notdir, Denied, Nametoolong}
use Rattle.history_model.specs.Places.{is_directory_node, permits_on}
use Rattle.history_model.specs.Walk.{first_of, refused_part}
use Rattle.path_walk.specs.Records.{may_search, refused_by_record}
use Rattle.path_walk.proofs.TreeFacts.{OfTree}
use Rattle.path_walk.proofs.FoundNodes.{node_read, node_of_read}

-- why a part is refused in a node
abbrev refused_in : Cred → Option Node → (part : List ℕ) → Option Refusal
refused_in cred node part =
    first_of ((not (option_map_or is_directory_node node false), Some Notdir)
    ∷ ((not (option_map_or (permits_on cred 1) node false), Some Denied)
    ∷ ((nat_lt 255 (length part), Some Nametoolong) ∷ []))) None

abbrev by_tests : (directory may long : Bool) → Option Refusal
by_tests directory may long = if directory then (if may then (if long then Some Nametoolong else None) else Some Denied) else Some Notdir

in_order : (may long : Bool) → by_tests true may long ≡ first_of ((not may, Some Denied) ∷ ((long, Some Nametoolong) ∷ [])) None
in_order true long = refl
in_order false long = refl

same_refusal : (blocks : Blocks) (cred : Cred) (part : List ℕ) (found : Option Dinode) → refused_by_record cred found part ≡ refused_in cred (node_read blocks found) part
same_refusal blocks cred part None = refl
same_refusal blocks cred part (Some d) =
    let u = used_inode blocks d in
    let long = nat_lt 255 (length part) in
    elim (cases_Bool (is_directory d.mode)) [
      | inl directory ↦
          ap (λ (b : Bool). by_tests b (may_search cred d) long) directory ∙ in_order (may_search cred d) long
          ∙ sym (ap (λ (n : Node). refused_in cred (Some n) part) (node_of_directory blocks u directory))
      | inr plain ↦ ap (λ (b : Bool). by_tests b (may_search cred d) long) plain ∙ elim (cases_Bool (is_file d.mode)) [
        | inl file ↦ sym (ap (λ (n : Node). refused_in cred (Some n) part) (node_of_file blocks u file))
        | inr other ↦ sym (ap (λ (n : Node). refused_in cred (Some n) part) (node_of_other blocks u other plain))
      ]
    ]

pub refused_of_read : (content : Option Image) (g : Geometry) (cred : Cred) (i : ℕ) (part : List ℕ) (found : Option Dinode) (why : Option Refusal) → why ≡ refused_by_record cred found part
    → IfSome content (λ image. option_map (used_inode (block image)) found ≡ used_at (reading_of g (block image)) i) → OfTree content g (λ tree. why ≡ refused_part tree cred i part)
refused_of_read None g cred i part found why is read = tt
refused_of_read (Some image) g cred i part found why is read = λ tree hands stands.
    is ∙ same_refusal (block image) cred part found
    ∙ sym (ap (λ (o : Option Node). refused_in cred o part) (sym (ap (λ (t : Tree). t i) stands.stands) ∙ node_of_read g (block image) i found read))
