-- A store of which the record of each group is read.
use Rattle.std.proofs.Common.{◌≡◌, ◌<◌, inl, inr, ℕ, ◌+◌, ◌-◌, List, [], ◌∷◌, ◌++◌, length, take, map, get_or, Option, Some, None, IfSome, option_map, Result, Ok, Err, refl, sym, ap, subst, ◌∙◌, arith, length-append}
use Rattle.std.specs.Prelude.{IfOk, slice_get}
use Rattle.std.specs.Option.{option_flatten}
use Rattle.std.specs.Result.{result_ok}
use Rattle.std.specs.List.{range_with_len}
use Rattle.std.proofs.lemmas.Bool.{cases_order}
use Rattle.std.proofs.lemmas.Option.{slice_get-get_or, slice_get_past}
use Rattle.std.proofs.lemmas.List.{map-append, get_or-append_right, get_or_append_left}
use Rattle.std.proofs.lemmas.List.FromFn.{map-range_with_len_more}
use Rattle.lufs_base.specs.Layout.{group_start}
use Rattle.lufs_base.specs.declared.geometry.Geometry.{Geometry}
use Rattle.volume_model.specs.Format.{Image, GroupRecord, block, group_of, IsGroup}
use Rattle.volume_model.specs.Sound.{reading_of, group_at}
use Rattle.cyl_groups.specs.declared.group.Group.{Group}
use Rattle.cyl_groups.specs.declared.record.BadGroup.{BadGroup}
use Rattle.cyl_groups.specs.Group.{record_of, HasSizesOf}
use Rattle.meta_store.specs.Changing.{AllTold, IsAsBefore}
use Rattle.block_alloc.specs.Records.{AreRecords, IsReadGroup, AreReadGroups}

-- as before, and then again
pub as_before_then : {old mid new : AllTold} → IsAsBefore old mid → IsAsBefore mid new → IsAsBefore old new
as_before_then first second = record {
  read = record {
    geometry = second.read.geometry ∙ first.read.geometry;
    content = second.read.content ∙ first.read.content;
    disk = record {
      sectors = second.read.disk.sectors ∙ first.read.disk.sectors;
      content = second.read.disk.content ∙ first.read.disk.content;
      listed = second.read.disk.listed ∙ first.read.disk.listed;
      calls = second.read.disk.calls ∙ first.read.disk.calls;
    };
  };
  changing = record {
    released = λ b. second.changing.released b ∙ first.changing.released b;
    held = second.changing.held ∙ first.changing.held;
    taken = λ b. second.changing.taken b ∙ first.changing.taken b;
    freed = λ b. second.changing.freed b ∙ first.changing.freed b;
    room = second.changing.room ∙ first.changing.room;
  };
}

-- the record that was read of group n
pub group_told : (g read : Geometry) (content : Option Image) (n b : ℕ) (bytes : List ℕ) (found read_as : Option Group) → read ≡ g → b ≡ group_start read n
    → IfSome content (λ image. bytes ≡ block image b) → found ≡ read_as → option_map record_of read_as ≡ group_of read n (take 416 bytes)
    → IfSome content (λ image. option_map record_of found ≡ group_at g (block image) n)
group_told g read None n b bytes found read_as geometry place told same value = tt
group_told g read (Some image) n b bytes found read_as geometry place told same value =
    ap (option_map record_of) same ∙ value
    ∙ ap (λ (xs : List ℕ). group_of read n (take 416 xs)) (told ∙ ap (block image) place)
    ∙ ap (λ (h : Geometry). group_at h (block image) n) geometry

-- these are the records of the first n groups
abbrev pub AreFirst : Geometry → Option Image → ℕ → List (Option Group) → Type 0
AreFirst g content n records = IfSome content (λ image. map (λ x. option_map record_of x) records ≡ map (group_at g (block image)) (range_with_len 0 n))

pub none_read : (g : Geometry) (content : Option Image) → AreFirst g content 0 []
none_read g None = tt
none_read g (Some image) = refl

pub one_more : (g h : Geometry) (content now : Option Image) (records : List (Option Group)) (n : ℕ) (found : Option Group) → h ≡ g → now ≡ content
    → IfSome now (λ image. option_map record_of found ≡ group_at h (block image) n)
    → AreFirst g content n records → AreFirst g content (n + 1) (records ++ found ∷ [])
one_more g h None now records n found geometry same told before = tt
one_more g h (Some image) now records n found geometry same told before =
    let here : option_map record_of found ≡ group_at h (block image) n = rw same at told in
    let next : option_map record_of found ≡ group_at g (block image) n = here ∙ ap (λ (k : Geometry). group_at k (block image) n) geometry in
    map-append (λ x. option_map record_of x) records (found ∷ [])
    ∙ ap (λ (xs : List (Option GroupRecord)). xs ++ option_map record_of found ∷ []) before
    ∙ ap (λ (x : Option GroupRecord). map (group_at g (block image)) (range_with_len 0 n) ++ x ∷ []) next
    ∙ sym (map-range_with_len_more (group_at g (block image)) 0 n n (omega arith))

pub all_read : (g : Geometry) (content : Option Image) (records : List (Option Group)) (n : ℕ) → n ≡ g.groups → AreFirst g content n records
    → IfSome content (λ image. AreRecords (reading_of g (block image)) records)
unfolding reading_of
all_read g None records n size before = tt
all_read g (Some image) records n size before = before ∙ ap (λ (k : ℕ). map (group_at g (block image)) (range_with_len 0 k)) size

-- what was read may be of its group
pub read_group_is : (g read : Geometry) (n : ℕ) (r : Result Group BadGroup) (found : Option Group) → read ≡ g → found ≡ result_ok r
    → IfOk r (HasSizesOf read) → IfOk r (λ x. IsGroup read n (record_of x)) → IsReadGroup g n found
read_group_is g read n (Ok x) found geometry is sizes group =
    subst (IsReadGroup g n) (sym is) (subst (λ (h : Geometry). HasSizesOf h x) geometry sizes, subst (λ (h : Geometry). IsGroup h n (record_of x)) geometry group)
read_group_is g read n (Err fault) found geometry is sizes group = subst (IsReadGroup g n) (sym is) tt

-- with one record more
pub one_read_group : (g : Geometry) (records : List (Option Group)) (n : ℕ) (found : Option Group) → length records ≡ n → IsReadGroup g n found
    → AreReadGroups g records → AreReadGroups g (records ++ found ∷ [])
one_read_group g records n found size read before m = elim (cases_order m n) [
  | inl here ↦
      let size_now : n < length (records ++ found ∷ []) = omega (arith, size, length-append records (found ∷ [])) in
      let is : slice_get (records ++ found ∷ []) m ≡ Some found =
      ap (slice_get (records ++ found ∷ [])) here ∙ slice_get-get_or (records ++ found ∷ []) n found size_now
      ∙ ap (λ (x : Option Group). Some x) (get_or-append_right records (found ∷ []) n n found size (omega arith) ∙ ap (λ (k : ℕ). get_or (found ∷ []) k found) (let none : n - n ≡ 0 = omega arith in none)) in
      subst (λ (o : Option (Option Group)). IsReadGroup g m (option_flatten o)) (sym is) (subst (λ (k : ℕ). IsReadGroup g k found) (sym here) read)
  | inr other ↦ elim other [
    | inl low ↦
        let inside : m < length records = omega (arith, low, size) in
        let is : slice_get (records ++ found ∷ []) m ≡ slice_get records m =
        slice_get-get_or (records ++ found ∷ []) m found (omega (arith, inside, length-append records (found ∷ [])))
        ∙ ap (λ (x : Option Group). Some x) (get_or_append_left records (found ∷ []) found m inside) ∙ sym (slice_get-get_or records m found inside) in
        subst (λ (o : Option (Option Group)). IsReadGroup g m (option_flatten o)) (sym is) (before m)
    | inr past ↦
        subst (λ (o : Option (Option Group)). IsReadGroup g m (option_flatten o))
        (sym (slice_get_past (records ++ found ∷ []) m (omega (arith, past, size, length-append records (found ∷ []))))) tt
  ]
]
