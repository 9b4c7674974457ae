-- A disk that may be mounted has a mount that comes to its end, and a volume that it opens.
use Rattle.std.proofs.Common.{◌≡◌, ℕ, ◌/◌, Bool, true, false, ◌&&◌, List, [], ◌∷◌, refl, ap, ◌∙◌}
use Rattle.std.specs.Prelude.{◌==◌, ◌||◌, not, if◌then◌else◌}
use Rattle.std.specs.List.{list_any}
use Rattle.lufs_base.specs.declared.geometry.Geometry.{Geometry}
use Rattle.lufs_base.specs.declared.delta.Delta.{Delta}
use Rattle.volume_model.specs.Format.{block}
use Rattle.volume_model.specs.Log.{is_cancel, live_deltas, lays_on}
use Rattle.volume_model.specs.Crash.{Record, present_of}
use Rattle.volume_model.specs.Sound.{reading_of, Tree, is_among}
use Rattle.journal_model.specs.Journals.{Owner, Live, Released}
use Rattle.journal_model.specs.BlockRoles.{Role, is_claimed}
use Rattle.journal_model.specs.Batches.{is_freed_owner}
use Rattle.journal_model.specs.Mount.{Found, Replaying, Replayed, Emptied, Mounted, HomeWrite, HomeFlush, NewHeader, HeaderFlush}
use Rattle.history_laws.specs.Sessions.{MayBeMounted, Mounts, Began, Went, Session, Opens, opened_volume}
use Rattle.history_laws.specs.VolumeRoles.{role_of}
use Rattle.history_laws.specs.Volumes.{Volume}
use Rattle.history_laws.proofs.OpenedVolumes.{ok, stands}
use Rattle.history_laws.proofs.VolumeRolesLaws.{roles_of_volume, volume_begins}

-- the blocks that deltas lay bytes over
laid_blocks : List Delta → List ℕ
laid_blocks [] = []
laid_blocks (d ∷ deltas) = if is_cancel d.kind then laid_blocks deltas else d.home / 4096 ∷ laid_blocks deltas

left_out : (t x : Bool) → x ≡ (t && false || x)
left_out true x = refl
left_out false x = refl

taken_in : (t x : Bool) → (t || x) ≡ (t && true || x)
taken_in true x = refl
taken_in false x = refl

among_laid : (deltas : List Delta) (b : ℕ) → is_among b (laid_blocks deltas) ≡ list_any (lays_on b) deltas
unfolding laid_blocks
among_laid [] b = refl
among_laid (d ∷ deltas) b = by_kind (is_cancel d.kind) (among_laid deltas b)
  where
    by_kind : (c : Bool) → is_among b (laid_blocks deltas) ≡ list_any (lays_on b) deltas → ◌≡◌ {A = Bool} (is_among b (if c then laid_blocks deltas else d.home / 4096 ∷ laid_blocks deltas)) (d.home / 4096 == b && not c || list_any (lays_on b) deltas)
    by_kind true rest = rest ∙ left_out (d.home / 4096 == b) (list_any (lays_on b) deltas)
    by_kind false rest = ap (λ (x : Bool). d.home / 4096 == b || x) rest ∙ taken_in (d.home / 4096 == b) (list_any (lays_on b) deltas)

module _ (g : Geometry) (found : Found) (start : Record) where
  to_end : (left : List ℕ) (r : Record) → Mounts g found start r (Replaying left) → (s : Record) × Mounts g found start s Mounted
  to_end [] r mounts =
      let flushed = Went r (Replaying []) Replayed _ mounts (HomeFlush refl) in
      let written = Went _ Replayed Emptied _ flushed (NewHeader refl) in
      (_, Went _ Emptied Mounted _ written (HeaderFlush refl))
  to_end (b ∷ left) r mounts = to_end left _ (Went r (Replaying (b ∷ left)) (Replaying left) _ mounts (HomeWrite b left refl))

  pub comes_to_end : (s : Record) × Mounts g found start s Mounted
  comes_to_end = to_end (laid_blocks (live_deltas found.txs)) start (Began (laid_blocks (live_deltas found.txs)) (among_laid (live_deltas found.txs)))

owners_of : (role : ℕ → Role) → ℕ → Owner
owners_of role b = if is_claimed (role b) then Live else Released

owned : (c : Bool) → c ≡ true → ◌≡◌ {A = Owner} (if c then Live else Released) Live
owned true is = refl
owned false is = absurd cc

none_freed : (c : Bool) → is_freed_owner (if c then Live else Released) ≡ false
none_freed true = refl
none_freed false = refl

pub session_begins : (g : Geometry) (moment : ℕ) (opening : Tree) (found : Found) (start : Record) → MayBeMounted g found start opening → (v : Volume) × Session g moment opening start v
unfolding owners_of
session_begins g moment opening found start may =
    let end = comes_to_end g found start in
    let r = end.0 in
    let role : ℕ → Role = role_of g (reading_of g (block (present_of r))) in
    let sound = (stands g moment opening found start may r end.1).sound in
    let geometry = ok g moment opening found start may r end.1 in (
      opened_volume found role (owners_of role) r,
      Opens found role (owners_of role) r may end.1
          (volume_begins g (block (present_of r)) [] geometry sound (owners_of role) (λ b claimed. owned (is_claimed (role b)) claimed) (λ b unclaimed. none_freed (is_claimed (role b))))
          (roles_of_volume g (block (present_of r)) [] geometry sound),
    )
