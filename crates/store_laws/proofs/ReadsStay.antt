-- A step that carries the running version leaves its roles and its owners as they are read.
use Rattle.std.proofs.Common.{◌≡◌, ℕ, true, List, refl, sym, ap, subst, ◌∙◌, inl, inr}
use Rattle.std.specs.Prelude.{All}
use Rattle.std.proofs.lemmas.Bool.{false≢true}
use Rattle.std.proofs.lemmas.List.Elements.{All-nil}
use Rattle.lufs_base.specs.declared.geometry.Geometry.{Geometry}
use Rattle.lufs_base.specs.declared.delta.Delta.{Delta}
use Rattle.volume_model.specs.declared.device_call.DeviceCall.{DeviceCall}
use Rattle.volume_model.specs.Format.{Image}
use Rattle.volume_model.specs.Crash.{Record, with_calls, present_of}
use Rattle.volume_model.specs.Sound.{Reading, block_bit}
use Rattle.journal_model.specs.Journals.{Owner, Journal}
use Rattle.journal_model.specs.Versions.{Running}
use Rattle.journal_model.specs.BlockRoles.{Roles, Move, Stays, Seals, Publishes, Changes, moved, is_carried}
use Rattle.journal_model.specs.Safety.{IsSafe}
use Rattle.journal_model.specs.Steps.{Step, published_owner, Admit, Leave, Apply, RawWrite, Seal, LogWrite, Publish, Pick, RollWrite, RollFlush, Trim, TrimFlush}
use Rattle.journal_laws.proofs.OwnerFacts.{owner_cases}
use Rattle.history_laws.specs.Published.{AreRolesOf, reading_in}
use Rattle.history_laws.specs.VolumeRoles.{role_of}
use Rattle.history_laws.proofs.VersionsStay.{reading_stays}
use Rattle.meta_store.specs.Suited.{suits}
use Rattle.store_laws.specs.Tied.{is_live, IsRead}

-- what a commit makes of an owner, live or not
live_published : (tid : ℕ) (owner : Owner) → is_live (published_owner tid owner) ≡ is_live owner
live_published tid owner = elim (owner_cases tid owner) [ inl same ↦ ap is_live same.0 | inr freed ↦ ap is_live freed.1 ∙ sym (ap is_live freed.0) ]

-- no step but a change gives owners another life, or deltas that weren't there
owners_stay : (g : Geometry) (roles : Roles) (home : Image) (j k : Journal) (move : Move) (calls : List DeviceCall) → Step g roles home j move calls k → is_carried move Running ≡ true
    → (b : ℕ) → is_live (k.owners b) ≡ is_live (j.owners b)
owners_stay g roles home j _ _ _ (Admit need fits) carried b = refl
owners_stay g roles home j _ _ _ (Leave members unspent left in_members in_unspent none) carried b = refl
owners_stay g roles home j _ _ _ (Apply change to running rolling laying) carried b = absurd (false≢true carried)
owners_stay g roles home j _ _ _ (RawWrite first bytes may) carried b = refl
owners_stay g roles home j _ _ _ (Seal none idle fits number) carried b = refl
owners_stay g roles home j _ _ _ (LogWrite s n is turn) carried b = refl
owners_stay g roles home j _ _ _ (Publish s is whole) carried b = live_published s.tx.tid (j.owners b)
owners_stay g roles home j _ _ _ (Pick held idle some is) carried b = refl
owners_stay g roles home j _ _ _ (RollWrite batch c left writing next) carried b = refl
owners_stay g roles home j _ _ _ (RollFlush batch writing done) carried b = refl
owners_stay g roles home j _ _ _ (Trim batch at_home) carried b = refl
owners_stay g roles home j _ _ _ (TrimFlush batch trimmed) carried b = refl

deltas_stay : (g : Geometry) (roles : Roles) (home : Image) (j k : Journal) (move : Move) (calls : List DeviceCall) → Step g roles home j move calls k → is_carried move Running ≡ true
    → (P : Delta → Type 0) → All P j.running → All P k.running
deltas_stay g roles home j _ _ _ (Admit need fits) carried P all = all
deltas_stay g roles home j _ _ _ (Leave members unspent left in_members in_unspent none) carried P all = all
deltas_stay g roles home j _ _ _ (Apply change to running rolling laying) carried P all = absurd (false≢true carried)
deltas_stay g roles home j _ _ _ (RawWrite first bytes may) carried P all = all
deltas_stay g roles home j _ _ _ (Seal none idle fits number) carried P all = All-nil P
deltas_stay g roles home j _ _ _ (LogWrite s n is turn) carried P all = all
deltas_stay g roles home j _ _ _ (Publish s is whole) carried P all = all
deltas_stay g roles home j _ _ _ (Pick held idle some is) carried P all = all
deltas_stay g roles home j _ _ _ (RollWrite batch c left writing next) carried P all = all
deltas_stay g roles home j _ _ _ (RollFlush batch writing done) carried P all = all
deltas_stay g roles home j _ _ _ (Trim batch at_home) carried P all = all
deltas_stay g roles home j _ _ _ (TrimFlush batch trimmed) carried P all = all

-- the reading of the running version, too
reading_same : (g : Geometry) (roles : Roles) (r : Record) (j k : Journal) (move : Move) (calls : List DeviceCall) → IsSafe g roles r j → Step g roles (present_of r) j move calls k → is_carried move Running ≡ true
    → AreRolesOf g (roles Running) (reading_in g j (present_of r) Running) → reading_in g k (present_of (with_calls r calls)) Running ≡ reading_in g j (present_of r) Running
reading_same g roles r j k Stays calls safe step carried are = reading_stays g roles r j k Stays calls safe step Running carried are
reading_same g roles r j k Seals calls safe step carried are = reading_stays g roles r j k Seals calls safe step Running carried are
reading_same g roles r j k Publishes calls safe step carried are = reading_stays g roles r j k Publishes calls safe step Running carried are
reading_same g roles r j k (Changes to) calls safe step carried are = absurd (false≢true carried)

role_same : (move : Move) (roles : Roles) → is_carried move Running ≡ true → (b : ℕ) → moved move roles Running b ≡ roles Running b
role_same Stays roles carried b = refl
role_same Seals roles carried b = refl
role_same Publishes roles carried b = refl
role_same (Changes to) roles carried b = absurd (false≢true carried)

pub still_read : (g : Geometry) (roles : Roles) (r : Record) (j k : Journal) (move : Move) (calls : List DeviceCall) → IsSafe g roles r j → Step g roles (present_of r) j move calls k → is_carried move Running ≡ true
    → AreRolesOf g (roles Running) (reading_in g j (present_of r) Running) → IsRead g roles (present_of r) j → IsRead g (moved move roles) (present_of (with_calls r calls)) k
still_read g roles r j k move calls safe step carried are read =
    let same = reading_same g roles r j k move calls safe step carried are in
    record {
      claimed = λ b. role_same move roles carried b ∙ read.claimed b ∙ ap (λ (s : Reading). role_of g s b) (sym same);
      owners = λ b body. owners_stay g roles (present_of r) j k move calls step carried b ∙ read.owners b body ∙ ap (λ (s : Reading). block_bit g s b) (sym same);
      suited = subst (λ (s : Reading). All (λ d. suits g s d ≡ true) k.running) (sym same) (deltas_stay g roles (present_of r) j k move calls step carried (λ d. suits g (reading_in g j (present_of r) Running) d ≡ true) read.suited);
    }
