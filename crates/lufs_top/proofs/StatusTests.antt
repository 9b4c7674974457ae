-- Which statuses endings have.
use Rattle.std.proofs.Common.{◌≡◌, ◌≢◌, ◌≤◌, ◌⊎◌, inl, inr, ℕ, zero, suc, false, refl, sym, ◌∙◌, arith}
use Rattle.std.specs.Prelude.{◌==◌}
use Rattle.std.proofs.lemmas.Bool.{cond-false, false_from_ne_true}
use Rattle.std.proofs.lemmas.Bool.Decides.{Decides-eqb}
use Rattle.host_io.specs.Outside.{SinkTold}
use Rattle.volume_model.specs.declared.finding.Verdict.TheVariants.{Clean, Finding}
use Rattle.lufs_top.specs.declared.ending.Ending.{Ending}
use Rattle.lufs_top.specs.declared.scan.ScanEnding.{ScanEnding}
use Rattle.lufs_top.specs.declared.scan.ScanEnding.TheVariants.{Listed, NotVolume, BadHeader, BadRun}
use Rattle.lufs_top.specs.declared.check.CheckEnding.{CheckEnding}
use Rattle.lufs_top.specs.declared.check.CheckEnding.TheVariants as checks
use Rattle.lufs_top.specs.declared.mkfs.MkfsEnding.{MkfsEnding}
use Rattle.lufs_top.specs.declared.mkfs.MkfsEnding.TheVariants.{Made, Refused}
use Rattle.lufs_top.specs.Ending.{status_of, scan_status, check_status, mkfs_status}
use Rattle.lufs_top.specs.Run.{Says, whole, cut, status_if_cut}

-- the status is not n, nor is it where a put failed
abbrev pub IsNot : (n status : ℕ) → Type 0
IsNot n status = (status ≡ n) ⊎ (status_if_cut status ≡ n) → ⊥

-- where a put failed, 5 stands for 0
pub cut_cases : (status : ℕ) → ((status ≡ 0) × (status_if_cut status ≡ 5)) ⊎ (status_if_cut status ≡ status)
cut_cases zero = inl (refl, refl)
cut_cases (suc k) = inr (cond-false (suc k == 0) 5 (suc k) (false_from_ne_true (suc k == 0) (λ same. above_zero k ((Decides-eqb (suc k) 0).0 same))))
  where
    above_zero : (n : ℕ) → suc n ≡ 0 → ⊥
    above_zero n is = omega (arith, is)

-- a status that isn't 5 is that of the ending, also where a put failed
pub cut_is : (status n : ℕ) → n ≢ 5 → status_if_cut status ≡ n → status ≡ n
cut_is status n other is = elim (cut_cases status) [ inl zeros ↦ absurd (other (sym is ∙ zeros.1)) | inr same ↦ sym same ∙ is ]

-- none from 1 to 4 is one of scan
pub scan_quiet : (ended : ScanEnding) (n : ℕ) → 1 ≤ n → n ≤ 4 → IsNot n (scan_status ended)
scan_quiet (Listed text) n low high is = elim is [ inl one ↦ omega (arith, one, low, high) | inr one ↦ omega (arith, one, low, high) ]
scan_quiet NotVolume n low high is = elim is [ inl one ↦ omega (arith, one, low, high) | inr one ↦ omega (arith, one, low, high) ]
scan_quiet BadHeader n low high is = elim is [ inl one ↦ omega (arith, one, low, high) | inr one ↦ omega (arith, one, low, high) ]
scan_quiet (BadRun tid place) n low high is = elim is [ inl one ↦ omega (arith, one, low, high) | inr one ↦ omega (arith, one, low, high) ]

pub scan_not_5 : (ended : ScanEnding) → scan_status ended ≡ 5 → ⊥
scan_not_5 (Listed text) one = omega (arith, one)
scan_not_5 NotVolume one = omega (arith, one)
scan_not_5 BadHeader one = omega (arith, one)
scan_not_5 (BadRun tid place) one = omega (arith, one)

-- none from 1 to 4 is one of check
pub check_quiet : (ended : CheckEnding) (n : ℕ) → 1 ≤ n → n ≤ 4 → IsNot n (check_status ended)
check_quiet (checks.Checked (Clean counts)) n low high is = elim is [ inl one ↦ omega (arith, one, low, high) | inr one ↦ omega (arith, one, low, high) ]
check_quiet (checks.Checked (Finding kind number)) n low high is = elim is [ inl one ↦ omega (arith, one, low, high) | inr one ↦ omega (arith, one, low, high) ]
check_quiet checks.NotVolume n low high is = elim is [ inl one ↦ omega (arith, one, low, high) | inr one ↦ omega (arith, one, low, high) ]
check_quiet checks.BadHeader n low high is = elim is [ inl one ↦ omega (arith, one, low, high) | inr one ↦ omega (arith, one, low, high) ]
check_quiet (checks.BadRun tid place) n low high is = elim is [ inl one ↦ omega (arith, one, low, high) | inr one ↦ omega (arith, one, low, high) ]

pub check_not_5 : (ended : CheckEnding) → check_status ended ≡ 5 → ⊥
check_not_5 (checks.Checked (Clean counts)) one = omega (arith, one)
check_not_5 (checks.Checked (Finding kind number)) one = omega (arith, one)
check_not_5 checks.NotVolume one = omega (arith, one)
check_not_5 checks.BadHeader one = omega (arith, one)
check_not_5 (checks.BadRun tid place) one = omega (arith, one)

-- none from 1 to 4 is one of mkfs
pub mkfs_quiet : (ended : MkfsEnding) (n : ℕ) → 1 ≤ n → n ≤ 4 → IsNot n (mkfs_status ended)
mkfs_quiet (Made text) n low high is = elim is [ inl one ↦ omega (arith, one, low, high) | inr one ↦ omega (arith, one, low, high) ]
mkfs_quiet (Refused bad) n low high is = elim is [ inl one ↦ omega (arith, one, low, high) | inr one ↦ omega (arith, one, low, high) ]

pub mkfs_not_5 : (ended : MkfsEnding) → mkfs_status ended ≡ 5 → ⊥
mkfs_not_5 (Made text) one = omega (arith, one)
mkfs_not_5 (Refused bad) one = omega (arith, one)

-- how the status of a run tells its ending
pub of_status : (ending : Ending) (status n : ℕ) (out said : SinkTold) → Says ending status out said → status ≡ n → (status_of ending ≡ n) ⊎ (status_if_cut (status_of ending) ≡ n)
of_status ending status n out said (whole is put) one = inl (sym is ∙ one)
of_status ending status n out said (cut k is put) one = inr (sym is ∙ one)
