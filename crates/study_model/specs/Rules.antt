-- Rules on the keys of an entry.
use Rattle.std.specs.Prelude.{◌≡◌, ℤ, pos, Option, Some, None}
use Rattle.study_model.specs.Range.{IsIn}
use Rattle.study_model.specs.declared.range.TheConstants.Range.{ORDINARY, ABOVE_ZERO}
use Rattle.study_model.specs.declared.words.StudyModel.{StudyModel}
use Rattle.study_model.specs.declared.words.StudyModel.TheVariants as study_model
use Rattle.study_model.specs.declared.words.Sequence.{Sequence}
use Rattle.study_model.specs.declared.words.Sequence.TheVariants as sequence
use Rattle.study_model.specs.declared.words.Phase.{Phase}
use Rattle.study_model.specs.declared.words.Connection.{Connection}
use Rattle.study_model.specs.declared.words.Connection.TheVariants as connection
use Rattle.study_model.specs.declared.words.LoadModel.{LoadModel}
use Rattle.study_model.specs.declared.words.LoadModel.TheVariants as load_model

-- at least one of two values is other than 0
abbrev pub AreNotBothZero : ℤ → ℤ → Type 0
AreNotBothZero a b = ¬ ((a ≡ pos 0) × (b ≡ pos 0))

-- r0 and x0 are both there or both absent, and not both 0
abbrev pub IsZeroSequence : Option ℤ → Option ℤ → Type 0
IsZeroSequence None None = Unit {0}
IsZeroSequence (Some r0) (Some x0) = IsIn ORDINARY r0 × IsIn ORDINARY x0 × AreNotBothZero r0 x0
IsZeroSequence None (Some x0) = ⊥
IsZeroSequence (Some r0) None = ⊥

-- a line of a phase network has r0 and x0
abbrev pub HasZeroSequence : StudyModel → Option ℤ → Type 0
HasZeroSequence study_model.Phases None = ⊥
HasZeroSequence _ _ = Unit {0}

-- the mutual reactances are all there, in a phase network alone, or all absent
abbrev pub AreMutual : StudyModel → Option ℤ → Option ℤ → Option ℤ → Type 0
AreMutual model None None None = Unit {0}
AreMutual study_model.Phases (Some xab) (Some xbc) (Some xca) = IsIn ORDINARY xab × IsIn ORDINARY xbc × IsIn ORDINARY xca
AreMutual _ _ _ _ = ⊥

-- the impedance of a neutral, which a grounded winding alone has
abbrev pub IsNeutral : Connection → ℤ → ℤ → Type 0
IsNeutral connection.Grounded rn xn = IsIn ORDINARY rn × IsIn ORDINARY xn
IsNeutral connection.Star rn xn = (rn ≡ pos 0) × (xn ≡ pos 0)
IsNeutral connection.Delta rn xn = (rn ≡ pos 0) × (xn ≡ pos 0)

-- p and q of a load, which the series model lacks
abbrev pub IsPower : LoadModel → Option ℤ → Option ℤ → Type 0
IsPower load_model.Cigre (Some p) (Some q) = IsIn ABOVE_ZERO p × IsIn ORDINARY q
IsPower load_model.Parallel (Some p) (Some q) = IsIn ORDINARY p × IsIn ORDINARY q × AreNotBothZero p q
IsPower load_model.Series None None = Unit {0}
IsPower _ _ _ = ⊥

-- r and x of a load, which the series model alone has
abbrev pub IsImpedance : LoadModel → Option ℤ → Option ℤ → Type 0
IsImpedance load_model.Cigre None None = Unit {0}
IsImpedance load_model.Parallel None None = Unit {0}
IsImpedance load_model.Series (Some r) (Some x) = IsIn ORDINARY r × IsIn ORDINARY x × AreNotBothZero r x
IsImpedance _ _ _ = ⊥

-- the phase of an element, in a phase network alone
abbrev pub IsElementPhase : StudyModel → Option Phase → Type 0
IsElementPhase study_model.Sequence (Some phase) = ⊥
IsElementPhase _ _ = Unit {0}

-- the network of a scan: one of the two sequences, or a phase of the phase network
abbrev pub IsScanned : StudyModel → Sequence → Option Phase → Type 0
IsScanned study_model.Sequence network None = Unit {0}
IsScanned study_model.Phases sequence.Positive (Some phase) = Unit {0}
IsScanned _ _ _ = ⊥
