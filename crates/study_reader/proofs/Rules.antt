-- The rules on the keys of an entry, from what the checks of its keys find.
use Rattle.std.proofs.Common.{◌≡◌, ◌<◌, ℕ, ℤ, pos, zero, suc, Bool, true, false, not, ◌&&◌, ◌||◌, List, [], ◌∷◌, Option, Some, None, length, refl, arith, sym, ap, ◌∙◌}
use Rattle.std.specs.Prelude.{IfSome, is_some, slice_get, option_map, unwrap_or}
use Rattle.study_model.specs.Voltages.{kv_of}
use Rattle.study_model.specs.Range.{IsIn}
use Rattle.study_model.specs.Lawful.{HaveEqualKv}
use Rattle.study_model.specs.Rules.{IsZeroSequence, HasZeroSequence, AreMutual, IsNeutral, IsPower, IsImpedance, IsElementPhase, IsScanned}
use Rattle.study_model.specs.declared.range.TheConstants.Range.{ORDINARY}
use Rattle.study_model.specs.declared.records.Bus.{Bus}
use Rattle.study_model.specs.declared.words.StudyModel.{StudyModel}
use Rattle.study_model.specs.declared.words.StudyModel.TheVariants as study_model
use Rattle.study_model.specs.declared.words.Sequence.{Sequence}
use Rattle.study_model.specs.declared.words.Sequence.TheVariants as sequence
use Rattle.study_model.specs.declared.words.Phase.{Phase}
use Rattle.study_model.specs.declared.words.Connection.{Connection}
use Rattle.study_model.specs.declared.words.Connection.TheVariants as connection
use Rattle.study_model.specs.declared.words.LoadModel.{LoadModel}
use Rattle.study_model.specs.declared.words.LoadModel.TheVariants as load_model
use Rattle.study_reader.specs.Checks.{AreNotBothGivenZero}
use Rattle.study_reader.specs.Groups.{in_phases}
use Rattle.study_reader.specs.Branches.{is_grounded}
use Rattle.study_reader.specs.Loads.{is_series, power_range}

-- r0 and x0, each of which needs the other
pub zero_rule : (r0 x0 : Option ℤ) (has_r0 has_x0 required : Bool) → IfSome r0 (IsIn ORDINARY) → IfSome x0 (IsIn ORDINARY)
    → is_some r0 ≡ has_r0 → is_some x0 ≡ has_x0 → ((required || has_x0) ≡ true → is_some r0 ≡ true) → ((required || has_r0) ≡ true → is_some x0 ≡ true)
    → AreNotBothGivenZero r0 x0 → IsZeroSequence r0 x0
zero_rule None None hr hx required rr rx er ex nr nx nz = tt
zero_rule (Some r0) (Some x0) hr hx required rr rx er ex nr nx nz = (rr, rx, nz)
zero_rule None (Some x0) hr true true rr rx er ex nr nx nz = absurd (cc (nr refl))
zero_rule None (Some x0) hr true false rr rx er ex nr nx nz = absurd (cc (nr refl))
zero_rule None (Some x0) hr false required rr rx er ex nr nx nz = absurd (cc)
zero_rule (Some r0) None true hx true rr rx er ex nr nx nz = absurd (cc (nx refl))
zero_rule (Some r0) None true hx false rr rx er ex nr nx nz = absurd (cc (nx refl))
zero_rule (Some r0) None false hx required rr rx er ex nr nx nz = absurd (cc)

-- r0 of a line
pub has_zero_rule : (model : StudyModel) (r0 : Option ℤ) → (in_phases model ≡ true → is_some r0 ≡ true) → HasZeroSequence model r0
has_zero_rule study_model.Sequence None needed = tt
has_zero_rule study_model.Sequence (Some r0) needed = tt
has_zero_rule study_model.Phases None needed = absurd (cc (needed refl))
has_zero_rule study_model.Phases (Some r0) needed = tt

-- the mutual reactances
pub mutual_rule : (model : StudyModel) (xab xbc xca : Option ℤ) → IfSome xab (IsIn ORDINARY) → IfSome xbc (IsIn ORDINARY) → IfSome xca (IsIn ORDINARY)
    → (in_phases model ≡ false → is_some xab ≡ false) → (in_phases model ≡ false → is_some xbc ≡ false) → (in_phases model ≡ false → is_some xca ≡ false)
    → ((in_phases model && (is_some xab || is_some xbc || is_some xca)) ≡ true → (is_some xab ≡ true) × (is_some xbc ≡ true) × (is_some xca ≡ true))
    → AreMutual model xab xbc xca
mutual_rule model None None None ra rb rc sa sb sc all = tt
mutual_rule study_model.Phases (Some a) (Some b) (Some c) ra rb rc sa sb sc all = (ra, rb, rc)
mutual_rule study_model.Sequence (Some a) xbc xca ra rb rc sa sb sc all = absurd (cc (sa refl))
mutual_rule study_model.Sequence None (Some b) xca ra rb rc sa sb sc all = absurd (cc (sb refl))
mutual_rule study_model.Sequence None None (Some c) ra rb rc sa sb sc all = absurd (cc (sc refl))
mutual_rule study_model.Phases (Some a) None xca ra rb rc sa sb sc all = let p = all refl in absurd (cc (p.1))
mutual_rule study_model.Phases (Some a) (Some b) None ra rb rc sa sb sc all = let p = all refl in absurd (cc (p.2))
mutual_rule study_model.Phases None (Some b) xca ra rb rc sa sb sc all = let p = all refl in absurd (cc (p.0))
mutual_rule study_model.Phases None None (Some c) ra rb rc sa sb sc all = let p = all refl in absurd (cc (p.0))

-- the impedance of a neutral
pub neutral_rule : (c : Connection) (rn xn : ℤ) → IsIn ORDINARY rn → IsIn ORDINARY xn → (is_grounded c ≡ false → (rn ≡ pos 0) × (xn ≡ pos 0)) → IsNeutral c rn xn
neutral_rule connection.Grounded rn xn rr rx alone = (rr, rx)
neutral_rule connection.Star rn xn rr rx alone = alone refl
neutral_rule connection.Delta rn xn rr rx alone = alone refl

-- p and q of a load
pub power_rule : (model : LoadModel) (p q : Option ℤ) → is_some p ≡ not (is_series model) → is_some q ≡ not (is_series model)
    → IfSome p (IsIn (power_range model)) → IfSome q (IsIn ORDINARY) → AreNotBothGivenZero p q → IsPower model p q
power_rule load_model.Cigre (Some p) (Some q) hp hq rp rq nz = (rp, rq)
power_rule load_model.Parallel (Some p) (Some q) hp hq rp rq nz = (rp, rq, nz)
power_rule load_model.Series None None hp hq rp rq nz = tt
power_rule load_model.Cigre None q hp hq rp rq nz = absurd (cc)
power_rule load_model.Cigre (Some p) None hp hq rp rq nz = absurd (cc)
power_rule load_model.Parallel None q hp hq rp rq nz = absurd (cc)
power_rule load_model.Parallel (Some p) None hp hq rp rq nz = absurd (cc)
power_rule load_model.Series (Some p) q hp hq rp rq nz = absurd (cc)
power_rule load_model.Series None (Some q) hp hq rp rq nz = absurd (cc)

-- r and x of a load
pub ohms_rule : (model : LoadModel) (r x : Option ℤ) → is_some r ≡ is_series model → is_some x ≡ is_series model
    → IfSome r (IsIn ORDINARY) → IfSome x (IsIn ORDINARY) → AreNotBothGivenZero r x → IsImpedance model r x
ohms_rule load_model.Cigre None None hr hx rr rx nz = tt
ohms_rule load_model.Parallel None None hr hx rr rx nz = tt
ohms_rule load_model.Series (Some r) (Some x) hr hx rr rx nz = (rr, rx, nz)
ohms_rule load_model.Cigre (Some r) x hr hx rr rx nz = absurd (cc)
ohms_rule load_model.Cigre None (Some x) hr hx rr rx nz = absurd (cc)
ohms_rule load_model.Parallel (Some r) x hr hx rr rx nz = absurd (cc)
ohms_rule load_model.Parallel None (Some x) hr hx rr rx nz = absurd (cc)
ohms_rule load_model.Series None x hr hx rr rx nz = absurd (cc)
ohms_rule load_model.Series (Some r) None hr hx rr rx nz = absurd (cc)

-- the phase of an element
pub phase_rule : (model : StudyModel) (phase : Option Phase) → (in_phases model ≡ false → is_some phase ≡ false) → IsElementPhase model phase
phase_rule study_model.Sequence None alone = tt
phase_rule study_model.Sequence (Some phase) alone = absurd (cc (alone refl))
phase_rule study_model.Phases None alone = tt
phase_rule study_model.Phases (Some phase) alone = tt

-- what a scan sees
pub scanned_rule : (model : StudyModel) (network : Option Sequence) (phase : Option Phase) → (not (in_phases model) ≡ false → is_some network ≡ false)
    → (in_phases model ≡ false → is_some phase ≡ false) → (in_phases model ≡ true → is_some phase ≡ true)
    → IsScanned model (unwrap_or network sequence.Positive) phase
scanned_rule study_model.Sequence network None sn sp np = tt
scanned_rule study_model.Sequence network (Some phase) sn sp np = absurd (cc (sp refl))
scanned_rule study_model.Phases None (Some phase) sn sp np = tt
scanned_rule study_model.Phases None None sn sp np = absurd (cc (np refl))
scanned_rule study_model.Phases (Some network) phase sn sp np = absurd (cc (sn refl))

kv_given : (buses : List Bus) (n : ℕ) → n < length buses → option_map (λ (bus : Bus). bus.kv) (slice_get buses n) ≡ Some (kv_of buses n)
kv_given [] n lt = absurd (omega arith)
kv_given (bus ∷ buses) zero lt = refl
kv_given (bus ∷ buses) (suc n) lt = kv_given buses n (omega arith)

-- the ends of a line
pub voltage_rule : (buses : List Bus) (from to : ℕ) → from < length buses → to < length buses → kv_of buses from ≡ kv_of buses to → HaveEqualKv buses from to
voltage_rule buses from to lf lt e = kv_given buses from lf ∙ ap Some e ∙ sym (kv_given buses to lt)

pub ruleset load_rules = (power_rule, ohms_rule)
