-- What a lawful study is, key by key.
use Rattle.std.specs.Prelude.{◌≡◌, ◌≢◌, ◌⊎◌, ℕ, ℤ, pos, unsigned_abs, ◌-◌, ◌<◌, ◌≤◌, ◌≤ℤ◌, ◌<ℤ◌, ◌-ℤ◌, ◌*ℤ◌, IsTrue, List, Option, Some, None, map, length, codes, slice_get, option_map, All, AllPairs, IsSomeAnd}
use Rattle.study_model.specs.NameText.{is_name}
use Rattle.study_model.specs.Range.{IsIn}
use Rattle.study_model.specs.Curve.{curve_points, curve_of, flat_points, IsLawfulCurve, Spans}
use Rattle.study_model.specs.Rules.{AreNotBothZero, IsZeroSequence, HasZeroSequence, AreMutual, IsNeutral, IsPower, IsImpedance, IsElementPhase, IsScanned}
use Rattle.study_model.specs.Elements.{Touches, IsElement, names_of}
use Rattle.study_model.specs.declared.limits.TheConstants.{MAX_BUSES, MAX_ELEMENTS, MAX_SCANS, MAX_POINTS, MAX_CANDIDATES, MAX_SIZES, MAX_TOLERANCES, MAX_PERMILLE, MAX_OUTAGES, MAX_SECTIONS, MAX_WIDTHS}
use Rattle.study_model.specs.declared.range.TheConstants.Range.{ORDINARY, ABOVE_ZERO, BASE_MVA, HERTZ, ROOT3, BUS_KV, SKIN_K, SKIN_M, RESISTANCE_PERCENT, REACTANCE_PERCENT, RATIO, TUNED_ORDER, QUALITY, BAND, FINEST, LOCATE, AMPERES}
use Rattle.study_model.specs.declared.words.StudyModel.{StudyModel}
use Rattle.study_model.specs.declared.words.StudyModel.TheVariants as study_model
use Rattle.study_model.specs.declared.words.Sequence.TheVariants as sequence
use Rattle.study_model.specs.declared.curve.Curve.{Curve}
use Rattle.study_model.specs.declared.records.Bus.{Bus}
use Rattle.study_model.specs.declared.records.Source.{Source}
use Rattle.study_model.specs.declared.records.Line.{Line}
use Rattle.study_model.specs.declared.records.Transformer.{Transformer}
use Rattle.study_model.specs.declared.records.Load.{Load}
use Rattle.study_model.specs.declared.records.Bank.{Bank}
use Rattle.study_model.specs.declared.records.Filter.{Filter}
use Rattle.study_model.specs.declared.records.ScanItem.{ScanItem}
use Rattle.study_model.specs.declared.records.Pcc.{Pcc}
use Rattle.study_model.specs.declared.records.Candidate.{Candidate}
use Rattle.study_model.specs.declared.records.Tolerance.{Tolerance}
use Rattle.study_model.specs.declared.records.Outage.{Outage}
use Rattle.study_model.specs.declared.records.Study.{Study}

-- 1 to 32 bytes of a name
abbrev pub IsName : List ℕ → Type 0
IsName name = IsTrue (is_name name)

-- the number of a bus
abbrev pub IsBus : List Bus → ℕ → Type 0
IsBus buses bus = bus < length buses

-- two buses that differ and have the same nominal voltage
abbrev pub HaveEqualKv : List Bus → ℕ → ℕ → Type 0
HaveEqualKv buses from to = option_map (λ bus. bus.kv) (slice_get buses from) ≡ option_map (λ bus. bus.kv) (slice_get buses to)

-- a bus: its nominal voltage in kV
pub record IsLawfulBus (bus : Bus) : Type 0 where
  pub name : IsName bus.name
  pub kv : IsIn BUS_KV bus.kv

-- a source: impedances in ohms, not both parts 0
pub record IsLawfulSource (buses : List Bus) (source : Source) : Type 0 where
  pub name : IsName source.name
  pub bus : IsBus buses source.bus
  pub r : IsIn ORDINARY source.r
  pub x : IsIn ORDINARY source.x × AreNotBothZero source.r source.x
  pub r0_x0 : IsZeroSequence source.r0 source.x0
  pub skin_k : IsIn SKIN_K source.skin_k
  pub skin_m : IsIn SKIN_M source.skin_m

-- a line: two buses of one voltage; impedances in ohms, susceptances in microsiemens
pub record IsLawfulLine (model : StudyModel) (buses : List Bus) (line : Line) : Type 0 where
  pub name : IsName line.name
  pub from : IsBus buses line.from
  pub to : IsBus buses line.to × (line.from ≢ line.to) × HaveEqualKv buses line.from line.to
  pub r : IsIn ORDINARY line.r
  pub x : IsIn ORDINARY line.x × AreNotBothZero line.r line.x
  pub b : IsIn ORDINARY line.b
  pub r0_x0 : IsZeroSequence line.r0 line.x0 × HasZeroSequence model line.r0
  pub b0 : IsIn ORDINARY line.b0 × (line.b0 ≤ℤ line.b)
  pub sections : (1 ≤ line.sections) × (line.sections ≤ MAX_SECTIONS)
  pub xab_xbc_xca : AreMutual model line.xab line.xbc line.xca
  pub skin_k : IsIn SKIN_K line.skin_k
  pub skin_m : IsIn SKIN_M line.skin_m

-- a transformer: two buses; its own MVA, percents on it, and neutrals in ohms
pub record IsLawfulTransformer (buses : List Bus) (transformer : Transformer) : Type 0 where
  pub name : IsName transformer.name
  pub from : IsBus buses transformer.from
  pub to : IsBus buses transformer.to × (transformer.from ≢ transformer.to)
  pub mva : IsIn BASE_MVA transformer.mva
  pub r : IsIn RESISTANCE_PERCENT transformer.r
  pub x : IsIn REACTANCE_PERCENT transformer.x
  pub ratio : IsIn RATIO transformer.ratio
  pub from_rn_from_xn : IsNeutral transformer.from_conn transformer.from_rn transformer.from_xn
  pub to_rn_to_xn : IsNeutral transformer.to_conn transformer.to_rn transformer.to_xn
  pub skin_k : IsIn SKIN_K transformer.skin_k
  pub skin_m : IsIn SKIN_M transformer.skin_m

-- a load: its model tells whether it has a power or an impedance
pub record IsLawfulLoad (model : StudyModel) (buses : List Bus) (load : Load) : Type 0 where
  pub name : IsName load.name
  pub bus : IsBus buses load.bus
  pub p_q : IsPower load.model load.p load.q
  pub r_x : IsImpedance load.model load.r load.x
  pub phase : IsElementPhase model load.phase

-- a bank: its rating in MVAr
pub record IsLawfulBank (model : StudyModel) (buses : List Bus) (bank : Bank) : Type 0 where
  pub name : IsName bank.name
  pub bus : IsBus buses bank.bus
  pub q : IsIn ABOVE_ZERO bank.q
  pub phase : IsElementPhase model bank.phase

-- a filter: its rating in MVAr, the order it is tuned to and its quality
pub record IsLawfulFilter (model : StudyModel) (buses : List Bus) (filter : Filter) : Type 0 where
  pub name : IsName filter.name
  pub bus : IsBus buses filter.bus
  pub q : IsIn ABOVE_ZERO filter.q
  pub order : IsIn TUNED_ORDER filter.order
  pub quality : IsIn QUALITY filter.quality
  pub phase : IsElementPhase model filter.phase

-- the threshold of a scan: in version 1 ohms, with their flat curve, and in version 2 a curve alone
abbrev pub IsThreshold : ℕ → Option ℤ → Curve → Type 0
IsThreshold version (Some ohms) curve = (version ≡ 1) × IsIn ABOVE_ZERO ohms × (curve ≡ curve_of (flat_points (unsigned_abs ohms)))
IsThreshold version None curve = version ≡ 2

-- a scan: its network, a band that is not too many finest widths wide, and a threshold that reaches over the band
pub record IsLawfulScan (version : ℕ) (model : StudyModel) (buses : List Bus) (scan : ScanItem) : Type 0 where
  pub name : IsName scan.name × (scan.name ≢ codes "limits")
  pub bus : IsBus buses scan.bus
  pub network_phase : IsScanned model scan.network scan.phase
  pub from : IsIn BAND scan.from
  pub to : IsIn BAND scan.to × (scan.from <ℤ scan.to)
  pub threshold : IsThreshold version scan.threshold scan.curve
  pub curve : IsLawfulCurve scan.curve × Spans (curve_points scan.curve) scan.from scan.to
  pub finest : IsIn FINEST scan.finest × ((scan.to -ℤ scan.from) ≤ℤ (pos MAX_WIDTHS *ℤ scan.finest))
  pub locate : IsIn LOCATE scan.locate × (scan.finest ≤ℤ scan.locate)

-- a point of common coupling: an element that touches its bus, and two currents in amperes
pub record IsLawfulPcc (study : Study) (point : Pcc) : Type 0 where
  pub name : IsName point.name
  pub bus : IsBus study.buses point.bus
  pub element : Touches study point.element point.bus
  pub isc : IsIn AMPERES point.isc
  pub il : IsIn AMPERES point.il

-- a scan of the positive network in the sequence model
abbrev pub IsOfPositive : ScanItem → Type 0
IsOfPositive scan = (scan.network ≡ sequence.Positive) × (scan.phase ≡ None)

-- the number of such a scan, from 1
abbrev pub IsPositiveScan : List ScanItem → ℕ → Type 0
IsPositiveScan scans number = (1 ≤ number) × IsSomeAnd (slice_get scans (number - 1)) IsOfPositive

-- a candidate: a scan of the positive network, and some sizes of a bank in MVAr
pub record IsLawfulCandidate (study : Study) (candidate : Candidate) : Type 0 where
  pub scan : IsPositiveScan study.scans candidate.scan
  pub sizes_count : (1 ≤ length candidate.sizes) × (length candidate.sizes ≤ MAX_SIZES)
  pub sizes : All (IsIn ABOVE_ZERO) candidate.sizes

-- a tolerance: an element of a study of the sequence model, and thousandths
pub record IsLawfulTolerance (study : Study) (tolerance : Tolerance) : Type 0 where
  pub model : study.model ≡ study_model.Sequence
  pub element : IsElement study tolerance.element
  pub permille : (1 ≤ tolerance.permille) × (tolerance.permille ≤ MAX_PERMILLE)

-- an outage: an element
pub record IsLawfulOutage (study : Study) (outage : Outage) : Type 0 where
  pub element : IsElement study outage.element

-- the elements that have a tolerance
abbrev pub tolerant_elements : Study → List ℕ
tolerant_elements study = map (λ tolerance. tolerance.element) study.tolerances

-- the elements that may be out of service
abbrev pub outage_elements : Study → List ℕ
outage_elements study = map (λ outage. outage.element) study.outages

-- The header, then each section's count and entries, then the names, which differ over all sections. No two tolerances are of one element, and no two outages.
pub record IsLawful (study : Study) : Type 0 where
  pub version : (study.version ≡ 1) ⊎ (study.version ≡ 2)
  pub mva : IsIn BASE_MVA study.mva
  pub hz : IsIn HERTZ study.hz
  pub scale : (study.scale ≡ 40) ⊎ (study.scale ≡ 48)
  pub root3 : IsIn ROOT3 study.root3
  pub buses_count : (1 ≤ length study.buses) × (length study.buses ≤ MAX_BUSES)
  pub buses : All IsLawfulBus study.buses
  pub sources_count : length study.sources ≤ MAX_ELEMENTS
  pub sources : All (IsLawfulSource study.buses) study.sources
  pub lines_count : length study.lines ≤ MAX_ELEMENTS
  pub lines : All (IsLawfulLine study.model study.buses) study.lines
  pub transformers_count : length study.transformers ≤ MAX_ELEMENTS
  pub transformers : All (IsLawfulTransformer study.buses) study.transformers
  pub loads_count : length study.loads ≤ MAX_ELEMENTS
  pub loads : All (IsLawfulLoad study.model study.buses) study.loads
  pub banks_count : length study.banks ≤ MAX_ELEMENTS
  pub banks : All (IsLawfulBank study.model study.buses) study.banks
  pub filters_count : length study.filters ≤ MAX_ELEMENTS
  pub filters : All (IsLawfulFilter study.model study.buses) study.filters
  pub scans_count : length study.scans ≤ MAX_SCANS
  pub scans : All (IsLawfulScan study.version study.model study.buses) study.scans
  pub points_count : length study.points ≤ MAX_POINTS
  pub points : All (IsLawfulPcc study) study.points
  pub candidates_count : length study.candidates ≤ MAX_CANDIDATES
  pub candidates : All (IsLawfulCandidate study) study.candidates
  pub tolerances_count : length study.tolerances ≤ MAX_TOLERANCES
  pub tolerances : All (IsLawfulTolerance study) study.tolerances
  pub tolerances_differ : AllPairs ◌≢◌ (tolerant_elements study)
  pub outages_count : length study.outages ≤ MAX_OUTAGES
  pub outages : All (IsLawfulOutage study) study.outages
  pub outages_differ : AllPairs ◌≢◌ (outage_elements study)
  pub names : AllPairs ◌≢◌ (names_of study)
