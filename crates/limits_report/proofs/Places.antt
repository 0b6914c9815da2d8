-- The sites of a study: what each is of, and how many there are.
use Rattle.std.proofs.Common.{◌≡◌, subst, ℕ, zero, suc, ◌+◌, ◌*◌, ◌<◌, ◌≤◌, List, [], ◌∷◌, ◌++◌, length, length-append, refl, arith}
use Rattle.std.proofs.lemmas.List.Elements.{recursion_from_All}
use Rattle.std.specs.Prelude.{slice_get, Some}
use Rattle.std.specs.List.{AllByRecursion, flat_map}
use Rattle.scan_report.specs.declared.rows.PhaseWord.{PhaseWord}
use Rattle.scan_report.specs.declared.rows.PhaseWord.TheVariants.{S, A, B, C}
use Rattle.study_model.specs.Lawful.{IsLawful, IsLawfulPcc}
use Rattle.study_model.specs.declared.limits.TheConstants.{MAX_BUSES}
use Rattle.study_model.specs.declared.records.Bus.{Bus}
use Rattle.study_model.specs.declared.records.Pcc.{Pcc}
use Rattle.study_model.specs.declared.records.Study.{Study}
use Rattle.study_model.specs.declared.words.StudyModel.{StudyModel}
use Rattle.study_model.specs.declared.words.StudyModel.TheVariants as study_model
use Rattle.limits_report.specs.declared.site.Site.{Site}
use Rattle.limits_report.specs.declared.site.Subject.{Subject}
use Rattle.limits_report.specs.declared.site.Subject.TheVariants.{Voltage, Current}
use Rattle.limits_report.specs.Sites.{node_in, site_of, sites_at, bus_sites, point_sites, sites_of, IsLawfulSubject}
use Rattle.limits_report.proofs.Everywhere.{joined}

-- ---- how many
pub few_buses : (study : Study) → IsLawful study → length study.buses ≤ MAX_BUSES
few_buses study h = h.buses_count.1

pub few_at : (model : StudyModel) (bus : ℕ) (subject : Subject) → length (sites_at model bus subject) ≤ 3
few_at study_model.Sequence bus subject = omega arith
few_at study_model.Phases bus subject = omega arith

few_from : (model : StudyModel) (number : ℕ) (buses : List Bus) → length (bus_sites model number buses) ≤ 3 * length buses
few_from model number [] = omega arith
few_from model number (bus ∷ buses) =
    let one = few_at model number (Voltage number bus) in
    let more = few_from model (number + 1) buses in
    omega (arith, one, more, length-append (sites_at model number (Voltage number bus)) (bus_sites model (number + 1) buses))

pub few_sites : (study : Study) → IsLawful study → length (bus_sites study.model 0 study.buses) ≤ 600
few_sites study h = let few = few_from study.model 0 study.buses in let buses : length study.buses ≤ 200 = h.buses_count.1 in omega (arith, few, buses)

-- ---- buses of points
pub point_within : (study : Study) (point : Pcc) → IsLawful study → IsLawfulPcc study point → point.bus < MAX_BUSES
point_within study point h p = let few : length study.buses ≤ 200 = h.buses_count.1 in omega (arith, few, p.bus)

each_within : (study : Study) (points : List Pcc) → IsLawful study → AllByRecursion (IsLawfulPcc study) points → AllByRecursion (λ point. point.bus < MAX_BUSES) points
each_within study [] h all = tt
each_within study (point ∷ points) h all = (point_within study point h all.0, each_within study points h all.1)

pub lawful_points : (study : Study) → IsLawful study → AllByRecursion (IsLawfulPcc study) study.points
lawful_points study h = recursion_from_All _ study.points h.points

pub points_within : (study : Study) → IsLawful study → AllByRecursion (λ point. point.bus < MAX_BUSES) study.points
points_within study h = each_within study study.points h (lawful_points study h)

-- ---- a fact of each site
at_each : (P : Site → Type 0) (model : StudyModel) (bus : ℕ) (subject : Subject) → ((word : PhaseWord) → P (site_of model bus subject word)) → AllByRecursion P (sites_at model bus subject)
at_each P study_model.Sequence bus subject h = (h S, tt)
at_each P study_model.Phases bus subject h = (h A, (h B, (h C, tt)))

pub lawful_point : (study : Study) (model : StudyModel) (point : Pcc) → IsLawfulPcc study point → AllByRecursion (λ site. IsLawfulSubject study site.subject) (point_sites model point)
lawful_point study model point h = at_each (λ site. IsLawfulSubject study site.subject) model point.bus (Current point) (λ word. h)

pub lawful_buses : (study : Study) (model : StudyModel) (number : ℕ) (buses : List Bus) → AllByRecursion (λ site. IsLawfulSubject study site.subject) (bus_sites model number buses)
lawful_buses study model number [] = tt
lawful_buses study model number (bus ∷ buses) =
    joined (λ site. IsLawfulSubject study site.subject) (sites_at model number (Voltage number bus)) (bus_sites model (number + 1) buses)
    (at_each (λ site. IsLawfulSubject study site.subject) model number (Voltage number bus) (λ word. tt)) (lawful_buses study model (number + 1) buses)

-- ---- the rests of a list
-- the numbers of the elements of a rest of a list
abbrev pub IsRest : {X : Type 0} → List X → ℕ → List X → Type 0
IsRest {X} whole number rest = (k : ℕ) (x : X) → slice_get rest k ≡ Some x → slice_get whole (number + k) ≡ Some x

pub rest_first : {X : Type 0} (whole : List X) (number : ℕ) (x : X) (rest : List X) → IsRest whole number (x ∷ rest) → slice_get whole number ≡ Some x
rest_first whole number x rest h = let e : number + 0 ≡ number = omega arith in subst (λ n. slice_get whole n ≡ Some x) e (h 0 x refl)

pub rest_more : {X : Type 0} (whole : List X) (number : ℕ) (x : X) (rest : List X) → IsRest whole number (x ∷ rest) → IsRest whole (number + 1) rest
rest_more whole number x rest h = λ k y at. let e : number + suc k ≡ number + 1 + k = omega arith in subst (λ n. slice_get whole n ≡ Some y) e (h (suc k) y at)

pub whole_rest : {X : Type 0} (whole : List X) → IsRest whole 0 whole
whole_rest whole = λ k x at. let e : k ≡ 0 + k = omega arith in subst (λ n. slice_get whole n ≡ Some x) e at

in_first : {X : Type 0} (xs ys : List X) (k : ℕ) (x : X) → slice_get xs k ≡ Some x → slice_get (xs ++ ys) k ≡ Some x
in_first [] ys k x at = absurd (cc)
in_first (y ∷ xs) ys zero x at = at
in_first (y ∷ xs) ys (suc k) x at = in_first xs ys k x at

in_second : {X : Type 0} (xs ys : List X) (k : ℕ) (x : X) → slice_get ys k ≡ Some x → slice_get (xs ++ ys) (length xs + k) ≡ Some x
in_second [] ys k x at = let e : k ≡ 0 + k = omega arith in subst (λ n. slice_get ys n ≡ Some x) e at
in_second (y ∷ xs) ys k x at =
    let e : suc (length xs + k) ≡ suc (length xs) + k = omega arith in
    subst (λ n. slice_get (y ∷ xs ++ ys) n ≡ Some x) e (in_second xs ys k x at)

pub rest_left : {X : Type 0} (whole : List X) (number : ℕ) (xs ys : List X) → IsRest whole number (xs ++ ys) → IsRest whole number xs
rest_left whole number xs ys h = λ k x at. h k x (in_first xs ys k x at)

pub rest_right : {X : Type 0} (whole : List X) (number : ℕ) (xs ys : List X) → IsRest whole number (xs ++ ys) → IsRest whole (number + length xs) ys
rest_right whole number xs ys h = λ k x at.
    let e : number + (length xs + k) ≡ number + length xs + k = omega arith in
    subst (λ n. slice_get whole n ≡ Some x) e (h (length xs + k) x (in_second xs ys k x at))

-- ---- what each site is of
-- a bus or a point of the study by its number, and the node of the bus and the phase
abbrev pub IsOf : Study → Subject → PhaseWord → ℕ → Type 0
IsOf study (Voltage number bus) phase node = (slice_get study.buses number ≡ Some bus) × (node ≡ node_in study.model number phase)
IsOf study (Current point) phase node = ((number : ℕ) × (slice_get study.points number ≡ Some point)) × IsLawfulPcc study point × (node ≡ node_in study.model point.bus phase)

abbrev pub IsSiteOf : Study → Site → Type 0
IsSiteOf study site = IsOf study site.subject site.phase site.node

of_buses : (study : Study) (number : ℕ) (buses : List Bus) → IsRest study.buses number buses → AllByRecursion (IsSiteOf study) (bus_sites study.model number buses)
of_buses study number [] rest = tt
of_buses study number (bus ∷ buses) rest =
    joined (IsSiteOf study) (sites_at study.model number (Voltage number bus)) (bus_sites study.model (number + 1) buses)
    (at_each (IsSiteOf study) study.model number (Voltage number bus) (λ word. (rest_first study.buses number bus buses rest, refl)))
    (of_buses study (number + 1) buses (rest_more study.buses number bus buses rest))

of_points : (study : Study) (number : ℕ) (points : List Pcc) → IsRest study.points number points → AllByRecursion (IsLawfulPcc study) points → AllByRecursion (IsSiteOf study) (flat_map (point_sites study.model) points)
of_points study number [] rest h = tt
of_points study number (point ∷ points) rest h =
    joined (IsSiteOf study) (point_sites study.model point) (flat_map (point_sites study.model) points)
    (at_each (IsSiteOf study) study.model point.bus (Current point) (λ word. ((number, rest_first study.points number point points rest), h.0, refl)))
    (of_points study (number + 1) points (rest_more study.points number point points rest) h.1)

pub sites_are : (study : Study) → IsLawful study → AllByRecursion (IsSiteOf study) (sites_of study)
unfolding sites_of
sites_are study h =
    joined (IsSiteOf study) (bus_sites study.model 0 study.buses) (flat_map (point_sites study.model) study.points)
    (of_buses study 0 study.buses (whole_rest study.buses)) (of_points study 0 study.points (whole_rest study.points) (lawful_points study h))
