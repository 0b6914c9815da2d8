-- A study whose checks find no fault is lawful.
use Rattle.study_model.specs.ValueWords.{study_model_of, method_of}
use Rattle.std.proofs.Common.{◌≡◌, ◌≢◌, ◌≤◌, ◌+◌, ◌-◌, ◌++◌, ◌⊎◌, ⊎_elim, ℕ, pos, zero, suc, map, false, List, [], ◌∷◌, Option, Some, None, length, refl, ap, arith, subst, sym, All, AllPairs, Contains, IsSomeAnd, slice_get, append_assoc}
use Rattle.std.proofs.lemmas.Int.{ints}
use Rattle.std.proofs.lemmas.List.{append-nil, length-map}
use Rattle.std.proofs.lemmas.List.Elements.{All-cons, All-nil}
use Rattle.toml.specs.Data.{Data, Items, no_items, item}
use Rattle.study_model.specs.Elements.{StudyElement, of_source, of_line, of_transformer, of_load, of_bank, of_filter, elements_of, element_buses, IsElement}
use Rattle.study_model.specs.Lawful.{IsLawful, IsLawfulBus, IsLawfulSource, IsLawfulLine, IsLawfulTransformer, IsLawfulLoad, IsLawfulBank, IsLawfulFilter, IsLawfulScan, IsLawfulPcc, IsLawfulCandidate, IsLawfulTolerance, IsLawfulOutage}
use Rattle.study_model.specs.declared.fault.Place.{Place}
use Rattle.study_model.specs.declared.fault.Section.{Section}
use Rattle.study_model.specs.declared.fault.Section.TheVariants as section
use Rattle.study_model.specs.declared.fault.Key.TheVariants as key
use Rattle.study_model.specs.declared.fault.StudyFault.{StudyFault}
use Rattle.study_model.specs.declared.limits.TheConstants.{MAX_ELEMENTS, MAX_SCANS, MAX_POINTS}
use Rattle.study_model.specs.declared.range.TheConstants.Range.{BASE_MVA, HERTZ, ROOT3}
use Rattle.study_model.specs.declared.records.Bus.{Bus}
use Rattle.study_model.specs.declared.records.Source.{Source}
use Rattle.study_model.specs.declared.records.Line.{Line}
use Rattle.study_model.specs.declared.records.Transformer.{Transformer}
use Rattle.study_model.specs.declared.records.Load.{Load}
use Rattle.study_model.specs.declared.records.Bank.{Bank}
use Rattle.study_model.specs.declared.records.Filter.{Filter}
use Rattle.study_model.specs.declared.records.ScanItem.{ScanItem}
use Rattle.study_model.specs.declared.records.Pcc.{Pcc}
use Rattle.study_model.specs.declared.records.Candidate.{Candidate}
use Rattle.study_model.specs.declared.records.Tolerance.{Tolerance}
use Rattle.study_model.specs.declared.records.Outage.{Outage}
use Rattle.study_model.specs.declared.records.Study.{Study}
use Rattle.study_reader.specs.Branches.{line_entry_fault, line_entry, transformer_entry_fault, transformer_entry}
use Rattle.study_reader.specs.Checks.{place_of, name_value, at, decimal_fault, default_fault, version_fault, scale_fault, word_fault, keys_fault}
use Rattle.study_reader.specs.Entries.{bus_entry_fault, bus_entry, source_entry_fault, source_entry, bank_entry_fault, bank_entry, filter_entry_fault, filter_entry, scan_entry_fault, scan_entry}
use Rattle.study_reader.proofs.EntryNames.{bus_named, source_named, line_named, transformer_named, load_named, bank_named, filter_named, scan_named, point_named}
use Rattle.study_reader.specs.Header.{header_fault, header_value, study_section_fault, study_section_value, study_keys}
use Rattle.study_reader.specs.Lawful.{IsFresh, Ends, IsLawfulHeader, IsLawfulPoint, IsLawfulPlant, IsNumbered, IsReadCandidate, IsReadTolerance, IsReadOutage, names_in}
use Rattle.study_reader.specs.Loads.{load_entry_fault, load_entry}
use Rattle.study_reader.specs.Points.{point_entry_fault, point_entry}
use Rattle.study_reader.specs.Sections.{section_in, array_fault, items_in, entries_fault, entries_of, section_fault, section_value, section_names}
use Rattle.study_reader.specs.StudyOf.{at_most, some_buses, before_buses, context_of, plant_fault, plant_names, plant_value, ends_of, plant_elements, with_elements, targets_of, variants_fault, variants_value, sections_fault, study_value}
use Rattle.study_reader.specs.declared.arrays.Occurrence.{Occurrence}
use Rattle.study_reader.specs.declared.context.Context.{Context}
use Rattle.study_reader.specs.declared.reference.Targets.{Targets}
use Rattle.study_reader.specs.declared.study.Plant.{Plant}
use Rattle.study_reader.proofs.Fresh.{distinct_push}
use Rattle.study_reader.proofs.PlantElements.{named}
use Rattle.study_reader.proofs.SoundArrays.{array_sound, items_counted}
use Rattle.study_reader.proofs.Sound.{no_fault, decimal_sound, default_sound, version_sound, scale_sound}
use Rattle.study_reader.proofs.SoundVariants.{variants_sound}
use Rattle.study_reader.proofs.SoundEntries.{bus_lawful, source_lawful, line_lawful, transformer_lawful, load_lawful, bank_lawful, filter_lawful, scan_lawful, point_lawful}

-- ---- a section
entries_sound : {A : Type 0} (fault : Context → List (List ℕ) → Place → Data → Option StudyFault) (value : Data → A) (lawful : A → Type 0) (context : Context) (at : Section)
    → ((earlier : List (List ℕ)) (place : Place) (d : Data) → fault context earlier place d ≡ None → lawful (value d) × IsFresh earlier (name_value d))
    → (earlier : List (List ℕ)) (n : ℕ) (items : Items) → entries_fault fault context at earlier n items ≡ None → AllPairs ◌≢◌ earlier
    → All lawful (entries_of value items) × AllPairs ◌≢◌ (earlier ++ entries_of name_value items)
entries_sound fault value lawful context at sound earlier n no_items e distinct = (All-nil lawful, subst (λ (ns : List (List ℕ)). AllPairs ◌≢◌ ns) (sym (append-nil earlier)) distinct)
entries_sound fault value lawful context at sound earlier n (item d ds) e distinct =
    let place = place_of at n key.Nothing in
    let names = earlier ++ name_value d ∷ [] in
    let checks = no_fault (fault context earlier place d ∷ entries_fault fault context at names (n + 1) ds ∷ []) e in
    let entry = sound earlier place d (checks 0) in
    let more = entries_sound fault value lawful context at sound names (n + 1) ds (checks 1) (distinct_push earlier (name_value d) distinct entry.1) in
    (All-cons lawful (value d) (entries_of value ds) entry.0 more.0, subst (λ (ns : List (List ℕ)). AllPairs ◌≢◌ ns) (append_assoc earlier (name_value d ∷ []) (entries_of name_value ds)) more.1)

entries_named : {A : Type 0} (value : Data → A) (name_in : A → List ℕ) → ((d : Data) → name_in (value d) ≡ name_value d) → (items : Items)
    → entries_of name_value items ≡ map name_in (entries_of value items)
entries_named value name_in is no_items = refl
entries_named value name_in is (item d ds) = rw (is d, entries_named value name_in is ds) refl

-- the entries of a section, beside the names before them
record IsSound {A : Type 0} (lawful : A → Type 0) (name_in : A → List ℕ) (o : Occurrence) (earlier : List (List ℕ)) (made : List A) (names : List (List ℕ)) : Type 0 where
  all : All lawful made
  few : length made ≤ o.most
  enough : o.optional ≡ false → o.least ≤ length made
  named : names ≡ earlier ++ map name_in made
  distinct : AllPairs ◌≢◌ names

section_sound : {A : Type 0} (fault : Context → List (List ℕ) → Place → Data → Option StudyFault) (value : Data → A) (lawful : A → Type 0) (name_in : A → List ℕ) (o : Occurrence) (context : Context)
    → ((earlier : List (List ℕ)) (place : Place) (d : Data) → fault context earlier place d ≡ None → lawful (value d) × IsFresh earlier (name_value d))
    → ((d : Data) → name_in (value d) ≡ name_value d) → (earlier : List (List ℕ)) (document : Data) → AllPairs ◌≢◌ earlier
    → section_fault fault o context earlier document ≡ None → IsSound lawful name_in o earlier (section_value value o.section document) (earlier ++ section_names o.section document)
unfolding section_fault section_value section_names
section_sound fault value lawful name_in o context sound is earlier document distinct e =
    let items = items_in (section_in o.section document) in
    let checks = no_fault (array_fault o (section_in o.section document) ∷ entries_fault fault context o.section earlier 1 items ∷ []) e in
    let count = array_sound o (section_in o.section document) (checks 0) in
    let most = count.0 in
    let made = entries_sound fault value lawful context o.section sound earlier 1 items (checks 1) distinct in record {
      all = made.0;
      few = omega (arith, most, items_counted value items);
      enough = λ needed. let least = count.1 needed in omega (arith, least, items_counted value items);
      named = ap (λ (ns : List (List ℕ)). earlier ++ ns) (entries_named value name_in is items);
      distinct = made.1;
    }

-- ---- the plant
record IsPlantSound (context : Context) (earlier : List (List ℕ)) (plant : Plant) (names : List (List ℕ)) : Type 0 where
  lawful : IsLawfulPlant context.model context.buses plant
  named : names ≡ earlier ++ names_in plant
  distinct : AllPairs ◌≢◌ names

plant_sound : (context : Context) (buses : List (List ℕ)) (document : Data) → AllPairs ◌≢◌ buses → plant_fault context buses document ≡ None
    → IsPlantSound context buses (plant_value context document) (plant_names buses document)
unfolding plant_fault plant_names plant_value
plant_sound context buses document distinct e =
    let source_names = buses ++ section_names section.Source document in
    let line_names = source_names ++ section_names section.Line document in
    let transformer_names = line_names ++ section_names section.Transformer document in
    let load_names = transformer_names ++ section_names section.Load document in
    let bank_names = load_names ++ section_names section.Bank document in
    let checks = no_fault (section_fault source_entry_fault (at_most section.Source MAX_ELEMENTS) context buses document ∷ section_fault line_entry_fault (at_most section.Line MAX_ELEMENTS) context source_names document ∷ section_fault transformer_entry_fault (at_most section.Transformer MAX_ELEMENTS) context line_names document ∷ section_fault load_entry_fault (at_most section.Load MAX_ELEMENTS) context transformer_names document ∷ section_fault bank_entry_fault (at_most section.Bank MAX_ELEMENTS) context load_names document ∷ section_fault filter_entry_fault (at_most section.Filter MAX_ELEMENTS) context bank_names document ∷ []) e in
    let sources = section_sound source_entry_fault (source_entry context) (IsLawfulSource context.buses) (λ (s : Source). s.name) (at_most section.Source MAX_ELEMENTS) context (source_lawful context) (source_named context) buses document distinct (checks 0) in
    let lines = section_sound line_entry_fault (line_entry context) (IsLawfulLine context.model context.buses) (λ (s : Line). s.name) (at_most section.Line MAX_ELEMENTS) context (line_lawful context) (line_named context) source_names document sources.distinct (checks 1) in
    let transformers = section_sound transformer_entry_fault (transformer_entry context) (IsLawfulTransformer context.buses) (λ (s : Transformer). s.name) (at_most section.Transformer MAX_ELEMENTS) context (transformer_lawful context) (transformer_named context) line_names document lines.distinct (checks 2) in
    let loads = section_sound load_entry_fault (load_entry context) (IsLawfulLoad context.model context.buses) (λ (s : Load). s.name) (at_most section.Load MAX_ELEMENTS) context (load_lawful context) (load_named context) transformer_names document transformers.distinct (checks 3) in
    let banks = section_sound bank_entry_fault (bank_entry context) (IsLawfulBank context.model context.buses) (λ (s : Bank). s.name) (at_most section.Bank MAX_ELEMENTS) context (bank_lawful context) (bank_named context) load_names document loads.distinct (checks 4) in
    let filters = section_sound filter_entry_fault (filter_entry context) (IsLawfulFilter context.model context.buses) (λ (s : Filter). s.name) (at_most section.Filter MAX_ELEMENTS) context (filter_lawful context) (filter_named context) bank_names document banks.distinct (checks 5) in record {
      lawful = record {
        sources_count = sources.few;
        sources = sources.all;
        lines_count = lines.few;
        lines = lines.all;
        transformers_count = transformers.few;
        transformers = transformers.all;
        loads_count = loads.few;
        loads = loads.all;
        banks_count = banks.few;
        banks = banks.all;
        filters_count = filters.few;
        filters = filters.all;
      };
      named = rw (filters.named, banks.named, loads.named, transformers.named, lines.named, sources.named) (named buses (plant_value context document));
      distinct = filters.distinct;
    }

-- ---- the study
header_sound : (o : Option Data) → study_section_fault o ≡ None → IsLawfulHeader (study_section_value o)
unfolding study_section_fault study_section_value header_fault header_value
header_sound None e = absurd (cc)
header_sound (Some d) e =
    let place = place_of section.Study 1 key.Nothing in
    let checks = no_fault (keys_fault (place_of section.Study 0 key.Nothing) place study_keys d ∷ version_fault place d ∷ decimal_fault place key.Mva BASE_MVA d ∷ default_fault place key.Hz HERTZ d ∷ word_fault place key.Model false study_model_of d ∷ scale_fault place d ∷ word_fault place key.Method false method_of d ∷ default_fault place key.Root3 ROOT3 d ∷ []) e in
    record {
      version = version_sound place d (checks 1);
      mva = decimal_sound place key.Mva BASE_MVA d (checks 2);
      hz = default_sound place key.Hz HERTZ (pos 50000000) d (checks 3) (omega (arith, ints), omega (arith, ints));
      scale = scale_sound place d (checks 5);
      root3 = default_sound place key.Root3 ROOT3 (pos 1732051) d (checks 7) (omega (arith, ints), omega (arith, ints));
    }

first_of : (a bus : ℕ) (rest : List ℕ) → a ≡ bus → Contains (a ∷ rest) bus
first_of a bus rest e = (0, omega arith, e)

one_end : (a bus : ℕ) → (a ≡ bus) ⊎ (a ≡ bus) → Contains (a ∷ []) bus
one_end a bus e = ⊎_elim (λ same. first_of a bus [] same) (λ same. first_of a bus [] same) e

two_ends : (a b bus : ℕ) → (a ≡ bus) ⊎ (b ≡ bus) → Contains (a ∷ b ∷ []) bus
two_ends a b bus e = ⊎_elim (λ same. first_of a bus (b ∷ []) same) (λ same. (1, omega arith, same)) e

-- an element's ends are among its buses
covers : (e : StudyElement) (bus : ℕ) → Ends bus (ends_of e) → Contains (element_buses e) bus
covers (of_source e) bus h = one_end e.bus bus h
covers (of_line e) bus h = two_ends e.from e.to bus h
covers (of_transformer e) bus h = two_ends e.from e.to bus h
covers (of_load e) bus h = one_end e.bus bus h
covers (of_bank e) bus h = one_end e.bus bus h
covers (of_filter e) bus h = one_end e.bus bus h

touched : (es : List StudyElement) (bus n : ℕ) → IsSomeAnd (slice_get (map ends_of es) n) (Ends bus) → IsSomeAnd (slice_get es n) (λ (e : StudyElement). Contains (element_buses e) bus)
touched [] bus n h = absurd h
touched (e ∷ es) bus zero h = covers e bus h
touched (e ∷ es) bus (suc n) h = touched es bus n h

-- a point that reaches an element touches it
touches : (study : Study) (point : Pcc) → IsLawfulPoint (record { version = study.version; model = study.model; buses = study.buses; elements = map ends_of (elements_of study) }) point → IsLawfulPcc study point
touches study point q = record {
  name = q.name;
  bus = q.bus;
  element = (q.element.counted, touched (elements_of study) point.bus (point.element - 1) q.element.ends);
  isc = q.isc;
  il = q.il;
}

-- what the candidates, tolerances and outages of a study may name
abbrev in_study : Study → Targets
in_study study = record { model = study.model; elements = map ends_of (elements_of study); scans = study.scans }

of_candidate : (study : Study) (candidate : Candidate) → IsReadCandidate (in_study study) candidate → IsLawfulCandidate study candidate
of_candidate study candidate q = record { scan = q.scan; sizes_count = q.sizes_count; sizes = q.sizes }

numbered : (study : Study) (number : ℕ) → IsNumbered (map ends_of (elements_of study)) number → IsElement study number
numbered study number q = let most = q.most in (q.least, omega (arith, most, length-map (elements_of study) ends_of))

of_tolerance : (study : Study) (tolerance : Tolerance) → IsReadTolerance (in_study study) tolerance → IsLawfulTolerance study tolerance
of_tolerance study tolerance q = record { model = q.model; element = numbered study tolerance.element q.element; permille = q.permille }

of_outage : (study : Study) (outage : Outage) → IsReadOutage (in_study study) outage → IsLawfulOutage study outage
of_outage study outage q = record { element = numbered study outage.element q.element }

no_names : AllPairs {X = List ℕ} ◌≢◌ []
no_names = λ i j d lt short. absurd (omega arith)

lawful_study : (document : Data) → sections_fault document ≡ None → IsLawful (study_value document)
unfolding sections_fault study_value context_of with_elements targets_of variants_value plant_elements
lawful_study document e =
    let before = before_buses document in
    let context = context_of document in
    let plant = plant_value context document in
    let whole = with_elements context plant in
    let bus_names = section_names section.Bus document in
    let all_names = plant_names bus_names document in
    let checks = no_fault (study_section_fault (section_in section.Study document) ∷ section_fault bus_entry_fault some_buses (before_buses document) [] document ∷ plant_fault (context_of document) bus_names document ∷ section_fault scan_entry_fault (at_most section.Scan MAX_SCANS) (context_of document) (plant_names bus_names document) document ∷ section_fault point_entry_fault (at_most section.Pcc MAX_POINTS) (with_elements (context_of document) (plant_value (context_of document) document)) (plant_names bus_names document ++ section_names section.Scan document) document ∷ variants_fault (targets_of document) document ∷ []) e in
    let header = header_sound (section_in section.Study document) (checks 0) in
    let buses = section_sound bus_entry_fault (bus_entry before) IsLawfulBus (λ (s : Bus). s.name) some_buses before (bus_lawful before) (bus_named before) [] document no_names (checks 1) in
    let p = plant_sound context bus_names document buses.distinct (checks 2) in
    let scans = section_sound scan_entry_fault (scan_entry context) (IsLawfulScan context.version context.model context.buses) (λ (s : ScanItem). s.name) (at_most section.Scan MAX_SCANS) context (scan_lawful context header.version) (scan_named context) all_names document p.distinct (checks 3) in
    let points = section_sound point_entry_fault (point_entry whole) (IsLawfulPoint whole) (λ (s : Pcc). s.name) (at_most section.Pcc MAX_POINTS) whole (point_lawful whole) (point_named whole) (all_names ++ section_names section.Scan document) document scans.distinct (checks 4) in
    let variants = variants_sound (targets_of document) document (checks 5) in
    let of_buses : bus_names ≡ map (λ (s : Bus). s.name) (section_value (bus_entry before) section.Bus document) = buses.named in
    record {
      version = header.version;
      mva = header.mva;
      hz = header.hz;
      scale = header.scale;
      root3 = header.root3;
      buses_count = (buses.enough refl, buses.few);
      buses = buses.all;
      sources_count = p.lawful.sources_count;
      sources = p.lawful.sources;
      lines_count = p.lawful.lines_count;
      lines = p.lawful.lines;
      transformers_count = p.lawful.transformers_count;
      transformers = p.lawful.transformers;
      loads_count = p.lawful.loads_count;
      loads = p.lawful.loads;
      banks_count = p.lawful.banks_count;
      banks = p.lawful.banks;
      filters_count = p.lawful.filters_count;
      filters = p.lawful.filters;
      scans_count = scans.few;
      scans = scans.all;
      points_count = points.few;
      points = λ k point lt. touches (study_value document) _ (points.all k point lt);
      candidates_count = variants.candidates_count;
      candidates = λ k candidate lt. of_candidate (study_value document) _ (variants.candidates k candidate lt);
      tolerances_count = variants.tolerances_count;
      tolerances = λ k tolerance lt. of_tolerance (study_value document) _ (variants.tolerances k tolerance lt);
      tolerances_differ = variants.tolerances_differ;
      outages_count = variants.outages_count;
      outages = λ k outage lt. of_outage (study_value document) _ (variants.outages k outage lt);
      outages_differ = variants.outages_differ;
      names = subst (λ (ns : List (List ℕ)). AllPairs ◌≢◌ ns) (rw (points.named, scans.named, p.named, of_buses) refl) points.distinct;
    }

-- a study whose checks find no fault is lawful
pub lawful_of : (document : Data) (study : Study) → sections_fault document ≡ None → study ≡ study_value document → IsLawful study
lawful_of document study e is = subst IsLawful (sym is) (lawful_study document e)
