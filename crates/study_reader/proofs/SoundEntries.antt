-- An entry whose checks find no fault is lawful, and no earlier entry has its name.
use Rattle.std.proofs.Common.{◌≡◌, ◌≢◌, ◌∙◌, ◌⊎◌, ◌&&◌, ◌||◌, ℕ, ℤ, pos, Bool, true, false, not, nat_eq, List, [], ◌∷◌, Option, Some, None, refl, arith, sym, ap, codes}
use Rattle.std.specs.Prelude.{IfSome, is_some, unwrap_or, int_le, int_lt, ◌≤ℤ◌, ◌<ℤ◌, ◌-ℤ◌, ◌*ℤ◌}
use Rattle.std.specs.Ordering.{int_eq}
use Rattle.std.proofs.lemmas.Bool.{and_parts}
use Rattle.std.proofs.lemmas.Bool.Decides.{nat_tests, Decides-int_eq}
use Rattle.std.proofs.lemmas.Int.{ints}
use Rattle.toml.specs.Data.{Data}
use Rattle.study_model.specs.Voltages.{kv_of}
use Rattle.study_model.specs.Range.{IsIn}
use Rattle.study_model.specs.Rules.{AreNotBothZero, IsZeroSequence, AreMutual, IsNeutral, IsElementPhase, IsScanned}
use Rattle.study_model.specs.ValueWords.{phase_of, connection_of, load_model_of, filter_kind_of, sequence_of}
use Rattle.study_model.specs.Lawful.{IsBus, HaveEqualKv, IsLawfulBus, IsLawfulSource, IsLawfulLine, IsLawfulTransformer, IsLawfulLoad, IsLawfulBank, IsLawfulFilter, IsLawfulScan}
use Rattle.study_model.specs.declared.fault.Place.{Place}
use Rattle.study_model.specs.declared.fault.Key.{Key}
use Rattle.study_model.specs.declared.fault.Key.TheVariants as key
use Rattle.study_model.specs.declared.fault.StudyFault.TheVariants.{OutOfRange, BadBand, TooFine}
use Rattle.study_model.specs.declared.limits.TheConstants.{MAX_WIDTHS}
use Rattle.study_model.specs.declared.range.Range.{Range}
use Rattle.study_model.specs.declared.range.TheConstants.Range.{ORDINARY, ABOVE_ZERO, BASE_MVA, BUS_KV, SKIN_K, SKIN_M, RESISTANCE_PERCENT, REACTANCE_PERCENT, RATIO, TUNED_ORDER, QUALITY, BAND, FINEST, LOCATE, AMPERES}
use Rattle.study_model.specs.declared.words.StudyModel.{StudyModel}
use Rattle.study_model.specs.declared.words.Connection.{Connection}
use Rattle.study_model.specs.declared.words.Sequence.TheVariants as sequence
use Rattle.study_reader.specs.Checks.{has, option_value, decimal_value, decimal_or, name_value, bus_value, word_value, stray_fault, optional_fault, decimal_fault, default_fault, both_zero_fault, sections_fault, word_fault, flag_fault, name_fault, reserved_fault, bus_fault, keys_fault}
use Rattle.study_reader.specs.Groups.{in_phases, impedance_fault, zero_sequence_fault, skin_fault, wiring_fault}
use Rattle.study_reader.specs.Branches.{line_ends_fault, at_most_fault, has_mutual, mutual_fault, line_front_fault, line_entry_fault, line_entry, ends_fault, rating_fault, is_grounded, connection_at, neutral_fault, transformer_front_fault, transformer_entry_fault, transformer_entry, line_keys, transformer_keys}
use Rattle.study_reader.specs.Entries.{bus_entry_fault, bus_entry, source_entry_fault, source_entry, bank_entry_fault, bank_entry, filter_entry_fault, filter_entry, scanned_fault, upwards_fault, widths_fault, locate_fault, band_fault, scan_entry_fault, scan_entry, bus_keys, source_keys, bank_keys, filter_keys, scan_keys_fault}
use Rattle.study_reader.specs.Curves.{limit_fault}
use Rattle.study_reader.specs.Loads.{is_series, power_range, part_fault, parts_fault, model_in, load_entry_fault, load_entry, load_keys}
use Rattle.study_reader.specs.Points.{point_entry_fault, point_entry, element_fault, point_keys}
use Rattle.study_reader.specs.Lawful.{IsFresh, IsLawfulPoint}
use Rattle.study_reader.specs.declared.context.Context.{Context}
use Rattle.study_reader.proofs.Rules.{zero_rule, has_zero_rule, mutual_rule, neutral_rule, power_rule, ohms_rule, phase_rule, scanned_rule, voltage_rule}
use Rattle.study_reader.proofs.SoundCurves.{limit_sound}
use Rattle.study_reader.proofs.Sound.{no_fault, passed, at_most_of, below_of, optional_sound, decimal_sound, default_sound, given_has, absent_default, stray_sound, zeros_sound, sections_sound, word_sound, name_sound, reserved_sound, bus_sound, element_sound}

-- ---- keys that are read together
impedance_sound : (place : Place) (d : Data) → impedance_fault place d ≡ None
    → IsIn ORDINARY (decimal_value key.R d) × IsIn ORDINARY (decimal_value key.X d) × AreNotBothZero (decimal_value key.R d) (decimal_value key.X d)
unfolding impedance_fault
impedance_sound place d e =
    let checks = no_fault (decimal_fault place key.R ORDINARY d ∷ decimal_fault place key.X ORDINARY d ∷ both_zero_fault place key.X (Some (decimal_value key.R d)) (Some (decimal_value key.X d)) ∷ []) e in
    (decimal_sound place key.R ORDINARY d (checks 0), decimal_sound place key.X ORDINARY d (checks 1), zeros_sound place key.X (Some (decimal_value key.R d)) (Some (decimal_value key.X d)) (checks 2))

zero_sound : (place : Place) (required : Bool) (d : Data) → zero_sequence_fault place required d ≡ None
    → IsZeroSequence (option_value key.R0 d) (option_value key.X0 d) × (required ≡ true → is_some (option_value key.R0 d) ≡ true)
unfolding zero_sequence_fault
zero_sound place required d e =
    let checks = no_fault (optional_fault place key.R0 (required || has key.X0 d) ORDINARY d ∷ optional_fault place key.X0 (required || has key.R0 d) ORDINARY d ∷ both_zero_fault place key.X0 (option_value key.R0 d) (option_value key.X0 d) ∷ []) e in
    let r0 = optional_sound place key.R0 (required || has key.X0 d) ORDINARY d (checks 0) in
    let x0 = optional_sound place key.X0 (required || has key.R0 d) ORDINARY d (checks 1) in (
      zero_rule (option_value key.R0 d) (option_value key.X0 d) (has key.R0 d) (has key.X0 d) required r0.0 x0.0 (given_has key.R0 d) (given_has key.X0 d) r0.1 x0.1
          (zeros_sound place key.X0 (option_value key.R0 d) (option_value key.X0 d) (checks 2)),
      λ needed. r0.1 (ap (λ (b : Bool). b || has key.X0 d) needed),
    )

skin_sound : (place : Place) (d : Data) → skin_fault place d ≡ None → IsIn SKIN_K (decimal_or (pos 0) key.SkinK d) × IsIn SKIN_M (decimal_or (pos 1000000) key.SkinM d)
unfolding skin_fault
skin_sound place d e =
    let checks = no_fault (default_fault place key.SkinK SKIN_K d ∷ default_fault place key.SkinM SKIN_M d ∷ []) e in
    (default_sound place key.SkinK SKIN_K (pos 0) d (checks 0) (omega (arith, ints), omega (arith, ints)), default_sound place key.SkinM SKIN_M (pos 1000000) d (checks 1) (omega (arith, ints), omega (arith, ints)))

wiring_sound : (model : StudyModel) (place : Place) (d : Data) → wiring_fault model place d ≡ None → IsElementPhase model (word_value phase_of key.Phase d)
unfolding wiring_fault
wiring_sound model place d e =
    let checks = no_fault (flag_fault place key.Grounded d ∷ stray_fault place key.Phase (in_phases model) d ∷ word_fault place key.Phase false phase_of d ∷ []) e in
    let word = word_sound place key.Phase false phase_of d (checks 2) in
    phase_rule model (word_value phase_of key.Phase d) (λ alone. word.0 ∙ stray_sound place key.Phase (in_phases model) d (checks 1) alone)

-- ---- a bus and a source
pub bus_lawful : (context : Context) (earlier : List (List ℕ)) (place : Place) (d : Data) → bus_entry_fault context earlier place d ≡ None
    → IsLawfulBus (bus_entry context d) × IsFresh earlier (name_value d)
unfolding bus_entry_fault bus_entry
bus_lawful context earlier place d e =
    let checks = no_fault (keys_fault place place bus_keys d ∷ name_fault place earlier d ∷ decimal_fault place key.Kv BUS_KV d ∷ []) e in
    let named = name_sound place earlier d (checks 1) in
    (record { name = named.0; kv = decimal_sound place key.Kv BUS_KV d (checks 2) }, named.1)

pub source_lawful : (context : Context) (earlier : List (List ℕ)) (place : Place) (d : Data) → source_entry_fault context earlier place d ≡ None
    → IsLawfulSource context.buses (source_entry context d) × IsFresh earlier (name_value d)
unfolding source_entry_fault source_entry
source_lawful context earlier place d e =
    let checks = no_fault (keys_fault place place source_keys d ∷ name_fault place earlier d ∷ bus_fault place key.Bus context.buses d ∷ impedance_fault place d ∷ zero_sequence_fault place false d ∷ skin_fault place d ∷ []) e in
    let named = name_sound place earlier d (checks 1) in
    let z = impedance_sound place d (checks 3) in
    let s = skin_sound place d (checks 5) in (
      record {
        name = named.0;
        bus = bus_sound place key.Bus context.buses d (checks 2);
        r = z.0;
        x = (z.1, z.2);
        r0_x0 = (zero_sound place false d (checks 4)).0;
        skin_k = s.0;
        skin_m = s.1;
      },
      named.1,
    )

-- ---- a line
other_end : (from to : ℕ) → not (nat_eq from to) ≡ true → from ≢ to
other_end from to e = λ same. absurd (grind (arith, nat_tests))

line_ends_sound : (context : Context) (place : Place) (from to : ℕ) → IsBus context.buses from → IsBus context.buses to → line_ends_fault place context.buses from to ≡ None
    → (from ≢ to) × HaveEqualKv context.buses from to
unfolding line_ends_fault
line_ends_sound context place from to hf ht e =
    let both = and_parts (not (nat_eq from to)) (int_eq (kv_of context.buses from) (kv_of context.buses to)) (passed _ (OutOfRange (record { section = place.section; entry = place.entry; key = key.To })) e) in
    (other_end from to both.0, voltage_rule context.buses from to hf ht ((Decides-int_eq (kv_of context.buses from) (kv_of context.buses to)).0 both.1))

at_most_sound : (place : Place) (k : Key) (value most : ℤ) → at_most_fault place k value most ≡ None → value ≤ℤ most
unfolding at_most_fault
at_most_sound place k value most e = at_most_of value most (passed (int_le value most) (OutOfRange (record { section = place.section; entry = place.entry; key = k })) e)

any_given : (model : StudyModel) (d : Data)
    → (in_phases model && (is_some (option_value key.Xab d) || is_some (option_value key.Xbc d) || is_some (option_value key.Xca d))) ≡ (in_phases model && has_mutual d)
any_given model d = rw (given_has key.Xab d, given_has key.Xbc d, given_has key.Xca d) refl

mutual_sound : (model : StudyModel) (place : Place) (d : Data) → mutual_fault model place d ≡ None
    → AreMutual model (option_value key.Xab d) (option_value key.Xbc d) (option_value key.Xca d)
unfolding mutual_fault
mutual_sound model place d e =
    let checks = no_fault (stray_fault place key.Xab (in_phases model) d ∷ optional_fault place key.Xab (in_phases model && has_mutual d) ORDINARY d ∷ stray_fault place key.Xbc (in_phases model) d ∷ optional_fault place key.Xbc (in_phases model && has_mutual d) ORDINARY d ∷ stray_fault place key.Xca (in_phases model) d ∷ optional_fault place key.Xca (in_phases model && has_mutual d) ORDINARY d ∷ []) e in
    let needed = in_phases model && has_mutual d in
    let ab = optional_sound place key.Xab needed ORDINARY d (checks 1) in
    let bc = optional_sound place key.Xbc needed ORDINARY d (checks 3) in
    let ca = optional_sound place key.Xca needed ORDINARY d (checks 5) in
    let any = any_given model d in
    mutual_rule model (option_value key.Xab d) (option_value key.Xbc d) (option_value key.Xca d) ab.0 bc.0 ca.0
    (λ alone. given_has key.Xab d ∙ stray_sound place key.Xab (in_phases model) d (checks 0) alone)
    (λ alone. given_has key.Xbc d ∙ stray_sound place key.Xbc (in_phases model) d (checks 2) alone)
    (λ alone. given_has key.Xca d ∙ stray_sound place key.Xca (in_phases model) d (checks 4) alone)
    (λ some. let all = sym any ∙ some in (ab.1 all, bc.1 all, ca.1 all))

pub line_lawful : (context : Context) (earlier : List (List ℕ)) (place : Place) (d : Data) → line_entry_fault context earlier place d ≡ None
    → IsLawfulLine context.model context.buses (line_entry context d) × IsFresh earlier (name_value d)
unfolding line_entry_fault line_front_fault line_entry
line_lawful context earlier place d e =
    let checks = no_fault (line_front_fault context earlier place d ∷ impedance_fault place d ∷ default_fault place key.B ORDINARY d ∷ zero_sequence_fault place (in_phases context.model) d ∷ default_fault place key.B0 ORDINARY d ∷ at_most_fault place key.B0 (decimal_or (pos 0) key.B0 d) (decimal_or (pos 0) key.B d) ∷ sections_fault place d ∷ mutual_fault context.model place d ∷ skin_fault place d ∷ []) e in
    let of_front = no_fault (keys_fault place place line_keys d ∷ name_fault place earlier d ∷ bus_fault place key.From context.buses d ∷ bus_fault place key.To context.buses d ∷ line_ends_fault place context.buses (bus_value key.From context.buses d) (bus_value key.To context.buses d) ∷ []) (checks 0) in
    let named = name_sound place earlier d (of_front 1) in
    let from_bus = bus_sound place key.From context.buses d (of_front 2) in
    let to_bus = bus_sound place key.To context.buses d (of_front 3) in
    let two = line_ends_sound context place (bus_value key.From context.buses d) (bus_value key.To context.buses d) from_bus to_bus (of_front 4) in
    let z = impedance_sound place d (checks 1) in
    let r0 = zero_sound place (in_phases context.model) d (checks 3) in
    let s = skin_sound place d (checks 8) in (
      record {
        name = named.0;
        from = from_bus;
        to = (to_bus, two.0, two.1);
        r = z.0;
        x = (z.1, z.2);
        b = default_sound place key.B ORDINARY (pos 0) d (checks 2) (omega (arith, ints), omega (arith, ints));
        r0_x0 = (r0.0, has_zero_rule context.model (option_value key.R0 d) r0.1);
        b0 = (default_sound place key.B0 ORDINARY (pos 0) d (checks 4) (omega (arith, ints), omega (arith, ints)), at_most_sound place key.B0 (decimal_or (pos 0) key.B0 d) (decimal_or (pos 0) key.B d) (checks 5));
        sections = sections_sound place d (checks 6);
        xab_xbc_xca = mutual_sound context.model place d (checks 7);
        skin_k = s.0;
        skin_m = s.1;
      },
      named.1,
    )

-- ---- a transformer
ends_sound : (place : Place) (from to : ℕ) → ends_fault place from to ≡ None → from ≢ to
unfolding ends_fault
ends_sound place from to e = other_end from to (passed (not (nat_eq from to)) (OutOfRange (record { section = place.section; entry = place.entry; key = key.To })) e)

neutral_sound : (place : Place) (rn xn : Key) (connection : Connection) (d : Data) → neutral_fault place rn xn (is_grounded connection) d ≡ None
    → IsNeutral connection (decimal_or (pos 0) rn d) (decimal_or (pos 0) xn d)
unfolding neutral_fault
neutral_sound place rn xn connection d e =
    let checks = no_fault (stray_fault place rn (is_grounded connection) d ∷ default_fault place rn ORDINARY d ∷ stray_fault place xn (is_grounded connection) d ∷ default_fault place xn ORDINARY d ∷ []) e in
    neutral_rule connection (decimal_or (pos 0) rn d) (decimal_or (pos 0) xn d)
    (default_sound place rn ORDINARY (pos 0) d (checks 1) (omega (arith, ints), omega (arith, ints))) (default_sound place xn ORDINARY (pos 0) d (checks 3) (omega (arith, ints), omega (arith, ints)))
    (λ alone. (absent_default rn (pos 0) d (stray_sound place rn (is_grounded connection) d (checks 0) alone), absent_default xn (pos 0) d (stray_sound place xn (is_grounded connection) d (checks 2) alone)))

pub transformer_lawful : (context : Context) (earlier : List (List ℕ)) (place : Place) (d : Data) → transformer_entry_fault context earlier place d ≡ None
    → IsLawfulTransformer context.buses (transformer_entry context d) × IsFresh earlier (name_value d)
unfolding transformer_entry_fault transformer_front_fault rating_fault transformer_entry
transformer_lawful context earlier place d e =
    let checks = no_fault (transformer_front_fault context earlier place d ∷ rating_fault place d ∷ word_fault place key.FromConn false connection_of d ∷ word_fault place key.ToConn false connection_of d ∷ neutral_fault place key.FromRn key.FromXn (is_grounded (connection_at key.FromConn d)) d ∷ neutral_fault place key.ToRn key.ToXn (is_grounded (connection_at key.ToConn d)) d ∷ skin_fault place d ∷ []) e in
    let of_front = no_fault (keys_fault place place transformer_keys d ∷ name_fault place earlier d ∷ bus_fault place key.From context.buses d ∷ bus_fault place key.To context.buses d ∷ ends_fault place (bus_value key.From context.buses d) (bus_value key.To context.buses d) ∷ []) (checks 0) in
    let of_rating = no_fault (decimal_fault place key.Mva BASE_MVA d ∷ decimal_fault place key.R RESISTANCE_PERCENT d ∷ decimal_fault place key.X REACTANCE_PERCENT d ∷ default_fault place key.Ratio RATIO d ∷ []) (checks 1) in
    let named = name_sound place earlier d (of_front 1) in
    let s = skin_sound place d (checks 6) in (
      record {
        name = named.0;
        from = bus_sound place key.From context.buses d (of_front 2);
        to = (bus_sound place key.To context.buses d (of_front 3), ends_sound place (bus_value key.From context.buses d) (bus_value key.To context.buses d) (of_front 4));
        mva = decimal_sound place key.Mva BASE_MVA d (of_rating 0);
        r = decimal_sound place key.R RESISTANCE_PERCENT d (of_rating 1);
        x = decimal_sound place key.X REACTANCE_PERCENT d (of_rating 2);
        ratio = default_sound place key.Ratio RATIO (pos 1000000) d (of_rating 3) (omega (arith, ints), omega (arith, ints));
        from_rn_from_xn = neutral_sound place key.FromRn key.FromXn (connection_at key.FromConn d) d (checks 4);
        to_rn_to_xn = neutral_sound place key.ToRn key.ToXn (connection_at key.ToConn d) d (checks 5);
        skin_k = s.0;
        skin_m = s.1;
      },
      named.1,
    )

-- ---- a load, a bank and a filter
is_there : (belongs : Bool) (o : Option ℤ) → (belongs ≡ true → is_some o ≡ true) → (belongs ≡ false → is_some o ≡ false) → is_some o ≡ belongs
is_there true o given lacking = given refl
is_there false o given lacking = lacking refl

part_sound : (place : Place) (k : Key) (belongs : Bool) (range : Range) (d : Data) → part_fault place k belongs range d ≡ None
    → (is_some (option_value k d) ≡ belongs) × IfSome (option_value k d) (IsIn range)
unfolding part_fault
part_sound place k belongs range d e =
    let checks = no_fault (stray_fault place k belongs d ∷ optional_fault place k belongs range d ∷ []) e in
    let o = optional_sound place k belongs range d (checks 1) in
    (is_there belongs (option_value k d) o.1 (λ alone. given_has k d ∙ stray_sound place k belongs d (checks 0) alone), o.0)

pub load_lawful : (context : Context) (earlier : List (List ℕ)) (place : Place) (d : Data) → load_entry_fault context earlier place d ≡ None
    → IsLawfulLoad context.model context.buses (load_entry context d) × IsFresh earlier (name_value d)
unfolding load_entry_fault parts_fault load_entry
load_lawful context earlier place d e =
    let checks = no_fault (keys_fault place place load_keys d ∷ name_fault place earlier d ∷ bus_fault place key.Bus context.buses d ∷ word_fault place key.Model true load_model_of d ∷ parts_fault place key.P key.Q (not (is_series (model_in d))) (power_range (model_in d)) d ∷ parts_fault place key.R key.X (is_series (model_in d)) ORDINARY d ∷ wiring_fault context.model place d ∷ []) e in
    let of_power = no_fault (part_fault place key.P (not (is_series (model_in d))) (power_range (model_in d)) d ∷ part_fault place key.Q (not (is_series (model_in d))) ORDINARY d ∷ both_zero_fault place key.Q (option_value key.P d) (option_value key.Q d) ∷ []) (checks 4) in
    let of_ohms = no_fault (part_fault place key.R (is_series (model_in d)) ORDINARY d ∷ part_fault place key.X (is_series (model_in d)) ORDINARY d ∷ both_zero_fault place key.X (option_value key.R d) (option_value key.X d) ∷ []) (checks 5) in
    let named = name_sound place earlier d (checks 1) in
    let series = is_series (model_in d) in
    let has_p = part_sound place key.P (not series) (power_range (model_in d)) d (of_power 0) in
    let has_q = part_sound place key.Q (not series) ORDINARY d (of_power 1) in
    let has_r = part_sound place key.R series ORDINARY d (of_ohms 0) in
    let has_x = part_sound place key.X series ORDINARY d (of_ohms 1) in (
      record {
        name = named.0;
        bus = bus_sound place key.Bus context.buses d (checks 2);
        p_q = power_rule (model_in d) (option_value key.P d) (option_value key.Q d) has_p.0 has_q.0 has_p.1 has_q.1 (zeros_sound place key.Q (option_value key.P d) (option_value key.Q d) (of_power 2));
        r_x = ohms_rule (model_in d) (option_value key.R d) (option_value key.X d) has_r.0 has_x.0 has_r.1 has_x.1 (zeros_sound place key.X (option_value key.R d) (option_value key.X d) (of_ohms 2));
        phase = wiring_sound context.model place d (checks 6);
      },
      named.1,
    )

pub bank_lawful : (context : Context) (earlier : List (List ℕ)) (place : Place) (d : Data) → bank_entry_fault context earlier place d ≡ None
    → IsLawfulBank context.model context.buses (bank_entry context d) × IsFresh earlier (name_value d)
unfolding bank_entry_fault bank_entry
bank_lawful context earlier place d e =
    let checks = no_fault (keys_fault place place bank_keys d ∷ name_fault place earlier d ∷ bus_fault place key.Bus context.buses d ∷ decimal_fault place key.Q ABOVE_ZERO d ∷ wiring_fault context.model place d ∷ []) e in
    let named = name_sound place earlier d (checks 1) in (
      record {
        name = named.0;
        bus = bus_sound place key.Bus context.buses d (checks 2);
        q = decimal_sound place key.Q ABOVE_ZERO d (checks 3);
        phase = wiring_sound context.model place d (checks 4);
      },
      named.1,
    )

pub filter_lawful : (context : Context) (earlier : List (List ℕ)) (place : Place) (d : Data) → filter_entry_fault context earlier place d ≡ None
    → IsLawfulFilter context.model context.buses (filter_entry context d) × IsFresh earlier (name_value d)
unfolding filter_entry_fault filter_entry
filter_lawful context earlier place d e =
    let checks = no_fault (keys_fault place place filter_keys d ∷ name_fault place earlier d ∷ bus_fault place key.Bus context.buses d ∷ word_fault place key.Kind true filter_kind_of d ∷ decimal_fault place key.Q ABOVE_ZERO d ∷ decimal_fault place key.Order TUNED_ORDER d ∷ decimal_fault place key.Quality QUALITY d ∷ wiring_fault context.model place d ∷ []) e in
    let named = name_sound place earlier d (checks 1) in (
      record {
        name = named.0;
        bus = bus_sound place key.Bus context.buses d (checks 2);
        q = decimal_sound place key.Q ABOVE_ZERO d (checks 4);
        order = decimal_sound place key.Order TUNED_ORDER d (checks 5);
        quality = decimal_sound place key.Quality QUALITY d (checks 6);
        phase = wiring_sound context.model place d (checks 7);
      },
      named.1,
    )

-- ---- a scan and a point
scanned_sound : (model : StudyModel) (place : Place) (d : Data) → scanned_fault model place d ≡ None
    → IsScanned model (unwrap_or (word_value sequence_of key.Network d) sequence.Positive) (word_value phase_of key.Phase d)
unfolding scanned_fault
scanned_sound model place d e =
    let checks = no_fault (stray_fault place key.Network (not (in_phases model)) d ∷ word_fault place key.Network false sequence_of d ∷ stray_fault place key.Phase (in_phases model) d ∷ word_fault place key.Phase (in_phases model) phase_of d ∷ []) e in
    let n = word_sound place key.Network false sequence_of d (checks 1) in
    let p = word_sound place key.Phase (in_phases model) phase_of d (checks 3) in
    scanned_rule model (word_value sequence_of key.Network d) (word_value phase_of key.Phase d)
    (λ alone. n.0 ∙ stray_sound place key.Network (not (in_phases model)) d (checks 0) alone)
    (λ alone. p.0 ∙ stray_sound place key.Phase (in_phases model) d (checks 2) alone) p.1

upwards_sound : (place : Place) (from to : ℤ) → upwards_fault place from to ≡ None → from <ℤ to
unfolding upwards_fault
upwards_sound place from to e = below_of from to (passed (int_lt from to) (BadBand (record { section = place.section; entry = place.entry; key = key.To })) e)

widths_sound : (place : Place) (from to finest : ℤ) → widths_fault place from to finest ≡ None → (to -ℤ from) ≤ℤ (pos MAX_WIDTHS *ℤ finest)
unfolding widths_fault
widths_sound place from to finest e =
    at_most_of (to -ℤ from) (pos MAX_WIDTHS *ℤ finest) (passed (int_le (to -ℤ from) (pos MAX_WIDTHS *ℤ finest)) (TooFine (record { section = place.section; entry = place.entry; key = key.Finest })) e)

locate_sound : (place : Place) (finest locate : ℤ) → locate_fault place finest locate ≡ None → finest ≤ℤ locate
unfolding locate_fault
locate_sound place finest locate e = at_most_of finest locate (passed (int_le finest locate) (BadBand (record { section = place.section; entry = place.entry; key = key.Locate })) e)

-- a finest width is a width of located peaks too
as_located : (d : ℤ) → IsIn FINEST d → IsIn LOCATE d
as_located d h = let low = h.0 in let high = h.1 in (omega (arith, ints, low), high)

pub scan_lawful : (context : Context) → (context.version ≡ 1) ⊎ (context.version ≡ 2) → (earlier : List (List ℕ)) (place : Place) (d : Data) → scan_entry_fault context earlier place d ≡ None
    → IsLawfulScan context.version context.model context.buses (scan_entry context d) × IsFresh earlier (name_value d)
unfolding scan_entry_fault band_fault scan_entry
scan_lawful context versioned earlier place d e =
    let from = decimal_value key.From d in
    let to = decimal_value key.To d in
    let checks = no_fault (scan_keys_fault context.version place d ∷ reserved_fault place (codes "limits") d ∷ name_fault place earlier d ∷ bus_fault place key.Bus context.buses d ∷ scanned_fault context.model place d ∷ band_fault context.version place d ∷ []) e in
    let of_band = no_fault (decimal_fault place key.From BAND d ∷ decimal_fault place key.To BAND d ∷ upwards_fault place (decimal_value key.From d) (decimal_value key.To d) ∷ limit_fault context.version place from to d ∷ decimal_fault place key.Finest FINEST d ∷ widths_fault place (decimal_value key.From d) (decimal_value key.To d) (decimal_value key.Finest d) ∷ default_fault place key.Locate LOCATE d ∷ locate_fault place (decimal_value key.Finest d) (decimal_or (decimal_value key.Finest d) key.Locate d) ∷ []) (checks 5) in
    let named = name_sound place earlier d (checks 2) in
    let begins = decimal_sound place key.From BAND d (of_band 0) in
    let ends = decimal_sound place key.To BAND d (of_band 1) in
    let limited = limit_sound context.version place from to d versioned begins ends (of_band 3) in
    let width = decimal_sound place key.Finest FINEST d (of_band 4) in (
      record {
        name = (named.0, reserved_sound place (codes "limits") d named.0 (checks 1));
        bus = bus_sound place key.Bus context.buses d (checks 3);
        network_phase = scanned_sound context.model place d (checks 4);
        from = begins;
        to = (ends, upwards_sound place (decimal_value key.From d) (decimal_value key.To d) (of_band 2));
        threshold = limited.threshold;
        curve = limited.curve;
        finest = (width, widths_sound place (decimal_value key.From d) (decimal_value key.To d) (decimal_value key.Finest d) (of_band 5));
        locate = (default_sound place key.Locate LOCATE (decimal_value key.Finest d) d (of_band 6) (as_located (decimal_value key.Finest d) width), locate_sound place (decimal_value key.Finest d) (decimal_or (decimal_value key.Finest d) key.Locate d) (of_band 7));
      },
      named.1,
    )

pub point_lawful : (context : Context) (earlier : List (List ℕ)) (place : Place) (d : Data) → point_entry_fault context earlier place d ≡ None
    → IsLawfulPoint context (point_entry context d) × IsFresh earlier (name_value d)
unfolding point_entry_fault point_entry
point_lawful context earlier place d e =
    let checks = no_fault (keys_fault place place point_keys d ∷ name_fault place earlier d ∷ bus_fault place key.Bus context.buses d ∷ element_fault place context.elements (bus_value key.Bus context.buses d) d ∷ decimal_fault place key.Isc AMPERES d ∷ decimal_fault place key.Il AMPERES d ∷ []) e in
    let named = name_sound place earlier d (checks 1) in (
      record {
        name = named.0;
        bus = bus_sound place key.Bus context.buses d (checks 2);
        element = element_sound place context.elements (bus_value key.Bus context.buses d) d (checks 3);
        isc = decimal_sound place key.Isc AMPERES d (checks 4);
        il = decimal_sound place key.Il AMPERES d (checks 5);
      },
      named.1,
    )
