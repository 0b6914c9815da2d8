-- The words of the keys whose value is a word.
use Rattle.std.specs.Prelude.{ℕ, List, [], ◌∷◌, codes, Option}
use Rattle.std.specs.List.{find}
use Rattle.std.specs.Str.{bytes_eq}
use Rattle.study_model.specs.declared.words.StudyModel.{StudyModel}
use Rattle.study_model.specs.declared.words.StudyModel.TheVariants as study_model
use Rattle.study_model.specs.declared.words.Method.{Method}
use Rattle.study_model.specs.declared.words.Method.TheVariants as method
use Rattle.study_model.specs.declared.words.Sequence.{Sequence}
use Rattle.study_model.specs.declared.words.Sequence.TheVariants as sequence
use Rattle.study_model.specs.declared.words.Phase.{Phase}
use Rattle.study_model.specs.declared.words.Phase.TheVariants as phase
use Rattle.study_model.specs.declared.words.Connection.{Connection}
use Rattle.study_model.specs.declared.words.Connection.TheVariants as connection
use Rattle.study_model.specs.declared.words.LoadModel.{LoadModel}
use Rattle.study_model.specs.declared.words.LoadModel.TheVariants as load_model
use Rattle.study_model.specs.declared.words.FilterKind.{FilterKind}
use Rattle.study_model.specs.declared.words.FilterKind.TheVariants as filter_kind

-- the value, among these, whose word the text is
abbrev pub named : {A : Type 0} → (A → List ℕ) → List A → List ℕ → Option A
named word values text = find (λ value. bytes_eq (word value) text) values

-- the word of each model of a study
abbrev pub study_model_text : StudyModel → List ℕ
study_model_text study_model.Sequence = codes "sequence"
study_model_text study_model.Phases = codes "phases"

-- the model of a study whose word a text is
abbrev pub study_model_of : List ℕ → Option StudyModel
study_model_of text = named study_model_text (study_model.Sequence ∷ study_model.Phases ∷ []) text

-- the word of each method
abbrev pub method_text : Method → List ℕ
method_text method.Elimination = codes "elimination"
method_text method.Both = codes "both"
method_text method.Branchwise = codes "branchwise"

-- the method whose word a text is
abbrev pub method_of : List ℕ → Option Method
method_of text = named method_text (method.Elimination ∷ method.Both ∷ method.Branchwise ∷ []) text

-- the word of each sequence network
abbrev pub sequence_text : Sequence → List ℕ
sequence_text sequence.Positive = codes "positive"
sequence_text sequence.Zero = codes "zero"

-- the sequence network whose word a text is
abbrev pub sequence_of : List ℕ → Option Sequence
sequence_of text = named sequence_text (sequence.Positive ∷ sequence.Zero ∷ []) text

-- the word of each phase
abbrev pub phase_text : Phase → List ℕ
phase_text phase.A = codes "a"
phase_text phase.B = codes "b"
phase_text phase.C = codes "c"

-- the phase whose word a text is
abbrev pub phase_of : List ℕ → Option Phase
phase_of text = named phase_text (phase.A ∷ phase.B ∷ phase.C ∷ []) text

-- the word of each connection
abbrev pub connection_text : Connection → List ℕ
connection_text connection.Grounded = codes "grounded"
connection_text connection.Star = codes "star"
connection_text connection.Delta = codes "delta"

-- the connection whose word a text is
abbrev pub connection_of : List ℕ → Option Connection
connection_of text = named connection_text (connection.Grounded ∷ connection.Star ∷ connection.Delta ∷ []) text

-- the word of each model of a load
abbrev pub load_model_text : LoadModel → List ℕ
load_model_text load_model.Cigre = codes "cigre"
load_model_text load_model.Parallel = codes "parallel"
load_model_text load_model.Series = codes "series"

-- the model of a load whose word a text is
abbrev pub load_model_of : List ℕ → Option LoadModel
load_model_of text = named load_model_text (load_model.Cigre ∷ load_model.Parallel ∷ load_model.Series ∷ []) text

-- the word of each kind of filter
abbrev pub filter_kind_text : FilterKind → List ℕ
filter_kind_text filter_kind.Single = codes "single"
filter_kind_text filter_kind.HighPass = codes "highpass"
filter_kind_text filter_kind.CType = codes "ctype"

-- the kind of filter whose word a text is
abbrev pub filter_kind_of : List ℕ → Option FilterKind
filter_kind_of text = named filter_kind_text (filter_kind.Single ∷ filter_kind.HighPass ∷ filter_kind.CType ∷ []) text
