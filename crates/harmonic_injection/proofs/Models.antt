-- What a model asks of the currents of a spectrum.
use Rattle.std.proofs.Common.{◌≡◌, List, All, sym, subst}
use Rattle.sequence_network.specs.Refusals.{HasLiveNetworks}
use Rattle.study_model.specs.declared.records.Study.{Study}
use Rattle.study_model.specs.declared.words.StudyModel.{StudyModel}
use Rattle.study_model.specs.declared.words.StudyModel.TheVariants as study_model
use Rattle.study_networks.specs.Networks.{HasLiveIn, HasLive}
use Rattle.spectrum_reader.specs.declared.injection.Injection.{Injection}
use Rattle.harmonic_injection.specs.Paths.{HasPath, HavePathsIn, HavePaths}

pub live_in_sequences : (study : Study) → study.model ≡ study_model.Sequence → HasLive study → HasLiveNetworks study
unfolding HasLive
live_in_sequences study m h = subst (λ (k : StudyModel). HasLiveIn k study) m h

pub have_paths : (study : Study) (rows : List Injection) → study.model ≡ study_model.Sequence → All (HasPath study) rows → HavePaths study rows
unfolding HavePaths
have_paths study rows m h = subst (λ (k : StudyModel). HavePathsIn k study rows) (sym m) h

pub in_phases : (study : Study) (rows : List Injection) → study.model ≡ study_model.Phases → HavePaths study rows
unfolding HavePaths
in_phases study rows m = subst (λ (k : StudyModel). HavePathsIn k study rows) (sym m) tt

-- the paths that the sequence model asks for
pub paths_of : (study : Study) (rows : List Injection) → study.model ≡ study_model.Sequence → HavePaths study rows → All (HasPath study) rows
unfolding HavePaths
paths_of study rows m h = subst (λ (k : StudyModel). HavePathsIn k study rows) m h
