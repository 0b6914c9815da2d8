-- The sequence networks of a study that is accepted are within the limits, in either model.
use Rattle.sequence_network.specs.Refusals.{HaveRoom}
use Rattle.study_model.specs.declared.records.Study.{Study}
use Rattle.study_model.specs.declared.words.StudyModel.{StudyModel}
use Rattle.study_model.specs.declared.words.StudyModel.TheVariants as study_model
use Rattle.study_networks.specs.Networks.{HasLiveIn, HasLive}

room_in : (model : StudyModel) (study : Study) → HasLiveIn model study → HaveRoom study
room_in study_model.Sequence study live = live.room
room_in study_model.Phases study live = live.room.sequences

pub have_room : (study : Study) → HasLive study → HaveRoom study
unfolding HasLive
have_room study live = room_in study.model study live
