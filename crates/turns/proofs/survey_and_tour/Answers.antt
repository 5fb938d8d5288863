use Rattle.std.proofs.Common.{refl}
use Rattle.layout.proofs.Laws.Laid.{fit_lower, fit_flat}
use Rattle.turns.proofs.survey_and_tour.Goals as goal

pub survey-found-requires-clause-lower : goal.survey-found-requires-clause-lower
survey-found-requires-clause-lower g c = fit_lower c.args.t c.requires

pub survey-found-requires-clause-flat : goal.survey-found-requires-clause-flat
survey-found-requires-clause-flat g c = fit_flat c.args.t c.requires

pub tour-requires : goal.tour-requires
tour-requires g c = record { fit = c.requires; rows = (c.survey-found.ensures _ _ _).2; scratch = refl }
