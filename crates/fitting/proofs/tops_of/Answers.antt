use Rattle.layout.proofs.Laws.Laid.{fit_lower, fit_flat}
use Rattle.fitting.proofs.tops_of.Goals as goal

pub survey-requires : goal.survey-requires
survey-requires c = record { lower = fit_lower c.args.t.now c.requires; flat = fit_flat c.args.t.now c.requires }

pub returns : goal.returns
returns c = (c.survey.ensures _ _ _).2
