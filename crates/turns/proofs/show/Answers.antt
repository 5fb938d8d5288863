use Rattle.std.proofs.Common.{◌*◌}
use Rattle.plan.specs.Columns.{table_of}
use Rattle.plan.specs.Limits.{scratch_size, most_cells}
use Rattle.plan.proofs.Laws.Answered.{passes}
use Rattle.least.proofs.Asked.{layout-asks}
use Rattle.layout.proofs.Laws.Laid.{nothing}
use Rattle.turns.proofs.show.Goals as goal

pub survey_and_tour-requires : goal.survey_and_tour-requires
survey_and_tour-requires g c =
    let a = c.args in
    ((layout-asks (table_of a.t) a.allowance scratch_size (2 * most_cells)).0 (nothing (table_of a.t) a.allowance scratch_size (2 * most_cells) (passes _ _ c.in-Ok.ensures))).table.fit
