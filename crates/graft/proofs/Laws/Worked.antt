-- The worked joins, by computation. Assumes nothing.
use Rattle.std.specs.Prelude.{refl}
use Rattle.plan.specs.Lists as lists
use Rattle.plan.specs.Kinds as kinds
use Rattle.plan.specs.Plan as plan
use Rattle.plan.specs.Questions as asked
use Rattle.graft.specs.Joined.{raised, hung, hung_behind, cell_under, joined}
use Rattle.graft.specs.Sequence.{join_sequence, table_asked, join_given, ask_one, ask_all, join_refusal}
use Rattle.graft.specs.Worked.{cell, pond, rinse, bare_run, no, Rows}

pub worked : Rows
unfolding cell pond rinse bare_run no raised hung hung_behind cell_under joined join_sequence table_asked join_given ask_one ask_all join_refusal asked.take_step asked.ask_all asked.ask asked.at_each asked.holds asked.number asked.roomy asked.all_roomy asked.in_file asked.in_table asked.lower asked.sized asked.widest_in asked.asked asked.or_else kinds.about kinds.known kinds.allows lists.from lists.keep lists.insert lists.sort lists.some lists.mem lists.total plan.blank plan.parent plan.kind plan.box_width plan.box_depth plan.rank plan.filed plan.children plan.climb plan.path plan.level plan.row
worked = record { fine = refl; table = refl; last = refl; middle = refl; front = refl; short = refl; step = refl; nowhere = refl; second = refl; joint = refl; empty = refl }
