-- The worked pair of specs/Pair.antt computes. Assumes nothing.
use Rattle.std.specs.Prelude.{refl}
use Rattle.plan.specs.Lists as lists
use Rattle.plan.specs.Plan as plan
use Rattle.least.specs.Alike.{Alike, Twins}
use Rattle.least.specs.Worked.{ranked}
use Rattle.least.specs.Pair.{plain, hung, Rows}

pub rows : Rows
unfolding plain hung ranked lists.from lists.keep lists.insert lists.sort lists.some lists.mem plan.blank plan.parent plan.kind plan.box_width plan.box_depth plan.rank plan.filed plan.children
rows =
    record {
      alike = Alike.cons (record { kinds = refl; widths = refl; depths = refl })
          (Alike.cons (record { kinds = refl; widths = refl; depths = refl }) (Alike.cons (record { kinds = refl; widths = refl; depths = refl }) Alike.nil Alike.nil)
          (Alike.cons (record { kinds = refl; widths = refl; depths = refl }) Alike.nil Alike.nil)) Alike.nil;
      ranks = (refl, refl);
      run = Twins.under Twins.here;
      below_run = Twins.under (Twins.under Twins.here);
      step = Twins.under (Twins.later Twins.here);
    }
