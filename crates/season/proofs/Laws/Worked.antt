-- The worked rows, computed. Assumes nothing.
use Rattle.std.specs.Prelude.{refl}
use Rattle.plan.specs.Questions.{asked, or_else, answered}
use Rattle.season.specs.Report.{summed, narrowest, widest, quotient, remainder, report, nothing}
use Rattle.season.specs.Pool.{narrower, pooled, empty, sound, sequence, number, holds, first_no, pool_refusal, pool, adds, gathered, Files}
use Rattle.season.specs.Worked.{Rows}

pub worked : Rows
unfolding summed narrowest widest quotient remainder report nothing narrower pooled empty sound sequence number holds first_no pool_refusal pool adds gathered asked or_else answered
worked =
    record {
      three = refl;
      two_and_one = refl;
      most = refl;
      cells_past = refl;
      widths_past = refl;
      areas_past = refl;
      plans_past = refl;
      no_cells = refl;
      no_widths = refl;
      no_areas = refl;
      no_least = refl;
      no_greatest = refl;
      no_mean = refl;
      no_rest = refl;
      no_figure = refl;
      halves = refl;
      one_more = refl;
      both = refl;
      in_turn = refl;
      files = Files.plan (Files.refused (Files.plan Files.no_file));
    }
